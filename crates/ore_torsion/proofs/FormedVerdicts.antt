-- The certificates of both verdicts, as the code makes them, beside those of the plan.
--     same_formed           a certificate is another one
--     memory_formed         there was no memory
--     controllable_is       the certificate that there is no torsion
--     element_is            that of an autonomous element
use Rattle.std.proofs.Common.{◌≡◌, ℕ, List, [], length, sym, ap, ◌∙◌, subst}
use Rattle.std.specs.List.{All}
use Rattle.std.specs.declared.result.Result.{Result}
use Rattle.std.specs.declared.result.Result.TheVariants.{Err}
use Rattle.ore_rational.specs.Field.{rationals}
use Rattle.ore_monomial.specs.LetterRule.{Operator}
use Rattle.ore_monomial.specs.Signature.{Signature}
use Rattle.ore_monomial.specs.declared.stop.RingStop.{RingStop}
use Rattle.ore_monomial.specs.declared.stop.RingStop.TheVariants as stop
use Rattle.ore_ring.specs.Belongs.{Belongs}
use Rattle.ore_ring.specs.Ordered.{Ordered}
use Rattle.ore_rows.specs.ReduceRows.{negated}
use Rattle.ore_rows.specs.Rows.{Row}
use Rattle.ore_rows.specs.Stored.{OperatorMatrix, sums_of, rows_of}
use Rattle.ore_parts.specs.declared.block.ExactBlock.{ExactBlock}
use Rattle.ore_parts.specs.declared.block.OutsideBlock.{OutsideBlock}
use Rattle.ore_cert.specs.declared.certificate.Certificate.{Certificate}
use Rattle.ore_cert.specs.declared.certificate.Certificate.TheVariants.{Controllable, AutonomousElement}
use Rattle.ore_blocks.specs.BlockOfRun.{ordered_row, outside_block_of}
use Rattle.ore_blocks.specs.CheckBlock.{RowMatrix, row_matrix_of}
use Rattle.ore_blocks.proofs.Converted.{rows_count}
use Rattle.ore_groebner.specs.Courses.{last_of}
use Rattle.ore_groebner.specs.declared.outcome.Finished.{Finished}
use Rattle.ore_check.specs.Plans.{IsFormed, first_nonzero}
use Rattle.ore_syzygy.specs.RunBlock.{IsExactBlockOfRun}
use Rattle.ore_syzygy.proofs.HonestBlocks.{ordered_row-sums_of}
use Rattle.ore_inverse.specs.Runs.{IsRunOn}
use Rattle.ore_torsion.specs.FirstEntries.{part_of}
use Rattle.ore_torsion.specs.Verdicts.{controllable_of, element_of}

module _ (s : Signature) where
  pub same_formed : (r : RowMatrix) (c d : Certificate) → c ≡ d → (result : Result Certificate RingStop) → IsFormed s r c result → IsFormed s r d result
  same_formed r c d e result h = subst (λ (c : Certificate). IsFormed s r c result) e h

  pub memory_formed : (r : RowMatrix) (c : Certificate) (e : RingStop) → e ≡ stop.Memory → IsFormed s r c (Err e)
  memory_formed r c stop.Overflow h claims = absurd cc
  memory_formed r c stop.Degree h claims = absurd cc
  memory_formed r c stop.Memory h claims = tt

  pub controllable_is : (q : OperatorMatrix) (f : Finished) → IsRunOn s q f → (combinations : OperatorMatrix) (b : ExactBlock) → IsExactBlockOfRun s f combinations b → Controllable q b ≡ controllable_of s q f (row_matrix_of combinations)
  controllable_is q f on combinations b h = ap (λ (b : ExactBlock). Controllable q b) (h q on.choices on.honest)

  operator_is : (f : Ordered) → Belongs s f → record { by = s.order; sum = f.sum } ≡ f
  operator_is f of = λ i. record { by = sym of.order i; sum = f.sum }

  pub element_is : (r : OperatorMatrix) (f : Finished) (z : List Ordered) → All (Belongs s) z → (element : List Ordered) → element ≡ z → (syzygies : OperatorMatrix)
      → (n : ℕ) → n ≡ length r.rows → (p : Ordered × List Ordered) → part_of p ≡ first_nonzero n (rows_of syzygies) → Belongs s p.0
      → (cofactor : List Ordered) → sums_of cofactor ≡ negated rationals (sums_of p.1) → All (Belongs s) cofactor
      → (b : OutsideBlock) → b ≡ outside_block_of s (row_matrix_of r) (last_of f) [] (sums_of z) → AutonomousElement element p.0 cofactor b ≡ element_of s (row_matrix_of r) f z (row_matrix_of syzygies)
  element_is r f z of_z element same syzygies n count p found of_p cofactor opposite of_cofactor b h = λ i. AutonomousElement ((same ∙ rows) i) (operators i) (cofactors i) (h i)
    where
      first : part_of p ≡ first_nonzero (length (rows_of r)) (rows_of syzygies)
      first = found ∙ ap (λ n. first_nonzero n (rows_of syzygies)) (count ∙ sym (rows_count r))

      rows : z ≡ ordered_row s.order (sums_of z)
      rows = sym (ordered_row-sums_of s z of_z)

      operators : p.0 ≡ record { by = s.order; sum = (first_nonzero (length (rows_of r)) (rows_of syzygies)).0 }
      operators = sym (operator_is p.0 of_p) ∙ ap (λ (x : Operator rationals × Row rationals). record { by = s.order; sum = x.0 }) first

      cofactors : cofactor ≡ ordered_row s.order (negated rationals (first_nonzero (length (rows_of r)) (rows_of syzygies)).1)
      cofactors = sym (ordered_row-sums_of s cofactor of_cofactor) ∙ ap (ordered_row s.order) (opposite ∙ ap (λ (x : Operator rationals × Row rationals). negated rationals x.1) first)
