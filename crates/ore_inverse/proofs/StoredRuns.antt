-- A complete run f on a stored matrix a.
--     has_run        it is one on some matrix
--     end_of         it ends in its last state
--     reduced_is     the rows that the code reduces by it are those that a plan reduces
--     unstepped_is   the outside block that the code makes for a row from which no steps are taken
use Rattle.std.proofs.Common.{◌≡◌, List, [], sym, ap, ◌∙◌, subst}
use Rattle.ore_algebra.specs.Limits.{program}
use Rattle.ore_rational.specs.Field.{rationals}
use Rattle.ore_monomial.specs.Signature.{Signature}
use Rattle.ore_ring.specs.Ordered.{Ordered}
use Rattle.ore_rows.specs.Arithmetic.{within}
use Rattle.ore_rows.specs.ReduceRows.{reduce_rows}
use Rattle.ore_rows.specs.Rows.{Row}
use Rattle.ore_rows.specs.Stored.{OperatorMatrix, sums_of}
use Rattle.ore_rows.specs.StoredBasis.{monics}
use Rattle.ore_division.specs.declared.division.Reduced.{Reduced}
use Rattle.ore_pairs.proofs.CompleteStates.{tested}
use Rattle.ore_parts.specs.declared.block.OutsideBlock.{OutsideBlock}
use Rattle.ore_blocks.specs.BlockOfRun.{outside_block_of}
use Rattle.ore_blocks.specs.CheckBlock.{row_matrix_of}
use Rattle.ore_blocks.proofs.Converted.{rows_count}
use Rattle.ore_groebner.specs.Courses.{last_of}
use Rattle.ore_groebner.specs.declared.outcome.Finished.{Finished}
use Rattle.ore_syzygy.specs.RunBlock.{HasRun, IsOutsideBlockOfRun}
use Rattle.ore_syzygy.proofs.HonestBlocks.{last_is}
use Rattle.ore_check.specs.Plans.{reduced}
use Rattle.ore_check.proofs.FormedKernels.{IsEndOf}
use Rattle.ore_inverse.specs.Runs.{IsRunOn}

module _ (s : Signature) (a : OperatorMatrix) (f : Finished) (on : IsRunOn s a f) where
  pub has_run : HasRun s f
  has_run = record { matrix = a; choices = on.choices; honest = on.honest; matrix_of = on.matrix_of; few_rows = on.few_rows; few_cols = on.few_cols }

  pub end_of : IsEndOf s (row_matrix_of a) (last_of f)
  end_of =
      let h = on.honest in
      subst (IsEndOf s (row_matrix_of a)) (last_is s f a on.choices h) (record { first = h.start; choices = on.choices; begun = h.begun; led = h.led; over = tested rationals h.last h.complete })

  pub reduced_is : (rows : List (Row rationals)) → reduced program s (row_matrix_of a) (last_of f) rows ≡ reduce_rows rationals s.order (within program s) f.basis.width (monics f.basis) rows
  reduced_is rows = ap (λ n. reduce_rows rationals s.order (within program s) n (monics f.basis) rows) (rows_count a ∙ sym on.honest.width)

  pub unstepped_is : (w : Reduced) (row : List Ordered) → w.row ≡ row → w.steps ≡ [] → (b : OutsideBlock) → IsOutsideBlockOfRun s f w.steps w.row b → b ≡ outside_block_of s (row_matrix_of a) (last_of f) [] (sums_of row)
  unstepped_is w row same none b made = made a on.choices on.honest ∙ (λ i. outside_block_of s (row_matrix_of a) (last_of f) (none i) (sums_of (same i)))
