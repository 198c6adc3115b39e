-- The first unit row of which a reduction leaves something is the first outside the row module.
--     inside_module          a row of which nothing is left is in the row module
--     rows_before            so is each row before the first of which something is left
--     first_outside          the first unit row
use Rattle.std.proofs.Common.{◌≡◌, ◌<◌, ◌+◌, ◌++◌, ℕ, zero, suc, List, [], ◌∷◌, length, refl, sym, ◌∙◌, subst, arith}
use Rattle.std.specs.List.{AllByRecursion}
use Rattle.std.specs.declared.option.Option.{Option}
use Rattle.std.specs.declared.option.Option.TheVariants.{None, Some}
use Rattle.std.specs.declared.result.Result.{Result}
use Rattle.std.specs.declared.result.Result.TheVariants.{Ok, Err}
use Rattle.ore_algebra.specs.Limits.{Cause, program}
use Rattle.ore_algebra.proofs.ResultLaws.{same_ok, no_ok}
use Rattle.ore_algebra.proofs.ListLaws.{same_cons}
use Rattle.ore_rational.specs.Field.{rationals}
use Rattle.ore_monomial.specs.Signature.{Signature}
use Rattle.ore_monomial.specs.Term.{Term}
use Rattle.ore_rows.specs.Arithmetic.{within}
use Rattle.ore_rows.specs.Reduction.{ReductionState, row_at}
use Rattle.ore_rows.specs.ReduceRows.{Reductions, AllReduce, LeavesRest, negated, reduce_row, reduce_rows_from}
use Rattle.ore_rows.specs.RowLead.{row_lead}
use Rattle.ore_rows.specs.Rows.{Row, RowOf, AreLong, unit_row, identity_rows, combine, matrix_times, InRowModule}
use Rattle.ore_rows.proofs.UnitRows.{long_identity, row-identity_rows}
use Rattle.ore_pairs.specs.Run.{RunState}
use Rattle.ore_blocks.specs.BlockOfRun.{outside_block_of}
use Rattle.ore_blocks.specs.CheckBlock.{RowMatrix}
use Rattle.ore_blocks.proofs.ValidBlocks.{outside_shows}
use Rattle.ore_check.specs.Plans.{reduced}
use Rattle.ore_check.proofs.FormedKernels.{IsEndOf, of_units}
use Rattle.ore_check.proofs.FormedInverses.{rows_are_reduced, AreFound, found_wide, found_of, found_product, unit_less, unit_block_valid, unit_block_of}
use Rattle.ore_inverse.specs.Inverses.{IsFirstOutside}
use Rattle.ore_inverse.proofs.ReducedInOrder.{row_stops, row_leaves, row_reduces, rows_end}

all_or_rest : {i : ℕ} {w : ReductionState rationals} {before : List (Row rationals)} → ◌≡◌ {A = Reductions rationals} (AllReduce before) (LeavesRest i w) → ⊥
all_or_rest e = cc

same_place : {i k : ℕ} {v w : ReductionState rationals} → ◌≡◌ {A = Reductions rationals} (LeavesRest k v) (LeavesRest i w) → k ≡ i
same_place e = cc

module _ (s : Signature) (a : RowMatrix) (long : AreLong rationals a.cols a.rows) (of_a : AllByRecursion (RowOf rationals s) a.rows) (last : RunState rationals) (end : IsEndOf s a last) where
  abbrev reduce_one : Row rationals → Result (ReductionState rationals) Cause
  reduce_one z = reduce_row rationals s.order (within program s) (length a.rows) last.basis z

  abbrev reduce_from : ℕ → List (Row rationals) → List (Row rationals) → Result (Reductions rationals) Cause
  reduce_from k before rows = reduce_rows_from rationals s.order (within program s) (length a.rows) last.basis k before rows

  inside_module : (z : Row rationals) → length z ≡ a.cols → RowOf rationals s z → (w : ReductionState rationals) → reduce_one z ≡ Ok w → row_lead rationals s.order w.row ≡ None → InRowModule rationals s a.cols a.rows z
  unfolding InRowModule matrix_times
  inside_module z wide of_z w e none =
      let c = negated rationals w.cofactor in
      let made : reduce_from 0 [] (z ∷ []) ≡ Ok (AllReduce (c ∷ [])) =
      row_reduces rationals s.order (within program s) (length a.rows) last.basis 0 [] z [] w e none ∙ rows_end rationals s.order (within program s) (length a.rows) last.basis 1 (c ∷ []) in
      let (more, same, found) = rows_are_reduced s a long of_a last end (z ∷ []) (AllReduce (c ∷ [])) (wide, tt) made in
      let here = subst (AreFound s a long of_a last end (z ∷ [])) (sym same) found in (
        c,
        (found_wide s a long of_a last end (z ∷ []) (c ∷ []) here).0,
        (found_of s a long of_a last end (z ∷ []) (c ∷ []) (of_z, tt) here).0,
        (same_cons (combine rationals s a.cols c a.rows) z [] [] (found_product s a long of_a last end (z ∷ []) (c ∷ []) here)).0,
      )

  -- what holds of rows from a place on
  abbrev Before : ℕ → ℕ → ReductionState rationals → List (Row rationals) → Type 0
  Before k i w rows = (b : List (Row rationals)) → reduce_from k b rows ≡ Ok (LeavesRest i w) → (j : ℕ) → k + j < i → InRowModule rationals s a.cols a.rows (row_at rows j)

  rows_before : (k i : ℕ) (before rows : List (Row rationals)) (w : ReductionState rationals) → AreLong rationals a.cols rows → AllByRecursion (RowOf rationals s) rows → reduce_from k before rows ≡ Ok (LeavesRest i w)
      → (j : ℕ) → k + j < i → InRowModule rationals s a.cols a.rows (row_at rows j)
  rows_before k i before [] w l d e j h = absurd (all_or_rest (same_ok (AllReduce before) (LeavesRest i w) (sym (rows_end rationals s.order (within program s) (length a.rows) last.basis k before) ∙ e)))
  rows_before k i before (z ∷ rows) w (lz, l) (dz, d) e j h = by_row (reduce_one z) refl j h (λ b. rows_before (suc k) i b rows w l d)
    where
      by_place : (v : ReductionState rationals) → reduce_one z ≡ Ok v → row_lead rationals s.order v.row ≡ None → (j : ℕ) → k + j < i → Before (suc k) i w rows → InRowModule rationals s a.cols a.rows (row_at (z ∷ rows) j)
      by_place v f g zero h later = inside_module z lz dz v f g
      by_place v f g (suc j) h later =
          later (before ++ negated rationals v.cofactor ∷ []) (sym (row_reduces rationals s.order (within program s) (length a.rows) last.basis k before z rows v f g) ∙ e) j (omega (arith, h))

      by_lead : (v : ReductionState rationals) → reduce_one z ≡ Ok v → (t : Option Term) → row_lead rationals s.order v.row ≡ t → (j : ℕ) → k + j < i → Before (suc k) i w rows → InRowModule rationals s a.cols a.rows (row_at (z ∷ rows) j)
      by_lead v f None g j h later = by_place v f g j h later
      by_lead v f (Some t) g j h later =
          let same : k ≡ i = same_place (same_ok (LeavesRest k v) (LeavesRest i w) (sym (row_leaves rationals s.order (within program s) (length a.rows) last.basis k before z rows v f t g) ∙ e)) in
          absurd (omega (arith, h, same))

      by_row : (x : Result (ReductionState rationals) Cause) → reduce_one z ≡ x → (j : ℕ) → k + j < i → Before (suc k) i w rows → InRowModule rationals s a.cols a.rows (row_at (z ∷ rows) j)
      by_row (Ok v) f j h later = by_lead v f (row_lead rationals s.order v.row) refl j h later
      by_row (Err c) f j h later = absurd (no_ok (sym (row_stops rationals s.order (within program s) (length a.rows) last.basis k before z rows c f) ∙ e))

  pub first_outside : (k : ℕ) (w : ReductionState rationals) → reduced program s a last (identity_rows rationals a.cols) ≡ Ok (LeavesRest k w) → IsFirstOutside s a k
  first_outside k w e =
      let (j, place, less, there, t, lead) = rows_are_reduced s a long of_a last end (identity_rows rationals a.cols) (LeavesRest k w) (long_identity rationals a.cols) e in
      let same : j ≡ k = omega (arith, place) in
      let within = unit_less s a long of_a last end j less w there t lead in
      record {
        within = subst (λ k. k < a.cols) same within;
        before = λ i h. subst (InRowModule rationals s a.cols a.rows) (row-identity_rows rationals a.cols i (let l = subst (λ k. k < a.cols) same within in omega (arith, h, l)))
            (rows_before 0 k [] (identity_rows rationals a.cols) w (long_identity rationals a.cols) (of_units s a.cols) e i (omega (arith, h)));
        outside = subst (λ k. ¬ InRowModule rationals s a.cols a.rows (unit_row rationals a.cols k)) same
            (outside_shows s a (unit_row rationals a.cols j) (outside_block_of s a last w.steps w.row) (unit_block_of s a long of_a last end j less w there t lead) (unit_block_valid s a long of_a last end j less w there t lead));
      }
