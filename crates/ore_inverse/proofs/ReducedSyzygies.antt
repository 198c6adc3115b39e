-- The syzygies of a run g on q, reduced by the last state of a run f on a.
--     reduced_syzygies     what reducing the syzygies gives
use Rattle.std.proofs.Common.{◌≡◌, ℕ, List, [], length, sym, ◌∙◌, subst}
use Rattle.std.specs.List.{AllByRecursion}
use Rattle.std.specs.declared.result.Result.TheVariants.{Ok}
use Rattle.std.proofs.ByRecursion.{All-get_or}
use Rattle.std.proofs.lemmas.List.{length-map}
use Rattle.ore_algebra.specs.Limits.{program}
use Rattle.ore_rational.specs.Field.{rationals}
use Rattle.ore_monomial.specs.Signature.{Signature}
use Rattle.ore_rows.specs.Arithmetic.{within}
use Rattle.ore_rows.specs.Reduction.{row_at}
use Rattle.ore_rows.specs.ReduceRows.{AllReduce, LeavesRest, reduce_rows}
use Rattle.ore_rows.specs.Rows.{Row, RowOf, AreLong}
use Rattle.ore_rows.specs.Stored.{OperatorMatrix, sums_of, rows_of}
use Rattle.ore_rows.specs.StoredBasis.{monics}
use Rattle.ore_division.specs.StoredWork.{work_of}
use Rattle.ore_division.specs.declared.division.Reduced.{Reduced}
use Rattle.ore_parts.specs.OfSignature.{IsOutsideOf}
use Rattle.ore_blocks.specs.BlockOfRun.{outside_block_of}
use Rattle.ore_blocks.specs.CheckBlock.{row_matrix_of}
use Rattle.ore_blocks.proofs.Converted.{rows_count, wide_rows, rows_are_of}
use Rattle.ore_groebner.specs.Courses.{last_of}
use Rattle.ore_groebner.specs.declared.outcome.Finished.{Finished}
use Rattle.ore_check.specs.Plans.{reduced}
use Rattle.ore_check.proofs.FormedInverses.{AreFound, found_count, rows_are_reduced}
use Rattle.ore_check.proofs.FormedKernels.{IsEndOf, wide_generators, of_generators}
use Rattle.ore_check.proofs.FormedVerdicts.{z_wide, rest_block_of}
use Rattle.ore_inverse.specs.Runs.{IsRunOn}
use Rattle.ore_inverse.specs.StoredReductions.{reductions_of, AreReductionsOf, AreReducedSyzygies}
use Rattle.ore_inverse.specs.declared.reductions.Reductions.{Reductions as Stored}
use Rattle.ore_inverse.specs.declared.reductions.Reductions.TheVariants as stored
use Rattle.ore_inverse.proofs.StoredRuns.{end_of, reduced_is}

module _ (s : Signature) (a : OperatorMatrix) (f : Finished) (on_a : IsRunOn s a f) where
  module _ (q : OperatorMatrix) (g : Finished) (on_q : IsRunOn s q g) (count : length q.rows ≡ a.cols) where
    long : AreLong rationals a.cols (rows_of a)
    long = wide_rows s a on_a.matrix_of

    of : AllByRecursion (RowOf rationals s) (rows_of a)
    of = rows_are_of s a on_a.matrix_of

    end : IsEndOf s (row_matrix_of a) (last_of f)
    end = end_of s a f on_a

    abbrev rows : List (Row rationals)
    rows = rows_of g.syzygies

    long_rows : AreLong rationals a.cols rows
    long_rows = subst (λ n. AreLong rationals n rows) (rows_count q ∙ count) (wide_generators s (row_matrix_of q) (wide_rows s q on_q.matrix_of) (rows_are_of s q on_q.matrix_of) (last_of g) (end_of s q g on_q))

    of_rows : AllByRecursion (RowOf rationals s) rows
    of_rows = of_generators s (row_matrix_of q) (wide_rows s q on_q.matrix_of) (rows_are_of s q on_q.matrix_of) (last_of g) (end_of s q g on_q)

    all_counted : (m : OperatorMatrix) → reduced program s (row_matrix_of a) (last_of f) rows ≡ Ok (AllReduce (rows_of m)) → length m.rows ≡ length g.syzygies.rows
    all_counted m e =
        let (more, same, found) = rows_are_reduced s (row_matrix_of a) long of (last_of f) end rows (AllReduce (rows_of m)) long_rows e in
        sym (rows_count m) ∙ found_count s (row_matrix_of a) long of (last_of f) end rows (rows_of m) (subst (AreFound s (row_matrix_of a) long of (last_of f) end rows) (sym same) found) ∙ rows_count g.syzygies

    module _ (k : ℕ) (w : Reduced) (e : reduced program s (row_matrix_of a) (last_of f) rows ≡ Ok (LeavesRest k (work_of w))) where
      rest_wide : length w.row ≡ a.cols
      rest_wide =
          let (j, place, less, there, t, lead) = rows_are_reduced s (row_matrix_of a) long of (last_of f) end rows (LeavesRest k (work_of w)) long_rows e in
          sym (length-map w.row (λ x. x.sum))
          ∙ z_wide s (row_matrix_of a) long of (last_of f) end (row_at rows j) (All-get_or (λ (y : Row rationals). length y ≡ a.cols) rows j [] less long_rows) (All-get_or (RowOf rationals s) rows j [] less of_rows) (work_of w) there t lead

      rest_block : IsOutsideOf s (outside_block_of s (row_matrix_of a) (last_of f) [] (sums_of w.row))
      rest_block =
          let (j, place, less, there, t, lead) = rows_are_reduced s (row_matrix_of a) long of (last_of f) end rows (LeavesRest k (work_of w)) long_rows e in
          rest_block_of s (row_matrix_of a) long of (last_of f) end (row_at rows j) (All-get_or (λ (y : Row rationals). length y ≡ a.cols) rows j [] less long_rows) (All-get_or (RowOf rationals s) rows j [] less of_rows) (work_of w) there t lead

    pub reduced_syzygies : (x : Stored) → AreReductionsOf s f.basis.width x → reduce_rows rationals s.order (within program s) f.basis.width (monics f.basis) rows ≡ Ok (reductions_of x) → AreReducedSyzygies s a f g x
    reduced_syzygies (stored.AllReduce m) of_m e = (of_m.0 ∙ on_a.honest.width, all_counted m (reduced_is s a f on_a rows ∙ e), of_m.1)
    reduced_syzygies (stored.LeavesRest k w) of_w e = (rest_wide k w (reduced_is s a f on_a rows ∙ e), of_w, rest_block k w (reduced_is s a f on_a rows ∙ e))
