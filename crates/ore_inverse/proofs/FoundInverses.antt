-- What the code of inverses finds, beside what their plans find.
--     stored_is               a stored matrix of a signature has its order
--     all_reduce, leaves_rest     what stored reductions are, of plain operators
--     all_of, rest_of         they are of the signature
--     rest_of_signature, block_of_signature     the outside block of a rest is of the signature
use Rattle.std.proofs.Common.{◌≡◌, ℕ, sym, ap, ◌∙◌, subst}
use Rattle.std.specs.List.{All, AllByRecursion}
use Rattle.std.specs.declared.result.Result.{Result}
use Rattle.std.specs.declared.result.Result.TheVariants.{Ok}
use Rattle.ore_algebra.specs.Limits.{Cause, program}
use Rattle.ore_rational.specs.Field.{rationals}
use Rattle.ore_monomial.specs.Signature.{Signature}
use Rattle.ore_ring.specs.Belongs.{Belongs}
use Rattle.ore_rows.specs.Reduction.{ReductionState}
use Rattle.ore_rows.specs.ReduceRows.{Reductions, AllReduce, LeavesRest}
use Rattle.ore_rows.specs.Rows.{AreLong, RowOf, identity_rows}
use Rattle.ore_rows.specs.Stored.{OperatorMatrix, rows_of}
use Rattle.ore_rows.proofs.UnitRows.{long_identity}
use Rattle.ore_division.specs.StoredWork.{work_of}
use Rattle.ore_division.specs.declared.division.Reduced.{Reduced}
use Rattle.ore_pairs.specs.Run.{RunState}
use Rattle.ore_parts.specs.OfSignature.{IsOutsideOf}
use Rattle.ore_parts.specs.declared.block.OutsideBlock.{OutsideBlock}
use Rattle.ore_blocks.specs.BlockOfRun.{outside_block_of}
use Rattle.ore_blocks.specs.CheckBlock.{RowMatrix, row_matrix_of}
use Rattle.ore_blocks.proofs.Converted.{wide_rows, rows_are_of}
use Rattle.ore_groebner.specs.Courses.{last_of}
use Rattle.ore_groebner.specs.declared.outcome.Finished.{Finished}
use Rattle.ore_syzygy.proofs.HonestBlocks.{ordered-rows}
use Rattle.ore_check.specs.Plans.{reduced}
use Rattle.ore_check.specs.Plans as plans
use Rattle.ore_check.proofs.FormedKernels.{IsEndOf}
use Rattle.ore_check.proofs.FormedInverses.{rows_are_reduced, unit_block_of}
use Rattle.ore_inverse.specs.Runs.{IsRunOn}
use Rattle.ore_inverse.specs.StoredReductions.{reductions_of, AreReductionsOf}
use Rattle.ore_inverse.specs.declared.reductions.Reductions.{Reductions as Stored}
use Rattle.ore_inverse.specs.declared.reductions.Reductions.TheVariants as stored
use Rattle.ore_inverse.proofs.StoredRuns.{end_of}

module _ (s : Signature) where
  pub stored_is : (m : OperatorMatrix) (n : ℕ) → All (All (Belongs s)) m.rows → m.cols ≡ n → plans.stored s (record { cols = n; rows = rows_of m }) ≡ m
  stored_is m n of e = λ i. record { cols = sym e i; rows = ordered-rows s m.rows of i }

  -- reductions that came, as those of a definition
  module _ (given : Result (Reductions rationals) Cause) (n : ℕ) (x : Stored) (e : given ≡ Ok (reductions_of x)) (of : AreReductionsOf s n x) where
    pub all_reduce : (m : OperatorMatrix) → x ≡ stored.AllReduce m → given ≡ Ok (AllReduce (rows_of m))
    all_reduce m is = e ∙ ap (λ (x : Stored). Ok (reductions_of x)) is

    pub all_of : (m : OperatorMatrix) → x ≡ stored.AllReduce m → (m.cols ≡ n) × All (All (Belongs s)) m.rows
    all_of m is = subst (AreReductionsOf s n) is of

    pub leaves_rest : (k : ℕ) (w : Reduced) → x ≡ stored.LeavesRest k w → given ≡ Ok (LeavesRest k (work_of w))
    leaves_rest k w is = e ∙ ap (λ (x : Stored). Ok (reductions_of x)) is

    pub rest_of : (k : ℕ) (w : Reduced) → x ≡ stored.LeavesRest k w → All (Belongs s) w.row
    rest_of k w is = subst (AreReductionsOf s n) is of

  -- unit rows of a matrix, reduced by the last state of a run on it
  module _ (a : RowMatrix) (long : AreLong rationals a.cols a.rows) (of_a : AllByRecursion (RowOf rationals s) a.rows) (last : RunState rationals) (end : IsEndOf s a last) where
    pub rest_of_signature : (k : ℕ) (w : ReductionState rationals) → reduced program s a last (identity_rows rationals a.cols) ≡ Ok (LeavesRest k w) → IsOutsideOf s (outside_block_of s a last w.steps w.row)
    rest_of_signature k w e =
        let (j, place, less, there, t, lead) = rows_are_reduced s a long of_a last end (identity_rows rationals a.cols) (LeavesRest k w) (long_identity rationals a.cols) e in
        unit_block_of s a long of_a last end j less w there t lead

  pub block_of_signature : (a : OperatorMatrix) (f : Finished) (on : IsRunOn s a f) (b : OutsideBlock) (k : ℕ) (w : ReductionState rationals) → reduced program s (row_matrix_of a) (last_of f) (identity_rows rationals a.cols) ≡ Ok (LeavesRest k w)
      → b ≡ outside_block_of s (row_matrix_of a) (last_of f) w.steps w.row → IsOutsideOf s b
  block_of_signature a f on b k w e same = subst (IsOutsideOf s) (sym same) (rest_of_signature (row_matrix_of a) (wide_rows s a on.matrix_of) (rows_are_of s a on.matrix_of) (last_of f) (end_of s a f on) k w e)
