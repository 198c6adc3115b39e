-- What contracts see of rows that were reduced in order.
--     reductions_of         the combinations, or the first rest, of plain operators
--     AreReductionsOf       they are of a signature
--     AreReducedSyzygies    the rows that were reduced are the syzygies of a run
use Rattle.std.specs.Prelude.{◌≡◌, ℕ, [], length}
use Rattle.std.specs.List.{All}
use Rattle.ore_rational.specs.Field.{rationals}
use Rattle.ore_monomial.specs.Signature.{Signature}
use Rattle.ore_ring.specs.Belongs.{Belongs}
use Rattle.ore_rows.specs.ReduceRows.{Reductions, AllReduce, LeavesRest}
use Rattle.ore_rows.specs.Stored.{OperatorMatrix, sums_of, rows_of}
use Rattle.ore_division.specs.StoredWork.{work_of}
use Rattle.ore_parts.specs.OfSignature.{IsOutsideOf}
use Rattle.ore_blocks.specs.BlockOfRun.{outside_block_of}
use Rattle.ore_blocks.specs.CheckBlock.{row_matrix_of}
use Rattle.ore_groebner.specs.Courses.{last_of}
use Rattle.ore_groebner.specs.declared.outcome.Finished.{Finished}
use Rattle.ore_inverse.specs.declared.reductions.Reductions.{Reductions as Stored}
use Rattle.ore_inverse.specs.declared.reductions.Reductions.TheVariants as stored

-- without the orders of their operators
abbrev pub reductions_of : Stored → Reductions rationals
reductions_of (stored.AllReduce m) = AllReduce (rows_of m)
reductions_of (stored.LeavesRest k w) = LeavesRest k (work_of w)

-- the combinations have n columns and are of the signature, or the rest is of the signature
abbrev pub AreReductionsOf : Signature → ℕ → Stored → Type 0
AreReductionsOf s n (stored.AllReduce m) = (m.cols ≡ n) × All (All (Belongs s)) m.rows
AreReductionsOf s n (stored.LeavesRest k w) = All (Belongs s) w.row

-- by the run f on a, where the rows are the syzygies of the run g: a combination of the rows of a for each, or a row of the
-- signature that is left of one, with a block of the signature
abbrev pub AreReducedSyzygies : Signature → OperatorMatrix → Finished → Finished → Stored → Type 0
AreReducedSyzygies s a f g (stored.AllReduce m) = (m.cols ≡ length a.rows) × (length m.rows ≡ length g.syzygies.rows) × All (All (Belongs s)) m.rows
AreReducedSyzygies s a f g (stored.LeavesRest n w) = (length w.row ≡ a.cols) × All (Belongs s) w.row × IsOutsideOf s (outside_block_of s (row_matrix_of a) (last_of f) [] (sums_of w.row))
