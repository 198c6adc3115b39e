-- What contracts see of a reduction in progress.
--     work_of        the row, the cofactor row and the steps, of plain operators
use Rattle.ore_rational.specs.Field.{rationals}
use Rattle.ore_rows.specs.Reduction.{ReductionState}
use Rattle.ore_rows.specs.Stored.{sums_of}
use Rattle.ore_division.specs.declared.division.Reduced.{Reduced}

-- a reduction in progress without the orders of its operators
abbrev pub work_of : Reduced → ReductionState rationals
work_of r = record { row = sums_of r.row; cofactor = sums_of r.cofactor; steps = r.steps }
