-- First entries of stored rows.
--     HasFirst      the first entry of a row isn't zero
--     part_of       an operator and a row, without their orders
use Rattle.std.specs.Prelude.{◌≢◌, List, [], ◌∷◌}
use Rattle.ore_algebra.specs.Free.{empty_sum}
use Rattle.ore_rational.specs.Field.{rationals}
use Rattle.ore_monomial.specs.LetterRule.{Operator}
use Rattle.ore_monomial.specs.Monomial.{plain_cmp}
use Rattle.ore_ring.specs.Ordered.{Ordered}
use Rattle.ore_rows.specs.Rows.{Row}
use Rattle.ore_rows.specs.Stored.{sums_of}

-- a row without entries has none
abbrev pub HasFirst : List Ordered → Type 0
HasFirst [] = ⊥
HasFirst (f ∷ others) = f.sum ≢ empty_sum rationals plain_cmp

-- as the definition of a first entry has them
abbrev pub part_of : Ordered × List Ordered → Operator rationals × Row rationals
part_of p = (p.0.sum, sums_of p.1)
