-- What contracts say of pairs of stored basis rows.
--     work_of_rows             a row and its cofactor row, before any step
--     pairs_code               the code of a list of pairs as a list of numbers
--     AreOrdered               each listed pair has the lesser place first
use Rattle.std.specs.Prelude.{◌≡◌, ◌<◌, ℕ, true, List, []}
use Rattle.std.specs.Coded.{Coded, coded×, coded_list, coded_ℕ}
use Rattle.ore_rational.specs.Field.{rationals}
use Rattle.ore_ring.specs.Ordered.{Ordered}
use Rattle.ore_rows.specs.Reduction.{ReductionState}
use Rattle.ore_rows.specs.Stored.{sums_of}
use Rattle.ore_pairs.specs.PairRule.{is_listed}

-- the two rows without the orders, and no steps
abbrev pub work_of_rows : List Ordered × List Ordered → ReductionState rationals
work_of_rows p = record { row = sums_of p.0; cofactor = sums_of p.1; steps = [] }

abbrev pub pairs_code : Coded (List (ℕ × ℕ))
pairs_code = coded_list (coded× coded_ℕ coded_ℕ)

-- a pair that is listed stands in the order of its places
abbrev pub AreOrdered : List (ℕ × ℕ) → Type 0
AreOrdered listed = (i j : ℕ) → is_listed i j listed ≡ true → i < j
