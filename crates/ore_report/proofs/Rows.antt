-- Which pairs have entered, row by row.
--     before_row        the pairs of the rows before, and of this row the first
--     row_begun         of the row no pair has entered
--     row_more          one more pair has
--     row_done          all have that may be treated
use Rattle.std.proofs.Common.{◌≡◌, ℕ, ◌+◌, ◌<◌, ◌≤◌, Bool, true, List, arith}
use Rattle.std.specs.Prelude.{◌&&◌, ◌||◌, nat_eq, nat_lt}
use Rattle.std.proofs.lemmas.Bool.Decides.{nat_tests}
use Rattle.ore_monomial.specs.Term.{Term}
use Rattle.ore_pairs.specs.PairRule.{may_treat}
use Rattle.ore_pairs.proofs.PairRuleLaws.{treat_from}

abbrev pub before_row : ℕ → ℕ → ℕ → ℕ → Bool
before_row j i x y = nat_lt y j || (nat_eq y j && nat_lt x i)

pub row_begun : (j x y : ℕ) → nat_lt y j ≡ before_row j 0 x y
row_begun j x y = grind (arith, nat_tests)

pub row_more : (j i x y : ℕ) → before_row j (i + 1) x y ≡ (before_row j i x y || (nat_eq x i && nat_eq y j))
row_more j i x y = grind (arith, nat_tests)

done_test : (j i x y : ℕ) → j ≤ i → x < y → before_row j i x y ≡ nat_lt y (j + 1)
done_test j i x y l h = grind (arith, nat_tests)

pub row_done : (leads : List Term) (ps : List (ℕ × ℕ)) (j i : ℕ) → j ≤ i → (x y : ℕ) → may_treat leads ps x y ≡ true → before_row j i x y ≡ nat_lt y (j + 1)
row_done leads ps j i l x y m = done_test j i x y l (treat_from leads ps x y m).ordered
