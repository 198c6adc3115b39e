-- Which pair of basis rows is listed, which may be treated, and which skipped, by the leads of the basis and the pairs that
-- are listed so far. A pair is that of the rows at two places.
--     is_listed, either_listed   a pair is in a list of pairs; in one of its two orders
--     HaveSamePairs              two lists have the same pairs
--     some_pair                  some two places pass a test
--     is_pair                    two basis rows in order, with leads in one column
--     may_treat                  such a pair that isn't listed
--     none_treatable             no pair may be treated
--     may_skip                   a pair may be skipped by way of a third row
--     is_lawful                  a choice treats such a pair, or skips it by way of a row by which it may be
--     AreAllListed               each pair is listed
--     HasUnlisted                a pair isn't listed
use Rattle.std.specs.Prelude.{◌≡◌, ℕ, Bool, true, false, not, ◌&&◌, ◌||◌, nat_eq, nat_lt, List, [], ◌∷◌, length}
use Rattle.std.specs.List.{list_any, range_with_len}
use Rattle.ore_monomial.specs.Term.{Term}
use Rattle.ore_leads.specs.FirstDivisor.{divides_term}
use Rattle.ore_rows.specs.declared.choices.Choice.{Choice}
use Rattle.ore_rows.specs.declared.choices.Choice.TheVariants.{Treat, Skip}
use Rattle.ore_pairs.specs.Steps.{lead_at, lcm_of_leads}

-- ---- listed pairs

-- the pair i, j is one of the list
unfoldable pub is_listed : ℕ → ℕ → List (ℕ × ℕ) → Bool
is_listed i j [] = false
is_listed i j (p ∷ ps) = (nat_eq i p.0 && nat_eq j p.1) || is_listed i j ps

-- the pair is listed, in one of its two orders
abbrev pub either_listed : ℕ → ℕ → List (ℕ × ℕ) → Bool
either_listed i j listed = is_listed i j listed || is_listed j i listed

-- a pair is listed in the one where it is in the other
abbrev pub HaveSamePairs : List (ℕ × ℕ) → List (ℕ × ℕ) → Type 0
HaveSamePairs listed others = (i j : ℕ) → is_listed i j listed ≡ is_listed i j others

-- ---- what may be done

-- two of the rows, in any order, pass a test
unfoldable pub some_pair : ℕ → (ℕ → ℕ → Bool) → Bool
some_pair rows test = list_any (λ i. list_any (test i) (range_with_len 0 rows)) (range_with_len 0 rows)

-- i stands before j, both have a lead, and the lead columns are equal
abbrev pub is_pair : List Term → ℕ → ℕ → Bool
is_pair leads i j = nat_lt i j && nat_lt j (length leads) && nat_eq (lead_at leads i).column (lead_at leads j).column

-- and the pair isn't listed
unfoldable pub may_treat : List Term → List (ℕ × ℕ) → ℕ → ℕ → Bool
may_treat leads listed i j = is_pair leads i j && not (is_listed i j listed)

-- no pair of two of the leads may be treated, since each with equal lead columns is listed
unfoldable pub none_treatable : List Term → List (ℕ × ℕ) → Bool
none_treatable leads listed = not (some_pair (length leads) (may_treat leads listed))

-- the row at via is a third one, its lead divides the common multiple, and its pairs with both rows are listed
unfoldable pub may_skip : List Term → List (ℕ × ℕ) → ℕ → ℕ → ℕ → Bool
may_skip leads listed i j via =
    nat_lt via (length leads) && not (nat_eq via i) && not (nat_eq via j)
    && divides_term (lead_at leads via) (lcm_of_leads leads i j)
    && either_listed i via listed && either_listed j via listed

-- the pair of the choice may be treated; where the choice skips it, it may be skipped so
unfoldable pub is_lawful : List Term → List (ℕ × ℕ) → Choice → Bool
is_lawful leads listed (Treat i j) = may_treat leads listed i j
is_lawful leads listed (Skip i j via) = may_treat leads listed i j && may_skip leads listed i j via

-- ---- all pairs

abbrev pub AreAllListed : List Term → List (ℕ × ℕ) → Type 0
AreAllListed leads listed = (i j : ℕ) → is_pair leads i j ≡ true → is_listed i j listed ≡ true

-- some pair may be treated
abbrev pub HasUnlisted : List Term → List (ℕ × ℕ) → Type 0
HasUnlisted leads listed = (i : ℕ) × (j : ℕ) × (may_treat leads listed i j ≡ true)
