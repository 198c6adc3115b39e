-- A list of the pairs of basis rows: each was treated, or skipped by way of a third row.
--     DealtPair                a pair of rows i < j, treated with steps or skipped via a row
--     first, second            the rows of an entry's pair
--     pairs_of                 the pairs of some entries
--     IsBelowStep, IsTreated   steps below the pair's common multiple, which leave nothing of the pair's row
--     IsLawfulEntry, AreLawful     an entry is right by those before it; each entry of a list is
--     pair_count               how many pairs of rows with leads in one column there are
--     treated_count            how many entries are treated pairs
--     syzygies                 the syzygies of the treated pairs, in order
--     AreEntriesOf             the steps of all entries are of a signature
-- (Skipping by a third row: Buchberger 1979; Gebauer and Möller 1988.)
use Rattle.std.specs.Prelude.{◌≡◌, ℕ, suc, ◌+◌, ◌<◌, true, List, [], ◌∷◌, length, map, nat_eq}
use Rattle.std.specs.declared.cmp.Ordering.TheVariants.{Less}
use Rattle.std.specs.List.{AllByRecursion, count_by}
use Rattle.ore_algebra.specs.Domain.{Domain}
use Rattle.ore_monomial.specs.Term.{Term, term_cmp, shift}
use Rattle.ore_monomial.specs.declared.order.Order.{Order}
use Rattle.ore_monomial.specs.Signature.{Signature}
use Rattle.ore_rows.specs.Rows.{Row, zero_row}
use Rattle.ore_pairs.specs.PairRule.{may_treat, may_skip}
use Rattle.ore_pairs.specs.Steps.{Step, lead_at, lcm_of_leads, remainder_after, s_row, syzygy, AreStepsOf}

pub data DealtPair (K : Domain) : Type 0 where
  Pair : ℕ → ℕ → List (Step K) → DealtPair K
  Skip : ℕ → ℕ → ℕ → DealtPair K

abbrev pub first : {K : Domain} → DealtPair K → ℕ
first (Pair i j steps) = i
first (Skip i j via) = i

abbrev pub second : {K : Domain} → DealtPair K → ℕ
second (Pair i j steps) = j
second (Skip i j via) = j

-- the pairs of some entries, in order
abbrev pub pairs_of : {K : Domain} → List (DealtPair K) → List (ℕ × ℕ)
pairs_of es = map (λ e. (first e, second e)) es

-- the lead of a step's term times its basis row is below t
pub record IsBelowStep (K : Domain) (o : Order) (leads : List Term) (t : Term) (step : Step K) : Type 0 where
  pub within : step.index < length leads
  pub low : term_cmp o (shift step.monomial (lead_at leads step.index)) t ≡ Less

-- each step is below the pair's common multiple, and of the pair's row the steps leave zeros
pub record IsTreated (K : Domain) (s : Signature) (o : Order) (n : ℕ) (basis : List (Row K)) (leads : List Term) (i j : ℕ) (steps : List (Step K)) : Type 0 where
  pub low : AllByRecursion (IsBelowStep K o leads (lcm_of_leads leads i j)) steps
  pub nothing : remainder_after K s basis steps (s_row K s leads basis i j) ≡ zero_row K n

module _ (K : Domain) (s : Signature) (o : Order) (n : ℕ) (basis : List (Row K)) (leads : List Term) where
  -- the pair may be treated, and it was, or it may be skipped, by the entries before
  abbrev pub IsLawfulEntry : List (DealtPair K) → DealtPair K → Type 0
  IsLawfulEntry before (Pair i j steps) = (may_treat leads (pairs_of before) i j ≡ true) × IsTreated K s o n basis leads i j steps
  IsLawfulEntry before (Skip i j via) = (may_treat leads (pairs_of before) i j ≡ true) × (may_skip leads (pairs_of before) i j via ≡ true)

  -- each entry is lawful by those before it, of which the latest stands first
  abbrev pub AreLawful : List (DealtPair K) → List (DealtPair K) → Type 0
  AreLawful before [] = Unit {0}
  AreLawful before (e ∷ es) = IsLawfulEntry before e × AreLawful (e ∷ before) es

-- for each lead, how many later ones stand in its column
unfoldable pub pair_count : List Term → ℕ
pair_count [] = 0
pair_count (t ∷ ts) = count_by (λ u. nat_eq u.column t.column) ts + pair_count ts

unfoldable pub treated_count : {K : Domain} → List (DealtPair K) → ℕ
treated_count [] = 0
treated_count (Pair i j steps ∷ es) = suc (treated_count es)
treated_count (Skip i j via ∷ es) = treated_count es

-- of n entries each
unfoldable pub syzygies : (K : Domain) → Signature → ℕ → List Term → List (DealtPair K) → List (Row K)
syzygies K s n leads [] = []
syzygies K s n leads (Pair i j steps ∷ es) = syzygy K s n leads i j steps ∷ syzygies K s n leads es
syzygies K s n leads (Skip i j via ∷ es) = syzygies K s n leads es

-- the monomial of each step of each treated pair is of the signature
abbrev pub AreEntriesOf : (K : Domain) → Signature → List (DealtPair K) → Type 0
AreEntriesOf K s [] = Unit {0}
AreEntriesOf K s (Pair i j steps ∷ es) = AreStepsOf K s steps × AreEntriesOf K s es
AreEntriesOf K s (Skip i j via ∷ es) = AreEntriesOf K s es
