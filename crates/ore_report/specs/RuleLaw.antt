-- What a rule of choosers may be like.
--     AllowsOneChoice            at each state at most one choice may come
--     AllowsSomeChoice           one may come while a pair may be treated
--     AllowsLawful               a choice that may come is lawful, by the leads and the listed pairs
--     AllowsSpentAtTreatment     the budget may be spent exactly where a treatment may come
--     AllowsByPairs              lists with the same pairs let the same come
--     IsStrictRule               of runs it is a strict rule (Bounded of ore_course)
use Rattle.std.specs.Prelude.{◌≡◌, ℕ, Bool, true, List, ◌↔◌}
use Rattle.ore_rows.specs.declared.choices.Choice.{Choice}
use Rattle.ore_rows.specs.declared.choices.Choice.TheVariants.{Treat}
use Rattle.ore_algebra.specs.Limits.{Limits}
use Rattle.ore_course.specs.Bounded.{IsStrict}
use Rattle.ore_monomial.specs.Signature.{Signature}
use Rattle.ore_pairs.specs.PairRule.{HaveSamePairs, may_treat, is_lawful}
use Rattle.ore_pairs.specs.Reached.{rule_of}
use Rattle.ore_pairs.specs.Runner.{runner_within}
use Rattle.ore_groebner.specs.BasisLeads.{BasisLeads}

-- two choices that may come are the same
abbrev pub AllowsOneChoice : (BasisLeads → List (ℕ × ℕ) → Choice → Bool) → Type 0
AllowsOneChoice allows = (shown : BasisLeads) (ps : List (ℕ × ℕ)) (c d : Choice) → allows shown ps c ≡ true → allows shown ps d ≡ true → c ≡ d

-- where there is a pair that may be treated, there is a choice, of that pair or of another
abbrev pub AllowsSomeChoice : (BasisLeads → List (ℕ × ℕ) → Choice → Bool) → Type 0
AllowsSomeChoice allows = (shown : BasisLeads) (ps : List (ℕ × ℕ)) (i j : ℕ) → may_treat shown.leads ps i j ≡ true → (c : Choice) × (allows shown ps c ≡ true)

-- each choice that may come is lawful
abbrev pub AllowsLawful : (BasisLeads → List (ℕ × ℕ) → Choice → Bool) → Type 0
AllowsLawful allows = (shown : BasisLeads) (ps : List (ℕ × ℕ)) (c : Choice) → allows shown ps c ≡ true → is_lawful shown.leads ps c ≡ true

-- the answer that the budget is spent may come where some pair may come as a treatment, and only there
abbrev pub AllowsSpentAtTreatment : (BasisLeads → List (ℕ × ℕ) → Choice → Bool) → (BasisLeads → List (ℕ × ℕ) → Bool) → Type 0
AllowsSpentAtTreatment allows allows_spent = (shown : BasisLeads) (ps : List (ℕ × ℕ)) → (allows_spent shown ps ≡ true) ↔ ((i : ℕ) × (j : ℕ) × (allows shown ps (Treat i j) ≡ true))

-- the order in which the pairs were listed doesn't count, nor how often
abbrev pub AllowsByPairs : (BasisLeads → List (ℕ × ℕ) → Choice → Bool) → (BasisLeads → List (ℕ × ℕ) → Bool) → Type 0
AllowsByPairs allows allows_spent = (shown : BasisLeads) (ps qs : List (ℕ × ℕ)) → HaveSamePairs ps qs
    → ((c : Choice) → allows shown ps c ≡ allows shown qs c) × (allows_spent shown ps ≡ allows_spent shown qs)

-- one choice at most may come in a state, and where the budget may be spent that choice is a treatment
abbrev pub IsStrictRule : (BasisLeads → List (ℕ × ℕ) → Choice → Bool) → (BasisLeads → List (ℕ × ℕ) → Bool) → Type 0
IsStrictRule allows allows_spent = (l : Limits) (s : Signature) → IsStrict (runner_within l s) (rule_of s allows allows_spent)
