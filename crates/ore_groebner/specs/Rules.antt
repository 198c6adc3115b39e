-- Rules: which choices may come, and whether the budget may be spent, by what is shown and the pairs that are listed.
--     IsAllowed             a rule allows an answer
use Rattle.std.specs.Prelude.{◌≡◌, ℕ, Bool, true, List}
use Rattle.ore_rows.specs.declared.choices.Choice.{Choice}
use Rattle.ore_groebner.specs.BasisLeads.{BasisLeads}
use Rattle.ore_groebner.specs.declared.chooser.Next.{Next}
use Rattle.ore_groebner.specs.declared.chooser.Next.TheVariants.{Choose, Complete, Spent, NoLawful}

abbrev pub IsAllowed : (BasisLeads → List (ℕ × ℕ) → Choice → Bool) → (BasisLeads → List (ℕ × ℕ) → Bool) → BasisLeads → List (ℕ × ℕ) → Next → Type 0
IsAllowed allows allows_spent shown ps (Choose c) = allows shown ps c ≡ true
IsAllowed allows allows_spent shown ps Spent = allows_spent shown ps ≡ true
IsAllowed allows allows_spent shown ps Complete = Unit {0}
IsAllowed allows allows_spent shown ps NoLawful = Unit {0}
