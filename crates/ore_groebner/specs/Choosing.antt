-- What a chooser answers, and the choices that it has given, run by run; the present run is the last.
--     first_of, second_of       the pair of a choice
--     chosen_pairs              the pairs of some choices, in order
--     treated_pair_count, treated_pair_count_in  how many pairs some choices, and some runs, treat
--     present, with_choice      the choices of the present run; one more of them (Choices of ore_course)
--     next_kept                 of the kept choices the one whose turn it is (there too)
--     given_after               the runs after an answer
--     Settings                  what no call of a chooser changes: its budget, whether it replays, and what it keeps
--     IsPrefixOfKept            the choices given are some of the first that are kept, run by run
--     IsWithinBudget, AreWithinBudget  the budget allows a choice; it allowed all that were given
--     IsChooserAnswer           what is known where an answer is given
use Rattle.std.specs.Prelude.{◌≡◌, ℕ, ◌<◌, ◌≤◌, Bool, true, false, List, [], map, get_or, IfSome}
use Rattle.std.specs.declared.result.Result.{Result}
use Rattle.std.specs.declared.result.Result.TheVariants.{Ok, Err}
use Rattle.ore_algebra.specs.Lists.{BeginsWith}
unfoldable pub use Rattle.ore_course.specs.Choices.{present, with_choice}
pub use Rattle.ore_course.specs.Choices.{next_kept}
use Rattle.ore_course.specs.Choices as course
use Rattle.ore_monomial.specs.Term.{Term}
use Rattle.ore_monomial.specs.declared.stop.NoMemory.{NoMemory}
use Rattle.ore_rows.specs.declared.choices.Choice.{Choice}
use Rattle.ore_rows.specs.declared.choices.Choice.TheVariants.{Treat, Skip}
use Rattle.ore_pairs.specs.PairRule.{is_lawful, AreAllListed, HasUnlisted}
use Rattle.ore_pairs.specs.Runner.{treats_pair}
use Rattle.ore_groebner.specs.declared.chooser.Next.{Next}
use Rattle.ore_groebner.specs.declared.chooser.Next.TheVariants.{Choose, Complete, Spent, NoLawful}

-- ---- choices

abbrev pub first_of : Choice → ℕ
first_of (Treat i j) = i
first_of (Skip i j via) = i

abbrev pub second_of : Choice → ℕ
second_of (Treat i j) = j
second_of (Skip i j via) = j

-- in the order of the choices
abbrev pub chosen_pairs : List Choice → List (ℕ × ℕ)
chosen_pairs cs = map (λ c. (first_of c, second_of c)) cs

-- how many of the choices treat a pair
abbrev pub treated_pair_count : List Choice → ℕ
treated_pair_count cs = course.treatment_count treats_pair cs

-- how many of the choices of all runs treat a pair
abbrev pub treated_pair_count_in : List (List Choice) → ℕ
treated_pair_count_in runs = course.treatment_count_in treats_pair runs

-- a choice stands at the end of the present run, and any other answer changes nothing
abbrev pub given_after : List (List Choice) → Result Next NoMemory → List (List Choice)
given_after runs (Ok (Choose c)) = with_choice runs c
given_after runs (Ok Complete) = runs
given_after runs (Ok Spent) = runs
given_after runs (Ok NoLawful) = runs
given_after runs (Err e) = runs

-- how many pairs the chooser treats in all its runs, whether it gives the choices that it keeps, and these, run by run
pub record Settings : Type 0 where
  pub budget : ℕ
  pub replays : Bool
  pub kept : List (List Choice)

-- a chooser that doesn't replay keeps nothing; one that does has given, in each run, a front of what it keeps for it
pub record IsPrefixOfKept (settings : Settings) (given : List (List Choice)) : Type 0 where
  pub keeps_none : settings.replays ≡ false → settings.kept ≡ []
  pub gives_kept : settings.replays ≡ true → (k : ℕ) → BeginsWith (get_or settings.kept k []) (get_or given k [])

-- ---- answers

-- a chooser with this budget treats no more pairs in all its runs
abbrev pub IsWithinBudget : List (List Choice) → ℕ → Choice → Type 0
IsWithinBudget given budget (Treat i j) = treated_pair_count_in given < budget
IsWithinBudget given budget (Skip i j via) = Unit {0}

-- no more pairs are treated than the budget has
abbrev pub AreWithinBudget : List (List Choice) → ℕ → Type 0
AreWithinBudget given budget = treated_pair_count_in given ≤ budget

-- a lawful choice that the budget allows; nothing is left to choose; the budget is spent; the next kept choice is absent or not lawful
abbrev pub IsChooserAnswer : List Term → List (ℕ × ℕ) → (given : List (List Choice)) → Settings → Next → Type 0
IsChooserAnswer leads listed given settings (Choose c) = (is_lawful leads listed c ≡ true) × IsWithinBudget given settings.budget c
IsChooserAnswer leads listed given settings Complete = AreAllListed leads listed
IsChooserAnswer leads listed given settings Spent = HasUnlisted leads listed × (settings.replays ≡ false) × (treated_pair_count_in given ≡ settings.budget)
IsChooserAnswer leads listed given settings NoLawful = HasUnlisted leads listed × (settings.replays ≡ true) × IfSome (next_kept settings.kept given) (λ c. is_lawful leads listed c ≡ false)
