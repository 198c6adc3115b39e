-- A run that follows the choices of a chooser.
--     earlier                 all runs but the last
--     given_with              the runs with one more choice, or as they were
--     IsNext                  what is known where a choice comes next, or none is left
--     IsNextAllowed           a rule allows the choice
--     IsChooserRefusal        why no choice comes, though a pair is left
--     IsRefusalAllowed        a rule allows it
--     state_after_choice      what a choice makes of a state
--     IsFollowed              what a choice makes of the progress
--     IsStopIn, IsStopOf      why following a choice halts
--     IsLed                   some choices lead to the progress
use Rattle.std.specs.Prelude.{◌≡◌, ℕ, Bool, true, List, [], ◌∷◌, length}
use Rattle.std.specs.declared.option.Option.{Option}
use Rattle.std.specs.declared.option.Option.TheVariants.{None, Some}
use Rattle.std.specs.declared.result.Result.{Result}
use Rattle.std.specs.declared.result.Result.TheVariants.{Ok, Err}
use Rattle.ore_algebra.specs.Limits.{Cause, program}
use Rattle.ore_algebra.specs.Limits as cause
use Rattle.ore_rational.specs.Field.{rationals, rational_inverses}
use Rattle.ore_monomial.specs.Signature.{Signature}
use Rattle.ore_monomial.specs.Term.{Term}
use Rattle.ore_rows.specs.Arithmetic.{within}
use Rattle.ore_pairs.specs.PairRule.{HaveSamePairs, is_lawful, AreAllListed}
use Rattle.ore_pairs.specs.Run.{RunState, Refusal, Stopped}
use Rattle.ore_pairs.specs.Run as run
use Rattle.ore_rows.specs.Stored.{OperatorMatrix}
use Rattle.ore_rows.specs.declared.choices.Choice.{Choice}
use Rattle.ore_rows.specs.declared.choices.Choice.TheVariants as choice
use Rattle.ore_groebner.specs.Choosing.{first_of, second_of, chosen_pairs, with_choice, Settings, IsWithinBudget, IsChooserAnswer}
use Rattle.ore_groebner.specs.Honest.{first_state, state_after, RuleAllowsEach}
use Rattle.ore_groebner.specs.RunProgress.{run_state, choices_of, IsProgressOf, HasShapeOf}
use Rattle.ore_groebner.specs.BasisLeads.{BasisLeads}
use Rattle.ore_groebner.specs.declared.chooser.Next.TheVariants as next
use Rattle.ore_groebner.specs.declared.outcome.Halt.{Halt}
use Rattle.ore_groebner.specs.declared.outcome.Halt.TheVariants as halt
use Rattle.ore_groebner.specs.declared.outcome.StopAt.{StopAt}
use Rattle.ore_groebner.specs.declared.outcome.StopAt.TheVariants as at
use Rattle.ore_groebner.specs.declared.progress.Progress.{Progress}

-- ---- the next choice

unfoldable pub earlier : List (List Choice) → List (List Choice)
earlier [] = []
earlier (cs ∷ []) = []
earlier (cs ∷ ds ∷ runs) = cs ∷ earlier (ds ∷ runs)

abbrev pub given_with : List (List Choice) → Option Choice → List (List Choice)
given_with runs None = runs
given_with runs (Some c) = with_choice runs c

-- a lawful choice that the budget allows, or nothing is left
abbrev pub IsNext : List Term → List (ℕ × ℕ) → List (List Choice) → ℕ → Option Choice → Type 0
IsNext leads listed given budget None = AreAllListed leads listed
IsNext leads listed given budget (Some c) = (is_lawful leads listed c ≡ true) × IsWithinBudget given budget c

abbrev pub IsNextAllowed : (BasisLeads → List (ℕ × ℕ) → Choice → Bool) → BasisLeads → List (ℕ × ℕ) → Option Choice → Type 0
IsNextAllowed allows shown ps None = Unit {0}
IsNextAllowed allows shown ps (Some c) = allows shown ps c ≡ true

-- the budget is spent, or the next kept choice is absent or not lawful, or memory ran out
abbrev pub IsChooserRefusal : List Term → List (ℕ × ℕ) → List (List Choice) → Settings → Halt → Type 0
IsChooserRefusal leads listed given settings halt.Spent = IsChooserAnswer leads listed given settings next.Spent
IsChooserRefusal leads listed given settings halt.NoLawful = IsChooserAnswer leads listed given settings next.NoLawful
IsChooserRefusal leads listed given settings halt.Memory = Unit {0}
IsChooserRefusal leads listed given settings (halt.Overflow place) = ⊥
IsChooserRefusal leads listed given settings (halt.Degree place) = ⊥

-- the budget is spent only where a rule allows it
abbrev pub IsRefusalAllowed : (BasisLeads → List (ℕ × ℕ) → Bool) → BasisLeads → List (ℕ × ℕ) → Halt → Type 0
IsRefusalAllowed allows_spent shown ps halt.Spent = allows_spent shown ps ≡ true
IsRefusalAllowed allows_spent shown ps halt.NoLawful = Unit {0}
IsRefusalAllowed allows_spent shown ps halt.Memory = Unit {0}
IsRefusalAllowed allows_spent shown ps (halt.Overflow place) = Unit {0}
IsRefusalAllowed allows_spent shown ps (halt.Degree place) = Unit {0}

-- ---- a choice that is followed

abbrev pub state_after_choice : Signature → RunState rationals → Choice → Result (RunState rationals) Refusal
state_after_choice s st c = run.step rationals rational_inverses s.order (within program s) st c

-- the state is the one that the choice makes, and what is kept fits it; one pair is added, in one more event
pub record IsFollowed (s : Signature) (p : Progress) (c : Choice) (q : Progress) : Type 0 where
  pub made : state_after_choice s (run_state p) c ≡ Ok (run_state q)
  pub fits : IsProgressOf s q
  pub shape : HasShapeOf p c q
  pub listed : HaveSamePairs q.listed ((first_of c, second_of c) ∷ p.listed)

-- the choice treats the pair of the place, which stops
abbrev pub IsStopIn : Signature → RunState rationals → Choice → Cause → StopAt → Type 0
IsStopIn s st c k at.Forced = ⊥
IsStopIn s st c k (at.Treat i j) = (c ≡ choice.Treat i j) × (state_after_choice s st c ≡ Err (Stopped k))

abbrev pub IsStopOf : Signature → RunState rationals → Choice → Halt → Type 0
IsStopOf s st c (halt.Overflow place) = IsStopIn s st c cause.Overflow place
IsStopOf s st c (halt.Degree place) = IsStopIn s st c cause.Degree place
IsStopOf s st c halt.Spent = ⊥
IsStopOf s st c halt.NoLawful = ⊥
IsStopOf s st c halt.Memory = Unit {0}

-- ---- some choices

-- the choices lead from the first state of a run on a to that of the progress, and are allowed; what is kept fits them
pub record IsLed (s : Signature) (a : OperatorMatrix) (allows : BasisLeads → List (ℕ × ℕ) → Choice → Bool) (choices : List Choice) (p : Progress) : Type 0 where
  pub start : RunState rationals
  pub begun : first_state s a ≡ Ok start
  pub led : state_after s a start choices ≡ Ok (run_state p)
  pub fits : IsProgressOf s p
  pub lists : HaveSamePairs p.listed (chosen_pairs choices)
  pub events : choices_of p.events.items ≡ choices
  pub first : p.first ≡ length start.basis
  pub cols : p.basis.cols ≡ a.cols
  pub width : p.basis.width ≡ length a.rows
  pub allowed : RuleAllowsEach s a allows choices
