-- Choices, and what they make of states. Neither is defined here: a runner has all that is known of them.
--     Refusal                   why a choice leads nowhere
--     Runner                    what a choice makes of a state, which states are complete, which choices are treatments
--     IsClosed                  a complete state has no lawful choice
--     cost, treatment_count, treatment_count_in  how many treatments a choice, some choices and some runs are
--     present, with_choice      the choices of the present run, which is the last; one more of them
--     but_last, without_last    choices without the last; the runs without the last choice of the last
--     next_kept                 of the kept choices the one whose turn it is
use Rattle.std.specs.Prelude.{◌≡◌, ℕ, ◌+◌, ◌-◌, Bool, true, cond, List, [], ◌∷◌, ◌++◌, length, get_or, slice_get}
use Rattle.std.specs.declared.option.Option.{Option}
use Rattle.std.specs.declared.result.Result.{Result}
use Rattle.std.specs.declared.result.Result.TheVariants.{Err}
use Rattle.ore_algebra.specs.Limits.{Cause}

-- the choice isn't lawful in the state to which it comes, or an operation stops for a cause
pub data Refusal : Type 0 where
  Unlawful : Refusal
  Stopped : Cause → Refusal

-- what a choice makes of a state, which states are complete, and which choices cost one of the budget
pub record Runner (S C : Type 0) : Type 0 where
  pub step : S → C → Result S Refusal
  pub is_complete : S → Bool
  pub is_treatment : C → Bool

module _ {S C : Type 0} (R : Runner S C) where
  -- in a complete state no choice is lawful
  abbrev pub IsClosed : Type 0
  IsClosed = (st : S) (c : C) → R.is_complete st ≡ true → R.step st c ≡ Err Unlawful

module _ {C : Type 0} (is_treatment : C → Bool) where
  -- a treatment costs one of the budget, and any other choice nothing
  unfoldable pub cost : C → ℕ
  cost c = cond (is_treatment c) 1 0

  -- how many of the choices are treatments
  unfoldable pub treatment_count : List C → ℕ
  treatment_count [] = 0
  treatment_count (c ∷ cs) = cost c + treatment_count cs

  -- how many of the choices of all runs are treatments
  unfoldable pub treatment_count_in : List (List C) → ℕ
  treatment_count_in [] = 0
  treatment_count_in (cs ∷ runs) = treatment_count cs + treatment_count_in runs

-- ---- runs, one list of choices for each run that was begun

module _ {C : Type 0} where
  -- the last run; none where there is no run
  unfoldable pub present : List (List C) → List C
  present [] = []
  present (cs ∷ []) = cs
  present (cs ∷ ds ∷ runs) = present (ds ∷ runs)

  -- the choice stands at the end of the last run
  unfoldable pub with_choice : List (List C) → C → List (List C)
  with_choice [] c = []
  with_choice (cs ∷ []) c = (cs ++ c ∷ []) ∷ []
  with_choice (cs ∷ ds ∷ runs) c = cs ∷ with_choice (ds ∷ runs) c

  -- all choices but the last
  unfoldable pub but_last : List C → List C
  but_last [] = []
  but_last (c ∷ []) = []
  but_last (c ∷ d ∷ cs) = c ∷ but_last (d ∷ cs)

  -- all runs, the last without its last choice
  unfoldable pub without_last : List (List C) → List (List C)
  without_last [] = []
  without_last (cs ∷ []) = but_last cs ∷ []
  without_last (cs ∷ ds ∷ runs) = cs ∷ without_last (ds ∷ runs)

  -- the kept choice at the place in the present run that comes next
  abbrev pub next_kept : List (List C) → List (List C) → Option C
  next_kept kept given = slice_get (get_or kept (length given - 1) []) (length (present given))
