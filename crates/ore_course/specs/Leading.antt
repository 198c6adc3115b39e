-- What choices make of a course. They are given run by run, one list for each run that was begun.
--     Rule                    which choices may come in a state, and in which states the budget may be spent
--     shows_lawful            what a choice makes of a state shows that it is lawful
--     any_rule                the rule that every lawful choice may come, and the budget be spent while a run isn't complete
--     run, IsCompleteState    what choices make of a state, in order; nothing is left to choose
--     AreAllowed              a rule allows each choice of a run at its place
--     LeadsTo                 complete runs leave this much of a course
--     IsIn                    the last run that was begun is in this state
--     IsFormedBy              complete runs lead to the answer of a course
--     AreAllowedIn            a rule allows each choice of the runs of a course
--     IsFormedWithin          an answer is formed by a rule and within a budget
use Rattle.std.specs.Prelude.{◌≡◌, ℕ, ◌≤◌, Bool, true, false, not, List, [], ◌∷◌}
use Rattle.std.specs.declared.result.Result.{Result}
use Rattle.std.specs.declared.result.Result.TheVariants.{Ok, Err}
use Rattle.ore_course.specs.Choices.{Refusal, Unlawful, Stopped, Runner, treatment_count_in}
use Rattle.ore_course.specs.Course.{Course, Done, Stops, Runs}

-- which choices may come in a state, and in which states the budget may be spent
pub record Rule (S C : Type 0) : Type 0 where
  pub allows : S → C → Bool
  pub allows_spent : S → Bool

-- a choice that leads on is lawful, and so is one whose treatment stops
unfoldable pub shows_lawful : {S : Type 0} → Result S Refusal → Bool
shows_lawful (Ok next) = true
shows_lawful (Err Unlawful) = false
shows_lawful (Err (Stopped cause)) = true

module _ {S C : Type 0} (R : Runner S C) where
  -- every lawful choice may come, and the budget may be spent while something is left to choose
  abbrev pub any_rule : Rule S C
  any_rule = record { allows = λ st c. shows_lawful (R.step st c); allows_spent = λ st. not (R.is_complete st) }

  -- what choices make of a state, in order
  unfoldable pub run : S → List C → Result S Refusal
  run st [] = Ok st
  run st (c ∷ cs) = elim (R.step st c) [ Ok next ↦ run next cs | Err refusal ↦ Err refusal ]

  -- nothing is left to choose
  abbrev pub IsCompleteState : S → Type 0
  IsCompleteState st = R.is_complete st ≡ true

  -- the rule allows each choice, at its place in its run
  unfoldable pub AreAllowed : Rule S C → S → List C → Type 0
  AreAllowed rule st [] = Unit {0}
  AreAllowed rule st (c ∷ cs) = (rule.allows st c ≡ true) × ((next : S) → R.step st c ≡ Ok next → AreAllowed rule next cs)

  module _ {X : Type 0} where
    -- each list of choices leads to a complete state of the run that is next, and then this is left
    unfoldable pub LeadsTo : Course S X → List (List C) → Course S X → Type 0
    LeadsTo course [] rest = course ≡ rest
    LeadsTo (Runs first next) (cs ∷ runs) rest = (last : S) × (run first cs ≡ Ok last) × IsCompleteState last × LeadsTo (next last) runs rest
    LeadsTo (Done x) (cs ∷ runs) rest = ⊥
    LeadsTo (Stops cause) (cs ∷ runs) rest = ⊥

    -- each list but the last leads to a complete state, and the last leads to this state
    unfoldable pub IsIn : Course S X → List (List C) → S → Type 0
    IsIn (Runs first next) (cs ∷ []) st = run first cs ≡ Ok st
    IsIn (Runs first next) (cs ∷ ds ∷ runs) st = (last : S) × (run first cs ≡ Ok last) × IsCompleteState last × IsIn (next last) (ds ∷ runs) st
    IsIn course runs st = ⊥

    -- the course makes this answer of complete runs, one for each run of it
    abbrev pub IsFormedBy : Course S X → List (List C) → X → Type 0
    IsFormedBy course runs x = LeadsTo course runs (Done x)

    -- the rule allows each choice of each run
    unfoldable pub AreAllowedIn : Rule S C → Course S X → List (List C) → Type 0
    AreAllowedIn rule (Runs first next) (cs ∷ runs) = AreAllowed rule first cs × ((last : S) → run first cs ≡ Ok last → AreAllowedIn rule (next last) runs)
    AreAllowedIn rule course runs = Unit {0}

    -- the answer is formed by these runs, the rule allows each of their choices, and the budget all their treatments
    pub record IsFormedWithin (rule : Rule S C) (budget : ℕ) (course : Course S X) (runs : List (List C)) (x : X) : Type 0 where
      pub formed : IsFormedBy course runs x
      pub allowed : AreAllowedIn rule course runs
      pub within_budget : treatment_count_in R.is_treatment runs ≤ budget
