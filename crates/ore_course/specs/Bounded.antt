-- The runs of a course, complete but for the last, and numbers that they don't reach; rules with one choice.
--     AreRunsOf          some runs of a course, each but the last complete
--     IsShort            choices from a state are fewer than a number
--     AreShort           each run of a course has such a number
--     HasFewChoices      finitely many choices lead on from each state
--     HasBudget          a number that the treatments of the runs of a course don't reach together
--     Extends            a runner goes as far as another, and further where the other stops
--     IsCourseAtMost     a course is another, or stops on the way
--     IsStrict           a rule allows one choice at most
use Rattle.std.specs.Prelude.{◌≡◌, ◌≢◌, ℕ, ◌<◌, true, List, [], ◌∷◌, length}
use Rattle.std.specs.List.{Contains}
use Rattle.std.specs.declared.result.Result.TheVariants.{Ok}
use Rattle.ore_course.specs.Choices.{Runner, treatment_count_in}
use Rattle.ore_course.specs.Course.{Course, Done, Stops, Runs}
use Rattle.ore_course.specs.Leading.{Rule, run, IsCompleteState}

module _ {S C : Type 0} (R : Runner S C) where
  -- whatever choices lead on from the state, they are fewer than n
  abbrev pub IsShort : ℕ → S → Type 0
  IsShort n st = (cs : List C) (last : S) → run R st cs ≡ Ok last → length cs < n

  -- each choice that leads on from a state stands in a list of choices for this state
  abbrev pub HasFewChoices : Type 0
  HasFewChoices = (st : S) → (choices : List C) × ((c : C) (next : S) → R.step st c ≡ Ok next → Contains choices c)

  module _ {X : Type 0} where
    -- the choices of some runs of the course, in order; only the last may be incomplete
    unfoldable pub AreRunsOf : Course S X → List (List C) → Type 0
    AreRunsOf course [] = Unit {0}
    AreRunsOf (Runs first next) (cs ∷ runs) = (last : S) × (run R first cs ≡ Ok last) × (runs ≢ [] → IsCompleteState R last) × AreRunsOf (next last) runs
    AreRunsOf (Done x) (cs ∷ runs) = ⊥
    AreRunsOf (Stops cause) (cs ∷ runs) = ⊥

    -- each run that complete runs reach has a number that its choices don't reach
    unfoldable pub AreShort : Course S X → Type 0
    AreShort (Done x) = Unit {0}
    AreShort (Stops cause) = Unit {0}
    AreShort (Runs first next) = ((n : ℕ) × IsShort n first) × ((cs : List C) (last : S) → run R first cs ≡ Ok last → IsCompleteState R last → AreShort (next last))

    -- whatever is chosen, all runs together have fewer treatments than some number
    abbrev pub HasBudget : Course S X → Type 0
    HasBudget course = (bound : ℕ) × ((runs : List (List C)) → AreRunsOf course runs → treatment_count_in R.is_treatment runs < bound)

-- each choice that leads on by the first leads to the same state by the second; complete states and treatments are the same
pub record Extends {S C : Type 0} (R E : Runner S C) : Type 0 where
  pub follows : (st : S) (c : C) (next : S) → R.step st c ≡ Ok next → E.step st c ≡ Ok next
  pub same : (st : S) → R.is_complete st ≡ E.is_complete st
  pub treatments : (c : C) → R.is_treatment c ≡ E.is_treatment c

-- the first course is the second, or stops on the way
unfoldable pub IsCourseAtMost : {S X : Type 0} → Course S X → Course S X → Type 0
IsCourseAtMost (Stops cause) q = Unit {0}
IsCourseAtMost (Done x) (Done y) = x ≡ y
IsCourseAtMost (Done x) (Stops cause) = ⊥
IsCourseAtMost (Done x) (Runs first next) = ⊥
IsCourseAtMost (Runs first next) (Done y) = ⊥
IsCourseAtMost (Runs first next) (Stops cause) = ⊥
IsCourseAtMost {S} (Runs first next) (Runs other later) = (first ≡ other) × ((last : S) → IsCourseAtMost (next last) (later last))

-- one choice at most may come in a state, and where the budget may be spent that choice is a treatment
pub record IsStrict {S C : Type 0} (R : Runner S C) (rule : Rule S C) : Type 0 where
  pub one : (st : S) (c d : C) → rule.allows st c ≡ true → rule.allows st d ≡ true → c ≡ d
  pub treats_last : (st : S) (c : C) → rule.allows_spent st ≡ true → rule.allows st c ≡ true → R.is_treatment c ≡ true
