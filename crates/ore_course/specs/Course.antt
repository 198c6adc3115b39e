-- Courses: forced work and runs, in order. A run has free choices, and what follows depends on the state to which they
-- lead. Such a tree of interactions and answers is a free monad (Swierstra 2008; interaction structures: Hancock and
-- Setzer 2000).
--     Course           an answer, a stop of forced work, or a run and what follows its last state
--     ◌>>=◌            a course that goes on with the answer of one before
--     forced           forced work, which gives a value or stops
--     run_from         a run from its first state; the answer is its last state
use Rattle.std.specs.declared.result.Result.{Result}
use Rattle.std.specs.declared.result.Result.TheVariants.{Ok, Err}
use Rattle.ore_algebra.specs.Limits.{Cause}

-- all is done, or the forced work that is next stops, or a run begins in this state
pub data Course (S X : Type 0) : Type 0 where
  Done : X → Course S X
  Stops : Cause → Course S X
  Runs : S → (S → Course S X) → Course S X

-- first the one course, and then what is made of its answer
infixl 10 ◌>>=◌
unfoldable pub ◌>>=◌ : {S X Y : Type 0} → Course S X → (X → Course S Y) → Course S Y
(Done x) >>= f = f x
(Stops cause) >>= f = Stops cause
(Runs first next) >>= f = Runs first (λ last. next last >>= f)

-- a value is done, and a cause stops
unfoldable pub forced : {S X : Type 0} → Result X Cause → Course S X
forced (Ok x) = Done x
forced (Err cause) = Stops cause

-- the first state is made by forced work; then come the choices
unfoldable pub run_from : {S : Type 0} → Result S Cause → Course S S
run_from first = forced first >>= (λ st. Runs st Done)
