-- A run by a chooser as a call that follows a course (Following of ore_course). A call that makes several runs says the
-- same of its own course, so that calls can call each other.
--     last_of                  the last state of a complete run
--     place_in_course, halt_in_course  where an operation stopped, and why there is no answer, in the words of courses
--     FollowsTo                the choices given since lead a course to this answer
--     HaltsIn                  they lead to a state in which the call has to halt so
use Rattle.std.specs.Prelude.{ℕ, ◌-◌, Bool, List, length}
use Rattle.ore_algebra.specs.Limits.{program}
use Rattle.ore_algebra.specs.Limits as cause
use Rattle.ore_course.specs.Course.{Course, Done}
use Rattle.ore_course.specs.Following.{InForced, InChoice, Passed, Follows, IsHaltedIn}
use Rattle.ore_course.specs.Following as course
use Rattle.ore_rational.specs.Field.{rationals}
use Rattle.ore_monomial.specs.Signature.{Signature}
use Rattle.ore_rows.specs.BasisLeads.{BasisLeads}
use Rattle.ore_rows.specs.Stored.{rows_of}
use Rattle.ore_rows.specs.StoredBasis.{monics}
use Rattle.ore_rows.specs.declared.choices.Choice.{Choice}
use Rattle.ore_rows.specs.declared.choices.Choice.TheVariants.{Treat}
use Rattle.ore_pairs.specs.Reached.{rule_of}
use Rattle.ore_pairs.specs.Run.{RunState}
use Rattle.ore_pairs.specs.Runner.{runner_within}
use Rattle.ore_groebner.specs.Choosing.{Settings}
use Rattle.ore_groebner.specs.RunProgress.{entries_from, new_rows}
use Rattle.ore_groebner.specs.declared.outcome.Finished.{Finished}
use Rattle.ore_groebner.specs.declared.outcome.Halt.{Halt}
use Rattle.ore_groebner.specs.declared.outcome.Halt.TheVariants.{Overflow, Degree, Spent, NoLawful, Memory}
use Rattle.ore_groebner.specs.declared.outcome.StopAt.{StopAt}
use Rattle.ore_groebner.specs.declared.outcome.StopAt.TheVariants as at

-- the rows that its events didn't make were those of the first basis
abbrev pub last_of : Finished → RunState rationals
last_of f = record { basis = monics f.basis; listed = entries_from (length f.basis.items - new_rows f.events) f.events; syzygies = rows_of f.syzygies; origins = f.origins }

-- in forced work, or in the choice that treats this pair
abbrev pub place_in_course : StopAt → course.StopAt Choice
place_in_course at.Forced = InForced
place_in_course (at.Treat i j) = InChoice (Treat i j)

-- the same halt, where a passed limit is a cause at a place
abbrev pub halt_in_course : Halt → course.Halt Choice
halt_in_course (Overflow place) = Passed cause.Overflow (place_in_course place)
halt_in_course (Degree place) = Passed cause.Degree (place_in_course place)
halt_in_course Spent = course.Spent
halt_in_course NoLawful = course.NoLawful
halt_in_course Memory = course.Memory

module _ (s : Signature) (allows : BasisLeads → List (ℕ × ℕ) → Choice → Bool) (allows_spent : BasisLeads → List (ℕ × ℕ) → Bool) {X : Type 0} (course : Course (RunState rationals) X) (before given : List (List Choice)) where
  -- at the limits of the program; the rule allows each choice
  abbrev pub FollowsTo : X → Type 0
  FollowsTo x = Follows (runner_within program s) (rule_of s allows allows_spent) course before given (Done x)

  -- at the limits of the program; the rule allows each choice, the one that stops, and that the budget is spent
  abbrev pub HaltsIn : Settings → Halt → Type 0
  HaltsIn settings halt = IsHaltedIn (runner_within program s) (rule_of s allows allows_spent) course before given settings.budget settings.replays settings.kept (halt_in_course halt)
