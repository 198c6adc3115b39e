-- How calls that follow a course of runs on matrices are proved: one lemma for each statement. `started`, `worked` and
-- `called` of ore_course serve where a statement has an answer; these serve where it has none.
--     work_halts, work_halts_last     forced work has stopped; that of the last statement
--     call_halts, call_halts_last     a call that follows a part of the course has halted; that of the last statement
use Rattle.std.proofs.Common.{ℕ, Bool, List}
use Rattle.std.specs.declared.result.Result.{Result}
use Rattle.ore_algebra.specs.Limits.{Cause, Overflow, Degree, program}
use Rattle.ore_course.specs.Choices.{Runner}
use Rattle.ore_course.specs.Course.{Course, ◌>>=◌, forced}
use Rattle.ore_course.specs.Following.{Follows, IsHaltedIn}
use Rattle.ore_course.specs.Leading.{Rule}
use Rattle.ore_course.proofs.Calls.{call_halted, call_halted_last, work_halted, work_halted_last}
use Rattle.ore_rational.specs.Field.{rationals}
use Rattle.ore_monomial.specs.Gives.{Fails}
use Rattle.ore_monomial.specs.Signature.{Signature}
use Rattle.ore_monomial.specs.declared.stop.RingStop.{RingStop}
use Rattle.ore_monomial.specs.declared.stop.RingStop.TheVariants as stop
use Rattle.ore_rows.specs.BasisLeads.{BasisLeads}
use Rattle.ore_rows.specs.declared.choices.Choice.{Choice}
use Rattle.ore_pairs.specs.Reached.{rule_of}
use Rattle.ore_pairs.specs.Run.{RunState}
use Rattle.ore_pairs.specs.Runner.{runner_within}
use Rattle.ore_groebner.specs.Choosing.{Settings}
use Rattle.ore_groebner.specs.Courses.{halt_in_course, HaltsIn}
use Rattle.ore_groebner.specs.Halting as halting
use Rattle.ore_groebner.specs.declared.outcome.Halt.{Halt}
use Rattle.ore_groebner.specs.declared.outcome.StopAt.TheVariants as at

module _ (s : Signature) (allows : BasisLeads → List (ℕ × ℕ) → Choice → Bool) (allows_spent : BasisLeads → List (ℕ × ℕ) → Bool) where
  abbrev rule : Rule (RunState rationals) Choice
  rule = rule_of s allows allows_spent

  abbrev R : Runner (RunState rationals) Choice
  R = runner_within program s

  module _ {Y : Type 0} {course : Course (RunState rationals) Y} {before : List (List Choice)} (given : List (List Choice)) (settings : Settings) where
    pub work_halts : {X : Type 0} (r : Result X Cause) (f : X → Course (RunState rationals) Y) (e : RingStop) → Fails e r → Follows R rule course before given (forced r >>= f)
        → HaltsIn s allows allows_spent course before given settings (halting.halt_of e at.Forced)
    unfolding IsHaltedIn
    work_halts r f stop.Overflow e h = work_halted R rule settings.budget settings.replays settings.kept r Overflow f e h
    work_halts r f stop.Degree e h = work_halted R rule settings.budget settings.replays settings.kept r Degree f e h
    work_halts r f stop.Memory e h = tt

    pub work_halts_last : (r : Result Y Cause) (e : RingStop) → Fails e r → Follows R rule course before given (forced r)
        → HaltsIn s allows allows_spent course before given settings (halting.halt_of e at.Forced)
    unfolding IsHaltedIn
    work_halts_last r stop.Overflow e h = work_halted_last R rule settings.budget settings.replays settings.kept r Overflow e h
    work_halts_last r stop.Degree e h = work_halted_last R rule settings.budget settings.replays settings.kept r Degree e h
    work_halts_last r stop.Memory e h = tt

    pub call_halts : {X : Type 0} {mid : List (List Choice)} (part : Course (RunState rationals) X) (f : X → Course (RunState rationals) Y) (h : Halt) → HaltsIn s allows allows_spent part mid given settings h
        → Follows R rule course before mid (part >>= f) → HaltsIn s allows allows_spent course before given settings h
    call_halts part f h k follows = call_halted R rule given settings.budget settings.replays settings.kept part f (halt_in_course h) k follows

    pub call_halts_last : {mid : List (List Choice)} (part : Course (RunState rationals) Y) (h : Halt) → HaltsIn s allows allows_spent part mid given settings h
        → Follows R rule course before mid part → HaltsIn s allows allows_spent course before given settings h
    call_halts_last part h k follows = call_halted_last R rule given settings.budget settings.replays settings.kept part (halt_in_course h) k follows
