-- The code of kernels follows its course.
--     memory_halts               want of memory is a halt of every course
--     stop_halts                 so is a stop of forced work
--     after_adjoint, after_run   what is left of the course of a right kernel after its first and second statement
--     begun, adjoint_formed, run_answered, run_halted, answered     the statements in order
use Rattle.std.proofs.Common.{◌≡◌, ℕ, Bool, List}
use Rattle.std.specs.declared.result.Result.{Result}
use Rattle.std.specs.declared.result.Result.TheVariants.{Ok}
use Rattle.ore_algebra.specs.Limits.{Cause, program}
use Rattle.ore_course.specs.Choices.{Runner}
use Rattle.ore_course.specs.Course.{◌>>=◌, forced, Done}
use Rattle.ore_course.specs.Following.{Follows, IsHaltedIn, Memory}
use Rattle.ore_course.specs.Leading.{Rule}
use Rattle.ore_course.proofs.Calls.{started, worked, called, work_halted, call_halted}
use Rattle.ore_rational.specs.Field.{rationals}
use Rattle.ore_monomial.specs.Gives.{Fails}
use Rattle.ore_monomial.specs.Signature.{Signature}
use Rattle.ore_monomial.specs.declared.stop.RingStop.{RingStop}
use Rattle.ore_monomial.specs.declared.stop.RingStop.TheVariants as stop
use Rattle.ore_rows.specs.BasisLeads.{BasisLeads}
use Rattle.ore_rows.specs.declared.choices.Choice.{Choice}
use Rattle.ore_pairs.specs.Reached.{rule_of}
use Rattle.ore_pairs.specs.Run.{RunState}
use Rattle.ore_pairs.specs.Runner.{runner_within}
use Rattle.ore_blocks.specs.CheckBlock.{RowMatrix}
pub use Rattle.ore_blocks.proofs.TransposedAdjoints.{adjoint_value, adjoint_stop}
use Rattle.ore_blocks.specs.KernelCourse.{RunCourse, RightKernel, syzygies_of, run_on, transposed_adjoint_within, right_kernel}
use Rattle.ore_groebner.specs.Choosing.{Settings}
use Rattle.ore_groebner.specs.Courses.{FollowsTo, HaltsIn}
use Rattle.ore_groebner.specs.Halting.{halt_of}
use Rattle.ore_groebner.specs.declared.outcome.Halt.{Halt}
use Rattle.ore_groebner.specs.declared.outcome.StopAt.TheVariants.{Forced}

module _ (s : Signature) (allows : BasisLeads → List (ℕ × ℕ) → Choice → Bool) (allows_spent : BasisLeads → List (ℕ × ℕ) → Bool) where
  abbrev runner : Runner (RunState rationals) Choice
  runner = runner_within program s

  abbrev rule : Rule (RunState rationals) Choice
  rule = rule_of s allows allows_spent

  module _ {X : Type 0} (course : RunCourse X) (before given : List (List Choice)) (settings : Settings) where
    pub memory_halts : IsHaltedIn runner rule course before given settings.budget settings.replays settings.kept Memory
    unfolding IsHaltedIn
    memory_halts = tt

    pub stop_halts : {Y : Type 0} (r : Result Y Cause) (f : Y → RunCourse X) (e : RingStop) → Fails e r → Follows runner rule course before given (forced r >>= f) → HaltsIn s allows allows_spent course before given settings (halt_of e Forced)
    stop_halts r f stop.Overflow fails h = work_halted runner rule settings.budget settings.replays settings.kept r _ f fails h
    stop_halts r f stop.Degree fails h = work_halted runner rule settings.budget settings.replays settings.kept r _ f fails h
    stop_halts r f stop.Memory fails h = memory_halts

  module _ (r : RowMatrix) (before : List (List Choice)) where
    -- of the transposed adjoint and of the last state of its run, the transposed adjoint of the syzygies is left
    abbrev pub after_run : RowMatrix → RunState rationals → RunCourse RightKernel
    after_run adjoint last = forced (transposed_adjoint_within program s (syzygies_of adjoint last)) >>= (λ generators. Done (record { adjoint = adjoint; last = last; generators = generators }))

    abbrev pub after_adjoint : RowMatrix → RunCourse RightKernel
    after_adjoint adjoint = run_on program s adjoint >>= after_run adjoint

    pub begun : Follows runner rule (right_kernel program s r) before before (forced (transposed_adjoint_within program s r) >>= after_adjoint)
    unfolding right_kernel
    begun = started runner rule (right_kernel program s r) before

    module _ (adjoint : RowMatrix) (formed : transposed_adjoint_within program s r ≡ Ok adjoint) where
      pub adjoint_formed : Follows runner rule (right_kernel program s r) before before (after_adjoint adjoint)
      adjoint_formed = worked runner rule (transposed_adjoint_within program s r) adjoint after_adjoint formed begun

      pub run_halted : (given : List (List Choice)) (settings : Settings) (halt : Halt) → HaltsIn s allows allows_spent (run_on program s adjoint) before given settings halt
          → HaltsIn s allows allows_spent (right_kernel program s r) before given settings halt
      run_halted given settings halt h = call_halted runner rule given settings.budget settings.replays settings.kept (run_on program s adjoint) (after_run adjoint) _ h adjoint_formed

      module _ (given : List (List Choice)) (last : RunState rationals) (led : FollowsTo s allows allows_spent (run_on program s adjoint) before given last) where
        pub run_answered : Follows runner rule (right_kernel program s r) before given (after_run adjoint last)
        run_answered = called runner rule (run_on program s adjoint) last (after_run adjoint) led adjoint_formed

        pub answered : (generators : RowMatrix) → transposed_adjoint_within program s (syzygies_of adjoint last) ≡ Ok generators → FollowsTo s allows allows_spent (right_kernel program s r) before given (record { adjoint = adjoint; last = last; generators = generators })
        answered generators e = worked runner rule (transposed_adjoint_within program s (syzygies_of adjoint last)) generators (λ generators. Done (record { adjoint = adjoint; last = last; generators = generators })) e run_answered
