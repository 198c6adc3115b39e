-- The last work of a search: forming the identities of its certificate.
--     memory_halts        want of memory is a halt of every course
--     certified_halts     an identity has stopped
--     certified_as        the certificate is what the course forms
use Rattle.std.proofs.Common.{◌≡◌, ℕ, Bool, List}
use Rattle.std.specs.declared.result.Result.TheVariants.{Ok, Err}
use Rattle.ore_algebra.specs.Limits.{program}
use Rattle.ore_course.specs.Following.{Follows, IsHaltedIn}
use Rattle.ore_course.proofs.Calls.{worked_last}
use Rattle.ore_monomial.specs.Signature.{Signature}
use Rattle.ore_monomial.specs.declared.stop.RingStop.{RingStop}
use Rattle.ore_monomial.specs.declared.stop.RingStop.TheVariants as stop
use Rattle.ore_rows.specs.BasisLeads.{BasisLeads}
use Rattle.ore_rows.specs.declared.choices.Choice.{Choice}
use Rattle.ore_pairs.specs.Reached.{rule_of}
use Rattle.ore_pairs.specs.Runner.{runner_within}
use Rattle.ore_cert.specs.declared.certificate.Certificate.{Certificate}
use Rattle.ore_blocks.specs.CheckBlock.{RowMatrix}
use Rattle.ore_blocks.specs.KernelCourse.{RunCourse}
use Rattle.ore_groebner.specs.Choosing.{Settings}
use Rattle.ore_groebner.specs.Courses.{FollowsTo, HaltsIn}
use Rattle.ore_groebner.specs.Halting.{halt_of}
use Rattle.ore_groebner.specs.declared.outcome.StopAt.TheVariants.{Forced}
use Rattle.ore_groebner.proofs.EngineCalls.{work_halts_last}
use Rattle.ore_check.specs.Check.{check, IsNoReport}
use Rattle.ore_check.specs.Plans.{IsFormed, formed_as, certified}

module _ (s : Signature) (allows : BasisLeads → List (ℕ × ℕ) → Choice → Bool) (allows_spent : BasisLeads → List (ℕ × ℕ) → Bool) where
  pub memory_halts : {X : Type 0} (course : RunCourse X) (before given : List (List Choice)) (settings : Settings) (e : RingStop) → e ≡ stop.Memory
      → HaltsIn s allows allows_spent course before given settings (halt_of e Forced)
  unfolding IsHaltedIn
  memory_halts course before given settings stop.Overflow h = absurd cc
  memory_halts course before given settings stop.Degree h = absurd cc
  memory_halts course before given settings stop.Memory h = tt

  -- a certificate of r, whose identities the course forms last
  module _ (course : RunCourse Certificate) (before given : List (List Choice)) (r : RowMatrix) (c : Certificate) (claims : IsNoReport c)
      (h : Follows (runner_within program s) (rule_of s allows allows_spent) course before given (certified program s r c claims)) where
    pub certified_halts : (settings : Settings) (e : RingStop) → IsFormed s r c (Err e) → HaltsIn s allows allows_spent course before given settings (halt_of e Forced)
    certified_halts settings e fails = work_halts_last s allows allows_spent given settings (formed_as c (check program s r c claims)) e (fails claims) h

    pub certified_as : (d : Certificate) → IsFormed s r c (Ok d) → FollowsTo s allows allows_spent course before given d
    certified_as d formed = worked_last (runner_within program s) (rule_of s allows allows_spent) (formed_as c (check program s r c claims)) d (formed claims) h
