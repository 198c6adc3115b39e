use Rattle.std.proofs.Common.{refl, sym, ap, ◌∙◌, subst, arith}
use Rattle.std.proofs.lemmas.Result.{err_from_is_err_and}
use Rattle.std.specs.List.{All}
use Rattle.ore_ring.specs.Belongs.{Belongs}
use Rattle.ore_monomial.specs.Signature.{Signature}
use Rattle.ore_rational.specs.Field.{rationals}
use Rattle.ore_rows.specs.Reduction.{leads_of}
use Rattle.ore_pairs.specs.Run.{from_rows}
use Rattle.ore_rows.specs.Stored.{OperatorMatrix, rows_of}
use Rattle.ore_groebner.specs.Choosing.{Settings, present}
use Rattle.ore_groebner.specs.Following.{earlier, IsLed}
use Rattle.ore_groebner.specs.RunProgress.{run_state}
use Rattle.ore_groebner.specs.BasisLeads.{BasisLeads, BeginsWithLeads}
use Rattle.ore_groebner.proofs.Ending.{led_honest, runs_after}
use Rattle.ore_groebner.proofs.Given.{present-start, one_more, within_budget_start}
use Rattle.ore_course.specs.Following.{IsHaltedIn}
use Rattle.ore_groebner.proofs.Leading.{led_start}
use Rattle.ore_groebner.proofs.RunCourses.{last_led, run_answered, run_halted, forced_halts}
use Rattle.ore_groebner.proofs.run.run.Goals as goal

pub complete-requires-clause-led : goal.complete-requires-clause-led
complete-requires-clause-led g c =
    let s = g.R.OreRing.sig c.args.ring.now in
    let a = c.args.a.now in
    let p = c.in-Ok.progress in
    let e = c.in-Ok.ensures in
    subst (λ cs. IsLed s a g.C.Rule.allows cs p) (sym (ap present c.in-Ok-start_run.ensures.begun ∙ present-start (g.C.Chooser.given c.args.chooser.now)))
    (led_start s a g.C.Rule.allows p e.gives e.fits e.begun e.first.0 e.cols e.width)

pub complete-requires-clause-grown : goal.complete-requires-clause-grown
complete-requires-clause-grown g c =
    let basis = c.in-Ok.progress.basis in
    subst (λ (shown : BasisLeads). BeginsWithLeads shown basis) (sym c.in-Ok-start_run.ensures.no_leads) ((leads_of basis.items, refl), λ n. absurd (n refl))

pub from_matrix-requires-clause-few : goal.from_matrix-requires-clause-few
from_matrix-requires-clause-few g c = c.len-rows.ensures.few

pub finished-requires-clause-few : goal.finished-requires-clause-few
finished-requires-clause-few g c =
    let width = c.in_ok-progress.ensures.led.width in
    let value = c.rows-rows.ensures.value in
    let few = c.rows-rows.ensures.few in
    omega arith

pub returns-clause-honest : goal.returns-clause-honest
returns-clause-honest g c =
    let s = g.R.OreRing.sig c.args.ring.now in
    let a = c.args.a.now in
    let p = c.in_ok-progress.progress in
    let e = c.in-Ok-from_matrix.ensures in
    let f = c.finished.ensures in
    led_honest s a g.C.Rule.allows p (present (g.C.Chooser.given c.complete.new.chooser)) c.in_ok-progress.ensures.led c.in_ok-progress.ensures.listed c.len-rows.result c.len-rows.ensures.value c.finished.result (record {
      basis = f.basis;
      events = f.events;
      syzygies = f.syzygies;
      origins = f.origins;
      from = ap rows_of f.from ∙ e.value ∙ ap (λ (v : Signature). from_rows rationals v.order c.len-rows.result 0 (rows_of a)) c.signature.ensures;
      from_cols = ap (λ (m : OperatorMatrix). m.cols) f.from ∙ e.cols;
      from_of = subst (λ (m : OperatorMatrix). All (All (Belongs s)) m.rows) (sym f.from) (subst (λ (v : Signature). All (All (Belongs v)) c.in-Ok-from_matrix.from.rows) c.signature.ensures e.of);
    })

pub returns-in_err-progress-clause-within_budget : goal.returns-in_err-progress-clause-within_budget
returns-in_err-progress-clause-within_budget g c h =
    let x = c.args.chooser.now in
    let y = c.start_run.new.self in
    c.complete.ensures.within_budget (within_budget_start (g.C.Chooser.given x) (g.C.Chooser.given y) (g.C.Chooser.settings x).budget (g.C.Chooser.settings y).budget c.in-Ok-start_run.ensures.begun (ap (λ (v : Settings). v.budget) c.start_run.ensures.settings) h)

pub returns-in_default-from_matrix-clause-within_budget : goal.returns-in_default-from_matrix-clause-within_budget
returns-in_default-from_matrix-clause-within_budget g c h =
    let x = c.args.chooser.now in
    let y = c.start_run.new.self in
    c.complete.ensures.within_budget (within_budget_start (g.C.Chooser.given x) (g.C.Chooser.given y) (g.C.Chooser.settings x).budget (g.C.Chooser.settings y).budget c.in-Ok-start_run.ensures.begun (ap (λ (v : Settings). v.budget) c.start_run.ensures.settings) h)

pub returns-clause-within_budget : goal.returns-clause-within_budget
returns-clause-within_budget g c h =
    let x = c.args.chooser.now in
    let y = c.start_run.new.self in
    c.complete.ensures.within_budget (within_budget_start (g.C.Chooser.given x) (g.C.Chooser.given y) (g.C.Chooser.settings x).budget (g.C.Chooser.settings y).budget c.in-Ok-start_run.ensures.begun (ap (λ (v : Settings). v.budget) c.start_run.ensures.settings) h)

pub returns-in-Err-clause-halts : goal.returns-in-Err-clause-halts
returns-in-Err-clause-halts g c =
    let x = c.args.chooser.now in
    let given = g.C.Chooser.given x in
    forced_halts (g.R.OreRing.sig c.args.ring.now) g.C.Rule.allows g.C.Rule.allows_spent c.args.a.now given given refl (g.C.Chooser.settings x) _ c.halt_at.result c.halt_at.ensures c.in-Err.ensures.gives

pub returns-in_default-clause-halts : goal.returns-in_default-clause-halts
unfolding IsHaltedIn
returns-in_default-clause-halts g c = tt

pub returns-in_err-progress-clause-halts : goal.returns-in_err-progress-clause-halts
returns-in_err-progress-clause-halts g c =
    let s = g.R.OreRing.sig c.args.ring.now in
    let x = c.complete.new.chooser in
    let before = g.C.Chooser.given c.args.chooser.now in
    let given = g.C.Chooser.given x in
    let halted = c.in_err-progress.ensures.halted in
    let more = one_more before given c.complete.ensures.begun (c.complete.ensures.earlier ∙ ap earlier c.in-Ok-start_run.ensures.begun) in
    let runs = runs_after s c.args.a.now g.C.Rule.allows c.in-Ok.progress before given (run_state c.in-Ok.progress) c.in-Ok.ensures.gives more (g.C.Chooser.settings x) _ halted in
    let e = err_from_is_err_and c.from_residual.result c.from_residual.ensures.1 in
    rw (e.1, e.2) (run_halted s g.C.Rule.allows g.C.Rule.allows_spent c.args.a.now before given (g.C.Chooser.settings x) _ halted runs (λ _. c.complete.ensures.allowed) c.in_err-progress.ensures.spent_allowed)

pub returns-in_default-from_matrix-clause-halts : goal.returns-in_default-from_matrix-clause-halts
unfolding IsHaltedIn
returns-in_default-from_matrix-clause-halts g c = tt

pub returns-clause-answered : goal.returns-clause-answered
returns-clause-answered g c =
    let s = g.R.OreRing.sig c.args.ring.now in
    let p = c.in_ok-progress.progress in
    let led = c.in_ok-progress.ensures.led in
    let f = c.finished.ensures in
    run_answered s g.C.Rule.allows g.C.Rule.allows_spent c.args.a.now (g.C.Chooser.given c.args.chooser.now) (g.C.Chooser.given c.complete.new.chooser) p c.finished.result led c.in_ok-progress.ensures.listed
    (last_led s p c.finished.result led.fits f.basis f.events (ap rows_of f.syzygies) f.origins)
    (one_more (g.C.Chooser.given c.args.chooser.now) (g.C.Chooser.given c.complete.new.chooser) c.complete.ensures.begun (c.complete.ensures.earlier ∙ ap earlier c.in-Ok-start_run.ensures.begun))
