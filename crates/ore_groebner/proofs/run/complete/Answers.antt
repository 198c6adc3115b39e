use Rattle.std.proofs.Common.{◌<◌, sym, ap, ◌∙◌, subst}
use Rattle.std.specs.declared.option.Option.{Option}
use Rattle.std.proofs.lemmas.Result.{err_from_is_err_and}
use Rattle.ore_rows.specs.declared.choices.Choice.{Choice}
use Rattle.ore_rows.specs.Reduction.{leads_of}
use Rattle.ore_groebner.specs.Choosing.{Settings, present, chosen_pairs}
use Rattle.ore_groebner.specs.Following.{earlier, given_with, IsNext, IsNextAllowed, IsLed}
use Rattle.ore_groebner.specs.Honest.{RuleAllowsEach}
use Rattle.ore_groebner.specs.RunProgress.{run_state}
use Rattle.ore_groebner.specs.BasisLeads.{BasisLeads, basis_leads, BeginsWithLeads}
use Rattle.ore_groebner.proofs.Bounding.{rows_left, left_smaller}
use Rattle.ore_groebner.proofs.Ending.{refusal_halts, refusal_spent, stop_halts, stop_not_spent}
use Rattle.ore_groebner.proofs.Given.{within_budget_next, with_choice-begun, present-with_choice, earlier-with_choice}
use Rattle.ore_groebner.proofs.Leading.{allowed_push, led_next}
use Rattle.ore_groebner.proofs.StateLeads.{grown_shown}
use Rattle.ore_groebner.proofs.Stepping.{step_longer}
use Rattle.ore_groebner.proofs.Unlisted.{unlisted}
use Rattle.ore_groebner.proofs.run.complete.Goals as goal

pub returns-in_err-choice-clause-halted : goal.returns-in_err-choice-clause-halted
returns-in_err-choice-clause-halted g c =
    let s = g.R.OreRing.sig c.args.ring.now in
    let a = c.args.a.now in
    let x = c.loop-progress.chooser in
    let p = err_from_is_err_and c.from_residual.result c.from_residual.ensures.1 in
    let h = refusal_halts s a g.C.Rule.allows c.loop-progress.progress (g.C.Chooser.given x) (g.C.Chooser.settings x) c.loop-progress.invariant.led _ c.in_err-choice.ensures.refusal in
    rw (p.1, p.2, c.in_err-choice.ensures.same, c.chosen.ensures.settings) h

pub returns-in_err-choice-clause-allowed : goal.returns-in_err-choice-clause-allowed
returns-in_err-choice-clause-allowed g c =
    let s = g.R.OreRing.sig c.args.ring.now in
    subst (λ runs. RuleAllowsEach s c.args.a.now g.C.Rule.allows (present runs)) (sym c.in_err-choice.ensures.same) c.loop-progress.invariant.led.allowed

pub returns-in_err-choice-clause-spent_allowed : goal.returns-in_err-choice-clause-spent_allowed
returns-in_err-choice-clause-spent_allowed g c =
    let s = g.R.OreRing.sig c.args.ring.now in
    let x = c.loop-progress in
    let p = err_from_is_err_and c.from_residual.result c.from_residual.ensures.1 in
    rw (p.1, p.2, c.in_err-choice.ensures.same) (refusal_spent s c.args.a.now g.C.Rule.allows x.progress (present (g.C.Chooser.given x.chooser)) x.invariant.led c.chosen.ensures.leads g.C.Rule.allows_spent _ c.in_err-choice.ensures.refusal_allowed)

pub returns-in_err-progress-clause-begun : goal.returns-in_err-progress-clause-begun
returns-in_err-progress-clause-begun g c =
    let given = g.C.Chooser.given c.loop-progress.chooser in
    let now = c.in_ok-choice.ensures.given ∙ ap (λ (o : Option Choice). given_with given o) c.in-Some.is in
    λ e. with_choice-begun given c.in-Some.choice c.loop-progress.invariant.begun (sym now ∙ e)

pub returns-in_err-progress-clause-earlier : goal.returns-in_err-progress-clause-earlier
returns-in_err-progress-clause-earlier g c =
    let given = g.C.Chooser.given c.loop-progress.chooser in
    let now = c.in_ok-choice.ensures.given ∙ ap (λ (o : Option Choice). given_with given o) c.in-Some.is in
    ap earlier now ∙ earlier-with_choice given c.in-Some.choice ∙ c.loop-progress.invariant.earlier

pub returns-in_err-progress-clause-halted : goal.returns-in_err-progress-clause-halted
returns-in_err-progress-clause-halted g c =
    let s = g.R.OreRing.sig c.args.ring.now in
    let i = c.loop-progress.invariant in
    let given = g.C.Chooser.given c.loop-progress.chooser in
    let now = c.in_ok-choice.ensures.given ∙ ap (λ (o : Option Choice). given_with given o) c.in-Some.is in
    let y = c.chosen.new.chooser in
    let p = err_from_is_err_and c.from_residual-in_err-progress.result c.from_residual-in_err-progress.ensures.1 in
    rw (p.1, p.2) (stop_halts s c.args.a.now g.C.Rule.allows c.loop-progress.progress (g.C.Chooser.given y) (g.C.Chooser.settings y) (present given) c.in-Some.choice i.led (ap present now ∙ present-with_choice given c.in-Some.choice i.begun) _ c.in_err-progress.ensures.halted)

pub returns-in_err-progress-clause-allowed : goal.returns-in_err-progress-clause-allowed
returns-in_err-progress-clause-allowed g c =
    let s = g.R.OreRing.sig c.args.ring.now in
    let i = c.loop-progress.invariant in
    let given = g.C.Chooser.given c.loop-progress.chooser in
    let p = c.loop-progress.progress in
    let now = c.in_ok-choice.ensures.given ∙ ap (λ (o : Option Choice). given_with given o) c.in-Some.is in
    let allowed = subst (λ (o : Option Choice). IsNextAllowed g.C.Rule.allows (basis_leads p.basis) (chosen_pairs (present given)) o) c.in-Some.is c.in_ok-choice.ensures.allowed in
    subst (RuleAllowsEach s c.args.a.now g.C.Rule.allows) (sym (ap present now ∙ present-with_choice given c.in-Some.choice i.begun)) (allowed_push s c.args.a.now g.C.Rule.allows (present given) c.in-Some.choice p i.led c.chosen.ensures.leads allowed)

pub returns-in_err-progress-clause-spent_allowed : goal.returns-in_err-progress-clause-spent_allowed
returns-in_err-progress-clause-spent_allowed g c =
    let s = g.R.OreRing.sig c.args.ring.now in
    let p = err_from_is_err_and c.from_residual-in_err-progress.result c.from_residual-in_err-progress.ensures.1 in
    rw (p.1, p.2) (λ e. absurd (stop_not_spent s (run_state c.loop-progress.progress) c.in-Some.choice _ c.in_err-progress.ensures.halted e))

pub loop-progress-smaller : goal.loop-progress-smaller
loop-progress-smaller g c =
    let s = g.R.OreRing.sig c.args.ring.now in
    let x = c.loop-progress.chooser in
    let given = g.C.Chooser.given x in
    let budget = (g.C.Chooser.settings x).budget in
    let p = c.loop-progress.progress in
    let q = c.in_ok-progress.progress in
    let e = c.in_ok-choice.ensures in
    let now = e.given ∙ ap (λ (o : Option Choice). given_with given o) c.in-Some.is in
    let next = subst (λ (o : Option Choice). IsNext (leads_of p.basis.items) p.listed given budget o) c.in-Some.is e.next in
    subst (λ n. n < unlisted p.listed (rows_left p.basis given budget)) (sym (λ k. unlisted q.listed (rows_left q.basis (now k) (c.chosen.ensures.settings k).budget))) (left_smaller s p q c.in-Some.choice given budget c.loop-progress.invariant.begun next.0 next.1 c.in_ok-progress.ensures.followed)

pub loop-progress-preserved : goal.loop-progress-preserved
loop-progress-preserved g c =
    let s = g.R.OreRing.sig c.args.ring.now in
    let a = c.args.a.now in
    let i = c.loop-progress.invariant in
    let given = g.C.Chooser.given c.loop-progress.chooser in
    let p = c.loop-progress.progress in
    let q = c.in_ok-progress.progress in
    let d = c.in-Some.choice in
    let e = c.in_ok-choice.ensures in
    let f = c.in_ok-progress.ensures.followed in
    let now = e.given ∙ ap (λ (o : Option Choice). given_with given o) c.in-Some.is in
    let allowed = subst (λ (o : Option Choice). IsNextAllowed g.C.Rule.allows (basis_leads p.basis) (chosen_pairs (present given)) o) c.in-Some.is e.allowed in
    let longer = step_longer s (run_state p) (run_state q) d f.made in
    let next = subst (λ (o : Option Choice). IsNext (leads_of p.basis.items) p.listed given (g.C.Chooser.settings c.loop-progress.chooser).budget o) c.in-Some.is e.next in
    record {
      begun = λ z. with_choice-begun given d i.begun (sym now ∙ z);
      led = subst (λ cs. IsLed s a g.C.Rule.allows cs q) (sym (ap present now ∙ present-with_choice given d i.begun)) (led_next s a g.C.Rule.allows (present given) d p q i.led c.chosen.ensures.leads allowed f);
      grown = subst (λ (shown : BasisLeads). BeginsWithLeads shown q.basis) (sym e.shown) (grown_shown s p q longer.0 i.led.fits f.fits c.chosen.ensures.leads c.cols-cols.ensures.leads longer.1);
      earlier = ap earlier now ∙ earlier-with_choice given d ∙ i.earlier;
      within_budget = λ h. within_budget_next given (g.C.Chooser.given c.chosen.new.chooser) (g.C.Chooser.settings c.loop-progress.chooser).budget (g.C.Chooser.settings c.chosen.new.chooser).budget d i.begun now (ap (λ (v : Settings). v.budget) c.chosen.ensures.settings) next.1 (i.within_budget h);
      settings = c.chosen.ensures.settings ∙ i.settings;
    }

pub returns-clause-allowed : goal.returns-clause-allowed
returns-clause-allowed g c =
    let s = g.R.OreRing.sig c.args.ring.now in
    let given = g.C.Chooser.given c.loop-progress.chooser in
    let now = c.in_ok-choice.ensures.given ∙ ap (λ (o : Option Choice). given_with given o) c.in_default.is in
    subst (λ runs. RuleAllowsEach s c.args.a.now g.C.Rule.allows (present runs)) (sym now) c.loop-progress.invariant.led.allowed

pub returns-in_err-progress-clause-within_budget : goal.returns-in_err-progress-clause-within_budget
returns-in_err-progress-clause-within_budget g c h =
    let x = c.loop-progress.chooser in
    let i = c.loop-progress.invariant in
    let p = c.loop-progress.progress in
    let given = g.C.Chooser.given x in
    let now = c.in_ok-choice.ensures.given ∙ ap (λ (o : Option Choice). given_with given o) c.in-Some.is in
    let next = subst (λ (o : Option Choice). IsNext (leads_of p.basis.items) p.listed given (g.C.Chooser.settings x).budget o) c.in-Some.is c.in_ok-choice.ensures.next in
    within_budget_next given (g.C.Chooser.given c.chosen.new.chooser) (g.C.Chooser.settings x).budget (g.C.Chooser.settings c.chosen.new.chooser).budget c.in-Some.choice i.begun now (ap (λ (v : Settings). v.budget) c.chosen.ensures.settings) next.1 (i.within_budget h)
