use Rattle.std.proofs.Common.{rules, ◌≡◌, pos, ◌*ℤ◌, ◌-ℤ◌, neg_ℤ, FitsSigned, to_z, of_z, to_z-of_z, sym, ap, ◌∙◌, arith}
use mir.Syntax.{w128}
use Rattle.std.proofs.lemmas.Int.{ints}
use Rattle.ore_algebra.specs.Ring.{of_nat}
use Rattle.ore_algebra.proofs.Integers.{integers}
use Rattle.ore_commute.proofs.Steps.{shift_steps, delay_steps, step_on-shift, step_on-delay}
use Rattle.ore_commute.proofs.variables.added.Goals as goal

pub returns-in-Shift-clause-value : goal.returns-in-Shift-clause-value
returns-in-Shift-clause-value c =
    let fits : FitsSigned w128 c.steps.result = search rules in
    simp to_z-of_z (c.steps.ensures ∙ shift_steps c.args.exponent c.in-Shift.step
    ∙ ap (λ z. of_nat integers.ring c.args.exponent *ℤ z) (sym (step_on-shift c.in-Shift.on c.args.coordinate c.in-Shift.step c.args.kind c.in-Shift.is c.if-on-coordinate.true)))

pub returns-in-Delay-clause-value : goal.returns-in-Delay-clause-value
returns-in-Delay-clause-value c =
    let r = c.steps-in-Delay.result in
    let e : to_z w128 (of_z w128 (pos 0 -ℤ to_z w128 (of_z w128 c.steps-in-Delay.result))) ≡ neg_ℤ c.steps-in-Delay.result = omega (arith, ints) in
    e ∙ ap neg_ℤ c.steps-in-Delay.ensures ∙ delay_steps c.args.exponent c.in-Delay.step
    ∙ ap (λ z. of_nat integers.ring c.args.exponent *ℤ z) (sym (step_on-delay c.in-Delay.on c.args.coordinate c.in-Delay.step c.args.kind c.in-Delay.is c.if-on-coordinate-2.true))
