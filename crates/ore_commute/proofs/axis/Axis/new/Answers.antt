use Rattle.std.proofs.Common.{unwrap_or, lit≤, ap, ◌∙◌, arith}
use Rattle.ore_algebra.proofs.Integers.{integers}
use Rattle.ore_monomial.specs.Monomial.{exponent}
use Rattle.ore_monomial.specs.Signature.{is_coordinate}
use Rattle.ore_monomial.proofs.Monomials.{exponent_past, exponent-degree}
use Rattle.ore_commute.proofs.Axes.{not_both}
use Rattle.ore_commute.proofs.axis.Axis.new.Goals as goal

pub invariant_of-result : goal.invariant_of-result
invariant_of-result c =
    let s = c.args.signature.now in
    let t = c.args.coordinate in
    let index = c.differential_of-operator.ensures.index in
    let l = exponent-degree c.args.left.now (unwrap_or c.differential_of-operator.result 12) in
    let r = exponent-degree c.args.right.now c.args.coordinate in
    record {
      within = c.requires.within;
      declared = c.differential_of-operator.ensures.within;
      apart = λ e. not_both integers s t t (omega arith) (ap is_coordinate c.requires.kind) (e ∙ index);
      idle = λ e. c.exponent_of-spent.ensures ∙ ap (exponent c.args.left.now) e ∙ exponent_past 12 c.args.left.now (lit≤ tt);
      small = omega arith;
    }
