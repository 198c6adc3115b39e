use Rattle.std.proofs.Common.{◌-◌, sym, ap, ◌∙◌, length, arith}
use Rattle.std.specs.List.{sum}
use Rattle.ore_monomial.specs.Monomial.{quotient, length-zip_with}
use Rattle.ore_monomial.proofs.Monomials.{sum-less}
use Rattle.ore_monomial.proofs.Seen.{divides_values, zip_with_of, from_values}
use Rattle.ore_monomial.proofs.exps.Exps.minus.Goals as goal

pub overflow_sub-result : goal.overflow_sub-result
overflow_sub-result c =
    let d = divides_values c.other.inside c.self.inside c.args.other.now c.args.self.now c.other.view_is c.other.invariant c.self.view_is c.self.invariant c.requires in
    let s = sum-less c.self.inside.values c.other.inside.values d in
    omega (arith, c.self.invariant.total, c.other.invariant.total)

pub less-requires : goal.less-requires
less-requires c = divides_values c.other.inside c.self.inside c.args.other.now c.args.self.now c.other.view_is c.other.invariant c.self.view_is c.self.invariant c.requires

pub invariant_of-result : goal.invariant_of-result
invariant_of-result c =
    let d = divides_values c.other.inside c.self.inside c.args.other.now c.args.self.now c.other.view_is c.other.invariant c.self.view_is c.self.invariant c.requires in
    let s = sum-less c.self.inside.values c.other.inside.values d in
    let is = ap sum c.less.ensures in
    record {
      twelve = ap length c.less.ensures ∙ length-zip_with ◌-◌ c.self.inside.values c.other.inside.values (c.self.told ∙ sym c.other.told) ∙ c.other.told;
      total = omega (arith, c.self.invariant.total, c.other.invariant.total);
      small = omega (arith, c.self.invariant.small);
    }

pub returns : goal.returns
unfolding quotient
returns c =
    from_values c.less.result (quotient c.args.self.now c.args.other.now)
    (ap length c.less.ensures ∙ length-zip_with ◌-◌ c.self.inside.values c.other.inside.values (c.self.told ∙ sym c.other.told) ∙ c.other.told)
    (c.less.ensures ∙ zip_with_of ◌-◌ c.self.inside c.other.inside c.args.self.now c.args.other.now c.self.view_is c.self.invariant c.other.view_is c.other.invariant)
