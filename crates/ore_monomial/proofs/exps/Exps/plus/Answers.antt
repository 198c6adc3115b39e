use Rattle.std.proofs.Common.{◌+◌, sym, ap, ap₂, ◌∙◌, arith, length}
use Rattle.std.specs.List.{sum}
use Rattle.ore_monomial.specs.Monomial.{product, length-zip_with}
use Rattle.ore_monomial.proofs.Monomials.{sum-added}
use Rattle.ore_monomial.proofs.Seen.{total_is, zip_with_of, from_values}
use Rattle.ore_monomial.proofs.exps.Exps.plus.Goals as goal

pub returns-then-self-other-gt-MOST : goal.returns-then-self-other-gt-MOST
returns-then-self-other-gt-MOST c h =
    let a = total_is c.self.inside c.args.self.now c.self.view_is c.self.invariant in
    let b = total_is c.other.inside c.args.other.now c.other.view_is c.other.invariant in
    omega arith

pub invariant_of-result : goal.invariant_of-result
invariant_of-result c = record {
  twelve = ap length c.added.ensures ∙ length-zip_with ◌+◌ c.self.inside.values c.other.inside.values (c.self.told ∙ sym c.other.told) ∙ c.other.told;
  total = ap₂ ◌+◌ c.self.invariant.total c.other.invariant.total ∙ sym (ap sum c.added.ensures ∙ sum-added c.self.inside.values c.other.inside.values (c.self.told ∙ sym c.other.told));
  small = c.if-self-other-gt-MOST.false;
}

pub returns : goal.returns
unfolding product
returns c =
    let a = total_is c.self.inside c.args.self.now c.self.view_is c.self.invariant in
    let b = total_is c.other.inside c.args.other.now c.other.view_is c.other.invariant in (
      omega arith,
      from_values c.added.result (product c.args.self.now c.args.other.now)
          (ap length c.added.ensures ∙ length-zip_with ◌+◌ c.self.inside.values c.other.inside.values (c.self.told ∙ sym c.other.told) ∙ c.other.told)
          (c.added.ensures ∙ zip_with_of ◌+◌ c.self.inside c.other.inside c.args.self.now c.args.other.now c.self.view_is c.self.invariant c.other.view_is c.other.invariant),
    )
