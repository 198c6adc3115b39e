use Rattle.std.proofs.Common.{sym, ◌∙◌}
use Rattle.ore_monomial.proofs.Seen.{divides_values, values_divide, all_at_most_true}
use Rattle.ore_monomial.proofs.exps.Exps.divides.Goals as goal

pub returns : goal.returns
returns c =
    let test = all_at_most_true c.self.inside.values c.other.inside.values (c.self.told ∙ sym c.other.told) in
    let same = c.are_at_most.ensures in (
      λ t. values_divide c.self.inside c.other.inside c.args.self.now c.args.other.now c.self.view_is c.self.invariant c.other.view_is c.other.invariant (test.0 (sym same ∙ t)),
      λ d. same ∙ test.1 (divides_values c.self.inside c.other.inside c.args.self.now c.args.other.now c.self.view_is c.self.invariant c.other.view_is c.other.invariant d),
    )
