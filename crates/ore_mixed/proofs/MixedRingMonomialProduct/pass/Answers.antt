use Rattle.std.proofs.Common.{ap, ◌∙◌, subst}
use Rattle.ore_algebra.specs.Limits.{program}
use Rattle.ore_monomial.specs.Gives.{Gives}
use Rattle.ore_commute.specs.Product.{pass_within}
use Rattle.ore_commute.proofs.Within.{pass_small}
use Rattle.ore_mixed.proofs.MixedRingMonomialProduct.pass.Goals as goal

pub returns : goal.returns
returns c =
    subst (Gives (λ v. v.items) c.pass.result)
    (ap (λ s. pass_within program s c.args.left.now c.args.right.now) c.self.view_is ∙ pass_small c.args.self.now c.args.left.now c.args.right.now c.requires)
    c.pass.ensures
