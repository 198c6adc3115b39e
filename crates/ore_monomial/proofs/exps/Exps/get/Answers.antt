use Rattle.std.proofs.Common.{sym, ap, ◌∙◌}
use Rattle.ore_monomial.specs.Monomial.{exponent}
use Rattle.ore_monomial.proofs.Monomials.{seen_exponent}
use Rattle.ore_monomial.proofs.exps.Exps.get.Goals as goal

pub returns : goal.returns
returns c = sym (seen_exponent c.self.inside.values c.args.k c.self.told) ∙ ap (λ m. exponent m c.args.k) c.self.view_is
