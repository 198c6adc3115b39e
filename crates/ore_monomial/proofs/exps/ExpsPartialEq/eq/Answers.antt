use Rattle.std.proofs.Common.{ap, ap₂, ◌∙◌, is_eq, nat_cmp}
use Rattle.std.specs.Cmp.Lexicographic.{slice_cmp}
use Rattle.ore_monomial.specs.Monomial.{plain_cmp}
use Rattle.ore_monomial.proofs.Seen.{values_are}
use Rattle.ore_monomial.proofs.exps.ExpsPartialEq.eq.Goals as goal

pub returns : goal.returns
unfolding plain_cmp
returns c = c.is_eq.ensures ∙ ap is_eq (c.cmp.ensures ∙ ap₂ (slice_cmp nat_cmp) (values_are c.self.inside c.args.self.now c.self.view_is c.self.invariant) (values_are c.other.inside c.args.other.now c.other.view_is c.other.invariant))
