use Rattle.std.proofs.Common.{◌∙◌, sym, subst, ap}
use Rattle.ore_rational.specs.Field.{rationals}
use Rattle.ore_ring.specs.Belongs.{OperatorOf}
use Rattle.ore_ring.specs.Within.{opposite}
use Rattle.ore_ring.proofs.Belonging.{of_scale}
use Rattle.ore_inverse.proofs.reductions.opposite.Goals as goal

pub returns-clause-of : goal.returns-clause-of
unfolding opposite
returns-clause-of g c =
    let s = g.R.OreRing.sig c.args.ring.now in
    let same = c.in_ok-copy.ensures.same in
    record {
      order = c.negated.ensures.by ∙ ap (λ f. f.by) same ∙ c.requires.order;
      variables = subst (OperatorOf rationals s) (sym (c.negated.ensures.sum ∙ ap (λ f. opposite f.sum) same)) (of_scale rationals s (rationals.minus rationals.one) c.args.f.now.sum c.requires.variables);
    }
