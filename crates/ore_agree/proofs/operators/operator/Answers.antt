use Rattle.std.proofs.Common.{ap, ◌∙◌}
use Rattle.ore_agree.proofs.TestRing.{all_belong}
use Rattle.ore_agree.proofs.operators.operator.Goals as goal

pub returns : goal.returns
returns c =
    all_belong c.args.signature.now c.loop-number.made c.requires
    (c.loop-number.invariant ∙ ap (λ f. f.by) c.zero-made.ensures ∙ c.order.ensures)
