use Rattle.std.proofs.Common.{ap₂, ◌∙◌, ◌+◌}
use Rattle.std.specs.Prelude.{nat_le}
use Rattle.ore_ring.proofs.Degrees.{of_empty, at_empty, firsts_decide}
use Rattle.ore_ring.proofs.multiply.degrees_pass.Goals as goal

pub returns-then-is_empty : goal.returns-then-is_empty
returns-then-is_empty c = of_empty c.args.ts.now c.args.us.now c.if-is_empty.ensures

pub returns-then-is_empty-2 : goal.returns-then-is_empty-2
returns-then-is_empty-2 c = at_empty c.args.ts.now c.args.us.now c.if-is_empty-2.ensures

pub returns : goal.returns
returns c =
    ap₂ (λ x y. nat_le (x + y) 32767) c.degree.ensures.value c.degree-2.ensures.value
    ∙ firsts_decide c.args.order c.args.ts.now c.args.us.now c.index-ts-0.result c.index-us-0.result c.requires.left c.requires.right c.if-is_empty.ensures c.if-is_empty-2.ensures
