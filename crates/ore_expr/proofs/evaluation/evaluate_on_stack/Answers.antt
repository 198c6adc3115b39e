use Rattle.std.proofs.Common.{◌≡◌, length, Some, sym, ap, ◌∙◌, subst, rules}
use Rattle.std.proofs.lemmas.List.Elements.{All-nil, All-pop}
use Rattle.std.specs.List.{All}
use Rattle.std.specs.declared.result.Result.TheVariants.{Ok}
use Rattle.ore_algebra.specs.Limits.{program, fold_within}
use Rattle.ore_monomial.specs.Signature.{Signature}
use Rattle.ore_ring.specs.Belongs.{Belongs}
use Rattle.ore_ring.specs.Ordered.{Ordered}
use Rattle.ore_expr.specs.Evaluation.{applied}
use Rattle.ore_expr.specs.Stack.{values_of}
use Rattle.ore_expr.proofs.Stacks.{values_of-nil, last_stack, top_value, top_none, zero_belongs}
use Rattle.ore_expr.proofs.evaluation.evaluate_on_stack.Goals as goal

pub loop-instruction-init : goal.loop-instruction-init
loop-instruction-init g c =
    let s = g.R.OreRing.sig c.args.ring.now in
    record {
      told = ap (λ t. fold_within (applied program s) (values_of t) c.args.instructions.now) c.new-stack.ensures.items ∙ ap (λ t. fold_within (applied program s) t c.args.instructions.now) values_of-nil;
      belongs = subst (All (Belongs s)) (sym c.new-stack.ensures.items) (All-nil (Belongs s));
    }

pub returns-in-Some-clause-gives : goal.returns-in-Some-clause-gives
returns-in-Some-clause-gives g c =
    let s = g.R.OreRing.sig c.args.ring.now in
    top_value program s c.args.instructions.now c.loop-instruction.stack.items c.pop.new.self.items c.in-Some.top c.in-Some.ensures.items
    (last_stack program s c.args.instructions.now c.loop-instruction.instruction-index (values_of c.loop-instruction.stack.items) c.loop-instruction-test.false c.loop-instruction.invariant.told)
    ∙ ap (λ (w : Ordered). Ok w.sum) (sym c.in_ok-finish-in-Some.ensures)

pub returns-in-Some-clause-of : goal.returns-in-Some-clause-of
returns-in-Some-clause-of g c =
    subst (Belongs (g.R.OreRing.sig c.args.ring.now)) (sym c.in_ok-finish-in-Some.ensures) (All-pop (Belongs (g.R.OreRing.sig c.args.ring.now)) c.loop-instruction.stack.items c.pop.new.self.items (Some c.in-Some.top) c.in-Some.ensures.items c.loop-instruction.invariant.belongs).1

pub returns-clause-gives : goal.returns-clause-gives
returns-clause-gives g c =
    let s = g.R.OreRing.sig c.args.ring.now in
    let nothing : length c.loop-instruction.stack.items ≡ 0 = search rules in
    top_none program s c.args.instructions.now c.loop-instruction.stack.items nothing
    (last_stack program s c.args.instructions.now c.loop-instruction.instruction-index (values_of c.loop-instruction.stack.items) c.loop-instruction-test.false c.loop-instruction.invariant.told)
    ∙ ap (λ (w : Ordered). Ok w.sum) (sym c.zero.ensures)

pub returns-clause-of : goal.returns-clause-of
returns-clause-of g c =
    zero_belongs (g.R.OreRing.sig c.args.ring.now) c.order.result c.zero.result c.zero.ensures (c.order.ensures ∙ ap (λ (v : Signature). v.order) c.signature.ensures)
