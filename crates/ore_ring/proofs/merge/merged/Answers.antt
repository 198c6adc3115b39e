use Rattle.std.proofs.Common.{◌+◌, drop, sym, ap, ◌∙◌, arith}
use Rattle.std.specs.declared.result.Result.TheVariants.{Ok}
use Rattle.std.proofs.lemmas.Result.{err_from_is_err_and}
use Rattle.ore_algebra.specs.Limits.{program}
use Rattle.ore_algebra.specs.Results.{fronted}
use Rattle.ore_ring.specs.Merge.{merge_within}
use Rattle.ore_ring.proofs.MergeSteps.{at_less, at_greater, at_equal, at_stop, at_end_left, at_end_right, both_ends}
use Rattle.ore_monomial.proofs.Stops.{fails_like}
use Rattle.ore_ring.proofs.merge.merged.Goals as goal
use Rattle.ore_ring.proofs.merge.merged.Goals.{then-loop-i-test+else-j-b, else-loop-i-test}

pub loop-i-preserved-in-Less : goal.loop-i-preserved-in-Less
loop-i-preserved-in-Less c = record {
  first = c.loop-i.invariant.first;
  second = omega arith;
  whole = ap (λ f. fronted f (merge_within program c.args.order (drop c.loop-i.i c.args.a.now) (drop (c.loop-i.j + 1) c.args.b.now))) c.in_ok-push-in-Less.ensures.items
      ∙ sym (at_less program c.args.order c.loop-i.out.items c.index-a-i.result c.index-b-j.result c.args.a.now c.args.b.now c.loop-i.i c.loop-i.j c.index-a-i.is c.loop-i-test.true c.index-b-j.is c.if-j-b.true (sym c.in-Less.is ∙ c.compare.ensures))
      ∙ c.loop-i.invariant.whole;
}

pub returns-in_err-s-in-Equal : goal.returns-in_err-s-in-Equal
returns-in_err-s-in-Equal c =
    let p = err_from_is_err_and c.from_residual-in_err-s-in-Equal.result c.from_residual-in_err-s-in-Equal.ensures.1 in
    rw (p.1, p.2) (fails_like _ _ _ (λ e h. sym c.loop-i.invariant.whole
    ∙ at_stop program c.args.order c.loop-i.out.items c.index-a-i.result c.index-b-j.result c.args.a.now c.args.b.now c.loop-i.i c.loop-i.j c.index-a-i.is c.loop-i-test.true c.index-b-j.is c.if-j-b.true (sym c.in-Equal.is ∙ c.compare.ensures) e h) c.in_err-s-in-Equal.ensures)

pub loop-i-preserved-in-Equal : goal.loop-i-preserved-in-Equal
loop-i-preserved-in-Equal c = record {
  first = omega arith;
  second = omega arith;
  whole = ap (λ f. fronted f (merge_within program c.args.order (drop (c.loop-i.i + 1) c.args.a.now) (drop (c.loop-i.j + 1) c.args.b.now))) c.in_ok-keep-in-Equal.ensures
      ∙ sym (at_equal program c.args.order c.loop-i.out.items c.index-a-i.result c.index-b-j.result c.args.a.now c.args.b.now c.loop-i.i c.loop-i.j c.index-a-i.is c.loop-i-test.true c.index-b-j.is c.if-j-b.true (sym c.in-Equal.is ∙ c.compare.ensures) c.in_ok-s-in-Equal.s c.in_ok-s-in-Equal.ensures)
      ∙ c.loop-i.invariant.whole;
}

pub loop-i-preserved : goal.loop-i-preserved
loop-i-preserved c = record {
  first = omega arith;
  second = c.loop-i.invariant.second;
  whole = ap (λ f. fronted f (merge_within program c.args.order (drop (c.loop-i.i + 1) c.args.a.now) (drop c.loop-i.j c.args.b.now))) c.in_ok-push-in-Greater.ensures.items
      ∙ sym (at_greater program c.args.order c.loop-i.out.items c.index-a-i.result c.index-b-j.result c.args.a.now c.args.b.now c.loop-i.i c.loop-i.j c.index-a-i.is c.loop-i-test.true c.index-b-j.is c.if-j-b.true (sym c.in-Greater.is ∙ c.compare.ensures))
      ∙ c.loop-i.invariant.whole;
}

pub returns : goal.returns
returns c =
    sym c.loop-i.invariant.whole
    ∙ elim c.loop-i-test.branch [
      | then-loop-i-test+else-j-b w ↦ at_end_right program c.args.order c.loop-i.out.items c.args.a.now c.args.b.now c.loop-i.i c.loop-i.j w.if-j-b.false
      | else-loop-i-test w ↦ at_end_left program c.args.order c.loop-i.out.items c.args.a.now c.args.b.now c.loop-i.i c.loop-i.j w.loop-i-test.false
    ]
    ∙ ap Ok (both_ends c.loop-i.out.items c.args.a.now c.args.b.now c.extend_from_slice.new.self.items c.extend_from_slice-2.new.self.items c.loop-i.i c.loop-i.j c.in_ok-extend_from_slice-2.ensures.items c.in_ok-extend_from_slice.ensures.items)
