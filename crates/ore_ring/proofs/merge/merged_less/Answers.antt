use Rattle.std.proofs.Common.{◌+◌, ◌≤◌, drop, length, subst, sym, ap, ◌∙◌, arith}
use Rattle.std.specs.declared.result.Result.TheVariants.{Ok}
use Rattle.std.proofs.lemmas.List.{length-map}
use Rattle.std.proofs.lemmas.Result.{err_from_is_err_and}
use Rattle.ore_algebra.specs.Limits.{program}
use Rattle.ore_algebra.specs.Results.{fronted}
use Rattle.ore_rational.specs.Fraction.{neg}
use Rattle.ore_ring.specs.Terms.{Summand}
use Rattle.ore_ring.specs.Merge.{merge_within, opposite_terms}
use Rattle.ore_ring.proofs.MergeSteps.{at_less, at_greater, at_equal, at_stop, at_end_left, at_end_right, opposite_at, less_ends}
use Rattle.ore_monomial.proofs.Stops.{fails_like}
use Rattle.ore_ring.proofs.merge.merged_less.Goals as goal
use Rattle.ore_ring.proofs.merge.merged_less.Goals.{then-loop-i-test+else-j-b, else-loop-i-test}

pub loop-i-preserved-in-Less : goal.loop-i-preserved-in-Less
loop-i-preserved-in-Less c =
    let at = opposite_at c.args.b.now c.loop-i.j c.index-b-j.result c.negated-u.result c.negated-u.ensures c.index-b-j.is c.if-j-b.true in
    record {
      first = c.loop-i.invariant.first;
      second = omega arith;
      whole = ap (λ f. fronted f (merge_within program c.args.order (drop c.loop-i.i c.args.a.now) (drop (c.loop-i.j + 1) (opposite_terms c.args.b.now)))) c.in_ok-push-in-Less.ensures.items
          ∙ sym (at_less program c.args.order c.loop-i.out.items c.index-a-i.result c.negated-u.result c.args.a.now (opposite_terms c.args.b.now) c.loop-i.i c.loop-i.j c.index-a-i.is c.loop-i-test.true at.0 at.1 (sym c.in-Less.is ∙ c.compare.ensures))
          ∙ c.loop-i.invariant.whole;
    }

pub returns-in_err-s-in-Equal : goal.returns-in_err-s-in-Equal
returns-in_err-s-in-Equal c =
    let at = opposite_at c.args.b.now c.loop-i.j c.index-b-j.result c.negated-u.result c.negated-u.ensures c.index-b-j.is c.if-j-b.true in
    let p = err_from_is_err_and c.from_residual-in_err-s-in-Equal.result c.from_residual-in_err-s-in-Equal.ensures.1 in
    rw (p.1, p.2) (fails_like _ _ _ (λ e h. sym c.loop-i.invariant.whole
    ∙ at_stop program c.args.order c.loop-i.out.items c.index-a-i.result c.negated-u.result c.args.a.now (opposite_terms c.args.b.now) c.loop-i.i c.loop-i.j c.index-a-i.is c.loop-i-test.true at.0 at.1 (sym c.in-Equal.is ∙ c.compare.ensures) e h) c.in_err-s-in-Equal.ensures)

pub loop-i-preserved-in-Equal : goal.loop-i-preserved-in-Equal
loop-i-preserved-in-Equal c =
    let at = opposite_at c.args.b.now c.loop-i.j c.index-b-j.result c.negated-u.result c.negated-u.ensures c.index-b-j.is c.if-j-b.true in
    record {
      first = omega arith;
      second = omega arith;
      whole = ap (λ f. fronted f (merge_within program c.args.order (drop (c.loop-i.i + 1) c.args.a.now) (drop (c.loop-i.j + 1) (opposite_terms c.args.b.now)))) c.in_ok-keep-in-Equal.ensures
          ∙ sym (at_equal program c.args.order c.loop-i.out.items c.index-a-i.result c.negated-u.result c.args.a.now (opposite_terms c.args.b.now) c.loop-i.i c.loop-i.j c.index-a-i.is c.loop-i-test.true at.0 at.1 (sym c.in-Equal.is ∙ c.compare.ensures) c.in_ok-s-in-Equal.s c.in_ok-s-in-Equal.ensures)
          ∙ c.loop-i.invariant.whole;
    }

pub loop-i-preserved : goal.loop-i-preserved
loop-i-preserved c =
    let at = opposite_at c.args.b.now c.loop-i.j c.index-b-j.result c.negated-u.result c.negated-u.ensures c.index-b-j.is c.if-j-b.true in
    record {
      first = omega arith;
      second = c.loop-i.invariant.second;
      whole = ap (λ f. fronted f (merge_within program c.args.order (drop (c.loop-i.i + 1) c.args.a.now) (drop c.loop-i.j (opposite_terms c.args.b.now)))) c.in_ok-push-in-Greater.ensures.items
          ∙ sym (at_greater program c.args.order c.loop-i.out.items c.index-a-i.result c.negated-u.result c.args.a.now (opposite_terms c.args.b.now) c.loop-i.i c.loop-i.j c.index-a-i.is c.loop-i-test.true at.0 at.1 (sym c.in-Greater.is ∙ c.compare.ensures))
          ∙ c.loop-i.invariant.whole;
    }

pub returns : goal.returns
returns c =
    sym c.loop-i.invariant.whole
    ∙ elim c.loop-i-test.branch [
      | then-loop-i-test+else-j-b w ↦ at_end_right program c.args.order c.loop-i.out.items c.args.a.now (opposite_terms c.args.b.now) c.loop-i.i c.loop-i.j (subst (λ n. n ≤ c.loop-i.j) (sym (length-map c.args.b.now (λ (t : Summand). (t.0, neg t.1)))) (let past : length c.args.b.now ≤ c.loop-i.j = omega (arith, w.if-j-b.false) in past))
      | else-loop-i-test w ↦ at_end_left program c.args.order c.loop-i.out.items c.args.a.now (opposite_terms c.args.b.now) c.loop-i.i c.loop-i.j w.loop-i-test.false
    ]
    ∙ ap Ok (less_ends c.loop-i.out.items c.args.a.now c.args.b.now c.extend_from_slice.new.self.items c.extend_negated.new.out.items c.loop-i.i c.loop-i.j c.in_ok-extend_negated.ensures c.in_ok-extend_from_slice.ensures.items)
