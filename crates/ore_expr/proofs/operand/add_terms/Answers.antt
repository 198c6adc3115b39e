use Rattle.std.proofs.Common.{arith, refl, sym, ap, ◌∙◌}
use Rattle.std.proofs.lemmas.List.{drop_all}
use Rattle.std.proofs.lemmas.Result.{err_from_is_err_and}
use Rattle.ore_algebra.specs.Limits.{program}
use Rattle.ore_monomial.proofs.Stops.{fails_like}
use Rattle.ore_ring.specs.Terms.{falling}
use Rattle.ore_ring.specs.Within.{plus_within}
use Rattle.ore_ring.proofs.TermLaws.{collect-falling, C}
use Rattle.ore_expr.proofs.TermSums as Sums
use Rattle.ore_expr.proofs.operand.add_terms.Goals as goal

pub loop-k-init : goal.loop-k-init
loop-k-init c = record { by = refl; told = ap (plus_within program c.args.sum.now.sum) (collect-falling c.args.op.now.by c.args.op.now.sum) }

pub returns-in_default-clause-turns : goal.returns-in_default-clause-turns
returns-in_default-clause-turns c = absurd (Sums.none_missing (falling c.args.op.now.by c.args.op.now.sum) c.loop-k.k (let h = c.loop-k-test.true in omega (arith, h, c.len-k-end.ensures)) (c.in_default.ensures {u = tt}))

pub returns-in_err-add-clause-turns : goal.returns-in_err-add-clause-turns
returns-in_err-add-clause-turns c =
    let p = err_from_is_err_and c.from_residual.result c.from_residual.ensures.1 in
    rw (p.1, p.2) (fails_like _ _ _
    (λ e h. Sums.stop_told c.args.op.now c.loop-k.k c.in-Some.term c.in-Some.ensures c.fits_alone.ensures c.loop-k.sum.sum c.args.sum.now.sum c.loop-k.invariant.told e h)
    c.in_err-add.ensures.turns)

pub loop-k-preserved : goal.loop-k-preserved
loop-k-preserved c = record {
  by = c.add.ensures.by ∙ c.loop-k.invariant.by;
  told = Sums.next_told c.args.op.now c.loop-k.k c.in-Some.term c.in-Some.ensures c.fits_alone.ensures c.loop-k.sum.sum c.args.sum.now.sum c.loop-k.invariant.told c.add.new.self.sum c.in_ok-add.ensures.turns;
}

pub returns-clause-turns : goal.returns-clause-turns
returns-clause-turns c =
    sym c.loop-k.invariant.told
    ∙ ap (λ ts. plus_within program c.loop-k.sum.sum (C ts)) (drop_all c.loop-k.k (falling c.args.op.now.by c.args.op.now.sum) (let h = c.loop-k-test.false in omega (arith, h, c.len-k-end.ensures)))
    ∙ Sums.no_term program c.loop-k.sum.sum
