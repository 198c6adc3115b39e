use Rattle.std.proofs.Common.{refl, true≢false, ◌≤◌, length, sym, ap, ◌∙◌, arith}
use Rattle.std.proofs.lemmas.Result.{IfOk-weaker}
use Rattle.ore_monomial.specs.Signature.{Signature}
use Rattle.ore_ring.specs.Ordered.{Ordered}
use Rattle.ore_rows.proofs.Dots.{zero_belongs}
use Rattle.ore_torsion.proofs.FirstRows.{first_found, first_passed, first_none}
use Rattle.ore_torsion.proofs.entries.first_nonzero.Goals as goal

pub loop-k-preserved : goal.loop-k-preserved
loop-k-preserved g c = first_passed c.args.n c.args.rows.now.rows c.loop-k.k c.row-row.result.now c.row-row.ensures.value (λ h. true≢false (sym (c.if-has_first.ensures.1 h))) ∙ c.loop-k.invariant

pub returns-then-has_first-clause-value : goal.returns-then-has_first-clause-value
returns-then-has_first-clause-value g c =
    let row = c.row-row.result.now in
    IfOk-weaker c.parted.result _ _ (λ p e. first_found c.args.n c.args.rows.now.rows c.loop-k.k row c.row-row.ensures.value (c.if-has_first.ensures.0 refl) p e ∙ c.loop-k.invariant) c.parted.ensures.value

pub returns-clause-operator_of : goal.returns-clause-operator_of
returns-clause-operator_of g c =
    zero_belongs (g.R.OreRing.sig c.args.ring.now) c.order.result c.zero-operator.result c.zero-operator.ensures (c.order.ensures ∙ ap (λ (s : Signature). s.order) c.signature.ensures)

pub returns-clause-value : goal.returns-clause-value
returns-clause-value g c =
    let past : length c.args.rows.now.rows ≤ c.loop-k.k = omega (arith, c.loop-k-test.false, c.rows-k-end.ensures.value) in
    (λ i. (ap (λ (f : Ordered). f.sum) c.zero-operator.ensures i, c.in_ok-others.ensures.value i)) ∙ sym (first_none c.args.n c.args.rows.now.rows c.loop-k.k past) ∙ c.loop-k.invariant
