use Rattle.std.proofs.Common.{take, ◌∷◌, ◌++◌, [], sym, ap, ◌∙◌, subst}
use Rattle.std.proofs.lemmas.List.{take_more}
use Rattle.ore_rational.specs.Range.{InRange}
use Rattle.ore_ring.specs.Contributions.{AreInRange}
use Rattle.ore_ring.proofs.FallingSum.{range_snoc}
use Rattle.ore_ring.proofs.multiply.are_in_range.Goals as goal

pub loop-t-preserved : goal.loop-t-preserved
loop-t-preserved c =
    let ts = c.args.ts.now in
    let k = c.loop-t.t-index in
    let t = c.t-item.result in
    let more = take_more ts k t c.loop-t-test.true ∙ ap (λ u. take k ts ++ u ∷ []) (sym c.t-item.is) in
    subst AreInRange (sym more) (range_snoc (take k ts) t c.loop-t.invariant (subst InRange c.numerator.ensures.value c.numerator.ensures.range, subst InRange c.denominator.ensures.value c.denominator.ensures.range))
