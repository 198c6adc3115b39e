use Rattle.std.proofs.Common.{take, ◌∷◌, ◌++◌, [], refl, sym, ap, ◌∙◌, subst}
use Rattle.std.proofs.lemmas.List.{take_more}
use Rattle.ore_ring.specs.Terms.{IsFalling}
use Rattle.ore_ring.specs.Contributions.{AreInRange}
use Rattle.ore_ring.proofs.Falls.{falls_snoc}
use Rattle.ore_ring.proofs.FallingSum.{range_snoc}
use Rattle.ore_ring.proofs.sort.are_falling.Goals as goal

pub loop-k-preserved : goal.loop-k-preserved
loop-k-preserved c =
    let o = c.args.order in
    let ts = c.args.terms.now in
    let k = c.loop-k.k in
    let t = c.index-terms-k.result in
    let more = take_more ts k t c.loop-k-test.true ∙ ap (λ u. take k ts ++ u ∷ []) (sym c.index-terms-k.is) in
    record {
      falls = subst (IsFalling o) (sym more) (falls_snoc o (take k ts) t c.loop-k.invariant.falls (c.if-not-follows.ensures.below refl) (c.if-not-follows.ensures.apart refl));
      range = subst AreInRange (sym more) (range_snoc (take k ts) t c.loop-k.invariant.range (c.if-not-follows.ensures.range refl));
    }
