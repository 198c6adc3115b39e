use Rattle.std.proofs.Common.{◌≡◌, ◌<◌, ◌≤◌, length, get_or, sym, ap, ◌∙◌, subst, arith}
use Rattle.std.proofs.lemmas.List.{take_all}
use Rattle.std.proofs.lemmas.List.Elements.{All-more}
use Rattle.std.specs.List.{All}
use Rattle.ore_algebra.specs.Limits.{program}
use Rattle.ore_monomial.specs.Signature.{Signature}
use Rattle.ore_ring.specs.Belongs.{Belongs}
use Rattle.ore_ring.specs.Ordered.{Ordered}
use Rattle.ore_ring.specs.Terms.{falling}
use Rattle.ore_ring.specs.Within.{degrees_fit}
use Rattle.ore_rows.specs.RowsWithin.{HasDegrees}
use Rattle.ore_rows.proofs.row_ops.degrees_fit_in.Goals as goal

of_one_order : (s : Signature) (f g : Ordered) → Belongs s f → Belongs s g → degrees_fit program (falling f.by f.sum) (falling g.by g.sum) ≡ degrees_fit program (falling s.order f.sum) (falling s.order g.sum)
of_one_order s f g h k = λ i. degrees_fit program (falling (h.order i) f.sum) (falling (k.order i) g.sum)

pub loop-g-preserved : goal.loop-g-preserved
loop-g-preserved g c =
    let s = g.R.OreRing.sig c.args.ring.now in
    let row = c.args.row.now in
    let k = c.loop-g.g-index in
    let e = c.g-item.result in
    let same = ap length c.entries-g-items.ensures in
    let below : k < length row = omega (arith, same, c.loop-g-test.true) in
    let here : e ≡ get_or row k e = c.g-item.is ∙ ap (λ xs. get_or xs k e) c.entries-g-items.ensures in
    let of : Belongs s e = subst (Belongs s) (sym here) (c.requires.row_of k e below) in
    All-more (λ f. HasDegrees s c.args.f.now.sum f.sum) row k e below c.loop-g.invariant
    (subst (λ f. HasDegrees s c.args.f.now.sum f.sum) here (sym (of_one_order s c.args.f.now e c.requires.f_of of) ∙ sym c.degrees_fit.ensures ∙ c.if-not-degrees_fit.false))

pub returns : goal.returns
returns g c = λ e.
    let row = c.args.row.now in
    let same = ap length c.entries-g-items.ensures in
    let past : length row ≤ c.loop-g.g-index = omega (arith, same, c.loop-g-test.false) in
    subst (All (λ f. HasDegrees (g.R.OreRing.sig c.args.ring.now) c.args.f.now.sum f.sum)) (take_all c.loop-g.g-index row past) c.loop-g.invariant
