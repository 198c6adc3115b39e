use Rattle.std.proofs.Common.{◌≡◌, ◌<◌, length, get_or, set, rules, refl, sym, ap, ◌∙◌, arith}
use Rattle.std.proofs.lemmas.List.{length-set, get_or_default}
use Rattle.std.proofs.lemmas.Option.{get_or_from_slice_get}
use Rattle.std.proofs.lemmas.Result.{err_from_is_err_and}
use Rattle.ore_algebra.specs.Limits.{program}
use Rattle.ore_rational.specs.Field.{rationals}
use Rattle.ore_monomial.specs.LetterRule.{Operator}
use Rattle.ore_monomial.proofs.Stops.{fails_like}
use Rattle.ore_ring.specs.Belongs.{Belongs}
use Rattle.ore_ring.specs.Ordered.{Ordered}
use Rattle.ore_rows.specs.RowsWithin.{product_taken}
use Rattle.ore_rows.proofs.Dots.{all_at}
use Rattle.ore_rows.proofs.InTurn.{turn_kept, turn_made, turn_stops}
use Rattle.ore_rows.proofs.ZeroOperands.{taken_none}
use Rattle.ore_rows.proofs.row_ops.less_in_turn.Goals as goal

pub less-requires-clause-g_of : goal.less-requires-clause-g_of
less-requires-clause-g_of g c = all_at (Belongs (g.R.OreRing.sig c.args.ring.now)) c.args.other.now c.loop-k.k c.entry-g.result.now c.entry-g.ensures c.requires.other_of

abbrev value : Ordered → Operator rationals
value w = w.sum

pub loop-k-preserved-then-is_zero : goal.loop-k-preserved-then-is_zero
loop-k-preserved-then-is_zero g c =
    let s = g.R.OreRing.sig c.args.ring.now in
    let d = c.args.f.now.sum in
    let xs = c.loop-k.entries.items in
    let ys = c.args.other.now in
    let k = c.loop-k.k in
    let y = c.entry-g.result.now in
    let x = get_or xs k y in
    let same = ap length c.into_vec-entries.ensures in
    let xl : k < length xs = omega (arith, same, c.into_vec-entries.result.ok.0, c.len-k-end.ensures, c.loop-k-test.true, c.loop-k.invariant.wide) in
    let yl : k < length ys = omega (arith, xl, c.loop-k.invariant.wide, c.requires.lengths) in
    record {
      told =
          sym (turn_kept value (product_taken program s d) xs ys k x y xl (get_or_default xs k y x xl) yl (sym (get_or_from_slice_get ys k y y c.entry-g.ensures))
          (ap (product_taken program s d x.sum) (c.if-is_zero.ensures.0 refl) ∙ taken_none program s d x.sum))
          ∙ c.loop-k.invariant.told;
      belongs = c.loop-k.invariant.belongs;
      wide = c.loop-k.invariant.wide;
    }

pub loop-k-preserved : goal.loop-k-preserved
loop-k-preserved g c =
    let s = g.R.OreRing.sig c.args.ring.now in
    let d = c.args.f.now.sum in
    let xs = c.loop-k.entries.items in
    let ys = c.args.other.now in
    let k = c.loop-k.k in
    let y = c.entry-g.result.now in
    let x = c.replace-entry.result in
    let w = c.replace-entry.new.dest in
    let z = c.in_ok-entries.field-0 in
    let same = ap length c.into_vec-entries.ensures in
    let xl : k < length xs = omega (arith, same, c.into_vec-entries.result.ok.0, c.len-k-end.ensures, c.loop-k-test.true, c.loop-k.invariant.wide) in
    let yl : k < length ys = omega (arith, xl, c.loop-k.invariant.wide, c.requires.lengths) in
    let xe : x ≡ get_or xs k x = c.replace-entry.ensures.value ∙ c.index_mut.ensures.value ∙ get_or_default xs k c.index_mut.result.now x xl in
    record {
      told =
          sym (turn_made value (product_taken program s d) xs ys k x y xl xe yl (sym (get_or_from_slice_get ys k y y c.entry-g.ensures)) w z c.in_ok-entries.ensures.gives)
          ∙ c.loop-k.invariant.told;
      belongs = search rules;
      wide = length-set (set xs k w) k z ∙ length-set xs k w ∙ c.loop-k.invariant.wide;
    }

pub returns-in_err-entries-clause-gives : goal.returns-in_err-entries-clause-gives
returns-in_err-entries-clause-gives g c =
    let s = g.R.OreRing.sig c.args.ring.now in
    let d = c.args.f.now.sum in
    let xs = c.loop-k.entries.items in
    let ys = c.args.other.now in
    let k = c.loop-k.k in
    let y = c.entry-g.result.now in
    let x = c.replace-entry.result in
    let same = ap length c.into_vec-entries.ensures in
    let xl : k < length xs = omega (arith, same, c.into_vec-entries.result.ok.0, c.len-k-end.ensures, c.loop-k-test.true, c.loop-k.invariant.wide) in
    let yl : k < length ys = omega (arith, xl, c.loop-k.invariant.wide, c.requires.lengths) in
    let xe : x ≡ get_or xs k x = c.replace-entry.ensures.value ∙ c.index_mut.ensures.value ∙ get_or_default xs k c.index_mut.result.now x xl in
    let p = err_from_is_err_and c.from_residual.result c.from_residual.ensures.1 in
    rw (p.1, p.2) (fails_like _ _ _ (λ e h. sym c.loop-k.invariant.told
    ∙ turn_stops value (product_taken program s d) xs ys k x y xl xe yl (sym (get_or_from_slice_get ys k y y c.entry-g.ensures)) e h) c.in_err-entries.ensures.gives)
