use Rattle.std.proofs.Common.{◌+◌, ◌<◌, ◌≤◌, length, rules, refl, sym, ◌∙◌, subst, arith}
use Rattle.std.proofs.lemmas.List.{length-map}
use Rattle.ore_ring.specs.Ordered.{Ordered}
use Rattle.ore_rows.specs.Stored.{sums_of}
use Rattle.ore_rows.proofs.Dots.{entry_place}
use Rattle.ore_rows.proofs.NonzeroPlaces.{SoFar, none_seen, zero_seen, other_seen, all_seen}
use Rattle.ore_rows.proofs.matrix_ops.nonzero_places.Goals as goal

pub loop-k-init : goal.loop-k-init
loop-k-init c =
    let row = sums_of c.args.c.now in
    record { so_far = subst (λ ks. SoFar ks 0 row) (sym c.new-out.ensures.items) (none_seen row); inside = search rules }

pub loop-k-preserved-then-is_zero : goal.loop-k-preserved-then-is_zero
loop-k-preserved-then-is_zero c =
    let row = c.args.c.now in
    let k = c.loop-k.k in
    let wide = length-map row (λ (w : Ordered). w.sum) in
    let below : k < length (sums_of row) = omega (arith, wide, c.len-k-end.ensures, c.loop-k-test.true) in
    record {
      so_far = zero_seen c.loop-k.out.items k (sums_of row) below (entry_place row k c.entry.result.now c.entry.ensures ∙ c.if-is_zero.ensures.0 refl) c.loop-k.invariant.so_far;
      inside = c.loop-k.invariant.inside;
    }

pub loop-k-preserved : goal.loop-k-preserved
loop-k-preserved c =
    let row = c.args.c.now in
    let k = c.loop-k.k in
    let wide = length-map row (λ (w : Ordered). w.sum) in
    let below : k < length (sums_of row) = omega (arith, wide, c.len-k-end.ensures, c.loop-k-test.true) in
    record {
      so_far = subst (λ ks. SoFar ks (k + 1) (sums_of row)) (sym c.in_ok-push.ensures.items) (other_seen c.loop-k.out.items k (sums_of row) below c.loop-k.invariant.so_far);
      inside = search rules;
    }

pub returns-clause-enough : goal.returns-clause-enough
returns-clause-enough c =
    let row = c.args.c.now in
    let wide = length-map row (λ (w : Ordered). w.sum) in
    let past : length (sums_of row) ≤ c.loop-k.k = omega (arith, wide, c.len-k-end.ensures, c.loop-k-test.false) in
    all_seen c.loop-k.out.items c.loop-k.k (sums_of row) past c.loop-k.invariant.so_far
