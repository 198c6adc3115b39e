use Rattle.std.proofs.Common.{◌+◌, ◌<◌, length, sym, ap, ◌∙◌, subst, arith}
use Rattle.std.proofs.lemmas.List.{length-set}
use Rattle.ore_ring.proofs.AdjointSteps.{Before, Rest, step_in, step_out, part_is, part_small}
use Rattle.ore_ring.proofs.reverse.coordinate_part.Goals as goal
use Rattle.ore_ring.proofs.reverse.coordinate_part.Goals.{then-is_coordinate, else-is_coordinate}

pub loop-k-preserved : goal.loop-k-preserved
loop-k-preserved c =
    let s = c.args.sig.now in
    let m = c.args.exps.now in
    let k = c.loop-k.k in
    let v = c.loop-k.invariant in
    elim c.if-is_coordinate.branch [
      | then-is_coordinate w ↦ let p = step_in s m k c.loop-k.values w.get.result (subst (λ n. k < n) (sym v.long) c.loop-k-test.true) (sym c.is_coordinate.ensures ∙ w.if-is_coordinate.true) w.get.ensures v.before v.rest in
          record {
            long = ap length w.values-is ∙ length-set c.loop-k.values k w.get.result ∙ v.long;
            before = subst (Before s m (k + 1)) (sym w.values-is) p.0;
            rest = subst (Rest s m (k + 1)) (sym w.values-is) p.1;
          }
      | else-is_coordinate w ↦ let p = step_out s m k c.loop-k.values (sym c.is_coordinate.ensures ∙ w.if-is_coordinate.false) v.before v.rest in
          record {
            long = ap length w.values-is ∙ v.long;
            before = subst (Before s m (k + 1)) (sym w.values-is) p.0;
            rest = subst (Rest s m (k + 1)) (sym w.values-is) p.1;
          }
    ]

pub returns-in-Ok : goal.returns-in-Ok
returns-in-Ok c =
    c.in-Ok.ensures.1
    ∙ part_is c.args.sig.now c.args.exps.now c.loop-k.values c.loop-k.invariant.long (λ j l. let t = c.loop-k-test.false in c.loop-k.invariant.before j (omega arith))

pub returns-in-Err : goal.returns-in-Err
returns-in-Err c =
    absurd (c.in-Err.ensures (part_small c.args.sig.now c.args.exps.now c.loop-k.values c.loop-k.invariant.long (λ j l. let t = c.loop-k-test.false in c.loop-k.invariant.before j (omega arith)) c.requires))
