use Rattle.std.proofs.Common.{◌+◌, ap, ◌∙◌, drop, arith}
use Rattle.std.proofs.lemmas.List.{drop_all}
use Rattle.ore_algebra.proofs.ListLaws.{drop_read}
use Rattle.ore_groebner.specs.RunProgress.{new_rows}
use Rattle.ore_syzygy.proofs.EventOrigins.{new_rows-none}
use Rattle.ore_syzygy.proofs.pairs.count_new.Goals as goal

pub loop-k-preserved : goal.loop-k-preserved
loop-k-preserved c =
    let events = c.args.events.now in
    let i = c.loop-k.invariant in
    let so_far = i.counted in
    let next = ap new_rows (drop_read events c.loop-k.k c.get.result.now c.get.ensures) ∙ c.rows_made-count.ensures.value (drop (c.loop-k.k + 1) events) in
    let few = i.few in
    let one = c.rows_made-count.ensures.few in
    record { counted = omega arith; few = omega arith }

pub returns : goal.returns
returns c =
    let so_far = c.loop-k.invariant.counted in
    let none = ap new_rows (drop_all c.loop-k.k c.args.events.now (grind arith)) ∙ new_rows-none in
    omega arith
