use Rattle.std.proofs.Common.{◌≡◌, ◌++◌, [], map, sym, ap, ◌∙◌, append-nil, subst, arith}
use Rattle.std.proofs.lemmas.List.{nil_from_length}
use Rattle.std.specs.Vec.Iter.{into_iter_items, into_iter_steps}
use Rattle.ore_blocks.specs.BlockOfRun.{stored_entry}
use Rattle.ore_groebner.specs.RunProgress.{entries_from}
use Rattle.ore_syzygy.proofs.EventOrigins.{entries-none}
use Rattle.ore_syzygy.proofs.pairs.entries.Goals as goal

pub returns : goal.returns
returns c =
    let out = c.loop-event.out.items in
    let ended = subst (λ r. into_iter_steps c.loop-event.event-iterator r c.next.new.self) c.in-None.is c.next.ensures.steps in
    let none : into_iter_items c.loop-event.event-iterator ≡ [] = nil_from_length _ (omega (arith, ended.0, c.loop-event.event-iterator.rest.ok.0)) in
    c.from_vec.ensures
    ∙ sym (c.loop-event.invariant.made
    ∙ ap (λ es. out ++ map stored_entry (entries_from c.loop-event.next es)) none
    ∙ ap (λ es. out ++ es) (entries-none c.loop-event.next) ∙ append-nil out)
