use Rattle.std.proofs.Common.{◌++◌, ◌+◌, suc, ◌≡◌, drop, sym, ap, ◌∙◌, append-nil, arith}
use Rattle.std.proofs.lemmas.List.{drop_all}
use Rattle.ore_algebra.proofs.ListLaws.{drop_read}
use Rattle.ore_pairs.specs.RunBlocks.{pair_origins}
use Rattle.ore_groebner.specs.RunProgress.{entries_from}
use Rattle.ore_syzygy.proofs.EventOrigins.{origins-none}
use Rattle.ore_syzygy.proofs.inside.treated_origins.Goals as goal

pub loop-k-init : goal.loop-k-init
loop-k-init c = λ n. ap (λ os. os ++ pair_origins 0 (entries_from n c.args.events.now)) (sym c.new-out.ensures.items)

pub loop-k-preserved : goal.loop-k-preserved
loop-k-preserved c = λ n.
    let events = c.args.events.now in
    let k = c.loop-k.k in
    let more : suc k ≡ k + 1 = omega arith in
    c.loop-k.invariant n
    ∙ ap (λ es. c.loop-k.out.items ++ pair_origins k (entries_from n es)) (drop_read events k c.get.result.now c.get.ensures)
    ∙ c.in_ok-out.ensures n (drop (k + 1) events)
    ∙ ap (λ m. c.in_ok-out.out.items ++ pair_origins m (entries_from n (drop (k + 1) events))) more

pub returns : goal.returns
returns c = λ n.
    sym (c.loop-k.invariant n
    ∙ ap (λ es. c.loop-k.out.items ++ pair_origins c.loop-k.k (entries_from n es)) (drop_all c.loop-k.k c.args.events.now (grind arith))
    ∙ ap (λ os. c.loop-k.out.items ++ os) (origins-none c.loop-k.k n) ∙ append-nil c.loop-k.out.items)
