use Rattle.std.proofs.Common.{[], ◌∷◌, ◌++◌, sym, ap, ◌∙◌}
use Rattle.ore_algebra.proofs.ListLaws.{take_read}
use Rattle.ore_report.proofs.given.copied.Goals as goal

pub loop-k-preserved : goal.loop-k-preserved
loop-k-preserved c = c.in_ok-push.ensures.items ∙ ap (λ xs. xs ++ c.get.result.now ∷ []) c.loop-k.invariant ∙ sym (take_read c.args.run.now c.loop-k.k c.get.result.now c.get.ensures)
