use Rattle.std.proofs.Common.{[], ◌∷◌, ◌++◌, Some, sym, ap, ◌∙◌}
use Rattle.ore_algebra.proofs.ListLaws.{take_read}
use Rattle.ore_report.proofs.given.Given.copy_of.Goals as goal

pub loop-k-preserved : goal.loop-k-preserved
loop-k-preserved c =
    let copy = c.in_ok-copied.field-0 in
    c.in_ok-push.ensures.items ∙ ap (λ xs. xs ++ copy ∷ []) c.loop-k.invariant ∙ sym (take_read c.args.runs.now c.loop-k.k copy (c.get.ensures ∙ ap Some (sym c.in_ok-copied.ensures)))
