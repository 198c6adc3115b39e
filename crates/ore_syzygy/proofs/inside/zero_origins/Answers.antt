use Rattle.std.proofs.Common.{◌++◌, [], ◌∷◌, sym, ap, ◌∙◌, arith}
use Rattle.std.proofs.lemmas.List.FromFn.{map-range_with_len_more}
use Rattle.ore_rows.specs.declared.choices.Origin.TheVariants.{ZeroRow}
use Rattle.ore_syzygy.proofs.inside.zero_origins.Goals as goal

pub loop-i-preserved : goal.loop-i-preserved
loop-i-preserved c =
    let i = c.loop-i.i in
    c.in_ok-push.ensures.items ∙ ap (λ os. os ++ ZeroRow i ∷ []) c.loop-i.invariant ∙ sym (map-range_with_len_more (λ i. ZeroRow i) 0 i i (omega arith))
