use Rattle.std.proofs.Common.{ap, ◌∙◌, ◌++◌, ◌∷◌, []}
use Rattle.ore_problem.proofs.FrameLemmas.{extended_from}
use Rattle.ore_problem.proofs.frame.with_kind.Goals as goal

pub returns : goal.returns
returns c =
    let made = c.new.ensures in
    let kinds = c.deref.ensures.value ∙ c.in_ok-push.ensures.items ∙ ap (λ ks. ks ++ c.args.kind ∷ []) c.in_ok-kinds.ensures in
    extended_from c.new.result c.args.signature.now c.args.kind c.deref.result.now c.order.result kinds c.order.ensures made.accepted made.kinds made.order made.refused
