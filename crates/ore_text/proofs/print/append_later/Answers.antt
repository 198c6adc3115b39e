use Rattle.std.proofs.Common.{◌++◌, suc, drop, take, sym, ap, ◌∙◌, append_assoc, add-one}
use Rattle.std.specs.List.{flat_map}
use Rattle.ore_ring.specs.Terms.{falling}
use Rattle.ore_text.specs.CanonicalText.{later_text}
use Rattle.ore_text.proofs.Printing.{flat_map-drop}
use Rattle.ore_text.proofs.print.append_later.Goals as goal

pub loop-k-preserved : goal.loop-k-preserved
loop-k-preserved c =
    let k = c.loop-k.k in
    let ts = falling c.args.op.now.by c.args.op.now.sum in
    let f = later_text c.args.algebra.now.names.now in
    ap (λ j. c.append_later_term.new.text.items ++ flat_map f (drop j ts)) (add-one k)
    ∙ ap (λ t. t ++ flat_map f (drop (suc k) ts)) c.in_ok-append_later_term.ensures
    ∙ append_assoc c.loop-k.text.items (flat_map f (take 1 (drop k ts))) (flat_map f (drop (suc k) ts))
    ∙ ap (λ t. c.loop-k.text.items ++ t) (sym (flat_map-drop f k ts))
    ∙ c.loop-k.invariant
