use Rattle.std.proofs.Common.{◌++◌, sym, ap, ◌∙◌}
use Rattle.std.proofs.lemmas.Result.{on_ok_weaker}
use Rattle.ore_ring.specs.Terms.{falling}
use Rattle.ore_text.specs.CanonicalText.{operator_text, terms_text}
use Rattle.ore_text.proofs.Printing.{terms_written, no_terms_written}
use Rattle.ore_text.proofs.print.append_operator.Goals as goal

pub returns-in_default : goal.returns-in_default
unfolding operator_text
returns-in_default c =
    let o = c.requires.order in
    c.in_ok-push.ensures.items ∙ ap (λ t. c.args.text.now.items ++ t) (sym (no_terms_written c.args.algebra.now.names.now (falling c.args.algebra.now.signature.now.order c.args.op.now.sum) (ap (λ o. Rattle.std.specs.Prelude.slice_get (falling o c.args.op.now.sum) 0) (sym o) ∙ sym c.get.ensures ∙ c.in_default.is)))

pub returns : goal.returns
unfolding operator_text
returns c =
    let o = c.requires.order in
    on_ok_weaker c.append_later.result
    (λ e. terms_written c.args.algebra.now.names.now (falling c.args.op.now.by c.args.op.now.sum) c.in-Some.first c.args.text.now.items c.append_signed.new.text.items c.append_later.new.text.items (sym c.get.ensures ∙ c.in-Some.is) c.in_ok-append_signed.ensures e
    ∙ ap (λ o. c.args.text.now.items ++ terms_text c.args.algebra.now.names.now (falling o c.args.op.now.sum)) o)
    c.append_later.ensures
