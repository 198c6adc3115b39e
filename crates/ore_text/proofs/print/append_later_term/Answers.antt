use Rattle.std.proofs.Common.{◌++◌, sym, ap, ◌∙◌}
use Rattle.std.specs.List.{flat_map}
use Rattle.std.proofs.lemmas.Result.{on_ok_weaker}
use Rattle.std.proofs.lemmas.List.{append-nil}
use Rattle.ore_ring.specs.Terms.{falling}
use Rattle.ore_text.specs.CanonicalText.{later_text}
use Rattle.ore_text.proofs.Printing.{take_one-none, later_written}
use Rattle.ore_text.proofs.print.append_later_term.Goals as goal

pub returns-in-Some : goal.returns-in-Some
returns-in-Some c =
    on_ok_weaker c.append_signed.result
    (λ e. later_written c.args.algebra.now.names.now (falling c.args.op.now.by c.args.op.now.sum) c.args.k c.in-Some.term c.args.text.now.items c.append_signed.new.text.items (sym c.get.ensures ∙ c.in-Some.is) e)
    c.append_signed.ensures

pub returns-in-None : goal.returns-in-None
returns-in-None c =
    sym (ap (λ ts. c.args.text.now.items ++ flat_map (later_text c.args.algebra.now.names.now) ts) (take_one-none (falling c.args.op.now.by c.args.op.now.sum) c.args.k (sym c.get.ensures ∙ c.in-None.is)) ∙ append-nil c.args.text.now.items)
