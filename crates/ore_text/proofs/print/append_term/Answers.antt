use Rattle.std.proofs.Common.{sym, ◌∙◌}
use Rattle.std.proofs.lemmas.Result.{on_ok_weaker}
use Rattle.ore_text.specs.CanonicalText.{factor_texts}
use Rattle.ore_text.proofs.Printing.{full_text, bare_text, one_text}
use Rattle.ore_text.proofs.print.append_term.Goals as goal

pub returns-then-not-is_one : goal.returns-then-not-is_one
returns-then-not-is_one c =
    let fs = factor_texts c.args.algebra.now.names.now c.args.exps.now.exponents in
    full_text c.args.coef.now fs c.args.text.now.items c.append_magnitude.new.text.items _ (sym c.if-not-is_one.ensures) c.in_ok-append_magnitude.ensures c.in_ok-append_factors.ensures.text

pub returns-then-branch : goal.returns-then-branch
returns-then-branch c =
    let fs = factor_texts c.args.algebra.now.names.now c.args.exps.now.exponents in
    on_ok_weaker c.append_magnitude-then-branch.result
    (λ e. one_text c.args.coef.now fs c.args.text.now.items c.append_factors-2.new.text.items _ (sym c.if-not-is_one.ensures) c.in_ok-append_factors-2.ensures.text (sym c.in_ok-append_factors-2.ensures.bare ∙ c.if-branch.true) e)
    c.append_magnitude-then-branch.ensures

pub returns : goal.returns
returns c =
    let fs = factor_texts c.args.algebra.now.names.now c.args.exps.now.exponents in
    bare_text c.args.coef.now fs c.args.text.now.items _ (sym c.if-not-is_one.ensures) c.in_ok-append_factors-2.ensures.text (sym c.in_ok-append_factors-2.ensures.bare ∙ c.if-branch.false)
