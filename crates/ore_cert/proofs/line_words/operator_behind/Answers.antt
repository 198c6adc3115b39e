use Rattle.std.proofs.Common.{[], ◌∷◌, ◌++◌, ap, ◌∙◌}
use Rattle.ore_text.specs.CanonicalText.{operator_text}
use Rattle.ore_text.proofs.RowEntries.{is_front, not_front}
use Rattle.ore_cert.proofs.WholeLaws.{operator_spelled}
use Rattle.ore_cert.proofs.line_words.operator_behind.Goals as goal

pub returns-in_default : goal.returns-in_default
returns-in_default c f h e = not_front c.args.words.now c.args.word.now (32 ∷ operator_text c.args.algebra.now.names.now c.args.algebra.now.signature.now.order f.sum) c.in_default.ensures.cases e

pub returns : goal.returns
returns c =
    let front = is_front c.args.words.now c.args.word.now c.in-Some.spaced.now c.in-Some.ensures.cases.0 c.in-Some.ensures.cases.1 in
    let space = is_front c.in-Some.spaced.now (32 ∷ []) c.in-Some-strip_prefix.text.now c.in-Some-strip_prefix.ensures.cases.0 c.in-Some-strip_prefix.ensures.cases.1 in
    operator_spelled c.args.algebra.now.signature.now c.args.algebra.now.names.now c.args.algebra.now.form c.args.algebra.now.count c.args.word.now c.args.words.now c.in-Some-strip_prefix.text.now c.operator_in.result (front ∙ ap (λ t. c.args.word.now ++ t) space)
    c.operator_in.ensures.found c.operator_in.ensures.of c.operator_in.ensures.only
