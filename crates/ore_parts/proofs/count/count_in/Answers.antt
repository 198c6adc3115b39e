use Rattle.std.proofs.Common.{◌<◌, [], ◌∷◌}
use Rattle.std.specs.Prelude.{decimal}
use Rattle.ore_text.proofs.RowEntries.{is_front, not_front}
use Rattle.ore_parts.specs.CertificateText.{number_bound}
use Rattle.ore_parts.proofs.Numbers.{spells_behind}
use Rattle.ore_parts.proofs.count.count_in.Goals as goal

pub returns-in_default : goal.returns-in_default
returns-in_default c n h e = not_front c.args.words.now c.args.word.now (32 ∷ decimal n) c.in_default.ensures.cases e

pub returns : goal.returns
returns c =
    let spaced = c.in-Some.spaced.now in
    let behind = is_front c.args.words.now c.args.word.now spaced c.in-Some.ensures.cases.0 c.in-Some.ensures.cases.1 in
    let digits = is_front spaced (32 ∷ []) c.in-Some-strip_prefix.digits.now c.in-Some-strip_prefix.ensures.cases.0 c.in-Some-strip_prefix.ensures.cases.1 in
    spells_behind (λ n. 32 ∷ decimal n) (λ n. n < number_bound) c.args.word.now spaced c.args.words.now c.number_in.result behind
    (spells_behind (λ n. decimal n) (λ n. n < number_bound) (32 ∷ []) c.in-Some-strip_prefix.digits.now spaced c.number_in.result digits c.number_in.ensures)
