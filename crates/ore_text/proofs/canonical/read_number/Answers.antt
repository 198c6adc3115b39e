use Rattle.std.specs.Prelude.{decimal}
use Rattle.ore_text.proofs.CanonicalReading.{front_at, take_front, drop_front, decimal_in_name}
use Rattle.ore_text.proofs.Known.{not_none, same_some}
use Rattle.ore_text.proofs.canonical.read_number.Goals as goal

pub returns-in_default-clause-only : goal.returns-in_default-clause-only
returns-in_default-clause-only c n tail h w e =
    let l = front_at (decimal n) tail c.args.text.now c.word_length-length.result (decimal_in_name n h) w c.word_length-length.ensures.value e in
    not_none (c.parse_number.ensures n h (take_front (decimal n) tail c.args.text.now c.word_length-length.result l e)) c.in_default.is

pub returns-clause-only : goal.returns-clause-only
returns-clause-only c n tail h w e =
    let l = front_at (decimal n) tail c.args.text.now c.word_length-length.result (decimal_in_name n h) w c.word_length-length.ensures.value e in (
      same_some c.in-Some.is (c.parse_number.ensures n h (take_front (decimal n) tail c.args.text.now c.word_length-length.result l e)),
      drop_front (decimal n) tail c.args.text.now c.word_length-length.result l e,
    )
