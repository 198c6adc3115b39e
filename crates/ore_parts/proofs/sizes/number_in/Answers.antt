use Rattle.std.proofs.Common.{◌≡◌, sym, ap, ◌∙◌, arith}
use Rattle.std.specs.Prelude.{decimal}
use Rattle.ore_text.proofs.RowEntries.{other_bytes}
use Rattle.ore_parts.proofs.Numbers.{utf8_number, number_read, same_number, no_error}
use Rattle.ore_parts.proofs.sizes.number_in.Goals as goal

pub returns-in_default : goal.returns-in_default
returns-in_default c n h e = c.in_default.ensures.cases.0 (utf8_number n c.args.text.now h e)

pub returns-in_default-parse : goal.returns-in_default-parse
returns-in_default-parse c n h e =
    no_error c.in_default-parse.is (number_read n c.in-Ok.digits.now c.parse.result h (c.in-Ok.ensures.cases.0 ∙ e) c.parse.ensures.value.0)

pub returns-then-number : goal.returns-then-number
returns-then-number c n h e =
    let same : c.in-Ok-parse.number ≡ n = same_number c.in-Ok-parse.is (number_read n c.in-Ok.digits.now c.parse.result h (c.in-Ok.ensures.cases.0 ∙ e) c.parse.ensures.value.0) in
    let z : ⊥ = omega arith in z

pub returns-else-eq : goal.returns-else-eq
returns-else-eq c n h e =
    let same : c.in-Ok-parse.number ≡ n = same_number c.in-Ok-parse.is (number_read n c.in-Ok.digits.now c.parse.result h (c.in-Ok.ensures.cases.0 ∙ e) c.parse.ensures.value.0) in
    other_bytes c.format.result.now c.in-Ok.digits.now c.eq.result c.eq.ensures c.if-eq.false (c.format.ensures.text ∙ ap decimal same ∙ sym (c.in-Ok.ensures.cases.0 ∙ e))
