use Rattle.std.proofs.Common.{◌≡◌, ℕ, ◌<◌, ◌^◌, List, ap, sym, ◌∙◌, subst, arith, Some, Ok}
use Rattle.std.specs.Prelude.{decimal}
use Rattle.std.specs.declared.result.Result.{Result}
use Rattle.std.specs.Str.{IsUtf8, IsAscii}
use Rattle.std.specs.Str.Parse.{ParsesUnsigned}
use Rattle.std.proofs.lemmas.Fmt.{IsAscii-decimal_wide, parse-decimal_wide}
use Rattle.std.proofs.lemmas.Str.{IsUtf8-from_ascii}
use Rattle.ore_text.proofs.CanonicalReading.{small_decimal}
use Rattle.ore_text.proofs.Known.{not_error, same_ok}
use Rattle.ore_text.proofs.canonical.parse_number.Goals as goal

ascii_text : (n : ℕ) (text : List ℕ) → n < 2 ^ 127 → text ≡ decimal n → IsUtf8 text
ascii_text n text h e = IsUtf8-from_ascii text (subst IsAscii (sym e) (IsAscii-decimal_wide n (small_decimal n h)))

parsed : {E : Type 0} (n : ℕ) (text : List ℕ) (r : Result ℕ E) → n < 2 ^ 127 → text ≡ decimal n → ParsesUnsigned 128 10 text r → r ≡ Ok n
parsed n text r h e p = parse-decimal_wide 128 n text r (let l : n < 2 ^ 128 = omega arith in l) (small_decimal n h) e p

pub returns-in_default : goal.returns-in_default
returns-in_default c n h e = absurd (c.in_default.ensures.cases.0 (ascii_text n _ h e))

pub returns-in-Ok-parse : goal.returns-in-Ok-parse
returns-in-Ok-parse c n h e = ap Some (same_ok c.in-Ok-parse.is (parsed n c.in-Ok.digits.now c.parse.result h (c.in-Ok.ensures.cases.0 ∙ e) c.parse.ensures.value.0))

pub returns-in-Err : goal.returns-in-Err
returns-in-Err c n h e = absurd (not_error (parsed n c.in-Ok.digits.now c.parse.result h (c.in-Ok.ensures.cases.0 ∙ e) c.parse.ensures.value.0) c.in-Err.is)
