use Rattle.std.proofs.Common.{ℕ, ◌<◌, ◌≡◌, List, [], ◌∷◌, length, get_or, false, true≢false, refl, sym, ap, ◌∙◌, arith}
use Rattle.std.specs.Char.{is_ascii_digit}
use Rattle.ore_text.proofs.CanonicalReading.{decimal_first}
use Rattle.ore_text.proofs.canonical.read_numerator.Goals as goal

no_digit : (text : List ℕ) → length text < 1 → is_ascii_digit (get_or text 0 0) ≡ false
no_digit [] h = refl
no_digit (x ∷ xs) h = absurd (omega arith)

pub returns-in_default-clause-only : goal.returns-in_default-clause-only
returns-in_default-clause-only c n tail h w e = absurd (true≢false (sym (decimal_first n tail h) ∙ ap (λ t. is_ascii_digit (get_or t 0 0)) (sym e) ∙ no_digit c.args.text.now c.in_default.len_below))

pub returns-in_default-2-clause-only : goal.returns-in_default-2-clause-only
returns-in_default-2-clause-only c n tail h w e = absurd (true≢false (sym (decimal_first n tail h) ∙ ap (λ t. is_ascii_digit (get_or t 0 0)) (sym e) ∙ sym c.if-is_ascii_digit.ensures.value))
