-- Tests of single bytes.
--     letter_no_digit                  a letter is no digit
--     letter_in_name, digit_in_name    both may stand in a name
--     digit_true, digit_value-is       a byte that has the value of a digit is one; the value of a digit
use Rattle.std.proofs.Common.{◌≡◌, ℕ, ◌-◌, ◌<◌, true, false, arith}
use Rattle.std.specs.Char.{is_ascii_alphabetic, is_ascii_digit, digit_value}
use Rattle.std.proofs.lemmas.Bool.Decides.{nat_tests}
use Rattle.ore_text.specs.Names.{is_name_byte}

pub letter_no_digit : (b : ℕ) → is_ascii_alphabetic b ≡ true → is_ascii_digit b ≡ false
letter_no_digit b h = grind (arith, nat_tests)

pub letter_in_name : (b : ℕ) → is_ascii_alphabetic b ≡ true → is_name_byte b ≡ true
letter_in_name b h = grind (arith, nat_tests)

pub digit_in_name : (b : ℕ) → is_ascii_digit b ≡ true → is_name_byte b ≡ true
digit_in_name b h = grind (arith, nat_tests)

pub digit_true : (b : ℕ) → digit_value b < 10 → is_ascii_digit b ≡ true
digit_true b h = grind (arith, nat_tests)

pub digit_value-is : (b : ℕ) → is_ascii_digit b ≡ true → digit_value b ≡ b - 48
digit_value-is b h = grind (arith, nat_tests)
