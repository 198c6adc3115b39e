-- The numbers that digits write.
--     saturated_more        a number that stops at a greatest one, with a digit more
use Rattle.ore_text.proofs.ByteTests.{digit_value-is}
use Rattle.std.proofs.Common.{◌≡◌, ℕ, ◌+◌, ◌-◌, ◌*◌, true, min, arith}
use Rattle.std.specs.Char.{is_ascii_digit, digit_value}

pub saturated_more : (top v n b : ℕ) → n ≡ min v top → is_ascii_digit b ≡ true → min (min (n * 10) top + (b - 48)) top ≡ min (v * 10 + digit_value b) top
saturated_more top v n b e h = rw (digit_value-is b h) (omega arith)
