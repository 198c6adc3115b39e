-- The words of faults of texts, as a reply names them.
--     text_word     the word of a fault of a text of an operator
use Rattle.std.specs.Prelude.{ℕ, List, [], codes}
use Rattle.ore_expr.specs.declared.fault.TextFault.{TextFault}
use Rattle.ore_expr.specs.declared.fault.TextFault.TheVariants.{Syntax, UnknownName, NumberTooWide, ZeroDenominator, PowerTooLarge, TooDeep, Stop}

-- a stop has no word, since its cause is answered
abbrev pub text_word : TextFault → List ℕ
text_word (Syntax k) = codes "syntax"
text_word (UnknownName k) = codes "unknown-name"
text_word (NumberTooWide k) = codes "number-too-wide"
text_word (ZeroDenominator k) = codes "zero-denominator"
text_word (PowerTooLarge k) = codes "power-too-large"
text_word (TooDeep k) = codes "too-deep"
text_word (Stop s) = []
