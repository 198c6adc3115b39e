-- The law of canonical texts.
--     CanonicalIsUnique    no text is the canonical text of two operators
use Rattle.std.specs.Prelude.{◌≡◌, ℕ, List}
use Rattle.ore_rational.specs.Field.{rationals}
use Rattle.ore_monomial.specs.Signature.{Signature}
use Rattle.ore_monomial.specs.LetterRule.{Operator}
use Rattle.ore_text.specs.CanonicalText.{operator_text}
use Rattle.ore_text.specs.Printable.{IsPrintable}

-- two operators that can be printed with one text are the same
abbrev pub CanonicalIsUnique : Type 0
CanonicalIsUnique = (s : Signature) (names : List (List ℕ)) (f g : Operator rationals) → IsPrintable s names f → IsPrintable s names g → operator_text names s.order f ≡ operator_text names s.order g → f ≡ g
