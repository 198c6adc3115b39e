-- The parts of a canonical text, as they are written and read one after another.
--     starred            factors with `*` before each, the first excepted where nothing stands before it
--     stays_bare         whether nothing stands there still after these factors
--     exponent_text      what follows a name in a factor, from its exponent
--     denominator_text   what follows a numerator
--     is_negative        whether a minus stands before a number
--     IsWordEnd, IsFactorEnd, IsTermEnd     what may follow a name or a number, a factor, a term
--     falling_terms      the terms of a stored operator, falling
--     term_unless, term_unless_zero  a term as the list that it adds to others: 0 adds nothing
--     IsPrintableTerm    a term in the variables of a signature with numbers in range
use Rattle.std.specs.Prelude.{◌≡◌, ◌⊎◌, ℕ, zero, suc, Bool, true, false, if◌then◌else◌, nat_eq, List, [], ◌∷◌, ◌++◌, ℤ, pos, negsuc, decimal}
use Rattle.ore_rational.specs.Field.{rationals}
use Rattle.ore_monomial.specs.Signature.{Signature, MonomialOf}
use Rattle.ore_ring.specs.Ordered.{Ordered}
use Rattle.ore_ring.specs.Terms.{Summand, Terms, falling}
use Rattle.ore_text.specs.Printable.{IsStorableTerm}
use Rattle.ore_text.specs.Names.{is_name_byte}

-- `*`, the byte 42, before each factor; not before the first, where the flag says that nothing stands there
abbrev pub starred : Bool → List (List ℕ) → List ℕ
starred bare [] = []
starred true (f ∷ fs) = f ++ starred false fs
starred false (f ∷ fs) = 42 ∷ (f ++ starred false fs)

-- nothing of the term stood before these factors, and there is none
abbrev pub stays_bare : Bool → List (List ℕ) → Bool
stays_bare bare [] = bare
stays_bare bare (f ∷ fs) = false

-- nothing for the exponents 0 and 1, else `^`, the byte 94, and the exponent
abbrev pub exponent_text : ℕ → List ℕ
exponent_text zero = []
exponent_text (suc zero) = []
exponent_text e = 94 ∷ decimal e

-- nothing for the denominator 1, else `/`, the byte 47, and the denominator
abbrev pub denominator_text : ℕ → List ℕ
denominator_text n = if nat_eq n 1 then [] else 47 ∷ decimal n

-- the number is below 0
abbrev pub is_negative : ℤ → Bool
is_negative (pos n) = false
is_negative (negsuc n) = true

-- the text is empty, or its first byte is no name byte
abbrev pub IsWordEnd : List ℕ → Type 0
IsWordEnd [] = Unit {0}
IsWordEnd (b ∷ bs) = is_name_byte b ≡ false

-- the text is empty, or `*` or a space stands first
abbrev pub IsFactorEnd : List ℕ → Type 0
IsFactorEnd [] = Unit {0}
IsFactorEnd (b ∷ bs) = (b ≡ 42) ⊎ (b ≡ 32)

-- the text is empty, or a space, the byte 32, stands first
abbrev pub IsTermEnd : List ℕ → Type 0
IsTermEnd [] = Unit {0}
IsTermEnd (b ∷ bs) = b ≡ 32

-- from the greatest on, in the order that is stored with the operator
abbrev pub falling_terms : Ordered → Terms
falling_terms f = falling f.by f.sum

-- no term where P holds, else this one
abbrev pub term_unless : {P : Type 0} → Dec P → Summand → Terms
term_unless (yes e) t = []
term_unless (no n) t = t ∷ []

-- no term where the coefficient is 0, else this one
unfoldable pub term_unless_zero : Summand → Terms
term_unless_zero t = term_unless (rationals.discrete t.1 rationals.zero) t

-- its monomial is of the signature; its numbers and its degree are in the ranges of the program
pub record IsPrintableTerm (s : Signature) (t : Summand) : Type 0 where
  pub variables : MonomialOf s t.0
  pub storable : IsStorableTerm t
