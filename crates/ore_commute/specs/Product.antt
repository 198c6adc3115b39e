-- The product of two ordered monomials over the whole numbers.
--     IntegerTerms   monomials with whole numbers
--     pass_within    the terms of the product, or the cause why they are beyond limits
--     IsStarted, HasRoom     there is a term that isn't zero; a monomial can be lowered
--     divided        a term divided by a monomial, and times a number
--     in_range, checked   a term where its number is in range; terms after others, where their numbers are in range
use Rattle.std.specs.Prelude.{ℕ, ℤ, pos, nat_abs, ◌*ℤ◌, ◌+◌, ◌≤◌, ◌≢◌, cond, List, [], ◌∷◌, ◌++◌}
use Rattle.std.specs.declared.result.Result.{Result}
use Rattle.std.specs.declared.result.Result.TheVariants.{Err}
use Rattle.ore_algebra.specs.Limits.{Cause, Overflow, Degree, Limits, program, is_within, guard}
use Rattle.ore_monomial.specs.Monomial.{Monomial, exponent, degree, quotient}
use Rattle.ore_monomial.specs.Numbers.{numbers, are_within, numbers_within}
use Rattle.ore_monomial.specs.Signature.{Signature}

-- monomials with whole numbers
abbrev pub IntegerTerms : Type 0
IntegerTerms = List (Monomial × ℤ)

-- the terms of m n, where the degrees sum to no more than the limit, and no whole number is beyond it
unfoldable pub pass_within : Limits → Signature → Monomial → Monomial → Result IntegerTerms Cause
pass_within l s m n = cond (is_within l.degree (degree m + degree n)) (numbers_within l (numbers s m n)) (Err Degree)

-- ---- words of the calls inside

-- a term, where its number is in range
abbrev pub in_range : Monomial × ℤ → Result (Monomial × ℤ) Cause
in_range t = guard (is_within program.magnitude (nat_abs t.1)) t Overflow

-- a term divided by a monomial, and times a number
unfoldable pub divided : Monomial → ℤ → Monomial × ℤ → Monomial × ℤ
divided m k t = (quotient t.0 m, k *ℤ t.1)

-- terms after others, where their numbers are in range
unfoldable pub checked : IntegerTerms → IntegerTerms → Result IntegerTerms Cause
checked front ts = guard (are_within program ts) (front ++ ts) Overflow

-- there is a term, and its number isn't zero
abbrev pub IsStarted : IntegerTerms → Type 0
IsStarted [] = ⊥
IsStarted (t ∷ ts) = t.1 ≢ pos 0

-- t and d have at least these exponents in m
pub record HasRoom (t d a c : ℕ) (m : Monomial) : Type 0 where
  pub coordinate : a ≤ exponent m t
  pub operator : c ≤ exponent m d
