-- The arithmetic of operators that a computation on rows uses, with or without limits.
--     Arithmetic           how products and differences of operators are formed, and which degrees fit
--     exact                nothing stops
--     within               what passes the limits stops
--     IsSoundArithmetic    a value that comes is the right one
--     entry_by_entry       an operation on the entries of two rows at one place, in order
--     scaled, less         an operator times each entry of a row; a row less another
use Rattle.std.specs.Prelude.{ℕ, Bool, true}
use Rattle.std.specs.List.{zip}
use Rattle.std.specs.declared.result.Result.{Result}
use Rattle.std.specs.declared.result.Result.TheVariants.{Ok}
use Rattle.ore_algebra.specs.Domain.{Domain}
use Rattle.ore_algebra.specs.Free.{plus, scale}
use Rattle.ore_algebra.specs.Limits.{Limits, Cause, is_within, map_within, IsAtMost}
use Rattle.ore_rational.specs.Field.{rationals}
use Rattle.ore_monomial.specs.Monomial.{plain_cmp}
use Rattle.ore_monomial.specs.Signature.{Signature}
use Rattle.ore_monomial.specs.LetterRule.{Operator}
use Rattle.ore_ring.specs.Product.{times}
use Rattle.ore_ring.specs.Within.{minus_within, times_within}
use Rattle.ore_rows.specs.Rows.{Row}

-- the product and the difference of two operators, each a value or the cause of a stop, and whether a degree fits
pub record Arithmetic (K : Domain) : Type 0 where
  pub product : Operator K → Operator K → Result (Operator K) Cause
  pub difference : Operator K → Operator K → Result (Operator K) Cause
  pub degree_fits : ℕ → Bool

-- each product and each difference has its value, and each degree fits
abbrev pub exact : (K : Domain) → Signature → Arithmetic K
exact K s = record { product = λ f g. Ok (times K s f g); difference = λ f g. Ok (plus K plain_cmp f (scale K plain_cmp (K.minus K.one) g)); degree_fits = λ d. true }

-- the operations of the ring within limits
abbrev pub within : Limits → Signature → Arithmetic rationals
within l s = record { product = times_within l s; difference = minus_within l; degree_fits = is_within l.degree }

-- each operation gives the exact value, or stops
pub record IsSoundArithmetic (K : Domain) (s : Signature) (A : Arithmetic K) : Type 0 where
  pub product : (f g : Operator K) → IsAtMost (A.product f g) ((exact K s).product f g)
  pub difference : (f g : Operator K) → IsAtMost (A.difference f g) ((exact K s).difference f g)

-- f of the entries at one place, in order
abbrev pub entry_by_entry : {K : Domain} → (Operator K → Operator K → Result (Operator K) Cause) → Row K → Row K → Result (Row K) Cause
entry_by_entry f r q = map_within (λ p. f p.0 p.1) (zip r q)

module _ (K : Domain) (A : Arithmetic K) where
  -- d times each entry
  abbrev pub scaled : Operator K → Row K → Result (Row K) Cause
  scaled d r = map_within (A.product d) r

  -- r less q
  abbrev pub less : Row K → Row K → Result (Row K) Cause
  less r q = entry_by_entry A.difference r q
