-- Monomials in the variables of a signature.
--     MonomialOf-unit, MonomialOf-product, MonomialOf-lcm, MonomialOf-quotient    what is made of them is one
--     MonomialOf-factor        a factor of one is one
--     MonomialOf-divisor       a divisor of one is one
--     MonomialOf-raise         one more of a declared variable
use Rattle.std.proofs.Common.{ℕ, ◌<◌, length, ◌∙◌, arith}
use Rattle.ore_monomial.specs.Monomial.{Monomial, unit, raise, product, lcm, quotient, Divides}
use Rattle.ore_monomial.specs.Signature.{Signature, MonomialOf}
use Rattle.ore_monomial.proofs.Monomials.{exponent-unit, exponent-product, exponent-lcm, exponent-quotient, exponent-raise_other}
use Rattle.ore_monomial.proofs.Divisors.{divides-product}

module _ (s : Signature) where
  pub MonomialOf-unit : MonomialOf s unit
  MonomialOf-unit x h = exponent-unit x

  pub MonomialOf-product : (m n : Monomial) → MonomialOf s m → MonomialOf s n → MonomialOf s (product m n)
  MonomialOf-product m n a b x h = let p = exponent-product m n x in let q = a x h in let r = b x h in omega arith

  pub MonomialOf-lcm : (m n : Monomial) → MonomialOf s m → MonomialOf s n → MonomialOf s (lcm m n)
  MonomialOf-lcm m n a b x h = let p = exponent-lcm m n x in let q = a x h in let r = b x h in omega arith

  pub MonomialOf-quotient : (m n : Monomial) → MonomialOf s m → MonomialOf s (quotient m n)
  MonomialOf-quotient m n a x h = let p = exponent-quotient m n x in let q = a x h in omega arith

  pub MonomialOf-divisor : (m n : Monomial) → Divides m n → MonomialOf s n → MonomialOf s m
  MonomialOf-divisor m n d a x h = let p = d x in let q = a x h in omega arith

  pub MonomialOf-factor : (m n : Monomial) → MonomialOf s (product m n) → MonomialOf s n
  MonomialOf-factor m n a = MonomialOf-divisor n (product m n) (divides-product m n) a

  pub MonomialOf-raise : (x : ℕ) (m : Monomial) → x < length s.kinds → MonomialOf s m → MonomialOf s (raise x m)
  MonomialOf-raise x m l a y h = exponent-raise_other x y m (λ e. absurd (omega arith)) ∙ a y h
