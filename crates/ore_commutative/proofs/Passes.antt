-- The product of two monomials where all variables commute.
--     sole_number      its whole numbers are a single 1, at the product of the monomials
use Rattle.std.proofs.Common.{◌≡◌, [], ◌∷◌, pos, ap, ◌∙◌}
use Rattle.std.specs.declared.result.Result.TheVariants.{Ok}
use Rattle.ore_algebra.specs.Limits.{program}
use Rattle.ore_monomial.specs.Monomial.{Monomial, product}
use Rattle.ore_monomial.specs.Numbers.{numbers, numbers_within}
use Rattle.ore_monomial.specs.Signature.{Signature}
use Rattle.ore_ring.proofs.PlainNumbers.{plain_numbers, still_meets, one_number}
use Rattle.ore_commutative.specs.Commutes.{Commutes}

pub sole_number : (s : Signature) → Commutes s → (m n : Monomial) → numbers_within program (numbers s m n) ≡ Ok ((product m n, pos 1) ∷ [])
sole_number s h m n = ap (numbers_within program) (plain_numbers s m n (still_meets s h m n)) ∙ one_number (product m n)
