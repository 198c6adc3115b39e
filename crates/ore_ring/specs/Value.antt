-- What products and adjoints are without limits, and that limits stop them or leave them as they are.
--     ProductIsByLetters, AdjointIsByLetters    without limits they are those of the letter rule, one letter at a time
--     LimitsKeepProducts, LimitsKeepAdjoints    within limits a value is that value
use Rattle.std.specs.Prelude.{◌≡◌}
use Rattle.std.specs.declared.result.Result.TheVariants.{Ok}
use Rattle.ore_algebra.specs.Limits.{Limits, unlimited}
use Rattle.ore_rational.specs.Field.{rationals}
use Rattle.ore_monomial.specs.Signature.{Signature}
use Rattle.ore_monomial.specs.LetterRule.{Operator}
use Rattle.ore_ring.specs.Adjoint.{adjoint}
use Rattle.ore_ring.specs.AdjointWithin.{adjoint_within}
use Rattle.ore_ring.specs.Product.{times}
use Rattle.ore_ring.specs.Within.{times_within}

module _ (s : Signature) where
  -- the letters of each monomial of the first operator are applied to the second in turn
  abbrev pub ProductIsByLetters : Type 0
  ProductIsByLetters = (f g : Operator rationals) → times_within unlimited s f g ≡ Ok (times rationals s f g)

  -- each letter turns into its adjoint, and the letters of a monomial come in reverse order
  abbrev pub AdjointIsByLetters : Type 0
  AdjointIsByLetters = (f : Operator rationals) → adjoint_within unlimited s f ≡ Ok (adjoint rationals s f)

  -- limits don't change the value of a product
  abbrev pub LimitsKeepProducts : Type 0
  LimitsKeepProducts = (l : Limits) (f g x : Operator rationals) → times_within l s f g ≡ Ok x → x ≡ times rationals s f g

  -- limits don't change the value of an adjoint
  abbrev pub LimitsKeepAdjoints : Type 0
  LimitsKeepAdjoints = (l : Limits) (f x : Operator rationals) → adjoint_within l s f ≡ Ok x → x ≡ adjoint rationals s f
