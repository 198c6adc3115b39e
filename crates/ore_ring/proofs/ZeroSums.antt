-- Sums with the operator zero, under any limits: none of them stops.
--     plus_zero, zero_plus         a sum with zero is the other operand
use Rattle.std.proofs.Common.{◌≡◌, [], ap, ◌∙◌}
use Rattle.std.specs.declared.result.Result.TheVariants.{Ok}
use Rattle.ore_algebra.specs.Free.{coefficient, empty_sum, plus, terms}
use Rattle.ore_algebra.specs.Limits.{Limits, Overflow, guard}
use Rattle.ore_rational.specs.Field.{rationals}
use Rattle.ore_monomial.specs.Monomial.{plain_cmp}
use Rattle.ore_monomial.specs.LetterRule.{Operator}
use Rattle.ore_monomial.specs.declared.order.Order.TheVariants.{DegLex}
use Rattle.ore_monomial.proofs.Operators
use Rattle.ore_ring.specs.Within.{shared_fits, all_shared_fit, plus_within}
use Rattle.ore_ring.proofs.AllTerms.{all_terms}
use Rattle.ore_ring.proofs.Falls.{falls_none}
use Rattle.ore_ring.proofs.MergeIs.{fits_is, fits_none}

module _ (l : Limits) where
  pub plus_zero : (f : Operator rationals) → plus_within l f (empty_sum rationals plain_cmp) ≡ Ok f
  unfolding plus_within empty_sum
  plus_zero f =
      ap (λ b. guard b (plus rationals plain_cmp f (empty_sum rationals plain_cmp)) Overflow) (fits_is l DegLex (terms rationals plain_cmp f) [] ∙ fits_none l DegLex (terms rationals plain_cmp f))
      ∙ ap Ok (Operators.plus_zero rationals f)

  pub zero_plus : (f : Operator rationals) → plus_within l (empty_sum rationals plain_cmp) f ≡ Ok f
  unfolding plus_within all_shared_fit empty_sum
  zero_plus f =
      ap (λ b. guard b (plus rationals plain_cmp (empty_sum rationals plain_cmp) f) Overflow) (all_terms (λ t. shared_fits l t.1 (coefficient rationals plain_cmp f t.0)) DegLex [] (falls_none DegLex))
      ∙ ap Ok (Operators.zero-plus rationals f)
