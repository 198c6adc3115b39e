-- The whole numbers of the product of two ordered monomials.
--     back             the order of monomials, turned round
--     falling_over     the terms of an operator over any numbers, the greatest first
--     numbers          the terms of the product over the whole numbers, by the letter rule
--     AreNonZero       no number of a list of terms is zero
--     are_within       no number has a magnitude beyond the limit
--     numbers_within   monomials with whole numbers, where they are within the limit
use Rattle.std.specs.Prelude.{◌≢◌, Bool, List, [], ◌∷◌, ℤ, pos, nat_abs}
use Rattle.std.specs.List.{list_all}
use Rattle.std.specs.declared.cmp.Ordering.{Ordering}
use Rattle.std.specs.Ordering.{flip_args}
use Rattle.std.specs.declared.result.Result.{Result}
use Rattle.ore_algebra.specs.Domain.{Domain}
use Rattle.ore_algebra.specs.Limits.{Cause, Overflow, Limits, is_within, guard}
use Rattle.ore_algebra.specs.Free.{single, collect, terms}
use Rattle.ore_algebra.proofs.Integers.{integers}
use Rattle.ore_monomial.specs.Monomial.{Monomial, order_cmp, plain_cmp}
use Rattle.ore_monomial.specs.declared.order.Order.{Order}
use Rattle.ore_monomial.specs.LetterRule.{Operator, monomial_times}
use Rattle.ore_monomial.specs.Signature.{Signature}

abbrev pub back : Order → Monomial → Monomial → Ordering
back o = flip_args (order_cmp o)

-- A sum has one term for each monomial, sorted by the order in which it is collected.
unfoldable pub falling_over : (K : Domain) → Order → Operator K → List (Monomial × K.Number)
falling_over K o f = terms K (back o) (collect K (back o) (terms K plain_cmp f))

unfoldable pub numbers : Signature → Monomial → Monomial → List (Monomial × ℤ)
numbers s m n = falling_over integers s.order (monomial_times integers s m (single integers plain_cmp n (pos 1)))

abbrev pub AreNonZero : (K : Domain) → List (Monomial × K.Number) → Type 0
AreNonZero K [] = Unit {0}
AreNonZero K (t ∷ ts) = (t.1 ≢ K.zero) × AreNonZero K ts

abbrev pub are_within : Limits → List (Monomial × ℤ) → Bool
are_within l ks = list_all (λ k. is_within l.magnitude (nat_abs k.1)) ks

unfoldable pub numbers_within : Limits → List (Monomial × ℤ) → Result (List (Monomial × ℤ)) Cause
numbers_within l ks = guard (are_within l ks) ks Overflow
