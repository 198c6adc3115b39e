-- Sums, differences and products of operators that stop at limits.
--     shared_fits, all_shared_fit       the fraction of a monomial that both operators have fits; each of them does
--     plus_within, opposite, minus_within    a sum; a difference, which is the sum with the opposite
--     add_term_within                   a term added to an operator
--     degrees_fit                       each product of two terms keeps the degree
--     contribute                        a fraction times a whole number of a product of monomials, added
--     pair_within, row_within           the contributions of two terms; of one term and all of another operator
--     times_within                      a product
use Rattle.std.specs.Prelude.{◌+◌, Bool, true, cond, ℤ, pos}
use Rattle.std.specs.declared.result.Result.{Result}
use Rattle.std.specs.declared.result.Result.TheVariants.{Ok, Err}
use Rattle.std.specs.List.{list_all}
use Rattle.ore_algebra.specs.Free.{coefficient, terms, empty_sum, single, plus, scale}
use Rattle.ore_algebra.specs.Limits.{Limits, Cause, Overflow, Degree, is_within, ◌>>=◌, guard, fold_within}
use Rattle.ore_rational.specs.Fraction.{Fraction, whole}
use Rattle.ore_rational.specs.Within.{sum_fits, sum_within, product_within}
use Rattle.ore_rational.specs.Field.{rationals}
use Rattle.ore_rational.specs.FractionRing.{fraction_discrete}
use Rattle.ore_monomial.specs.Monomial.{Monomial, degree, plain_cmp}
use Rattle.ore_monomial.specs.Signature.{Signature}
use Rattle.ore_monomial.specs.LetterRule.{Operator}
use Rattle.ore_ring.specs.Terms.{Summand, Terms, falling}
use Rattle.ore_monomial.specs.Numbers.{numbers, numbers_within}

-- ---- sums

-- the sum of x, the number of a monomial, and y, the number of the other operator there, fits, or there is no y
unfoldable pub shared_fits : Limits → Fraction → Fraction → Bool
shared_fits l x y = elim (fraction_discrete y (whole (pos 0))) [ yes e ↦ true | no n ↦ sum_fits l x y ]

-- the fraction of each of these terms whose monomial the operator has too fits
unfoldable pub all_shared_fit : Limits → Operator rationals → Terms → Bool
all_shared_fit l g ts = list_all (λ t. shared_fits l t.1 (coefficient rationals plain_cmp g t.0)) ts

-- a sum fits where the fraction of each shared monomial does
unfoldable pub plus_within : Limits → Operator rationals → Operator rationals → Result (Operator rationals) Cause
plus_within l f g = guard (all_shared_fit l g (terms rationals plain_cmp f)) (plus rationals plain_cmp f g) Overflow

-- the operator with each fraction negated
unfoldable pub opposite : Operator rationals → Operator rationals
opposite f = scale rationals plain_cmp (rationals.minus rationals.one) f

-- a difference is the sum with the opposite
abbrev pub minus_within : Limits → Operator rationals → Operator rationals → Result (Operator rationals) Cause
minus_within l f g = plus_within l f (opposite g)

-- a term is added where the sum with the number at its monomial fits
unfoldable pub add_term_within : Limits → Operator rationals → Monomial → Fraction → Result (Operator rationals) Cause
add_term_within l f m c = do
  s ← sum_within l (coefficient rationals plain_cmp f m) c
  Ok (plus rationals plain_cmp f (single rationals plain_cmp m c))

-- ---- products

-- no two terms have degrees with too great a sum
unfoldable pub degrees_fit : Limits → Terms → Terms → Bool
degrees_fit l ts us = list_all (λ t. list_all (λ u. is_within l.degree (degree t.0 + degree u.0)) us) ts

-- a whole number of a product of monomials, times the fraction of that product, is a contribution
unfoldable pub contribute : Limits → Fraction → Operator rationals → Monomial × ℤ → Result (Operator rationals) Cause
contribute l uv acc k = do
  c ← product_within l uv (whole k.1)
  add_term_within l acc k.0 c

module _ (l : Limits) (s : Signature) where
  -- two terms contribute the whole numbers of the product of their monomials, times the product of their fractions
  unfoldable pub pair_within : Summand → Operator rationals → Summand → Result (Operator rationals) Cause
  pair_within t acc u = do
    uv ← product_within l t.1 u.1
    ks ← numbers_within l (numbers s t.0 u.0)
    fold_within (contribute l uv) acc ks

  -- a term meets those of the second operator in turn
  unfoldable pub row_within : Terms → Operator rationals → Summand → Result (Operator rationals) Cause
  row_within us acc t = fold_within (pair_within t) acc us

  -- the terms of the first operator in turn, once all degrees are seen to fit
  unfoldable pub times_within : Operator rationals → Operator rationals → Result (Operator rationals) Cause
  times_within f g =
      cond (degrees_fit l (falling s.order f) (falling s.order g))
      (fold_within (row_within (falling s.order g)) (empty_sum rationals plain_cmp) (falling s.order f))
      (Err Degree)
