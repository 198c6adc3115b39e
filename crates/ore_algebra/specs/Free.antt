-- Finite sums of terms: the free module on a set of keys M, ordered by R, over a domain K.
--     Free                     a map from keys to numbers that are not zero
--     coefficient, terms       the number at a key; the list of terms, by rising keys
--     sum_at, summed           the sum of the numbers at a key in any list of terms; the keys where it is not zero
--     collect                  any list of terms as one sum
--     empty_sum, single, plus, scale, linear_extension
--                              the sum of no terms, of one term, of two sums; a multiple; a linear map given on keys
--     NonZero, non_zero_of     a number that is not zero; a number as one, with one in the place of zero
--     value_or_zero            the number, or zero where there is none
use Rattle.std.specs.Prelude.{◌≢◌, cond, List, [], ◌∷◌, ◌++◌, map}
use Rattle.std.specs.declared.cmp.Ordering.{Ordering}
use Rattle.std.specs.Ordering.{eq_by_cmp}
use Rattle.std.specs.declared.option.Option.{Option}
use Rattle.std.specs.declared.option.Option.TheVariants.{None, Some}
use Rattle.std.specs.FinMap.{FinMap, get, entries, from_entries}
use Rattle.std.specs.List.{flat_map}
use Rattle.ore_algebra.specs.Domain.{Domain}

pub record NonZero (K : Domain) : Type 0 where
  pub value : K.Number
  pub apart : value ≢ K.zero

-- a number as one that is not zero, with one in the place of zero
abbrev pub non_zero_of : (K : Domain) → K.Number → NonZero K
non_zero_of K x = elim (K.discrete x K.zero) [
  | yes e ↦ record { value = K.one; apart = K.one_apart }
  | no n ↦ record { value = x; apart = n }
]

abbrev pub value_or_zero : (K : Domain) → Option (NonZero K) → K.Number
value_or_zero K None = K.zero
value_or_zero K (Some v) = v.value

module _ (K : Domain) {M : Type 0} (R : M → M → Ordering) where
  -- the sum of the coefficients at q in a list of terms, which may name q more than once
  unfoldable pub sum_at : M → List (M × K.Number) → K.Number
  sum_at q [] = K.zero
  sum_at q (t ∷ ts) = K.plus (cond (eq_by_cmp R q t.0) t.1 K.zero) (sum_at q ts)

  -- of the terms ts: those keys at which all sums to something, with that sum
  unfoldable pub summed : List (M × K.Number) → List (M × K.Number) → List (M × NonZero K)
  summed all [] = []
  summed all (t ∷ ts) = elim (K.discrete (sum_at t.0 all) K.zero) [
    | yes e ↦ summed all ts
    | no n ↦ (t.0, record { value = sum_at t.0 all; apart = n }) ∷ summed all ts
  ]

  abbrev pub Free : Type 0
  Free = FinMap R (NonZero K)

  unfoldable pub coefficient : Free → M → K.Number
  coefficient f q = value_or_zero K (get f q)

  unfoldable pub terms : Free → List (M × K.Number)
  terms f = map (λ e. (e.0, e.1.value)) (entries f)

  -- a list of terms as one sum: like terms are added
  unfoldable pub collect : List (M × K.Number) → Free
  collect ts = from_entries (summed ts ts)

  unfoldable pub empty_sum : Free
  empty_sum = collect []

  unfoldable pub single : M → K.Number → Free
  single m k = collect ((m, k) ∷ [])

  unfoldable pub plus : Free → Free → Free
  plus f g = collect (terms f ++ terms g)

  unfoldable pub scale : K.Number → Free → Free
  scale k f = collect (map (λ t. (t.0, K.times k t.1)) (terms f))

  -- the linear map that sends each key m to h m
  unfoldable pub linear_extension : (M → Free) → Free → Free
  linear_extension h f = collect (flat_map (λ t. map (λ u. (u.0, K.times t.1 u.1)) (terms (h t.0))) (terms f))
