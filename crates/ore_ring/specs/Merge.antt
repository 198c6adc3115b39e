-- The sum of two lists of falling terms, by one walk over both.
--     kept             a term, unless its number is none
--     merge_within     the sum, where the fraction of each shared monomial fits
--     opposite_terms   the terms with each fraction negated
--     step_within      one step: a term of the left list, of the right one, or the sum of both
--     into_within      a term and a list that follows it, merged with another list
use Rattle.std.specs.Prelude.{[], ◌∷◌, map, pos}
use Rattle.std.specs.declared.cmp.Ordering.{Ordering}
use Rattle.std.specs.Ordering.{match_ordering}
use Rattle.std.specs.declared.result.Result.{Result}
use Rattle.std.specs.declared.result.Result.TheVariants.{Ok}
use Rattle.ore_rational.specs.Fraction.{Fraction, whole, neg}
use Rattle.ore_rational.specs.FractionRing.{fraction_discrete}
use Rattle.ore_monomial.specs.Monomial.{Monomial, order_cmp}
use Rattle.ore_monomial.specs.declared.order.Order.{Order}
use Rattle.ore_algebra.specs.Limits.{Limits, Cause, ◌>>=◌}
use Rattle.ore_rational.specs.Within.{sum_within}
use Rattle.ore_ring.specs.Terms.{Summand, Terms}

abbrev pub kept : Monomial → Fraction → Terms → Terms
kept m x ts = elim (fraction_discrete x (whole (pos 0))) [ yes e ↦ ts | no n ↦ (m, x) ∷ ts ]

abbrev pub step_within : Limits → Ordering → Summand → Summand → Result Terms Cause → Result Terms Cause → Result Terms Cause → Result Terms Cause
step_within l r t u left both right =
    match_ordering r
    (right >>= λ ts. Ok (u ∷ ts))
    (sum_within l t.1 u.1 >>= λ s. both >>= λ ts. Ok (kept t.0 s ts))
    (left >>= λ ts. Ok (t ∷ ts))

-- t ∷ ts with us, where rest merges ts with a list
unfoldable pub into_within : Limits → Order → Summand → Terms → (Terms → Result Terms Cause) → Terms → Result Terms Cause
into_within l o t ts rest [] = Ok (t ∷ ts)
into_within l o t ts rest (u ∷ us) = step_within l (order_cmp o t.0 u.0) t u (rest (u ∷ us)) (rest us) (into_within l o t ts rest us)

unfoldable pub merge_within : Limits → Order → Terms → Terms → Result Terms Cause
merge_within l o [] us = Ok us
merge_within l o (t ∷ ts) us = into_within l o t ts (merge_within l o ts) us

abbrev pub opposite_terms : Terms → Terms
opposite_terms ts = map (λ t. (t.0, neg t.1)) ts
