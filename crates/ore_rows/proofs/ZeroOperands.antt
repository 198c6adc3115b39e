-- Operations of the ring on the operator zero, under any limits: none of them stops.
--     minus_zero                   a difference from which zero is taken is the same
--     times_zero, zero_times       a product with zero is zero
--     added_none, added_zero       where a product with zero is added, its first or its second factor, the same is left
--     taken_none                   where a product with zero is taken away, the same is left
--     adjoint_none                 the adjoint of zero is zero
--     copied                       a copy gives what a definition gives that gives the operand
use Rattle.std.proofs.Common.{◌≡◌, [], ◌∷◌, true, refl, sym, ap, ◌∙◌, subst, cond}
use Rattle.std.specs.Prelude.{IfOk, IfErr}
use Rattle.std.specs.declared.result.Result.{Result}
use Rattle.std.specs.declared.result.Result.TheVariants.{Ok, Err}
use Rattle.ore_algebra.specs.Free.{empty_sum}
use Rattle.ore_algebra.specs.Limits.{Limits, Cause, Degree, ◌>>=◌, fold_within}
use Rattle.ore_rational.specs.Field.{rationals}
use Rattle.ore_monomial.specs.Gives.{Fails, Gives}
use Rattle.ore_monomial.specs.Monomial.{plain_cmp}
use Rattle.ore_monomial.specs.Signature.{Signature}
use Rattle.ore_monomial.specs.LetterRule.{Operator}
use Rattle.ore_monomial.specs.declared.stop.RingStop.{RingStop}
use Rattle.ore_monomial.specs.declared.stop.RingStop.TheVariants.{Memory}
use Rattle.ore_monomial.proofs.Operators
use Rattle.ore_ring.specs.Ordered.{Ordered}
use Rattle.ore_ring.specs.AdjointWithin.{adjoint_within, adjoint_term_within}
use Rattle.ore_ring.specs.Terms.{Terms, falling}
use Rattle.ore_ring.specs.Within.{plus_within, minus_within, opposite, degrees_fit, row_within, times_within}
use Rattle.ore_ring.proofs.Falls.{falling-none}
use Rattle.ore_ring.proofs.ZeroSums.{plus_zero}
use Rattle.ore_rows.specs.RowsWithin.{product_added, product_taken}

module _ (l : Limits) where
  pub minus_zero : (f : Operator rationals) → minus_within l f (empty_sum rationals plain_cmp) ≡ Ok f
  unfolding opposite
  minus_zero f = ap (plus_within l f) (Operators.scale-empty_sum rationals (rationals.minus rationals.one)) ∙ plus_zero l f

  fits_all : (ts : Terms) → degrees_fit l ts [] ≡ true
  unfolding degrees_fit
  fits_all [] = refl
  fits_all (t ∷ ts) = fits_all ts

  module _ (s : Signature) where
    nothing_comes : (acc : Operator rationals) (ts : Terms) → fold_within (row_within l s []) acc ts ≡ Ok acc
    unfolding row_within
    nothing_comes acc [] = refl
    nothing_comes acc (t ∷ ts) = nothing_comes acc ts

    pub times_zero : (f : Operator rationals) → times_within l s f (empty_sum rationals plain_cmp) ≡ Ok (empty_sum rationals plain_cmp)
    unfolding times_within
    times_zero f =
        ap (λ us. cond (degrees_fit l (falling s.order f) us) (fold_within (row_within l s us) (empty_sum rationals plain_cmp) (falling s.order f)) (Err Degree)) (falling-none s.order)
        ∙ ap (λ b. cond b (fold_within (row_within l s []) (empty_sum rationals plain_cmp) (falling s.order f)) (Err Degree)) (fits_all (falling s.order f))
        ∙ nothing_comes (empty_sum rationals plain_cmp) (falling s.order f)

    pub zero_times : (f : Operator rationals) → times_within l s (empty_sum rationals plain_cmp) f ≡ Ok (empty_sum rationals plain_cmp)
    unfolding times_within degrees_fit
    zero_times f = ap (λ ts. cond (degrees_fit l ts (falling s.order f)) (fold_within (row_within l s (falling s.order f)) (empty_sum rationals plain_cmp) ts) (Err Degree)) (falling-none s.order)

    pub added_none : (acc f : Operator rationals) → product_added l s acc (empty_sum rationals plain_cmp, f) ≡ Ok acc
    unfolding product_added
    added_none acc f = ap (λ r. r >>= plus_within l acc) (zero_times f) ∙ plus_zero l acc

    pub added_zero : (acc f : Operator rationals) → product_added l s acc (f, empty_sum rationals plain_cmp) ≡ Ok acc
    unfolding product_added
    added_zero acc f = ap (λ r. r >>= plus_within l acc) (times_zero f) ∙ plus_zero l acc

    pub taken_none : (d f : Operator rationals) → product_taken l s d f (empty_sum rationals plain_cmp) ≡ Ok f
    unfolding product_taken
    taken_none d f = ap (λ r. r >>= minus_within l f) (times_zero d) ∙ minus_zero f

    pub adjoint_none : adjoint_within l s (empty_sum rationals plain_cmp) ≡ Ok (empty_sum rationals plain_cmp)
    unfolding adjoint_within
    adjoint_none = ap (fold_within (adjoint_term_within l s) (empty_sum rationals plain_cmp)) (falling-none s.order)

pub copied : (r : Result Ordered RingStop) (f : Ordered) (given : Result (Operator rationals) Cause) → IfOk r (λ x. x ≡ f) → IfErr r (λ e. e ≡ Memory) → given ≡ Ok f.sum → Gives (λ (w : Ordered). w.sum) r given
copied (Ok x) f given same memory e = e ∙ ap (λ (w : Ordered). Ok w.sum) (sym same)
copied (Err x) f given same memory e = subst (λ (y : RingStop). Fails y given) (sym memory) tt
