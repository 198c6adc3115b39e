-- What sound arithmetic gives on rows.
--     exact_sound, within_sound        exact arithmetic is sound, and so is that within limits
--     within_unlimited                 without limits it is the exact one
--     scaled_exact, less_exact         exact multiples and differences of rows
--     scaled_most, less_most           sound ones are these, or stop
--     scaled_value, less_value         so a value that comes is the exact one
use Rattle.std.proofs.Common.{◌≡◌, true, [], ◌∷◌, refl, subst}
use Rattle.std.specs.declared.result.Result.TheVariants.{Ok}
use Rattle.std.specs.List.{zip}
use Rattle.ore_algebra.specs.Domain.{Domain}
use Rattle.ore_algebra.specs.Free.{plus, scale}
use Rattle.ore_algebra.specs.Limits.{Limits, unlimited, ◌>>=◌, IsAtMost}
use Rattle.ore_algebra.proofs.LimitLaws.{most_map, most_value}
use Rattle.ore_rational.specs.Field.{rationals}
use Rattle.ore_monomial.specs.Monomial.{plain_cmp}
use Rattle.ore_monomial.specs.Signature.{Signature}
use Rattle.ore_monomial.specs.LetterRule.{Operator}
use Rattle.ore_ring.specs.Product.{times}
use Rattle.ore_ring.specs.Within.{plus_within, times_within, opposite}
use Rattle.ore_ring.proofs.WithinLaws as Ring
use Rattle.ore_rows.specs.Rows.{Row, row_plus, row_minus, row_scale}
use Rattle.ore_rows.specs.Arithmetic.{Arithmetic, exact, within, IsSoundArithmetic, scaled, less}
use Rattle.ore_rows.proofs.WithinValues.{map_unlimited}

module _ (K : Domain) (s : Signature) where
  pub exact_sound : IsSoundArithmetic K s (exact K s)
  exact_sound = record { product = λ f g. refl; difference = λ f g. refl }

  pub scaled_exact : (d : Operator K) (r : Row K) → scaled K (exact K s) d r ≡ Ok (row_scale K s d r)
  unfolding row_scale
  scaled_exact d r = map_unlimited ((exact K s).product d) (times K s d) (λ f. refl) r

  pub less_exact : (r q : Row K) → less K (exact K s) r q ≡ Ok (row_minus K r q)
  unfolding row_minus row_plus
  less_exact [] q = refl
  less_exact (a ∷ r) [] = refl
  less_exact (a ∷ r) (b ∷ q) = λ i. less_exact r q i >>= λ ys. Ok (plus K plain_cmp a (scale K plain_cmp (K.minus K.one) b) ∷ ys)

  module _ (A : Arithmetic K) (sound : IsSoundArithmetic K s A) where
    pub scaled_most : (d : Operator K) (r : Row K) → IsAtMost (scaled K A d r) (scaled K (exact K s) d r)
    scaled_most d r = most_map _ _ (sound.product d) r

    pub less_most : (r q : Row K) → IsAtMost (less K A r q) (less K (exact K s) r q)
    less_most r q = most_map _ _ (λ p. sound.difference p.0 p.1) (zip r q)

    pub scaled_value : (d : Operator K) (r x : Row K) → scaled K A d r ≡ Ok x → x ≡ row_scale K s d r
    scaled_value d r x = most_value _ x (row_scale K s d r) (subst (IsAtMost (scaled K A d r)) (scaled_exact d r) (scaled_most d r))

    pub less_value : (r q x : Row K) → less K A r q ≡ Ok x → x ≡ row_minus K r q
    less_value r q x = most_value _ x (row_minus K r q) (subst (IsAtMost (less K A r q)) (less_exact r q) (less_most r q))

pub within_sound : (l : Limits) (s : Signature) → IsSoundArithmetic rationals s (within l s)
unfolding opposite
within_sound l s = record {
  product = λ f g. subst (IsAtMost (times_within l s f g)) (Ring.times_unlimited s f g) (Ring.times_at_most l s f g);
  difference = λ f g. subst (IsAtMost (plus_within l f (opposite g))) (Ring.plus_unlimited f (opposite g)) (Ring.plus_at_most l f (opposite g));
}

pub within_unlimited : (s : Signature) → within unlimited s ≡ exact rationals s
unfolding opposite
within_unlimited s = λ i. record { product = λ f g. Ring.times_unlimited s f g i; difference = λ f g. Ring.plus_unlimited f (opposite g) i; degree_fits = λ d. true }
