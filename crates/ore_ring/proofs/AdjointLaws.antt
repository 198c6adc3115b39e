-- What an adjoint within limits gives.
--     adjoint_unlimited    with no limits it is the adjoint
--     adjoint_at_most      Ok within limits is the same value
--     adjoint_value        so an Ok is the adjoint
use Rattle.std.proofs.Common.{◌≡◌, [], ◌∷◌, pos, sym, ap, ◌∙◌}
use Rattle.std.specs.declared.result.Result.TheVariants.{Ok}
use Rattle.ore_algebra.specs.Free.{empty_sum, single}
use Rattle.ore_algebra.specs.Limits.{Limits, unlimited, ◌>>=◌, fold_within, IsAtMost}
use Rattle.ore_algebra.proofs.LimitLaws.{most_fold, value_from}
use Rattle.ore_rational.specs.Fraction.{whole, mul}
use Rattle.ore_rational.specs.Field.{rationals}
use Rattle.ore_monomial.specs.Monomial.{plain_cmp}
use Rattle.ore_monomial.specs.Signature.{Signature}
use Rattle.ore_monomial.specs.LetterRule.{Operator, monomial_times}
use Rattle.ore_monomial.proofs.Operators
use Rattle.ore_ring.specs.Adjoint.{adjoint_monomial, adjoint}
use Rattle.ore_ring.specs.AdjointWithin.{letter_part, coordinate_part, sign_of, adjoint_term_within, adjoint_within}
use Rattle.ore_monomial.specs.Numbers.{numbers}
use Rattle.ore_ring.specs.Terms.{Summand, Terms, falling}
use Rattle.ore_ring.proofs.AdjointParts.{adjoint_split}
use Rattle.ore_ring.proofs.Adjoints.{adjoint-linear, adjoint_one}
use Rattle.ore_ring.proofs.TermLaws.{C, ◌+◌, sc, collect-falling}
use Rattle.ore_ring.proofs.WithinLaws.{product_contributed, contributions_at_most}

module _ (s : Signature) where
  term_is : (acc : Operator rationals) (t : Summand) → adjoint_term_within unlimited s acc t ≡ Ok (acc + sc t.1 (adjoint_monomial rationals s t.0))
  unfolding adjoint_term_within
  term_is acc t =
      let k = sign_of rationals s t.0 in
      let f = monomial_times rationals s (letter_part s t.0) (single rationals plain_cmp (coordinate_part s t.0) (whole (pos 1))) in
      product_contributed s (mul k t.1) (letter_part s t.0) (coordinate_part s t.0) acc
      ∙ ap (λ g. Ok (acc + g)) (ap (λ x. sc x f) (rationals.times_comm k t.1) ∙ sym (Operators.scale-scale rationals t.1 k f) ∙ ap (sc t.1) (sym (adjoint_split rationals s t.0)))

  terms_are : (acc : Operator rationals) (ts : Terms) → fold_within (adjoint_term_within unlimited s) acc ts ≡ Ok (acc + adjoint rationals s (C ts))
  unfolding empty_sum
  terms_are acc [] = ap Ok (sym (ap (λ f. acc + f) (Operators.linear-empty_sum rationals (adjoint-linear rationals s)) ∙ Operators.plus_zero rationals acc))
  terms_are acc (t ∷ ts) =
      let linear = adjoint-linear rationals s in
      ap (λ r. r >>= λ a. fold_within (adjoint_term_within unlimited s) a ts) (term_is acc t)
      ∙ terms_are (acc + sc t.1 (adjoint_monomial rationals s t.0)) ts
      ∙ ap Ok (Operators.plus_assoc rationals acc _ _ ∙ ap (λ f. acc + f)
      (sym (ap (adjoint rationals s) (Operators.collect_more rationals t.0 t.1 ts ∙ ap (λ f. f + C ts) (Operators.single_scale rationals t.0 t.1)) ∙ linear.plus _ _ ∙ ap (λ f. f + adjoint rationals s (C ts)) (linear.scale t.1 _ ∙ ap (sc t.1) (adjoint_one rationals s t.0)))))

  pub adjoint_unlimited : (f : Operator rationals) → adjoint_within unlimited s f ≡ Ok (adjoint rationals s f)
  unfolding adjoint_within
  adjoint_unlimited f = terms_are (empty_sum rationals plain_cmp) (falling s.order f) ∙ ap Ok (Operators.zero-plus rationals _ ∙ ap (adjoint rationals s) (collect-falling s.order f))

module _ (l : Limits) (s : Signature) where
  term_at_most : (acc : Operator rationals) (t : Summand) → IsAtMost (adjoint_term_within l s acc t) (adjoint_term_within unlimited s acc t)
  unfolding adjoint_term_within
  term_at_most acc t = contributions_at_most l (mul (sign_of rationals s t.0) t.1) acc (numbers s (letter_part s t.0) (coordinate_part s t.0))

  pub adjoint_at_most : (f : Operator rationals) → IsAtMost (adjoint_within l s f) (adjoint_within unlimited s f)
  unfolding adjoint_within
  adjoint_at_most f = most_fold _ _ term_at_most (empty_sum rationals plain_cmp) (falling s.order f)

  pub adjoint_value : (f x : Operator rationals) → adjoint_within l s f ≡ Ok x → x ≡ adjoint rationals s f
  adjoint_value f x e = value_from (adjoint_within l s f) _ x (adjoint rationals s f) (adjoint_at_most f) (adjoint_unlimited s f) e
