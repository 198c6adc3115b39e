-- The operator 1 times an operator.
--     one_row      the contributions of the term 1 and some terms are these terms
--     one_times    so the product is the second operator, and doesn't stop
use Rattle.std.proofs.Common.{◌≡◌, true, pos, [], ◌∷◌, ◌++◌, refl, sym, ap, ◌∙◌, append_assoc, append-nil}
use Rattle.std.specs.declared.result.Result.TheVariants.{Ok}
use Rattle.ore_algebra.specs.Limits.{program, ◌>>=◌, fold_within}
use Rattle.ore_rational.specs.Fraction.{whole}
use Rattle.ore_rational.proofs.Bounds.{fits_from}
use Rattle.ore_monomial.specs.Monomial.{unit, product}
use Rattle.ore_monomial.specs.Signature.{Signature}
use Rattle.ore_monomial.proofs.Monomials.{exponent-unit, product-unit}
use Rattle.ore_ring.specs.Belongs.{Belongs}
use Rattle.ore_ring.specs.Ordered.{Ordered}
use Rattle.ore_ring.specs.Terms.{Summand, Terms, IsFalling, falling}
use Rattle.ore_ring.specs.Within.{times_within, degrees_fit}
use Rattle.ore_ring.specs.Contributions.{IsInRange, AreInRange, push_number, push_product, push_pair, push_row}
use Rattle.ore_ring.specs.Meets.{MeetsNone}
use Rattle.ore_ring.proofs.FallingSum.{falling_sum}
use Rattle.ore_ring.proofs.FractionSteps.{one_product}
use Rattle.ore_ring.proofs.PlainNumbers.{plain_push, fraction_push}
use Rattle.ore_ring.proofs.ProductSteps.{times_made}
use Rattle.ore_ring.proofs.TermLaws.{C, collect-falling}

-- the term 1
abbrev pub one_term : Summand
one_term = (unit, whole (pos 1))

module _ (s : Signature) where
  one_meets_none : (u : Summand) → MeetsNone s unit u.0
  one_meets_none u x a n = absurd (n (exponent-unit _))

  one_number : (out : Terms) (u : Summand) → IsInRange u → push_number program u.1 out (product unit u.0, pos 1) ≡ Ok (out ++ u ∷ [])
  one_number out u h = ap (λ m. push_number program u.1 out (m, pos 1)) (product-unit u.0) ∙ fraction_push u.1 out u.0 h.0 h.1

  one_pair : (out : Terms) (u : Summand) → IsInRange u → push_pair program s one_term out u ≡ Ok (out ++ u ∷ [])
  unfolding push_pair
  one_pair out u h =
      ap (λ r. r >>= λ uv. push_product program s uv out unit u.0) (one_product u.1 (fits_from u.1 h.0 h.1))
      ∙ plain_push s u.1 out unit u.0 (one_meets_none u)
      ∙ one_number out u h

  one_after : (out us : Terms) → AreInRange us → fold_within (push_pair program s one_term) out us ≡ Ok (out ++ us)
  one_after out [] h = ap Ok (sym (append-nil out))
  one_after out (u ∷ us) h =
      ap (λ r. r >>= λ t. fold_within (push_pair program s one_term) t us) (one_pair out u h.0)
      ∙ one_after (out ++ u ∷ []) us h.1
      ∙ ap Ok (append_assoc out (u ∷ []) us)

  pub one_row : (us : Terms) → AreInRange us → fold_within (push_row program s us) [] (one_term ∷ []) ≡ Ok us
  unfolding push_row
  one_row us h = ap (λ r. r >>= λ t. Ok t) (one_after [] us h)

  pub one_times : (v w : Ordered) (ts us : Terms) → ts ≡ falling v.by v.sum → us ≡ falling w.by w.sum → Belongs s v → Belongs s w → true ≡ degrees_fit program ts us → ts ≡ one_term ∷ [] → IsFalling w.by us → AreInRange us → times_within program s v.sum w.sum ≡ Ok w.sum
  one_times v w ts us te ue vo wo fit one falls range =
      times_made s v w ts us te ue vo wo fit [] us refl (ap (fold_within (push_row program s us) []) one ∙ one_row us range)
      ∙ falling_sum w.by us falls range
      ∙ ap Ok (ap C ue ∙ collect-falling w.by w.sum)
