-- An operator without its lead.
--     tail                     f less the term with the monomial m and number j
--     term_and_tail            the term and the tail are the operator
--     of_tail                  it is of a signature where f is, and m
--     tail_below               where m is the lead of f with j, each monomial of the tail is below m
--     product_tail             a monomial times a monomial is their product, and what is below it
--     only_monomial            one term has a coefficient at its own monomial alone
--     monomials_apart          two monomials are the same or not
use Rattle.std.proofs.Common.{◌≡◌, ◌≢◌, false, refl, sym, ap, ◌∙◌, subst, true≢false}
use Rattle.std.specs.declared.cmp.Ordering.{Ordering}
use Rattle.std.specs.declared.cmp.Ordering.TheVariants.{Less, Equal, Greater}
use Rattle.std.specs.Ordering.{is_gt, is_eq}
use Rattle.std.specs.Cmp.{tied_itself}
use Rattle.ore_algebra.specs.Domain.{Domain}
use Rattle.ore_algebra.specs.Free.{single, plus, scale, coefficient}
use Rattle.ore_algebra.proofs.DomainLaws as Numbers
use Rattle.ore_monomial.specs.Monomial.{Monomial, product, order_cmp, plain_cmp}
use Rattle.ore_monomial.specs.declared.order.Order.{Order}
use Rattle.ore_monomial.specs.declared.order.Order.TheVariants.{DegLex}
use Rattle.ore_monomial.specs.Signature.{Signature, MonomialOf, IsLawful}
use Rattle.ore_monomial.specs.LetterRule.{Operator}
use Rattle.ore_monomial.proofs.Declared.{MonomialOf-product}
use Rattle.ore_monomial.proofs.Letters.{one_term}
use Rattle.ore_monomial.proofs.Monomials.{order_total, order_apart}
use Rattle.ore_monomial.proofs.Operators
use Rattle.ore_ring.specs.Belongs.{OperatorOf}
use Rattle.ore_ring.specs.Lead.{IsLead}
use Rattle.ore_ring.specs.Product.{times}
use Rattle.ore_ring.proofs.Belonging.{of_single, of_plus, of_scale, of_times}
use Rattle.ore_ring.proofs.Leads.{times-lead}
use Rattle.ore_rows.proofs.RowLeads.{lead-single}

pub monomials_apart : (m n : Monomial) → Dec (m ≡ n)
monomials_apart m n = by (order_cmp DegLex m n) refl
  where
    other : (c : Ordering) → order_cmp DegLex m n ≡ c → is_eq c ≡ false → Dec (m ≡ n)
    other c e h = no (λ same. true≢false (ap is_eq (sym (tied_itself (order_total DegLex) m)) ∙ ap (λ q. is_eq (order_cmp DegLex m q)) same ∙ ap is_eq e ∙ h))

    by : (c : Ordering) → order_cmp DegLex m n ≡ c → Dec (m ≡ n)
    by Less e = other Less e refl
    by Equal e = yes (order_apart DegLex m n e)
    by Greater e = other Greater e refl

module _ (K : Domain) where
  pub only_monomial : (m q : Monomial) (j : K.Number) → coefficient K plain_cmp (single K plain_cmp m j) q ≢ K.zero → q ≡ m
  only_monomial m q j h = by (monomials_apart q m)
    where
      by : Dec (q ≡ m) → q ≡ m
      by (yes e) = e
      by (no n) = absurd (h (Operators.coefficient-other K m j q n))

  abbrev pub tail : Operator K → Monomial → K.Number → Operator K
  tail f m j = plus K plain_cmp f (scale K plain_cmp (K.minus K.one) (single K plain_cmp m j))

  pub term_and_tail : (f : Operator K) (m : Monomial) (j : K.Number) → plus K plain_cmp (single K plain_cmp m j) (tail f m j) ≡ f
  term_and_tail f m j = Operators.plus-left_comm K (single K plain_cmp m j) f _ ∙ ap (plus K plain_cmp f) (Operators.plus_opposite K (single K plain_cmp m j)) ∙ Operators.plus_zero K f

  coefficient-tail : (f : Operator K) (m : Monomial) (j : K.Number) (q : Monomial) → coefficient K plain_cmp (tail f m j) q ≡ K.plus (coefficient K plain_cmp f q) (K.minus (coefficient K plain_cmp (single K plain_cmp m j) q))
  coefficient-tail f m j q = Operators.coefficient-plus K f _ q ∙ ap (K.plus (coefficient K plain_cmp f q)) (Operators.coefficient-scale K _ _ q ∙ Numbers.minus_times K K.one _ ∙ ap K.minus (Numbers.one_times K _))

  pub tail_below : (o : Order) (f : Operator K) (m : Monomial) (j : K.Number) → IsLead K o f m j → (q : Monomial) → coefficient K plain_cmp (tail f m j) q ≢ K.zero → order_cmp o q m ≡ Less
  tail_below o f m j a q u = by (monomials_apart q m)
    where
      less : (c : Ordering) → order_cmp o q m ≡ c → is_gt c ≡ false → q ≢ m → order_cmp o q m ≡ Less
      less Less e h d = e
      less Equal e h d = absurd (d (order_apart o q m e))
      less Greater e h d = absurd (true≢false h)

      by : Dec (q ≡ m) → order_cmp o q m ≡ Less
      by (yes same) = absurd (u (ap (coefficient K plain_cmp (tail f m j)) same ∙ coefficient-tail f m j m ∙ (λ i. K.plus (a.stands i) (K.minus (Operators.coefficient-own K m j i))) ∙ K.plus_minus j))
      by (no d) = less _ refl (a.greatest q (λ z. u (coefficient-tail f m j q ∙ (λ i. K.plus (z i) (K.minus (Operators.coefficient-other K m j q d i))) ∙ K.plus_minus K.zero))) d

module _ (K : Domain) (s : Signature) where
  pub of_tail : (f : Operator K) (m : Monomial) (j : K.Number) → OperatorOf K s f → MonomialOf s m → OperatorOf K s (tail K f m j)
  of_tail f m j h om = of_plus K s f _ h (of_scale K s (K.minus K.one) _ (of_single K s m j om))

module _ (K : Domain) (s : Signature) (lawful : IsLawful s) (o : Order) where
  abbrev opposite : Operator K → Operator K
  opposite f = scale K plain_cmp (K.minus K.one) f

  -- r is of the signature, and what is below the product
  pub record IsProductTail (w a : Monomial) (r : Operator K) : Type 0 where
    pub of : MonomialOf s w → MonomialOf s a → OperatorOf K s r
    pub is : one_term K (product w a) ≡ plus K plain_cmp (times K s (one_term K w) (one_term K a)) r
    pub low : (q : Monomial) → coefficient K plain_cmp r q ≢ K.zero → order_cmp o q (product w a) ≡ Less

  pub product_tail : (w a : Monomial) → (r : Operator K) × IsProductTail w a r
  product_tail w a = (opposite rest, record { of = of; is = is; low = low })
    where
      both : Operator K
      both = times K s (one_term K w) (one_term K a)

      rest : Operator K
      rest = tail K both (product w a) K.one

      lead : IsLead K o both (product w a) K.one
      lead = subst (IsLead K o both (product w a)) (K.times_one K.one) (times-lead K s lawful o (lead-single K o w K.one K.one_apart) (lead-single K o a K.one K.one_apart))

      of : MonomialOf s w → MonomialOf s a → OperatorOf K s (opposite rest)
      of ow oa = of_scale K s (K.minus K.one) rest (of_tail K s both (product w a) K.one (of_times K s _ _ (of_single K s w K.one ow) (of_single K s a K.one oa)) (MonomialOf-product s w a ow oa))

      is : one_term K (product w a) ≡ plus K plain_cmp both (opposite rest)
      is = sym (Operators.plus_zero K _) ∙ ap (plus K plain_cmp (one_term K (product w a))) (sym (Operators.plus_opposite K rest)) ∙ sym (Operators.plus_assoc K _ rest _) ∙ ap (λ f. plus K plain_cmp f (opposite rest)) (term_and_tail K both (product w a) K.one)

      low : (q : Monomial) → coefficient K plain_cmp (opposite rest) q ≢ K.zero → order_cmp o q (product w a) ≡ Less
      low q u = tail_below K o both (product w a) K.one lead q (λ z. u (Operators.coefficient-scale K _ rest q ∙ ap (K.times (K.minus K.one)) z ∙ Numbers.times_zero K _))
