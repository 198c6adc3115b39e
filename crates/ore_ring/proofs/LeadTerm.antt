-- The first of the falling terms is the lead.
--     first_leads    of terms that fall
--     lead_is        of an operator: its first falling term, or there is none and it is zero
use Rattle.std.proofs.Common.{◌≡◌, ◌≢◌, Bool, true, false, T, [], ◌∷◌, pos, slice_get, refl, sym, ap, ◌∙◌, subst}
use Rattle.std.specs.Prelude.{MatchOption}
use Rattle.std.specs.declared.cmp.Ordering.TheVariants.{Less}
use Rattle.std.specs.Ordering.{eq_by_cmp, is_eq, is_gt}
use Rattle.std.specs.Cmp.{tied_itself}
use Rattle.std.specs.FinMap.Entries.{below_all}
use Rattle.ore_algebra.specs.Free.{empty_sum, collect, coefficient}
use Rattle.ore_rational.specs.Fraction.{whole}
use Rattle.ore_rational.specs.Field.{rationals}
use Rattle.ore_monomial.specs.Monomial.{Monomial, order_cmp, plain_cmp}
use Rattle.ore_monomial.specs.declared.order.Order.{Order}
use Rattle.ore_monomial.specs.LetterRule.{Operator}
use Rattle.ore_monomial.proofs.Monomials.{plain_cmp_total, order_total, same_key}
use Rattle.ore_monomial.proofs.Operators
use Rattle.ore_ring.specs.Lead.{IsLead}
use Rattle.ore_ring.specs.Terms.{Summand, Terms, falling, IsFalling}
use Rattle.ore_monomial.specs.Numbers.{back}
use Rattle.ore_ring.proofs.TermLaws.{collect-falling}
use Rattle.ore_monomial.proofs.FallingTerms.{back_order, back_apart}
use Rattle.ore_ring.proofs.Falls.{first, second, less_of}
use Rattle.ore_ring.proofs.AllTerms.{at, at_skip, at_own, sorted_distinct, falls-falling}

-- what stands among terms below m is below m
below_at : (o : Order) (m : Monomial) (ts : Terms) → T (below_all (back o) m ts) → (q : Monomial) → at q ts ≢ whole (pos 0) → order_cmp o q m ≡ Less
unfolding Rattle.ore_algebra.specs.Free.sum_at
below_at o m [] h q n = absurd (n refl)
below_at o m (t ∷ ts) h q n = by (below_at o m ts (second _ _ h) q) (eq_by_cmp plain_cmp q t.0) refl
  where
    by : (at q ts ≢ whole (pos 0) → order_cmp o q m ≡ Less) → (b : Bool) → eq_by_cmp plain_cmp q t.0 ≡ b → order_cmp o q m ≡ Less
    by ih true e = ap (λ p. order_cmp o p m) (same_key q t.0 e) ∙ less_of _ (first _ _ h)
    by ih false e = ih (λ z. n (at_skip q t ts e ∙ z))

module _ (o : Order) (t : Summand) (ts : Terms) (h : IsFalling o (t ∷ ts)) where
  own : at t.0 (t ∷ ts) ≡ t.1
  own = at_own t.0 t ts (ap is_eq (tied_itself plain_cmp_total t.0)) (sorted_distinct (back_order o) (back_apart o) (t ∷ ts) h.falls).0

  highest : (q : Monomial) → at q (t ∷ ts) ≢ whole (pos 0) → is_gt (order_cmp o q t.0) ≡ false
  highest q n = by (eq_by_cmp plain_cmp q t.0) refl
    where
      by : (b : Bool) → eq_by_cmp plain_cmp q t.0 ≡ b → is_gt (order_cmp o q t.0) ≡ false
      by true e = ap (λ p. is_gt (order_cmp o p t.0)) (same_key q t.0 e) ∙ ap is_gt (tied_itself (order_total o) t.0)
      by false e = ap is_gt (below_at o t.0 ts (first _ _ h.falls) q (λ z. n (at_skip q t ts e ∙ z)))

  pub first_leads : IsLead rationals o (collect rationals plain_cmp (t ∷ ts)) t.0 t.1
  first_leads = record {
    stands = Operators.coefficient-collect rationals (t ∷ ts) t.0 ∙ own;
    apart = h.apart.0;
    greatest = λ q n. highest q (λ z. n (Operators.coefficient-collect rationals (t ∷ ts) q ∙ z));
  }

pub lead_is : (o : Order) (f : Operator rationals) → MatchOption (slice_get (falling o f) 0) (f ≡ empty_sum rationals plain_cmp) (λ t. IsLead rationals o f t.0 t.1)
unfolding empty_sum
lead_is o f = by (falling o f) (falls-falling o f) (collect-falling o f)
  where
    by : (ts : Terms) → IsFalling o ts → collect rationals plain_cmp ts ≡ f → MatchOption (slice_get ts 0) (f ≡ collect rationals plain_cmp []) (λ t. IsLead rationals o f t.0 t.1)
    by [] h e = sym e
    by (t ∷ ts) h e = subst (λ g. IsLead rationals o g t.0 t.1) e (first_leads o t ts h)
