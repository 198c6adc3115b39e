-- Each operator but none has one lead, so that no product of two others is none.
--     lead_of           an operator is none or has a lead
--     one_lead          it has no second lead
--     lead_apart        an operator with a lead isn't none
--     no_zero_divisor   a product that is none has a factor that is none
use Rattle.std.proofs.Common.{◌≡◌, ◌≢◌, ◌⊎◌, inl, inr, ⊎_elim, Bool, true, false, cond, T, List, [], ◌∷◌, refl, sym, ap, ◌∙◌, subst}
use Rattle.std.specs.Ordering.{is_gt, eq_by_cmp}
use Rattle.std.specs.Cmp.{upto, tied_itself}
use Rattle.ore_algebra.specs.Domain.{Domain}
use Rattle.ore_algebra.specs.Free.{empty_sum, coefficient, terms}
use Rattle.ore_monomial.specs.Monomial.{Monomial, plain_cmp, order_cmp}
use Rattle.ore_monomial.specs.declared.order.Order.{Order}
use Rattle.ore_monomial.specs.Signature.{Signature, IsLawful}
use Rattle.ore_monomial.specs.LetterRule.{Operator}
use Rattle.ore_ring.specs.Product.{times}
use Rattle.ore_ring.specs.Lead.{IsLead}
use Rattle.ore_algebra.proofs.FreeLaws.{named, same_key}
use Rattle.ore_algebra.proofs.Orderings.{reversed_greater}
use Rattle.ore_monomial.proofs.Monomials.{plain_cmp_total, plain_cmp_apart, order_total, order_apart}
use Rattle.ore_ring.proofs.Leads.{IsUpto, times-lead, both_upto}
use Rattle.ore_monomial.proofs.Operators

module _ (K : Domain) (o : Order) (f : Operator K) where
  abbrev at : Monomial → K.Number
  at q = coefficient K plain_cmp f q

  abbrev is_named : Monomial → List (Monomial × K.Number) → Bool
  is_named q ts = named K plain_cmp_total plain_cmp_apart q ts

  abbrev Blank : List (Monomial × K.Number) → Type 0
  Blank ts = (q : Monomial) → T (is_named q ts) → at q ≡ K.zero

  abbrev Greatest : List (Monomial × K.Number) → Monomial → Type 0
  Greatest ts m = (q : Monomial) → T (is_named q ts) → at q ≢ K.zero → IsUpto o q m

  abbrev Found : List (Monomial × K.Number) → Type 0
  Found ts = Blank ts ⊎ ((m : Monomial) × (at m ≢ K.zero) × Greatest ts m)

  -- a key of a longer list is its head or a key of its tail
  by_name : (P : Monomial → Type 0) (t : Monomial × K.Number) (ts : List (Monomial × K.Number)) → P t.0 → ((q : Monomial) → T (is_named q ts) → P q) → (q : Monomial) → T (is_named q (t ∷ ts)) → P q
  unfolding named
  by_name P t ts here there q h = by (eq_by_cmp plain_cmp q t.0) refl h
    where
      by : (b : Bool) → eq_by_cmp plain_cmp q t.0 ≡ b → T (cond b true (is_named q ts)) → P q
      by true e h = subst P (sym (same_key K plain_cmp_total plain_cmp_apart q t.0 e)) here
      by false e h = there q h

  pub not_greater : (p m : Monomial) → is_gt (order_cmp o p m) ≡ true → IsUpto o m p
  not_greater p m h = ap is_gt ((order_total o).antisymm m p) ∙ reversed_greater (order_cmp o p m) h

  next : (t : Monomial × K.Number) (ts : List (Monomial × K.Number)) → Dec (at t.0 ≡ K.zero) → Found ts → Found (t ∷ ts)
  next t ts (yes e) (inl b) = inl (by_name (λ q. at q ≡ K.zero) t ts e b)
  next t ts (yes e) (inr (m, a, g)) = inr (m, a, by_name (λ q. at q ≢ K.zero → IsUpto o q m) t ts (λ n. absurd (n e)) g)
  next t ts (no n) (inl b) = inr (t.0, n, by_name (λ q. at q ≢ K.zero → IsUpto o q t.0) t ts (λ n. ap is_gt (tied_itself (order_total o) t.0)) (λ q h u. absurd (u (b q h))))
  next t ts (no n) (inr (m, a, g)) = by (is_gt (order_cmp o t.0 m)) refl
    where
      by : (b : Bool) → is_gt (order_cmp o t.0 m) ≡ b → Found (t ∷ ts)
      by true h = inr (t.0, n, by_name (λ q. at q ≢ K.zero → IsUpto o q t.0) t ts (λ n. ap is_gt (tied_itself (order_total o) t.0)) (λ q k u. upto (order_total o) q m t.0 (g q k u) (not_greater t.0 m h)))
      by false h = inr (m, a, by_name (λ q. at q ≢ K.zero → IsUpto o q m) t ts (λ n. h) g)

  found : (ts : List (Monomial × K.Number)) → Found ts
  unfolding named
  found [] = inl (λ q h. absurd h)
  found (t ∷ ts) = next t ts (K.discrete (at t.0) K.zero) (found ts)

  -- the operator none has no term, and any other has a lead
  pub lead_of : (f ≡ empty_sum K plain_cmp) ⊎ ((m : Monomial) × IsLead K o f m (at m))
  lead_of = ⊎_elim
      (λ b. inl (Operators.same_sum K _ _ (λ q. by q b (K.discrete (at q) K.zero) ∙ sym (Operators.coefficient-empty_sum K q))))
      (λ g. inr (g.0, record { stands = refl; apart = g.1; greatest = λ q u. g.2 q (Operators.named_of_apart K f q u) u }))
      (found (terms K plain_cmp f))
    where
      by : (q : Monomial) → Blank (terms K plain_cmp f) → Dec (at q ≡ K.zero) → at q ≡ K.zero
      by q b (yes e) = e
      by q b (no n) = b q (Operators.named_of_apart K f q n)

module _ (K : Domain) (o : Order) where
  -- two leads are one
  pub one_lead : {f : Operator K} {m n : Monomial} {j k : K.Number} → IsLead K o f m j → IsLead K o f n k → (m ≡ n) × (j ≡ k)
  one_lead {f} {m} {n} a b =
      let up : IsUpto o m n = b.greatest m (λ e. a.apart (sym a.stands ∙ e)) in
      let down : IsUpto o n m = a.greatest n (λ e. b.apart (sym b.stands ∙ e)) in
      let same : m ≡ n = order_apart o m n (both_upto _ up (ap is_gt (sym ((order_total o).antisymm n m)) ∙ down)) in
      (same, sym a.stands ∙ ap (coefficient K plain_cmp f) same ∙ b.stands)

  pub lead_apart : {f : Operator K} {m : Monomial} {k : K.Number} → IsLead K o f m k → f ≢ empty_sum K plain_cmp
  lead_apart {f} {m} a e = a.apart (sym a.stands ∙ ap (λ g. coefficient K plain_cmp g m) e ∙ Operators.coefficient-empty_sum K m)

  module _ (s : Signature) (lawful : IsLawful s) where
    -- a product that is none has a factor that is none
    pub no_zero_divisor : (f g : Operator K) → times K s f g ≡ empty_sum K plain_cmp → (f ≡ empty_sum K plain_cmp) ⊎ (g ≡ empty_sum K plain_cmp)
    no_zero_divisor f g e = ⊎_elim inl (λ a. ⊎_elim inr (λ b. absurd (lead_apart (times-lead K s lawful o a.1 b.1) e)) (lead_of K o g)) (lead_of K o f)
