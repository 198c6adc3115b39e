-- The terms of an operator that can be printed, in either order.
--     HoldsOf                      a fact of each monomial with a coefficient among some terms, and of that coefficient
--     each_of_all, all_of_each     a fact of all terms of a list is one of each coefficient, and back
--     HoldsIn                      a fact of each monomial with a coefficient in an operator
--     in_falling, of_falling       it is one of all its falling terms, and back
--     in_terms, of_terms           it is one of all its terms in the plain order, and back
--     printable_falling            the falling terms of such an operator are in the variables and in range
--     variables_of, storable_of    and an operator whose falling terms are so can be printed
use Rattle.std.proofs.Common.{◌≡◌, ◌≢◌, ℕ, Bool, true, false, List, [], ◌∷◌, pos, refl, sym, ap, ◌∙◌, subst}
use Rattle.std.specs.Ordering.{eq_by_cmp}
use Rattle.std.specs.List.{AllByRecursion}
use Rattle.ore_algebra.specs.Free.{terms, coefficient, sum_at}
use Rattle.ore_algebra.proofs.FreeLaws
use Rattle.ore_rational.specs.Fraction.{whole}
use Rattle.ore_rational.specs.Field.{rationals}
use Rattle.ore_monomial.specs.Monomial.{Monomial, plain_cmp}
use Rattle.ore_monomial.specs.Signature.{Signature}
use Rattle.ore_monomial.specs.declared.order.Order.{Order}
use Rattle.ore_monomial.specs.LetterRule.{Operator}
use Rattle.ore_monomial.proofs.Monomials.{plain_cmp_total, plain_cmp_apart, same_key, own_key}
use Rattle.ore_ring.specs.Terms.{Summand, Terms, falling}
use Rattle.ore_ring.specs.Belongs.{OperatorOf}
use Rattle.ore_monomial.proofs.FallingTerms.{back_order, back_apart, sum_at-falling}
use Rattle.ore_monomial.specs.Numbers.{AreNonZero}
use Rattle.ore_ring.proofs.AllTerms.{at, AreDistinct, at_skip, at_own, sorted_distinct, distinct-terms, apart-terms, falls-falling}
use Rattle.ore_text.specs.CanonicalParts.{IsPrintableTerm}
use Rattle.ore_text.specs.Printable.{IsStorableTerm, IsStorable, IsPrintable}

module _ (P : Summand → Type 0) where
  abbrev pub HoldsOf : Terms → Type 0
  HoldsOf ts = (q : Monomial) → at q ts ≢ whole (pos 0) → P (q, at q ts)

  pub each_of_all : (ts : Terms) → AreDistinct ts → AllByRecursion P ts → HoldsOf ts
  unfolding sum_at
  each_of_all [] d h q n = absurd (n refl)
  each_of_all (t ∷ ts) d h q n = by (each_of_all ts d.1 h.1 q) (eq_by_cmp plain_cmp q t.0) refl
    where
      by : (at q ts ≢ whole (pos 0) → P (q, at q ts)) → (b : Bool) → eq_by_cmp plain_cmp q t.0 ≡ b → P (q, at q (t ∷ ts))
      by ih true f =
          let k = same_key q t.0 f in
          let own : at q (t ∷ ts) ≡ t.1 = at_own q t ts f (ap (λ p. at p ts) k ∙ d.0) in
          subst P (λ i. (sym k i, sym own i)) h.0
      by ih false f =
          let skip : at q (t ∷ ts) ≡ at q ts = at_skip q t ts f in
          subst P (λ i. (q, sym skip i)) (ih (λ z. n (skip ∙ z)))

  pub all_of_each : (ts : Terms) → AreDistinct ts → AreNonZero rationals ts → HoldsOf ts → AllByRecursion P ts
  all_of_each [] d a h = tt
  all_of_each (t ∷ ts) d a h = (head, all_of_each ts d.1 a.1 (λ q n. rest (eq_by_cmp plain_cmp q t.0) q refl n))
    where
      own : at t.0 (t ∷ ts) ≡ t.1
      own = at_own t.0 t ts (own_key t.0) d.0

      head : P t
      head = subst P (λ i. (t.0, own i)) (h t.0 (λ z. a.0 (sym own ∙ z)))

      rest : (b : Bool) (q : Monomial) → eq_by_cmp plain_cmp q t.0 ≡ b → at q ts ≢ whole (pos 0) → P (q, at q ts)
      rest true q f n = absurd (n (ap (λ p. at p ts) (same_key q t.0 f) ∙ d.0))
      rest false q f n =
          let skip : at q (t ∷ ts) ≡ at q ts = at_skip q t ts f in
          subst P (λ i. (q, skip i)) (h q (λ z. n (sym skip ∙ z)))

  -- a fact of each coefficient of an operator
  abbrev pub HoldsIn : Operator rationals → Type 0
  HoldsIn f = (q : Monomial) → coefficient rationals plain_cmp f q ≢ whole (pos 0) → P (q, coefficient rationals plain_cmp f q)

  moved : (f : Operator rationals) (ts : Terms) → ((q : Monomial) → at q ts ≡ coefficient rationals plain_cmp f q) → HoldsOf ts → HoldsIn f
  moved f ts e h q n = subst P (λ i. (q, e q i)) (h q (λ z. n (sym (e q) ∙ z)))

  back : (f : Operator rationals) (ts : Terms) → ((q : Monomial) → at q ts ≡ coefficient rationals plain_cmp f q) → HoldsIn f → HoldsOf ts
  back f ts e h q n = subst P (λ i. (q, sym (e q) i)) (h q (λ z. n (e q ∙ z)))

  distinct-falling : (o : Order) (f : Operator rationals) → AreDistinct (falling o f)
  distinct-falling o f = sorted_distinct (back_order o) (back_apart o) (falling o f) (falls-falling o f).falls

  pub in_falling : (o : Order) (f : Operator rationals) → HoldsIn f → AllByRecursion P (falling o f)
  in_falling o f h = all_of_each (falling o f) (distinct-falling o f) (falls-falling o f).apart (back f (falling o f) (sum_at-falling rationals o f) h)

  pub of_falling : (o : Order) (f : Operator rationals) → AllByRecursion P (falling o f) → HoldsIn f
  of_falling o f h = moved f (falling o f) (sum_at-falling rationals o f) (each_of_all (falling o f) (distinct-falling o f) h)

  at_terms : (f : Operator rationals) (q : Monomial) → at q (terms rationals plain_cmp f) ≡ coefficient rationals plain_cmp f q
  at_terms f q = FreeLaws.sum_at-terms rationals plain_cmp_total plain_cmp_apart f q

  pub in_terms : (f : Operator rationals) → HoldsIn f → AllByRecursion P (terms rationals plain_cmp f)
  in_terms f h = all_of_each (terms rationals plain_cmp f) (distinct-terms f) (apart-terms plain_cmp f) (back f (terms rationals plain_cmp f) (at_terms f) h)

  pub of_terms : (f : Operator rationals) → AllByRecursion P (terms rationals plain_cmp f) → HoldsIn f
  of_terms f h = moved f (terms rationals plain_cmp f) (at_terms f) (each_of_all (terms rationals plain_cmp f) (distinct-terms f) h)

pub printable_falling : (s : Signature) (names : List (List ℕ)) (f : Operator rationals) (o : Order) → IsPrintable s names f → AllByRecursion (IsPrintableTerm s) (falling o f)
printable_falling s names f o h = in_falling (IsPrintableTerm s) o f (λ q n. record { variables = h.variables q n; storable = of_terms IsStorableTerm f h.storable q n })

pub variables_of : (s : Signature) (f : Operator rationals) (o : Order) → AllByRecursion (IsPrintableTerm s) (falling o f) → OperatorOf rationals s f
variables_of s f o h m n = (of_falling (IsPrintableTerm s) o f h m n).variables

pub storable_of : (s : Signature) (f : Operator rationals) (o : Order) → AllByRecursion (IsPrintableTerm s) (falling o f) → IsStorable f
storable_of s f o h = in_terms IsStorableTerm f (λ q n. (of_falling (IsPrintableTerm s) o f h q n).storable)
