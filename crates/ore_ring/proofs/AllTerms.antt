-- A test of all terms of an operator does not depend on the order of the terms.
--     AreDistinct        no two terms of a list have one monomial
--     all_same           two such lists with equal sums at each monomial pass a test alike
--     all_terms          so do the plain and the falling terms of an operator
--     falls-falling      the falling terms of an operator are sorted, and their fractions are not 0
use Rattle.std.proofs.Common.{◌≡◌, ◌≢◌, Bool, true, false, cond, ◌&&◌, T, List, [], ◌∷◌, map, pos, refl, sym, ap, ◌∙◌, subst}
use Rattle.std.specs.declared.cmp.Ordering.{Ordering}
use Rattle.std.specs.Ordering.{eq_by_cmp, is_eq, is_lt}
use Rattle.std.specs.Cmp.{IsTotalOrder}
use Rattle.std.specs.List.{list_all}
use Rattle.std.specs.FinMap.{IsAntisymmetric, is_sorted, entries, entries_sorted}
use Rattle.std.specs.FinMap.Entries.{below_all}
use Rattle.ore_rational.specs.Fraction.{Fraction, whole, add}
use Rattle.ore_rational.specs.Field.{rationals}
use Rattle.ore_algebra.specs.Free.{NonZero, Free, terms, collect, coefficient, sum_at}
use Rattle.ore_algebra.proofs.DomainLaws.{zero_plus}
use Rattle.ore_monomial.specs.Monomial.{Monomial, plain_cmp}
use Rattle.ore_monomial.specs.declared.order.Order.{Order}
use Rattle.ore_monomial.specs.LetterRule.{Operator}
use Rattle.ore_monomial.proofs.Monomials.{plain_cmp_total, plain_cmp_apart, same_key, own_key}
use Rattle.ore_monomial.proofs.Operators
use Rattle.ore_ring.specs.Terms.{Summand, Terms, falling, IsFalling}
use Rattle.ore_monomial.specs.Numbers.{back, falling_over, AreNonZero}
use Rattle.ore_monomial.proofs.FallingTerms.{eq_either, back_order, back_apart}
use Rattle.ore_ring.proofs.Falls.{first, second, less_of, left_true, right_true}

abbrev pub at : Monomial → Terms → Fraction
at q ts = sum_at rationals plain_cmp q ts

abbrev pub AreDistinct : Terms → Type 0
AreDistinct [] = Unit {0}
AreDistinct (t ∷ ts) = (sum_at rationals plain_cmp t.0 ts ≡ whole (pos 0)) × AreDistinct ts

pub at_skip : (q : Monomial) (t : Summand) (ts : Terms) → eq_by_cmp plain_cmp q t.0 ≡ false → at q (t ∷ ts) ≡ at q ts
unfolding sum_at
at_skip q t ts e = ap (λ b. add (cond b t.1 (whole (pos 0))) (at q ts)) e ∙ zero_plus rationals _

pub at_own : (q : Monomial) (t : Summand) (ts : Terms) → eq_by_cmp plain_cmp q t.0 ≡ true → at q ts ≡ whole (pos 0) → at q (t ∷ ts) ≡ t.1
unfolding sum_at
at_own q t ts e z = ap (λ b. add (cond b t.1 (whole (pos 0))) (at q ts)) e ∙ ap (add t.1) z ∙ rationals.plus_zero t.1

-- ---- sorted terms are distinct

module _ {R : Monomial → Monomial → Ordering} (o : IsTotalOrder R) (a : IsAntisymmetric R) where
  at_below : (q : Monomial) (ts : Terms) → T (below_all R q ts) → at q ts ≡ whole (pos 0)
  unfolding sum_at
  at_below q [] h = refl
  at_below q (t ∷ ts) h = at_skip q t ts (eq_either rationals {R = plain_cmp} {S = R} plain_cmp_total plain_cmp_apart o a q t.0 ∙ ap is_eq (less_of _ (first _ _ h))) ∙ at_below q ts (second _ _ h)

  pub sorted_distinct : (ts : Terms) → T (is_sorted R ts) → AreDistinct ts
  sorted_distinct [] h = tt
  sorted_distinct (t ∷ ts) h = (at_below t.0 ts (first _ _ h), sorted_distinct ts (second _ _ h))

-- ---- the terms of an operator are sorted, and their fractions are not 0

abbrev shown : List (Monomial × NonZero rationals) → Terms
shown es = map (λ e. (e.0, e.1.value)) es

below-shown : (R : Monomial → Monomial → Ordering) (q : Monomial) (es : List (Monomial × NonZero rationals)) → below_all R q (shown es) ≡ below_all R q es
below-shown R q [] = refl
below-shown R q (e ∷ es) = ap (λ b. is_lt (R q e.0) && b) (below-shown R q es)

sorted-shown : (R : Monomial → Monomial → Ordering) (es : List (Monomial × NonZero rationals)) → is_sorted R (shown es) ≡ is_sorted R es
sorted-shown R [] = refl
sorted-shown R (e ∷ es) = λ i. below-shown R e.0 es i && sorted-shown R es i

apart-shown : (es : List (Monomial × NonZero rationals)) → AreNonZero rationals (shown es)
apart-shown [] = tt
apart-shown (e ∷ es) = (e.1.apart, apart-shown es)

pub sorted-terms : (R : Monomial → Monomial → Ordering) (f : Free rationals R) → T (is_sorted R (terms rationals R f))
unfolding terms
sorted-terms R f = subst T (sym (sorted-shown R (entries f))) (entries_sorted f)

pub apart-terms : (R : Monomial → Monomial → Ordering) (f : Free rationals R) → AreNonZero rationals (terms rationals R f)
unfolding terms
apart-terms R f = apart-shown (entries f)

pub distinct-terms : (f : Operator rationals) → AreDistinct (terms rationals plain_cmp f)
distinct-terms f = sorted_distinct plain_cmp_total plain_cmp_apart (terms rationals plain_cmp f) (sorted-terms plain_cmp f)

pub falls-falling : (o : Order) (f : Operator rationals) → IsFalling o (falling o f)
unfolding falling_over
falls-falling o f = record { falls = sorted-terms (back o) _; apart = apart-terms (back o) _ }

-- ---- a test of all terms

module _ (test : Summand → Bool) where
  abbrev pub PassesAt : Terms → Type 0
  PassesAt ts = (q : Monomial) → sum_at rationals plain_cmp q ts ≢ whole (pos 0) → test (q, sum_at rationals plain_cmp q ts) ≡ true

  pub passes_of_all : (ts : Terms) → AreDistinct ts → list_all test ts ≡ true → PassesAt ts
  unfolding sum_at
  passes_of_all [] d e q n = absurd (n refl)
  passes_of_all (t ∷ ts) d e q n = by (passes_of_all ts d.1 (right_true _ _ e) q) (eq_by_cmp plain_cmp q t.0) refl
    where
      by : (at q ts ≢ whole (pos 0) → test (q, at q ts) ≡ true) → (b : Bool) → eq_by_cmp plain_cmp q t.0 ≡ b → test (q, at q (t ∷ ts)) ≡ true
      by ih true f =
          let k = same_key q t.0 f in
          let own : at q (t ∷ ts) ≡ t.1 = at_own q t ts f (ap (λ p. at p ts) k ∙ d.0) in
          (λ i. test (k i, own i)) ∙ left_true _ _ e
      by ih false f =
          let skip : at q (t ∷ ts) ≡ at q ts = at_skip q t ts f in
          ap (λ x. test (q, x)) skip ∙ ih (λ z. n (skip ∙ z))

  pub all_of_passes : (ts : Terms) → AreDistinct ts → AreNonZero rationals ts → PassesAt ts → list_all test ts ≡ true
  all_of_passes [] d a h = refl
  all_of_passes (t ∷ ts) d a h = λ i. head i && all_of_passes ts d.1 a.1 (λ q n. rest (eq_by_cmp plain_cmp q t.0) q refl n) i
    where
      own : at t.0 (t ∷ ts) ≡ t.1
      own = at_own t.0 t ts (own_key t.0) d.0

      head : test t ≡ true
      head = ap (λ x. test (t.0, x)) (sym own) ∙ h t.0 (λ z. a.0 (sym own ∙ z))

      rest : (b : Bool) (q : Monomial) → eq_by_cmp plain_cmp q t.0 ≡ b → at q ts ≢ whole (pos 0) → test (q, at q ts) ≡ true
      rest true q f n = absurd (n (ap (λ p. at p ts) (same_key q t.0 f) ∙ d.0))
      rest false q f n =
          let skip : at q (t ∷ ts) ≡ at q ts = at_skip q t ts f in
          ap (λ x. test (q, x)) (sym skip) ∙ h q (λ z. n (sym skip ∙ z))

  passes_like : (ts us : Terms) → ((q : Monomial) → at q ts ≡ at q us) → PassesAt ts → PassesAt us
  passes_like ts us e h q n = ap (λ x. test (q, x)) (sym (e q)) ∙ h q (λ z. n (sym (e q) ∙ z))

  pub all_same : (ts us : Terms) → AreDistinct ts → AreNonZero rationals ts → AreDistinct us → AreNonZero rationals us → ((q : Monomial) → sum_at rationals plain_cmp q ts ≡ sum_at rationals plain_cmp q us) → list_all test ts ≡ list_all test us
  all_same ts us d a c b e = by (list_all test ts) refl (list_all test us) refl
    where
      by : (x : Bool) → list_all test ts ≡ x → (y : Bool) → list_all test us ≡ y → x ≡ y
      by true f true g = refl
      by false f false g = refl
      by true f false g = sym (all_of_passes us c b (passes_like ts us e (passes_of_all ts d f))) ∙ g
      by false f true g = sym f ∙ all_of_passes ts d a (passes_like us ts (λ q. sym (e q)) (passes_of_all us c g))

-- the terms that an operator stores, in whatever order they fall
pub all_terms : (test : Summand → Bool) (o : Order) (ts : Terms) → IsFalling o ts → list_all test (terms rationals plain_cmp (collect rationals plain_cmp ts)) ≡ list_all test ts
all_terms test o ts h =
    let f = collect rationals plain_cmp ts in
    all_same test (terms rationals plain_cmp f) ts (distinct-terms f) (apart-terms plain_cmp f) (sorted_distinct (back_order o) (back_apart o) ts h.falls) h.apart
    (λ q. sym (Operators.coefficient-collect rationals (terms rationals plain_cmp f) q) ∙ ap (λ g. coefficient rationals plain_cmp g q) (Operators.collect-terms rationals f) ∙ Operators.coefficient-collect rationals ts q)
