-- Terms added to an operator in turn.
--     add_terms_like     a stable sort changes no sum of terms, and no stop
--     exact_sum          where the sum of fractions at its monomial fits, a term is added
--     term_there, term_absent, term_past    the fraction at the place of a monomial
--     number_adds, number_stops  one number added to a stored operator
--     sorted_sum         what the sorted terms make is what the terms make
use Rattle.std.proofs.Common.{◌≡◌, ◌≢◌, true≢false, ℕ, zero, suc, ◌<◌, ◌≤◌, Bool, true, false, cond, not, ◌&&◌, T, ◌⊎◌, ⊎_elim, [], ◌∷◌, length, get_or, pos, refl, sym, ap, ◌∙◌, arith}
use Rattle.std.specs.declared.cmp.Ordering.{Ordering}
use Rattle.std.specs.declared.cmp.Ordering.TheVariants.{Less, Equal, Greater}
use Rattle.std.specs.Ordering.{eq_by_cmp, is_lt, ordering_reverse}
use Rattle.std.specs.Cmp.{tied_itself}
use Rattle.std.specs.FinMap.{is_sorted}
use Rattle.std.specs.List.Sorted.{IsStableBy}
use Rattle.std.specs.declared.result.Result.TheVariants.{Ok, Err}
use Rattle.std.proofs.lemmas.List.{get_or_default}
use Rattle.ore_algebra.specs.Free.{coefficient, collect, empty_sum, plus, single, sum_at, terms}
use Rattle.ore_algebra.specs.Limits.{Limits, Cause, Overflow, program, ◌>>=◌, guard}
use Rattle.ore_algebra.proofs.FreeLaws
use Rattle.ore_rational.specs.Fraction.{Fraction, whole, add}
use Rattle.ore_rational.specs.Within.{sum_fits, sum_within}
use Rattle.ore_rational.specs.Field.{rationals}
use Rattle.ore_rational.specs.FractionRing.{fraction_discrete}
use Rattle.ore_monomial.specs.Monomial.{Monomial, order_cmp, plain_cmp}
use Rattle.ore_monomial.specs.declared.order.Order.{Order}
use Rattle.ore_monomial.specs.declared.order.Order.TheVariants.{DegLex}
use Rattle.ore_monomial.specs.LetterRule.{Operator}
use Rattle.ore_monomial.specs.Numbers.{back}
use Rattle.ore_monomial.proofs.Monomials.{order_total, order_apart, plain_cmp_total, plain_cmp_apart, own_key}
use Rattle.ore_monomial.proofs.Operators
use Rattle.ore_ring.specs.Terms.{Summand, Terms}
use Rattle.ore_ring.specs.Place.{IsOver}
use Rattle.ore_ring.specs.Within.{add_term_within, plus_within, all_shared_fit, shared_fits}
use Rattle.ore_ring.specs.Contributions.{add_terms_within, falls_before}
use Rattle.ore_ring.proofs.AllTerms.{all_of_passes, distinct-terms, apart-terms, at_skip, at_own, at}
use Rattle.ore_ring.proofs.MergeIs.{eq_order, shared_none, shared_some}
use Rattle.ore_ring.proofs.Rearranged.{rearranged}
use Rattle.ore_ring.proofs.Splice.{later_less}

-- ---- the coefficient of a sum with one term

abbrev at_monomial : Operator rationals → Monomial → Fraction
at_monomial f m = coefficient rationals plain_cmp f m

abbrev with_term : Operator rationals → Monomial → Fraction → Operator rationals
with_term f m c = plus rationals plain_cmp f (single rationals plain_cmp m c)

alone_at : (q m : Monomial) (c : Fraction) (b : Bool) → eq_by_cmp plain_cmp q m ≡ b → at_monomial (single rationals plain_cmp m c) q ≡ cond b c (whole (pos 0))
unfolding single sum_at
alone_at q m c b e = Operators.coefficient-collect rationals ((m, c) ∷ []) q ∙ ap (λ b. add (cond b c (whole (pos 0))) (whole (pos 0))) e ∙ rationals.plus_zero (cond b c (whole (pos 0)))

own_value : (f : Operator rationals) (m : Monomial) (c : Fraction) → at_monomial (with_term f m c) m ≡ add (at_monomial f m) c
own_value f m c = Operators.coefficient-plus rationals f (single rationals plain_cmp m c) m ∙ ap (add (at_monomial f m)) (alone_at m m c true (own_key m))

other_value : (f : Operator rationals) (q m : Monomial) (c : Fraction) → eq_by_cmp plain_cmp q m ≡ false → at_monomial (with_term f m c) q ≡ at_monomial f q
other_value f q m c e = Operators.coefficient-plus rationals f (single rationals plain_cmp m c) q ∙ ap (add (at_monomial f q)) (alone_at q m c false e) ∙ rationals.plus_zero (at_monomial f q)

-- ---- a stable sort

module _ (l : Limits) (o : Order) where
  abbrev tie : Monomial → Monomial → Bool
  tie m q = not (is_lt (order_cmp o q m)) && not (is_lt (order_cmp o m q))

  tie_by : (m q : Monomial) (r : Ordering) → order_cmp o m q ≡ r → tie m q ≡ not (is_lt (ordering_reverse r)) && not (is_lt r)
  tie_by m q r e = λ i. not (is_lt ((((order_total o).antisymm q m) ∙ ap ordering_reverse e) i)) && not (is_lt (e i))

  tie_same : (m q : Monomial) → tie m q ≡ true → m ≡ q
  tie_same m q h = by (order_cmp o m q) refl
    where
      by : (r : Ordering) → order_cmp o m q ≡ r → m ≡ q
      by Less e = absurd (true≢false (sym h ∙ tie_by m q Less e))
      by Equal e = order_apart o m q e
      by Greater e = absurd (true≢false (sym h ∙ tie_by m q Greater e))

  tie_own : (m : Monomial) → tie m m ≡ true
  tie_own m = tie_by m m Equal (tied_itself (order_total o) m)

  tie_other : (m q : Monomial) → tie m q ≡ false → eq_by_cmp plain_cmp m q ≡ false
  tie_other m q h = by (order_cmp o m q) refl
    where
      by : (r : Ordering) → order_cmp o m q ≡ r → eq_by_cmp plain_cmp m q ≡ false
      by Less e = eq_order l o m q Less e
      by Equal e = absurd (true≢false (sym (tie_by m q Equal e) ∙ h))
      by Greater e = eq_order l o m q Greater e

  sum_value : (p q s : Fraction) → sum_within l p q ≡ Ok s → s ≡ add p q
  unfolding sum_within
  sum_value p q s e = by (sum_fits l p q) e
    where
      by : (b : Bool) → guard b (add p q) Overflow ≡ Ok s → s ≡ add p q
      by true f = cc
      by false f = cc

  only_overflow : (p q : Fraction) (e : Cause) → sum_within l p q ≡ Err e → e ≡ Overflow
  unfolding sum_within
  only_overflow p q e h = by (sum_fits l p q) h
    where
      by : (b : Bool) → guard b (add p q) Overflow ≡ Err e → e ≡ Overflow
      by true f = let no : ⊥ = cc in absurd no
      by false f = cc

  pub add_terms_like : (f : Operator rationals) (xs ys : Terms) → IsStableBy (falls_before o) xs ys → add_terms_within l f xs ≡ add_terms_within l f ys
  unfolding add_terms_within add_term_within
  add_terms_like f xs ys h =
      rearranged tie at_monomial with_term (sum_within l) tie_same tie_own
      (λ g m c s e. own_value g m c ∙ sym (sum_value (at_monomial g m) c s e))
      (λ g m q c e. other_value g m q c (tie_other m q e))
      only_overflow (Operators.same_sum rationals)
      f xs ys (λ m. sym (h (m, whole (pos 0))))

-- ---- one term

module _ (l : Limits) (f : Operator rationals) (m : Monomial) (c : Fraction) (fit : sum_fits l (at_monomial f m) c ≡ true) where
  shared_at : (q : Monomial) (x : Fraction) → x ≡ at_monomial f q → shared_fits l x (at_monomial (single rationals plain_cmp m c) q) ≡ true
  shared_at q x e = by (eq_by_cmp plain_cmp q m) refl
    where
      here : Dec (c ≡ whole (pos 0)) → shared_fits l (at_monomial f m) c ≡ true
      here (yes z) = shared_none l DegLex (at_monomial f m) c z
      here (no n) = shared_some l DegLex (at_monomial f m) c n ∙ fit

      by : (b : Bool) → eq_by_cmp plain_cmp q m ≡ b → shared_fits l x (at_monomial (single rationals plain_cmp m c) q) ≡ true
      by true k =
          let w = FreeLaws.same_key rationals plain_cmp_total plain_cmp_apart q m k in
          (λ i. shared_fits l ((e ∙ ap (at_monomial f) w) i) (alone_at q m c true k i)) ∙ here (fraction_discrete c (whole (pos 0)))
      by false k = ap (shared_fits l x) (alone_at q m c false k) ∙ shared_none l DegLex x (whole (pos 0)) refl

  all_fit : all_shared_fit l (single rationals plain_cmp m c) (terms rationals plain_cmp f) ≡ true
  unfolding all_shared_fit
  all_fit =
      all_of_passes (λ t. shared_fits l t.1 (at_monomial (single rationals plain_cmp m c) t.0)) (terms rationals plain_cmp f) (distinct-terms f) (apart-terms plain_cmp f)
      (λ q n. shared_at q (sum_at rationals plain_cmp q (terms rationals plain_cmp f)) (FreeLaws.sum_at-terms rationals plain_cmp_total plain_cmp_apart f q))

  plus_is_whole : plus_within l f (single rationals plain_cmp m c) ≡ Ok (with_term f m c)
  unfolding plus_within
  plus_is_whole = ap (λ b. guard b (with_term f m c) Overflow) all_fit

module _ (l : Limits) (f : Operator rationals) (m : Monomial) (c s : Fraction) where
  fits_of : sum_within l (at_monomial f m) c ≡ Ok s → sum_fits l (at_monomial f m) c ≡ true
  unfolding sum_within
  fits_of h = by (sum_fits l (at_monomial f m) c) refl h
    where
      by : (b : Bool) → sum_fits l (at_monomial f m) c ≡ b → guard b (add (at_monomial f m) c) Overflow ≡ Ok s → sum_fits l (at_monomial f m) c ≡ true
      by true e g = e
      by false e g = let no : ⊥ = cc in absurd no

  -- a term whose sum doesn't stop is added as an operator is
  pub exact_sum : sum_within l (at_monomial f m) c ≡ Ok s → add_term_within l f m c ≡ plus_within l f (single rationals plain_cmp m c)
  unfolding add_term_within
  exact_sum h = ap (λ r. r >>= λ s. Ok (with_term f m c)) h ∙ sym (plus_is_whole l f m c (fits_of h))

  pub stopped_sum : (e : Cause) → sum_within l (at_monomial f m) c ≡ Err e → add_term_within l f m c ≡ Err e
  unfolding add_term_within
  stopped_sum e h = ap (λ r. r >>= λ s. Ok (with_term f m c)) h

-- ---- the fraction at a place

module _ (o : Order) (m : Monomial) where
  abbrev IsElse : Monomial → Type 0
  IsElse q = order_cmp o m q ≢ Equal

  not_eq : (q : Monomial) → IsElse q → eq_by_cmp plain_cmp m q ≡ false
  not_eq q n = by (order_cmp o m q) refl
    where
      by : (r : Ordering) → order_cmp o m q ≡ r → eq_by_cmp plain_cmp m q ≡ false
      by Less e = eq_order program o m q Less e
      by Equal e = absurd (n e)
      by Greater e = eq_order program o m q Greater e

  pub number_absent : (ts : Terms) → ((i : ℕ) (d : Summand) → i < length ts → IsElse (get_or ts i d).0) → at m ts ≡ whole (pos 0)
  unfolding sum_at
  number_absent [] h = refl
  number_absent (t ∷ ts) h =
      at_skip m t ts (not_eq t.0 (h 0 t (omega arith))) ∙ number_absent ts (λ i d k. h (suc i) d (omega arith))

  pub number_there : (ts : Terms) (k : ℕ) (t : Summand) → k < length ts → t ≡ get_or ts k t → Equal ≡ order_cmp o m t.0 → ((i : ℕ) (d : Summand) → i < length ts → i ≢ k → IsElse (get_or ts i d).0) → at m ts ≡ t.1
  number_there [] k t h e f n = absurd (omega arith)
  number_there (u ∷ us) zero t h e f n =
      let g : order_cmp o m u.0 ≡ Equal = ap (λ v. order_cmp o m v.0) (sym e) ∙ sym f in
      at_own m u us (eq_order program o m u.0 Equal g) (number_absent us (λ i d k. n (suc i) d (omega arith) (omega arith))) ∙ ap (λ v. v.1) (sym e)
  number_there (u ∷ us) (suc k) t h e f n =
      at_skip m u us (not_eq u.0 (n 0 u (omega arith) (omega arith)))
      ∙ number_there us k t (omega arith) e f (λ i d l w. n (suc i) d (omega arith) (λ z. w (omega arith)))

two_sides : (i k : ℕ) → i ≢ k → (i < k) ⊎ (k < i)
two_sides i k n = grind arith

up_to : (i k : ℕ) → (i < k) ⊎ (k ≤ i)
up_to i k = grind arith

from_on : (i k : ℕ) → k ≤ i → (k < i) ⊎ (k ≡ i)
from_on i k h = grind arith

module _ (o : Order) (m : Monomial) (ts : Terms) (k : ℕ) (falls : T (is_sorted (back o) ts)) (over : IsOver o m ts k) where
  else_before : (i : ℕ) (d : Summand) → i < k → i < length ts → IsElse o m (get_or ts i d).0
  else_before i d h l e = let w : ◌≡◌ {A = Ordering} Less Equal = sym (over i d h l) ∙ e in let no : ⊥ = cc in no

  -- a later term that has the monomial would put it below the term at k
  else_after : (i : ℕ) (d t : Summand) (r : Ordering) → k < i → i < length ts → t ≡ get_or ts k t → r ≡ order_cmp o m t.0 → r ≢ Less → IsElse o m (get_or ts i d).0
  else_after i d t r h l e f n g =
      n (f ∙ ap (λ q. order_cmp o q t.0) (order_apart o m (get_or ts i d).0 g) ∙ ap (λ u. order_cmp o (get_or ts i d).0 u.0) e ∙ later_less o ts falls k i t d h l)

  pub term_there : (t : Summand) → k < length ts → t ≡ get_or ts k t → Equal ≡ order_cmp o m t.0 → at m ts ≡ t.1
  term_there t h e f =
      number_there o m ts k t h e f (λ i d l n.
      ⊎_elim (λ a. else_before i d a l) (λ a. else_after i d t Equal a l e f (λ w. let no : ⊥ = cc in no)) (two_sides i k n))

  pub term_absent : (t : Summand) → t ≡ get_or ts k t → Greater ≡ order_cmp o m t.0 → at m ts ≡ whole (pos 0)
  term_absent t e f =
      number_absent o m ts (λ i d l.
      ⊎_elim (λ a. else_before i d a l)
      (λ a. ⊎_elim (λ b. else_after i d t Greater b l e f (λ w. let no : ⊥ = cc in no)) (λ b g. same_place i d l b g) (from_on i k a)) (up_to i k))
    where
      same_place : (i : ℕ) (d : Summand) → i < length ts → k ≡ i → IsElse o m (get_or ts i d).0
      same_place i d l b g =
          let w : ◌≡◌ {A = Ordering} Greater Equal = f ∙ ap (λ u. order_cmp o m u.0) (e ∙ ap (λ j. get_or ts j t) b ∙ get_or_default ts i t d l) ∙ g in
          let no : ⊥ = cc in no

  pub term_past : length ts ≤ k → at m ts ≡ whole (pos 0)
  term_past h = number_absent o m ts (λ i d l. else_before i d (omega arith) l)

-- ---- one number added to a stored operator

module _ (f : Operator rationals) (ts : Terms) (m : Monomial) (c old : Fraction) (te : collect rationals plain_cmp ts ≡ f) (oe : old ≡ at m ts) where
  old_is : old ≡ coefficient rationals plain_cmp f m
  old_is = oe ∙ sym (Operators.coefficient-collect rationals ts m) ∙ ap (λ g. coefficient rationals plain_cmp g m) te

  pub number_stops : (e : Cause) → sum_within program old c ≡ Err e → add_term_within program f m c ≡ Err e
  number_stops e h = stopped_sum program f m c c e (ap (λ x. sum_within program x c) (sym old_is) ∙ h)

  pub number_adds : (s : Fraction) → sum_within program old c ≡ Ok s → plus_within program f (single rationals plain_cmp m c) ≡ add_term_within program f m c
  number_adds s h = sym (exact_sum program f m c s (ap (λ x. sum_within program x c) (sym old_is) ∙ h))

-- ---- terms that are sorted first

pub sorted_sum : (o : Order) (xs ys : Terms) (z : Operator rationals) → z ≡ empty_sum rationals plain_cmp → IsStableBy (falls_before o) xs ys → add_terms_within program (empty_sum rationals plain_cmp) xs ≡ add_terms_within program z ys
sorted_sum o xs ys z n h = add_terms_like program o (empty_sum rationals plain_cmp) xs ys h ∙ ap (λ f. add_terms_within program f ys) (sym n)
