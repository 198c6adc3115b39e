-- Terms that fall, with one term for each monomial and no zero, are the falling terms of what they make.
--     monomials           the monomials of terms
--     all_from_falling    a test of the falling terms is a test of all
--     falls_sorted        terms that are sorted are the falling terms of any terms that they permute
use Rattle.std.proofs.Common.{◌≡◌, ◌≢◌, inl, inr, ℕ, zero, suc, ◌+◌, ◌<◌, ◌≤◌, Bool, true, false, cond, ◌&&◌, ◌⊎◌, nat_eq, T, List, [], ◌∷◌, length, map, get_or, refl, sym, ap, ◌∙◌, subst, true≢false, arith}
use Rattle.std.specs.Prelude.{ℤ, pos, negsuc, ◌+ℤ◌, neg_ℤ}
use Rattle.std.specs.List.{sum_by, list_all}
use Rattle.std.specs.List.Sorted.{IsPermutation, IsSortedBy}
use Rattle.std.proofs.lemmas.List.Sorted.{sum_by-IsPermutation, sorted_far, ranks_by}
use Rattle.std.proofs.lemmas.Bool.Decides.{nat_tests}
use Rattle.std.specs.declared.cmp.Ordering.{Ordering}
use Rattle.std.specs.declared.cmp.Ordering.TheVariants.{Less, Equal, Greater}
use Rattle.std.specs.Ordering.{eq_by_cmp, is_eq, is_lt, ordering_reverse}
use Rattle.std.specs.Cmp.{tied_itself}
use Rattle.std.proofs.lemmas.Int.{ints}
use Rattle.std.proofs.lemmas.List.Sums.{sum_by-cons}
use Rattle.std.specs.FinMap.{entries, get-entries, is_sorted}
use Rattle.std.specs.FinMap.Entries.{below_all, find}
use Rattle.ore_algebra.specs.Domain.{Domain}
use Rattle.std.specs.declared.option.Option.TheVariants.{Some}
use Rattle.ore_algebra.specs.Free.{NonZero, Free, value_or_zero, coefficient, sum_at, terms, collect}
use Rattle.ore_algebra.proofs.FreeLaws
use Rattle.ore_algebra.proofs.Integers.{integers}
use Rattle.ore_algebra.proofs.Solve.{In, AreDistinct}
use Rattle.ore_monomial.specs.Monomial.{Monomial, plain_cmp}
use Rattle.ore_monomial.specs.declared.order.Order.{Order}
use Rattle.ore_monomial.proofs.Monomials.{plain_cmp_total, plain_cmp_apart}
use Rattle.ore_monomial.specs.Numbers.{back, falling_over, AreNonZero}
use Rattle.ore_monomial.proofs.FallingTerms.{back_order, back_apart, coefficient-back, falling_from_sums}

module _ (K : Domain) where
  abbrev pub monomials : List (Monomial × K.Number) → List Monomial
  monomials ts = map (λ t. t.0) ts

-- ---- permuted terms

abbrev Whole : Type 0
Whole = List (Monomial × ℤ)

-- 1 for a term of the monomial q
has : Monomial → Monomial × ℤ → ℕ
has q t = cond (eq_by_cmp plain_cmp q t.0) 1 0

-- 1 for a term whose number is zero
is_none : Monomial × ℤ → ℕ
is_none (m, pos zero) = 1
is_none (m, pos (suc n)) = 0
is_none (m, negsuc n) = 0

up_of : ℤ → ℕ
up_of (pos n) = n
up_of (negsuc n) = 0

down_of : ℤ → ℕ
down_of (pos n) = 0
down_of (negsuc n) = suc n

up : Monomial → Monomial × ℤ → ℕ
up q t = cond (eq_by_cmp plain_cmp q t.0) (up_of t.1) 0

down : Monomial → Monomial × ℤ → ℕ
down q t = cond (eq_by_cmp plain_cmp q t.0) (down_of t.1) 0

difference : ℕ → ℕ → ℤ
difference a b = pos a +ℤ neg_ℤ (pos b)

difference_sum : (a b c d : ℕ) → difference a b +ℤ difference c d ≡ difference (a + c) (b + d)
unfolding difference
difference_sum a b c d = omega (arith, ints)

number_parts : (z : ℤ) → z ≡ difference (up_of z) (down_of z)
unfolding difference up_of down_of
number_parts (pos n) = omega (arith, ints)
number_parts (negsuc n) = omega (arith, ints)

sum_at-parts : (q : Monomial) (ts : Whole) → sum_at integers plain_cmp q ts ≡ difference (sum_by (up q) ts) (sum_by (down q) ts)
unfolding sum_at up down up_of down_of
sum_at-parts q [] = number_parts (pos 0)
sum_at-parts q (t ∷ ts) =
    (λ i. one (eq_by_cmp plain_cmp q t.0) i +ℤ sum_at-parts q ts i)
    ∙ difference_sum (cond (eq_by_cmp plain_cmp q t.0) (up_of t.1) 0) (cond (eq_by_cmp plain_cmp q t.0) (down_of t.1) 0) (sum_by (up q) ts) (sum_by (down q) ts)
    ∙ (λ i. difference (sym (sum_by-cons (up q) t ts) i) (sym (sum_by-cons (down q) t ts) i))
  where
    one : (b : Bool) → cond b t.1 (pos 0) ≡ difference (cond b (up_of t.1) 0) (cond b (down_of t.1) 0)
    one true = number_parts t.1
    one false = number_parts (pos 0)

pub sum_at-permuted : (q : Monomial) (ts us : Whole) → IsPermutation ts us → sum_at integers plain_cmp q ts ≡ sum_at integers plain_cmp q us
sum_at-permuted q ts us p = sum_at-parts q ts ∙ (λ i. difference (sym (sum_by-IsPermutation (up q) ts us p) i) (sym (sum_by-IsPermutation (down q) ts us p) i)) ∙ sym (sum_at-parts q us)

-- ---- one term for each monomial

has_own : (q : Monomial) (t : Monomial × ℤ) → q ≡ t.0 → has q t ≡ 1
unfolding has
has_own q t e = ap (λ m. cond (eq_by_cmp plain_cmp q m) 1 0) (sym e) ∙ ap (λ b. cond b 1 0) (ap is_eq (tied_itself plain_cmp_total q))

has_other : (q : Monomial) (t : Monomial × ℤ) → q ≢ t.0 → has q t ≡ 0
unfolding has
has_other q t n = by (eq_by_cmp plain_cmp q t.0) refl
  where
    by : (b : Bool) → eq_by_cmp plain_cmp q t.0 ≡ b → ◌≡◌ {A = ℕ} (cond b 1 0) 0
    by true e = absurd (n (FreeLaws.same_key integers plain_cmp_total plain_cmp_apart q t.0 e))
    by false e = refl

has_at_most_one : (q : Monomial) (t : Monomial × ℤ) → (has q t ≡ 0) ⊎ ((has q t ≡ 1) × (q ≡ t.0))
unfolding has
has_at_most_one q t = by (eq_by_cmp plain_cmp q t.0) refl
  where
    by : (b : Bool) → eq_by_cmp plain_cmp q t.0 ≡ b → (◌≡◌ {A = ℕ} (cond b 1 0) 0) ⊎ ((◌≡◌ {A = ℕ} (cond b 1 0) 1) × (q ≡ t.0))
    by true e = inr (refl, FreeLaws.same_key integers plain_cmp_total plain_cmp_apart q t.0 e)
    by false e = inl refl

absent : (q : Monomial) (ts : Whole) → ¬ (In q (monomials integers ts)) → sum_by (has q) ts ≡ 0
absent q [] n = refl
absent q (t ∷ ts) n = let c = sum_by-cons (has q) t ts in let e = has_other q t (λ e. n (inl e)) in let r = absent q ts (λ h. n (inr h)) in omega arith

present : (q : Monomial) (ts : Whole) → In q (monomials integers ts) → 1 ≤ sum_by (has q) ts
present q [] h = absurd h
present q (t ∷ ts) (inl e) = let c = sum_by-cons (has q) t ts in let o = has_own q t e in omega arith
present q (t ∷ ts) (inr h) = let c = sum_by-cons (has q) t ts in let r = present q ts h in omega arith

once : (q : Monomial) (ts : Whole) → AreDistinct (monomials integers ts) → sum_by (has q) ts ≤ 1
once q [] a = omega arith
once q (t ∷ ts) a = subst (λ n. n ≤ 1) (sym (sum_by-cons (has q) t ts)) (by (has_at_most_one q t) (once q ts a.1))
  where
    by : (has q t ≡ 0) ⊎ ((has q t ≡ 1) × (q ≡ t.0)) → sum_by (has q) ts ≤ 1 → has q t + sum_by (has q) ts ≤ 1
    by (inl e) r = omega arith
    by (inr p) r = let z = absent q ts (subst (λ m. ¬ (In m (monomials integers ts))) (sym p.1) a.0) in let o = p.0 in omega arith

apart_once : (ts : Whole) → ((q : Monomial) → sum_by (has q) ts ≤ 1) → AreDistinct (monomials integers ts)
apart_once [] f = tt
apart_once (t ∷ ts) f = (
  (λ h. let c = sum_by-cons (has t.0) t ts in let o = has_own t.0 t refl in let p = present t.0 ts h in let l = f t.0 in absurd (omega arith)),
  apart_once ts (λ q. let c = sum_by-cons (has q) t ts in let l = f q in omega arith),
)

pub apart-permuted : (ts us : Whole) → IsPermutation ts us → AreDistinct (monomials integers ts) → AreDistinct (monomials integers us)
apart-permuted ts us p a = apart_once us (λ q. let l = once q ts a in let e = sum_by-IsPermutation (has q) ts us p in omega arith)

-- ---- no zero

not_none : (t : Monomial × ℤ) → t.1 ≢ pos 0 → is_none t ≡ 0
unfolding is_none
not_none (m, pos zero) n = absurd (n refl)
not_none (m, pos (suc x)) n = refl
not_none (m, negsuc x) n = refl

none_not : (t : Monomial × ℤ) → is_none t ≡ 0 → t.1 ≢ pos 0
unfolding is_none
none_not (m, pos zero) e z = absurd (omega arith)
none_not (m, pos (suc x)) e z = cc
none_not (m, negsuc x) e z = cc

no_zero : (ts : Whole) → AreNonZero integers ts → sum_by is_none ts ≡ 0
no_zero [] h = refl
no_zero (t ∷ ts) h = let c = sum_by-cons is_none t ts in let e = not_none t h.0 in let r = no_zero ts h.1 in omega arith

zero_none : (ts : Whole) → sum_by is_none ts ≡ 0 → AreNonZero integers ts
zero_none [] h = tt
zero_none (t ∷ ts) h = let c = sum_by-cons is_none t ts in (none_not t (omega arith), zero_none ts (omega arith))

pub some-permuted : (ts us : Whole) → IsPermutation ts us → AreNonZero integers ts → AreNonZero integers us
some-permuted ts us p h = zero_none us (let e = no_zero ts h in let f = sum_by-IsPermutation is_none ts us p in omega arith)

-- ---- tests

fails : (Monomial × ℤ → Bool) → Monomial × ℤ → ℕ
fails p t = cond (p t) 0 1

all_pass : (p : Monomial × ℤ → Bool) (ts : Whole) → list_all p ts ≡ nat_eq (sum_by (fails p) ts) 0
unfolding fails
all_pass p [] = refl
all_pass p (t ∷ ts) = by (p t) (all_pass p ts) ∙ ap (λ n. nat_eq n 0) (sym (sum_by-cons (fails p) t ts))
  where
    by : (b : Bool) → list_all p ts ≡ nat_eq (sum_by (λ u. cond (p u) 0 1) ts) 0 → (b && list_all p ts) ≡ nat_eq (cond b 0 1 + sum_by (λ u. cond (p u) 0 1) ts) 0
    by true e = e ∙ ap (λ n. nat_eq n 0) (let q : sum_by (λ u. cond (p u) 0 1) ts ≡ 0 + sum_by (λ u. cond (p u) 0 1) ts = omega arith in q)
    by false e = grind (arith, nat_tests)

pub all-permuted : (p : Monomial × ℤ → Bool) (ts us : Whole) → IsPermutation ts us → list_all p ts ≡ list_all p us
all-permuted p ts us h = all_pass p ts ∙ ap (λ n. nat_eq n 0) (sym (sum_by-IsPermutation (fails p) ts us h)) ∙ sym (all_pass p us)

-- ---- sorted terms fall

falls : Order → Monomial × ℤ → Monomial × ℤ → Bool
falls o t u = is_lt (back o t.0 u.0)

below_each : (o : Order) (m : Monomial) (ts : Whole) → ((k : ℕ) (d : Monomial × ℤ) → k < length ts → is_lt (back o m (get_or ts k d).0) ≡ true) → below_all (back o) m ts ≡ true
below_each o m [] f = refl
below_each o m (t ∷ ts) f = λ i. f 0 t (omega arith) i && below_each o m ts (λ k d l. f (suc k) d (omega arith)) i

pub member : (ts : Whole) (k : ℕ) (d : Monomial × ℤ) → k < length ts → In (get_or ts k d).0 (monomials integers ts)
member [] k d l = absurd (omega arith)
member (t ∷ ts) zero d l = inl refl
member (t ∷ ts) (suc k) d l = inr (member ts k d (omega arith))

less_or : (o : Order) (m n : Monomial) → m ≢ n → is_lt (back o n m) ≡ false → is_lt (back o m n) ≡ true
less_or o m n ne h = by (back o m n) refl
  where
    by : (r : Ordering) → back o m n ≡ r → is_lt r ≡ true
    by Less e = refl
    by Equal e = absurd (ne (back_apart o m n e))
    by Greater e = absurd (true≢false (sym (ap is_lt ((back_order o).antisymm n m ∙ ap ordering_reverse e)) ∙ h))

strictly : (o : Order) (ts : Whole) → IsSortedBy (falls o) ts → AreDistinct (monomials integers ts) → is_sorted (back o) ts ≡ true
unfolding falls
strictly o [] h a = refl
strictly o (t ∷ ts) h a = λ i.
    below_each o t.0 ts (λ k d l. less_or o t.0 (get_or ts k d).0 (λ e. a.0 (subst (λ m. In m (monomials integers ts)) (sym e) (member ts k d l)))
    (sorted_far (falls o) (ranks_by (back_order o) (λ (u : Monomial × ℤ). u.0)) (t ∷ ts) h 0 (suc k) d (omega arith) (omega arith))) i
    && strictly o ts (λ k d l m. next k d (h (suc k) d (omega arith) (omega arith))) a.1 i
  where
    next : (k : ℕ) (d : Monomial × ℤ) → is_lt (back o (get_or (t ∷ ts) (suc k + 1) d).0 (get_or ts k d).0) ≡ false → is_lt (back o (get_or ts (k + 1) d).0 (get_or ts k d).0) ≡ false
    next k d e = let q : suc k + 1 ≡ suc (k + 1) = omega arith in subst (λ j. is_lt (back o (get_or (t ∷ ts) j d).0 (get_or ts k d).0) ≡ false) q e

-- sorted terms are the falling terms of those that they permute
pub falls_sorted : (o : Order) (ts us : Whole) → AreDistinct (monomials integers ts) → AreNonZero integers ts → IsPermutation ts us → IsSortedBy (λ t u. is_lt (back o t.0 u.0)) us
    → terms integers (back o) (collect integers (back o) (terms integers plain_cmp (collect integers plain_cmp ts))) ≡ us
unfolding falls falling_over
falls_sorted o ts us a h p s = falling_from_sums integers o us ts (subst T (sym (strictly o us s (apart-permuted ts us p a))) tt) (some-permuted ts us p h) (λ q. sum_at-permuted q ts us p)

-- ---- a test of the falling terms is a test of all

module _ (r : ℤ → Bool) where
  abbrev pub pass_all : Whole → Bool
  pass_all ts = list_all (λ t. r t.1) ts

  find_all : (R : Monomial → Monomial → Ordering) (es : List (Monomial × NonZero integers)) (q : Monomial) → pass_all (map (λ e. (e.0, e.1.value)) es) ≡ true → value_or_zero integers (find R q es) ≢ pos 0 → r (value_or_zero integers (find R q es)) ≡ true
  find_all R [] q h n = absurd (n refl)
  find_all R (e ∷ es) q h n = by (eq_by_cmp R q e.0) (r e.1.value) refl h n (find_all R es q)
    where
      by : (b c : Bool) → r e.1.value ≡ c → (c && pass_all (map (λ e. (e.0, e.1.value)) es)) ≡ true → value_or_zero integers (cond b (Some e.1) (find R q es)) ≢ pos 0
          → (pass_all (map (λ e. (e.0, e.1.value)) es) ≡ true → value_or_zero integers (find R q es) ≢ pos 0 → r (value_or_zero integers (find R q es)) ≡ true) → r (value_or_zero integers (cond b (Some e.1) (find R q es))) ≡ true
      by true true k h n rest = k
      by false true k h n rest = rest h n
      by b false k h n rest = absurd (true≢false (sym h))

  coefficient_passes : (R : Monomial → Monomial → Ordering) (f : Free integers R) (q : Monomial) → pass_all (terms integers R f) ≡ true → coefficient integers R f q ≢ pos 0 → r (coefficient integers R f q) ≡ true
  unfolding coefficient terms
  coefficient_passes R f q h n = ap (λ v. r (value_or_zero integers v)) (get-entries f q) ∙ find_all R (entries f) q h (λ e. n (ap (value_or_zero integers) (get-entries f q) ∙ e))

  sum_absent : (q : Monomial) (ts : Whole) → ¬ (In q (monomials integers ts)) → sum_at integers plain_cmp q ts ≡ pos 0
  unfolding sum_at
  sum_absent q [] n = refl
  sum_absent q (t ∷ ts) n = (λ i. cond (other (eq_by_cmp plain_cmp q t.0) refl i) t.1 (pos 0) +ℤ sum_absent q ts (λ h. n (inr h)) i)
    where
      other : (b : Bool) → eq_by_cmp plain_cmp q t.0 ≡ b → b ≡ false
      other true e = absurd (n (inl (FreeLaws.same_key integers plain_cmp_total plain_cmp_apart q t.0 e)))
      other false e = refl

  all_from_sums : (ts : Whole) → AreDistinct (monomials integers ts) → AreNonZero integers ts → ((q : Monomial) → sum_at integers plain_cmp q ts ≢ pos 0 → r (sum_at integers plain_cmp q ts) ≡ true) → pass_all ts ≡ true
  unfolding sum_at
  all_from_sums [] a h f = refl
  all_from_sums (t ∷ ts) a h f = λ i. own i && all_from_sums ts a.1 h.1 later i
    where
      here : (eq_by_cmp plain_cmp t.0 t.0) ≡ true
      here = ap is_eq (tied_itself plain_cmp_total t.0)

      sum_own : sum_at integers plain_cmp t.0 (t ∷ ts) ≡ t.1
      sum_own = (λ i. cond (here i) t.1 (pos 0) +ℤ sum_absent t.0 ts a.0 i) ∙ integers.plus_zero t.1

      own : r t.1 ≡ true
      own = ap r (sym sum_own) ∙ f t.0 (λ e. h.0 (sym sum_own ∙ e))

      skip : (q : Monomial) (b : Bool) → eq_by_cmp plain_cmp q t.0 ≡ b → sum_at integers plain_cmp q ts ≢ pos 0 → sum_at integers plain_cmp q (t ∷ ts) ≡ sum_at integers plain_cmp q ts
      skip q true e n = absurd (n (sum_absent q ts (λ i. a.0 (subst (λ m. In m (monomials integers ts)) (FreeLaws.same_key integers plain_cmp_total plain_cmp_apart q t.0 e) i))))
      skip q false e n = ap (λ b. cond b t.1 (pos 0) +ℤ sum_at integers plain_cmp q ts) e ∙ integers.plus_comm (pos 0) (sum_at integers plain_cmp q ts) ∙ integers.plus_zero (sum_at integers plain_cmp q ts)

      later : (q : Monomial) → sum_at integers plain_cmp q ts ≢ pos 0 → r (sum_at integers plain_cmp q ts) ≡ true
      later q n = let e = skip q (eq_by_cmp plain_cmp q t.0) refl n in ap r (sym e) ∙ f q (λ z. n (sym e ∙ z))

  pub all_from_falling : (o : Order) (ts : Whole) → AreDistinct (monomials integers ts) → AreNonZero integers ts → pass_all (terms integers (back o) (collect integers (back o) (terms integers plain_cmp (collect integers plain_cmp ts)))) ≡ true → pass_all ts ≡ true
  all_from_falling o ts a h f = all_from_sums ts a h (λ q n.
      let e = coefficient-back integers o ts q in
      ap r (sym e) ∙ coefficient_passes (back o) (collect integers (back o) (terms integers plain_cmp (collect integers plain_cmp ts))) q f (λ z. n (sym e ∙ z)))
