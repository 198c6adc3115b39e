-- Terms that are added one after another make the sum of operators.
--     fits_alone                 the sum of 0 and a fraction in range fits
--     PassesWith                 the fraction of each monomial of an operator fits with that of another operator
--     all_passes, passes_all     the test of all terms says so
--     goes_on, stops_here        the first term fits, or it doesn't
--     term_added, term_stops     adding the first term leaves the others to be added, or stops as the sum does
--     first_left, none_missing                    the terms of a stored operator from a place on
--     next_told, stop_told       the first of these is added, or it stops
--     gathered_is, gathered_stops      all terms of an operator are added to zero
--     added_belongs              so the sum is of the signature
--     no_term                    no term is left to be added
use Rattle.std.proofs.Common.{zero, suc, length, drop, zero-mul, one-mul, ◌≡◌, ◌≢◌, true≢false, ℕ, ◌+◌, ◌*◌, ◌/◌, ◌<◌, ◌^◌, Bool, true, false, ◌&&◌, [], ◌∷◌, nat_le, pos, refl, sym, ap, ◌∙◌, subst, arith}
use Rattle.std.specs.declared.option.Option.TheVariants.{None, Some}
use Rattle.std.specs.Prelude.{slice_get, ℤ, nat_abs, ◌+ℤ◌, ◌*ℤ◌}
use Rattle.std.specs.Ordering.{eq_by_cmp}
use Rattle.std.specs.declared.result.Result.{Result}
use Rattle.std.specs.declared.result.Result.TheVariants.{Ok, Err}
use Rattle.std.proofs.lemmas.Nat.Gcd.{same_from_IsGcd}
use Rattle.std.proofs.Math.Nat.{div-one}
use Rattle.std.proofs.Math.IntN.{one, *ℤ-one, +ℤ_idl}
use native.Mathlib.Nat.{one-dvd}
use Rattle.ore_algebra.specs.Free.{coefficient, empty_sum, plus, single, sum_at, terms}
use Rattle.ore_algebra.specs.Limits.{Limits, Cause, Overflow, program, ◌>>=◌, guard}
use Rattle.ore_algebra.proofs.FreeLaws
use Rattle.ore_rational.specs.Fraction.{Fraction, whole, add}
use Rattle.ore_rational.specs.Gcd.{gcd, gcd_is}
use Rattle.ore_rational.specs.Within.{sum_num, sum_fits, sum_within}
use Rattle.ore_rational.specs.Field.{rationals}
use Rattle.ore_rational.proofs.Bounds.{Decides-within}
use Rattle.ore_monomial.specs.Monomial.{Monomial, plain_cmp}
use Rattle.ore_monomial.specs.declared.order.Order.{Order}
use Rattle.ore_monomial.specs.declared.order.Order.TheVariants.{DegLex}
use Rattle.ore_monomial.specs.Signature.{Signature}
use Rattle.ore_monomial.specs.LetterRule.{Operator}
use Rattle.ore_monomial.proofs.Monomials.{plain_cmp_total, plain_cmp_apart, same_key, own_key}
use Rattle.ore_monomial.proofs.Operators
use Rattle.ore_ring.specs.Belongs.{Belongs}
use Rattle.ore_ring.specs.Ordered.{Ordered}
use Rattle.ore_ring.specs.Terms.{Summand, Terms, falling, IsFalling}
use Rattle.ore_ring.specs.Within.{shared_fits, all_shared_fit, plus_within, add_term_within}
use Rattle.ore_ring.proofs.AllTerms.{AreDistinct, sorted_distinct, falls-falling, at_skip, at_own, distinct-terms, apart-terms, passes_of_all, all_of_passes}
use Rattle.ore_monomial.proofs.FallingTerms.{back_order, back_apart}
use Rattle.ore_monomial.specs.Numbers.{AreNonZero}
use Rattle.ore_ring.proofs.OpSums.{plus_belongs}
use Rattle.ore_ring.proofs.MergeIs.{shared_none, shared_some}
use Rattle.ore_ring.proofs.TermLaws.{C}
use Rattle.ore_ring.proofs.ZeroSums.{plus_zero, zero_plus}

-- ---- the sum with 0

abbrev most : ℕ
most = 170141183460469231731687303715884105727

one_gcd : (n : ℕ) → gcd 1 n ≡ 1
one_gcd n = same_from_IsGcd 1 n (gcd 1 n) 1 (gcd_is 1 n) (one-dvd 1, one-dvd n, λ d u v. u)

gcd_one : (n : ℕ) → gcd n 1 ≡ 1
gcd_one n = same_from_IsGcd n 1 (gcd n 1) 1 (gcd_is n 1) (one-dvd n, one-dvd 1, λ d u v. v)

times_one : (z : ℤ) → z *ℤ pos 1 ≡ z
unfolding one
times_one z = *ℤ-one z

pub fits_alone : (c : Fraction) → nat_abs c.num < 2 ^ 127 → c.den < 2 ^ 127 → sum_fits program (whole (pos 0)) c ≡ true
unfolding sum_fits
fits_alone c n d =
    let g = gcd 1 c.den in
    let e = one_gcd c.den in
    let empty_sum : 0 * (c.den / g) ≡ 0 = zero-mul (c.den / g) in
    let product : c.num *ℤ pos (1 / g) ≡ c.num = ap (λ k. c.num *ℤ pos (1 / k)) e ∙ times_one c.num in
    let total : pos (0 * (c.den / g)) +ℤ (c.num *ℤ pos (1 / g)) ≡ c.num = (λ i. pos (empty_sum i) +ℤ product i) ∙ +ℤ_idl c.num in
    let num = sum_num (whole (pos 0)) c in
    let last : (1 / g) * (c.den / gcd (nat_abs num) g) ≡ c.den =
    (λ i. (1 / e i) * (c.den / gcd (nat_abs num) (e i))) ∙ ap (λ k. 1 * (c.den / k)) (gcd_one (nat_abs num)) ∙ one-mul (c.den / 1) ∙ div-one c.den in
    let first_in : nat_le (0 * (c.den / g)) most ≡ true = ap (λ k. nat_le k most) empty_sum in
    let second_in : nat_le (nat_abs (c.num *ℤ pos (1 / g))) most ≡ true = ap (λ z. nat_le (nat_abs z) most) product ∙ (Decides-within (nat_abs c.num)).1 n in
    let third_in : nat_le (nat_abs num) most ≡ true = ap (λ z. nat_le (nat_abs z) most) total ∙ (Decides-within (nat_abs c.num)).1 n in
    let last_in : nat_le ((1 / g) * (c.den / gcd (nat_abs num) g)) most ≡ true = ap (λ k. nat_le k most) last ∙ (Decides-within c.den).1 d in
    (λ i. first_in i && (second_in i && (third_in i && last_in i)))

-- ---- all terms in turn

module _ (l : Limits) where
  abbrev at : Operator rationals → Monomial → Fraction
  at f q = coefficient rationals plain_cmp f q

  PassesWith : Operator rationals → Operator rationals → Type 0
  PassesWith f g = (q : Monomial) → at f q ≢ whole (pos 0) → shared_fits l (at f q) (at g q) ≡ true

  terms_at : (f : Operator rationals) (q : Monomial) → sum_at rationals plain_cmp q (terms rationals plain_cmp f) ≡ at f q
  terms_at f q = FreeLaws.sum_at-terms rationals plain_cmp_total plain_cmp_apart f q

  abbrev test : Operator rationals → Summand → Bool
  test g t = shared_fits l t.1 (at g t.0)

  all_passes : (f g : Operator rationals) → all_shared_fit l g (terms rationals plain_cmp f) ≡ true → PassesWith f g
  unfolding all_shared_fit PassesWith
  all_passes f g e q n =
      let p = passes_of_all (test g) (terms rationals plain_cmp f) (distinct-terms f) e q (λ z. n (sym (terms_at f q) ∙ z)) in
      ap (λ x. shared_fits l x (at g q)) (sym (terms_at f q)) ∙ p

  passes_all : (f g : Operator rationals) → PassesWith f g → all_shared_fit l g (terms rationals plain_cmp f) ≡ true
  unfolding all_shared_fit PassesWith
  passes_all f g h =
      all_of_passes (test g) (terms rationals plain_cmp f) (distinct-terms f) (apart-terms plain_cmp f)
      (λ q n. ap (λ x. shared_fits l x (at g q)) (terms_at f q) ∙ h q (λ z. n (terms_at f q ∙ z)))

  -- ---- one term more

  abbrev with_term : Operator rationals → Summand → Operator rationals
  with_term f t = plus rationals plain_cmp f (single rationals plain_cmp t.0 t.1)

  -- the fractions of all terms, at the first monomial and elsewhere
  here : (t : Summand) (ts : Terms) → AreDistinct (t ∷ ts) → at (C (t ∷ ts)) t.0 ≡ t.1
  here t ts d = Operators.coefficient-collect rationals (t ∷ ts) t.0 ∙ at_own t.0 t ts (own_key t.0) d.0

  elsewhere : (t : Summand) (ts : Terms) (q : Monomial) → eq_by_cmp plain_cmp q t.0 ≡ false → at (C (t ∷ ts)) q ≡ at (C ts) q
  elsewhere t ts q e = Operators.coefficient-collect rationals (t ∷ ts) q ∙ at_skip q t ts e ∙ sym (Operators.coefficient-collect rationals ts q)

  kept_elsewhere : (f : Operator rationals) (t : Summand) (q : Monomial) → eq_by_cmp plain_cmp q t.0 ≡ false → at (with_term f t) q ≡ at f q
  kept_elsewhere f t q e =
      Operators.coefficient-plus rationals f (single rationals plain_cmp t.0 t.1) q
      ∙ ap (add (at f q)) (Operators.coefficient-other rationals t.0 t.1 q (λ same. true≢false (sym (ap (λ m. eq_by_cmp plain_cmp m t.0) same ∙ own_key t.0) ∙ e)))
      ∙ rationals.plus_zero (at f q)

  module _ (f : Operator rationals) (t : Summand) (ts : Terms) (d : AreDistinct (t ∷ ts)) (n : t.1 ≢ whole (pos 0)) where
    later_passes : PassesWith f (C (t ∷ ts)) → PassesWith (with_term f t) (C ts)
    unfolding PassesWith
    later_passes h q k = by (eq_by_cmp plain_cmp q t.0) refl
      where
        by : (b : Bool) → eq_by_cmp plain_cmp q t.0 ≡ b → shared_fits l (at (with_term f t) q) (at (C ts) q) ≡ true
        by true e = shared_none l DegLex _ _ (ap (at (C ts)) (same_key q t.0 e) ∙ Operators.coefficient-collect rationals ts t.0 ∙ d.0)
        by false e =
            (λ i. shared_fits l (kept_elsewhere f t q e i) (sym (elsewhere t ts q e) i))
            ∙ h q (λ z. k (kept_elsewhere f t q e ∙ z))

    all_pass : sum_fits l (at f t.0) t.1 ≡ true → PassesWith (with_term f t) (C ts) → PassesWith f (C (t ∷ ts))
    unfolding PassesWith
    all_pass fit h q k = by (eq_by_cmp plain_cmp q t.0) refl
      where
        by : (b : Bool) → eq_by_cmp plain_cmp q t.0 ≡ b → shared_fits l (at f q) (at (C (t ∷ ts)) q) ≡ true
        by true e =
            let same = same_key q t.0 e in
            (λ i. shared_fits l (at f (same i)) (at (C (t ∷ ts)) (same i)))
            ∙ ap (shared_fits l (at f t.0)) (here t ts d)
            ∙ shared_some l DegLex (at f t.0) t.1 n
            ∙ fit
        by false e =
            (λ i. shared_fits l (sym (kept_elsewhere f t q e) i) (elsewhere t ts q e i))
            ∙ h q (λ z. k (sym (kept_elsewhere f t q e) ∙ z))

    same_tests : sum_fits l (at f t.0) t.1 ≡ true → all_shared_fit l (C ts) (terms rationals plain_cmp (with_term f t)) ≡ all_shared_fit l (C (t ∷ ts)) (terms rationals plain_cmp f)
    same_tests fit = by _ _ refl refl
      where
        by : (x y : Bool) → all_shared_fit l (C ts) (terms rationals plain_cmp (with_term f t)) ≡ x → all_shared_fit l (C (t ∷ ts)) (terms rationals plain_cmp f) ≡ y
            → all_shared_fit l (C ts) (terms rationals plain_cmp (with_term f t)) ≡ all_shared_fit l (C (t ∷ ts)) (terms rationals plain_cmp f)
        by true true e h = e ∙ sym h
        by false false e h = e ∙ sym h
        by true false e h = e ∙ sym (passes_all f (C (t ∷ ts)) (all_pass fit (all_passes (with_term f t) (C ts) e)))
        by false true e h = passes_all (with_term f t) (C ts) (later_passes (all_passes f (C (t ∷ ts)) h)) ∙ sym h

    same_value : plus rationals plain_cmp (with_term f t) (C ts) ≡ plus rationals plain_cmp f (C (t ∷ ts))
    same_value = Operators.plus_assoc rationals f (single rationals plain_cmp t.0 t.1) (C ts) ∙ ap (plus rationals plain_cmp f) (sym (Operators.collect_more rationals t.0 t.1 ts))

    goes_on : sum_fits l (at f t.0) t.1 ≡ true → plus_within l (with_term f t) (C ts) ≡ plus_within l f (C (t ∷ ts))
    unfolding plus_within
    goes_on fit = λ i. guard (same_tests fit i) (same_value i) Overflow

    -- where the first term doesn't fit, the operator has its monomial
    stops_here : sum_fits l (whole (pos 0)) t.1 ≡ true → sum_fits l (at f t.0) t.1 ≡ false → plus_within l f (C (t ∷ ts)) ≡ Err Overflow
    unfolding plus_within PassesWith
    stops_here alone fit = ap (λ b. guard b (plus rationals plain_cmp f (C (t ∷ ts))) Overflow) (by _ refl)
      where
        by : (b : Bool) → all_shared_fit l (C (t ∷ ts)) (terms rationals plain_cmp f) ≡ b → all_shared_fit l (C (t ∷ ts)) (terms rationals plain_cmp f) ≡ false
        by false e = e
        by true e =
            let p = all_passes f (C (t ∷ ts)) e t.0 (λ z. true≢false (sym alone ∙ ap (λ x. sum_fits l x t.1) (sym z) ∙ fit)) in
            absurd (true≢false (sym p ∙ ap (shared_fits l (at f t.0)) (here t ts d) ∙ shared_some l DegLex (at f t.0) t.1 n ∙ fit))

  -- what adding the first term does to the sum
  module _ (f : Operator rationals) (t : Summand) (ts : Terms) (d : AreDistinct (t ∷ ts)) (n : t.1 ≢ whole (pos 0)) (alone : sum_fits l (whole (pos 0)) t.1 ≡ true) where
    first_step : (b : Bool) → sum_fits l (at f t.0) t.1 ≡ b → add_term_within l f t.0 t.1 ≡ guard b (with_term f t) Overflow
    unfolding add_term_within sum_within
    first_step true e = ap (λ b. guard b (add (at f t.0) t.1) Overflow >>= λ s. Ok (with_term f t)) e
    first_step false e = ap (λ b. guard b (add (at f t.0) t.1) Overflow >>= λ s. Ok (with_term f t)) e

    pub term_added : (h : Operator rationals) → add_term_within l f t.0 t.1 ≡ Ok h → plus_within l h (C ts) ≡ plus_within l f (C (t ∷ ts))
    term_added h e = by (sum_fits l (at f t.0) t.1) refl
      where
        by : (b : Bool) → sum_fits l (at f t.0) t.1 ≡ b → plus_within l h (C ts) ≡ plus_within l f (C (t ∷ ts))
        by true fit = let same : ◌≡◌ {A = Result (Operator rationals) Cause} (Ok h) (Ok (with_term f t)) = sym e ∙ first_step true fit in let is : h ≡ with_term f t = cc in ap (λ g. plus_within l g (C ts)) is ∙ goes_on f t ts d n fit
        by false fit = let same : ◌≡◌ {A = Result (Operator rationals) Cause} (Ok h) (Err Overflow) = sym e ∙ first_step false fit in let no : ⊥ = cc in absurd no

    pub term_stops : (c : Cause) → add_term_within l f t.0 t.1 ≡ Err c → plus_within l f (C (t ∷ ts)) ≡ Err c
    term_stops c e = by (sum_fits l (at f t.0) t.1) refl
      where
        by : (b : Bool) → sum_fits l (at f t.0) t.1 ≡ b → plus_within l f (C (t ∷ ts)) ≡ Err c
        by true fit = let same : ◌≡◌ {A = Result (Operator rationals) Cause} (Err c) (Ok (with_term f t)) = sym e ∙ first_step true fit in let no : ⊥ = cc in absurd no
        by false fit = stops_here f t ts d n alone fit ∙ sym (first_step false fit) ∙ e

  pub no_term : (f : Operator rationals) → plus_within l f (C []) ≡ Ok f
  unfolding empty_sum
  no_term f = plus_zero l f

-- ---- the terms of a stored operator, from a place on

first_left : (ts : Terms) (k : ℕ) (t : Summand) → Some t ≡ slice_get ts k → drop k ts ≡ t ∷ drop (k + 1) ts
first_left [] k t e = cc
first_left (u ∷ ts) zero t e = let same : u ≡ t = cc in ap (λ v. v ∷ ts) same
first_left (u ∷ ts) (suc k) t e = let s : suc (k + 1) ≡ suc k + 1 = omega arith in first_left ts k t e ∙ ap (λ n. t ∷ drop n (u ∷ ts)) s

pub none_missing : (ts : Terms) (k : ℕ) → k < length ts → None ≡ slice_get ts k → ⊥
none_missing [] k h e = absurd (let z : ⊥ = omega arith in z)
none_missing (u ∷ ts) zero h e = cc
none_missing (u ∷ ts) (suc k) h e = none_missing ts k (omega arith) e

drop_distinct : (ts : Terms) (k : ℕ) → AreDistinct ts → AreDistinct (drop k ts)
drop_distinct ts zero d = d
drop_distinct [] (suc k) d = tt
drop_distinct (t ∷ ts) (suc k) d = drop_distinct ts k d.1

drop_apart : (ts : Terms) (k : ℕ) → AreNonZero rationals ts → AreNonZero rationals (drop k ts)
drop_apart ts zero d = d
drop_apart [] (suc k) d = tt
drop_apart (t ∷ ts) (suc k) d = drop_apart ts k d.1

module _ (v : Ordered) (k : ℕ) (t : Summand) (e : Some t ≡ slice_get (falling v.by v.sum) k) (alone : sum_fits program (whole (pos 0)) t.1 ≡ true) (f given : Operator rationals)
    (told : plus_within program f (C (drop k (falling v.by v.sum))) ≡ plus_within program given v.sum) where
  stored : IsFalling v.by (falling v.by v.sum)
  stored = falls-falling v.by v.sum

  left : drop k (falling v.by v.sum) ≡ t ∷ drop (k + 1) (falling v.by v.sum)
  left = first_left (falling v.by v.sum) k t e

  distinct : AreDistinct (t ∷ drop (k + 1) (falling v.by v.sum))
  distinct = subst AreDistinct left (drop_distinct (falling v.by v.sum) k (sorted_distinct (back_order v.by) (back_apart v.by) (falling v.by v.sum) stored.falls))

  apart : t.1 ≢ whole (pos 0)
  apart = (subst (AreNonZero rationals) left (drop_apart (falling v.by v.sum) k stored.apart)).0

  pub next_told : (h : Operator rationals) → add_term_within program f t.0 t.1 ≡ Ok h → plus_within program h (C (drop (k + 1) (falling v.by v.sum))) ≡ plus_within program given v.sum
  next_told h a = term_added program f t (drop (k + 1) (falling v.by v.sum)) distinct apart alone h a ∙ ap (λ ts. plus_within program f (C ts)) (sym left) ∙ told

  pub stop_told : (c : Cause) → add_term_within program f t.0 t.1 ≡ Err c → plus_within program given v.sum ≡ Err c
  stop_told c a = sym told ∙ ap (λ ts. plus_within program f (C ts)) left ∙ term_stops program f t (drop (k + 1) (falling v.by v.sum)) distinct apart alone c a

-- ---- all terms of an operator, added to zero

module _ (op start : Ordered) (o : Order) (s : start ≡ record { by = o; sum = empty_sum rationals plain_cmp }) (oe : o ≡ op.by) where
  whole_sum : plus_within program start.sum op.sum ≡ Ok op.sum
  whole_sum = ap (λ (v : Ordered). plus_within program v.sum op.sum) s ∙ zero_plus program op.sum

  pub gathered_is : (new : Ordered) → new.by ≡ start.by → plus_within program start.sum op.sum ≡ Ok new.sum → ◌≡◌ {A = Result Ordered Cause} (Ok op) (Ok new)
  gathered_is new b e =
      let same : ◌≡◌ {A = Result (Operator rationals) Cause} (Ok op.sum) (Ok new.sum) = sym whole_sum ∙ e in
      let sums : op.sum ≡ new.sum = cc in
      let orders : op.by ≡ new.by = sym (b ∙ ap (λ (v : Ordered). v.by) s ∙ oe) in
      (λ i. Ok (record { by = orders i; sum = sums i }))

  pub gathered_stops : (c : Cause) → plus_within program start.sum op.sum ≡ Err c → ◌≡◌ {A = Result Ordered Cause} (Ok op) (Err c)
  gathered_stops c e = let same : ◌≡◌ {A = Result (Operator rationals) Cause} (Ok op.sum) (Err c) = sym whole_sum ∙ e in let no : ⊥ = cc in absurd no

-- f is opened, and g added to it
pub added_belongs : (f opened g new result : Ordered) → ◌≡◌ {A = Result Ordered Cause} (Ok f) (Ok opened) → new.by ≡ opened.by → plus_within program opened.sum g.sum ≡ Ok new.sum → result ≡ new → (s : Signature) → Belongs s f → Belongs s g → Belongs s result
added_belongs f opened g new result o b e r s h k =
    let same : f ≡ opened = cc in
    subst (Belongs s) (sym r) (plus_belongs s opened g new (subst (Belongs s) same h) k b e)
