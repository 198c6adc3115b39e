-- IntegerTerms whose numbers are checked one after another.
--     checked_ok, checked_err    what checked says of the terms
--     stopped, fitting           what checked is, where the terms are beyond the range, and where they are in it
--     mapped_next, flat_next ..  one turn of a loop that makes terms of a list
use Rattle.std.proofs.Common.{◌≡◌, ℕ, length, get_or, drop, map, ◌+◌, ◌<◌, ◌≤◌, ◌^◌, Bool, true, false, ◌&&◌, nat_le, List, [], ◌∷◌, ◌++◌, refl, sym, ap, ◌∙◌, arith}
use Rattle.std.specs.Prelude.{ℤ, nat_abs}
use Rattle.std.specs.declared.result.Result.TheVariants.{Ok, Err}
use Rattle.std.proofs.lemmas.List.{append_assoc, append-nil}
use Rattle.std.proofs.lemmas.List.Folds.{list_all-append}
use Rattle.std.proofs.lemmas.Bool.Decides.{nat_tests}
use Rattle.ore_algebra.specs.Limits.{Cause, Overflow, program, guard}
use Rattle.ore_algebra.proofs.ListLaws.{drop_item}
use Rattle.ore_monomial.specs.Monomial.{Monomial}
use Rattle.std.specs.List.{flat_map}
use Rattle.std.proofs.Math.ListN.{drop_of_length-le}
use Rattle.ore_commute.specs.Product.{IntegerTerms, in_range, checked}
use Rattle.ore_monomial.specs.Numbers.{are_within}

pub number_fits : (z : ℤ) → nat_abs z < 2 ^ 127 → nat_le (nat_abs z) 170141183460469231731687303715884105727 ≡ true
number_fits z h = grind (arith, nat_tests)

pub number_stops : (z : ℤ) → (nat_abs z < 2 ^ 127 → ⊥) → nat_le (nat_abs z) 170141183460469231731687303715884105727 ≡ false
number_stops z n = grind (arith, nat_tests)

pub checked_none : (front : IntegerTerms) → checked front [] ≡ Ok front
unfolding checked
checked_none front = ap Ok (append-nil front)

pub checked-append : (front ts us : IntegerTerms) → are_within program ts ≡ true → checked front (ts ++ us) ≡ checked (front ++ ts) us
unfolding checked
checked-append front ts us h = λ i. guard ((list_all-append _ ts us ∙ ap (λ b. b && are_within program us) h) i) (sym (append_assoc front ts us) i) Overflow

pub stopped-append : (front ts us : IntegerTerms) → are_within program ts ≡ false → checked front (ts ++ us) ≡ Err Overflow
unfolding checked
stopped-append front ts us h = ap (λ b. guard b (front ++ (ts ++ us)) Overflow) (list_all-append _ ts us ∙ ap (λ b. b && are_within program us) h)

pub stopped : (front ts : IntegerTerms) → are_within program ts ≡ false → checked front ts ≡ Err Overflow
unfolding checked
stopped front ts h = ap (λ b. guard b (front ++ ts) Overflow) h

pub fitting : (ts : IntegerTerms) → are_within program ts ≡ true → checked [] ts ≡ Ok ts
unfolding checked
fitting ts h = ap (λ b. guard b ts Overflow) h

pub checked_stops : (front : IntegerTerms) (t : Monomial × ℤ) (ts : IntegerTerms) → (nat_abs t.1 < 2 ^ 127 → ⊥) → checked front (t ∷ ts) ≡ Err Overflow
checked_stops front t ts n = stopped-append front (t ∷ []) ts (ap (λ b. b && true) (number_stops t.1 n))

-- what checked says of the test
pub checked_ok : (front ts out : IntegerTerms) → checked front ts ≡ Ok out → (are_within program ts ≡ true) × (out ≡ front ++ ts)
unfolding checked
checked_ok front ts out e = by (are_within program ts) refl e
  where
    by : (b : Bool) → are_within program ts ≡ b → guard b (front ++ ts) Overflow ≡ Ok out → (are_within program ts ≡ true) × (out ≡ front ++ ts)
    by true h k = (h, cc)
    by false h k = absurd (cc)

pub checked_err : (front ts : IntegerTerms) (e : Cause) → checked front ts ≡ Err e → (are_within program ts ≡ false) × (e ≡ Overflow)
unfolding checked
checked_err front ts e k = by (are_within program ts) refl k
  where
    by : (b : Bool) → are_within program ts ≡ b → guard b (front ++ ts) Overflow ≡ Err e → (are_within program ts ≡ false) × (e ≡ Overflow)
    by true h k = absurd (cc)
    by false h k = (h, cc)

-- the terms of a first call, and then those of the next
pub checked_on : (front ts us out : IntegerTerms) → checked front ts ≡ Ok out → checked front (ts ++ us) ≡ checked out us
checked_on front ts us out e = let r = checked_ok front ts out e in checked-append front ts us r.0 ∙ ap (λ vs. checked vs us) (sym r.1)

pub checked_off : (front ts us : IntegerTerms) (e : Cause) → checked front ts ≡ Err e → checked front (ts ++ us) ≡ Err e
checked_off front ts us e k = let r = checked_err front ts e k in stopped-append front ts us r.0 ∙ ap Err (sym r.1)

-- ---- one turn of a loop that walks a list; of the item x at i: next, where what it makes is in range; stops, where it isn't; end, past the last

module _ {A : Type 0} (f : A → Monomial × ℤ) where
  in_range_ok : (t u : Monomial × ℤ) → in_range t ≡ Ok u → (nat_le (nat_abs t.1) 170141183460469231731687303715884105727 ≡ true) × (u ≡ t)
  in_range_ok t u e = by (nat_le (nat_abs t.1) 170141183460469231731687303715884105727) refl e
    where
      by : (b : Bool) → nat_le (nat_abs t.1) 170141183460469231731687303715884105727 ≡ b → guard b t Overflow ≡ Ok u → (nat_le (nat_abs t.1) 170141183460469231731687303715884105727 ≡ true) × (u ≡ t)
      by true h k = (h, cc)
      by false h k = absurd (cc)

  in_range_err : (t : Monomial × ℤ) (e : Cause) → in_range t ≡ Err e → (nat_le (nat_abs t.1) 170141183460469231731687303715884105727 ≡ false) × (e ≡ Overflow)
  in_range_err t e k = by (nat_le (nat_abs t.1) 170141183460469231731687303715884105727) refl k
    where
      by : (b : Bool) → nat_le (nat_abs t.1) 170141183460469231731687303715884105727 ≡ b → guard b t Overflow ≡ Err e → (nat_le (nat_abs t.1) 170141183460469231731687303715884105727 ≡ false) × (e ≡ Overflow)
      by true h k = absurd (cc)
      by false h k = (h, cc)

  pub mapped_next : (front : IntegerTerms) (xs : List A) (i : ℕ) (x : A) (y : Monomial × ℤ) → i < length xs → x ≡ get_or xs i x → in_range (f x) ≡ Ok y → checked front (map f (drop i xs)) ≡ checked (front ++ y ∷ []) (map f (drop (i + 1) xs))
  mapped_next front xs i x y h e k =
      let r = in_range_ok (f x) y k in
      ap (λ zs. checked front (map f zs)) (drop_item xs i x h e)
      ∙ checked-append front (f x ∷ []) (map f (drop (i + 1) xs)) (ap (λ b. b && true) r.0)
      ∙ ap (λ t. checked (front ++ t ∷ []) (map f (drop (i + 1) xs))) (sym r.1)

  pub mapped_stops : (front : IntegerTerms) (xs : List A) (i : ℕ) (x : A) (c : Cause) → i < length xs → x ≡ get_or xs i x → in_range (f x) ≡ Err c → checked front (map f (drop i xs)) ≡ Err c
  mapped_stops front xs i x c h e k =
      let r = in_range_err (f x) c k in
      ap (λ zs. checked front (map f zs)) (drop_item xs i x h e)
      ∙ stopped-append front (f x ∷ []) (map f (drop (i + 1) xs)) (ap (λ b. b && true) r.0)
      ∙ ap Err (sym r.1)

  pub mapped_end : (front : IntegerTerms) (xs : List A) (i : ℕ) → length xs ≤ i → checked front (map f (drop i xs)) ≡ Ok front
  mapped_end front xs i h = ap (λ zs. checked front (map f zs)) (drop_of_length-le xs h) ∙ checked_none front

module _ {A : Type 0} (f : A → IntegerTerms) where
  pub flat_next : (front : IntegerTerms) (x : A) (xs : List A) (out : IntegerTerms) → checked front (f x) ≡ Ok out → checked front (flat_map f (x ∷ xs)) ≡ checked out (flat_map f xs)
  flat_next front x xs out k = checked_on front (f x) (flat_map f xs) out k

  pub flat_stops : (front : IntegerTerms) (x : A) (xs : List A) (c : Cause) → checked front (f x) ≡ Err c → checked front (flat_map f (x ∷ xs)) ≡ Err c
  flat_stops front x xs c k = checked_off front (f x) (flat_map f xs) c k
