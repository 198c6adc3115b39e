-- The laws of monomials and of their orders.
--     same_exponents       monomials with the same exponents are the same
--     exponent-.., with-.., raise-..      exponents, each law named for its left side
--     degree-..            the degree of a product, and of a raised monomial
--     by_first             induction on monomials by their first variable: the unit, and one more of a variable before all others
--     by_exponent          induction on one exponent
--     IsBelow x m          m has no variable before x
--     order_total, order_apart    both orders are total and tell monomials apart
--     own_key, same_key    a monomial passes the test for itself, and no other does
--     order_sum            the orders are kept by products
--     product-..           the laws of products
--     degree-power, sum-power, power_is   a power of one variable, also as a list of exponents
--     exponent-degree      no exponent is past the degree
use Rattle.std.proofs.Common.{◌≡◌, ◌≢◌, ◌⊎◌, inl, inr, ⊎_elim, ℕ, zero, suc, pred, ◌+◌, ◌-◌, ◌<◌, ◌≤◌, max, List, [], ◌∷◌, length, get_or, replicate, reverse, refl, sym, ap, ◌∙◌, subst, true≢false, arith, set, true}
use Rattle.std.proofs.lemmas.List.{get_or-set_same, get_or-set_other, set-set, set_comm, set-get_or, ext_get_or, get_or-replicate, get_or_past, reverse-reverse, length-reverse, length-set}
use Rattle.std.proofs.lemmas.List.Sums.{sum_by-set, sum_by-cons, get_or-le-sum_by}
use Rattle.std.proofs.lemmas.Cmp.{nat_cmp_total, nat_list_cmp_total, on_total, then_total, back_total}
use Rattle.std.specs.List.{sum, AllZip}
use Rattle.std.specs.declared.cmp.Ordering.{Ordering}
use Rattle.std.specs.declared.cmp.Ordering.TheVariants.{Less, Equal, Greater}
use Rattle.std.specs.Ordering.{nat_cmp, ordering_then, is_eq, eq_by_cmp}
use Rattle.std.specs.Cmp.{IsTotalOrder, tied_itself, Equal-is}
use Rattle.std.specs.Cmp.Lexicographic.{slice_cmp}
use Rattle.std.specs.FinMap.{IsAntisymmetric, slice_cmp-IsAntisymmetric, nat_cmp-IsAntisymmetric}
use mathlib.Core.List.{reverse_aux}
use Rattle.std.proofs.lemmas.Bool.Decides.{nat_tests}
use native.Mathlib.Decide.{dec_lt, ℕ_discrete}
use Rattle.ore_monomial.specs.Monomial.{Monomial, exponent, degree, unit, with_exponent, raise, zip_with, by_exponents, product, lcm, quotient, monomial_of, plain_cmp, order_cmp}
pub use Rattle.ore_monomial.specs.MonomialCode.{same_list, twelve_numbers, seen_again, plain_cmp_total}
use Rattle.ore_monomial.specs.declared.order.Order.{Order}
use Rattle.ore_monomial.specs.declared.order.Order.TheVariants.{DegLex, DegRevLex}

-- ---- exponents

pub exponent-same : (x e : ℕ) (m : Monomial) → x < 12 → exponent (with_exponent x e m) x ≡ e
unfolding exponent with_exponent
exponent-same x e m h = get_or-set_same m.exponents x e 0 (subst (λ n. x < n) (sym m.twelve) h)

pub exponent-other : (x y e : ℕ) (m : Monomial) → y ≢ x → exponent (with_exponent x e m) y ≡ exponent m y
unfolding exponent with_exponent
exponent-other x y e m h = get_or-set_other m.exponents x y e 0 h

pub with-with : (x e f : ℕ) (m : Monomial) → with_exponent x e (with_exponent x f m) ≡ with_exponent x e m
unfolding with_exponent
with-with x e f m = same_list _ _ (set-set m.exponents x f e)

pub with_comm : (x y e f : ℕ) (m : Monomial) → x ≢ y → with_exponent y f (with_exponent x e m) ≡ with_exponent x e (with_exponent y f m)
unfolding with_exponent
with_comm x y e f m h = same_list _ _ (set_comm m.exponents x y e f h)

pub with_own : (x : ℕ) (m : Monomial) → with_exponent x (exponent m x) m ≡ m
unfolding with_exponent exponent
with_own x m = same_list _ _ (set-get_or m.exponents x 0)

pub exponent-unit : (x : ℕ) → exponent unit x ≡ 0
unfolding exponent unit
exponent-unit x = ⊎_elim (λ h. get_or-replicate 12 x 0 0 h) (λ h. get_or_past (replicate 12 0) x 0 h) (cases x)
  where
    cases : (x : ℕ) → (x < 12) ⊎ (12 ≤ x)
    cases x = grind arith

pub exponent_past : (x : ℕ) (m : Monomial) → 12 ≤ x → exponent m x ≡ 0
unfolding exponent
exponent_past x m h = get_or_past m.exponents x 0 (subst (λ n. n ≤ x) (sym m.twelve) h)

pub same_exponents : (m n : Monomial) → ((x : ℕ) → x < 12 → exponent m x ≡ exponent n x) → m ≡ n
unfolding exponent
same_exponents m n e = same_list m n (ext_get_or 0 m.exponents n.exponents (m.twelve ∙ sym n.twelve) (λ x h. e x (subst (λ k. x < k) m.twelve h)))

pub seen_exponent : (es : List ℕ) (k : ℕ) → length es ≡ 12 → exponent (monomial_of es) k ≡ get_or es k 0
unfolding exponent
seen_exponent es k h = ap (λ fs. get_or fs k 0) (twelve_numbers es h)

-- ---- the first variable of a monomial

abbrev pub IsBelow : ℕ → Monomial → Type 0
IsBelow x m = (y : ℕ) → y < x → exponent m y ≡ 0

abbrev First : List ℕ → Type 0
First es = (x : ℕ) × (x < length es) × (get_or es x 0 ≢ 0) × ((y : ℕ) → y < x → get_or es y 0 ≡ 0)

first : (es : List ℕ) → ((y : ℕ) → get_or es y 0 ≡ 0) ⊎ First es
first [] = inl (λ y. refl)
first (zero ∷ es) = ⊎_elim (λ all. inl (elim [ zero ↦ refl | suc y ↦ all y ])) (λ f. inr (suc f.0, omega arith, f.2, elim [ zero ↦ λ h. refl | suc y ↦ λ h. f.3 y (omega arith) ])) (first es)
first (suc a ∷ es) = inr (0, omega arith, omega arith, λ y h. absurd (omega arith))

degree-with : (x e : ℕ) (m : Monomial) → x < 12 → degree (with_exponent x e m) + exponent m x ≡ degree m + e
unfolding degree with_exponent exponent
degree-with x e m h = sum_by-set (λ a. a) m.exponents x e 0 (subst (λ n. x < n) (sym m.twelve) h)

pub degree-raise : (x : ℕ) (m : Monomial) → x < 12 → degree (raise x m) ≡ suc (degree m)
degree-raise x m h = let d = degree-with x (suc (exponent m x)) m h in omega arith

none_used : (m : Monomial) → ((y : ℕ) → get_or m.exponents y 0 ≡ 0) → m ≡ unit
unfolding exponent
none_used m all = same_exponents m unit (λ x h. all x ∙ sym (exponent-unit x))

module _ (m : Monomial) (f : First m.exponents) where
  in_range : f.0 < 12
  in_range = subst (λ n. f.0 < n) m.twelve f.1

  used : exponent m f.0 ≢ 0
  unfolding exponent
  used = f.2

  blank : (y : ℕ) → y < f.0 → exponent m y ≡ 0
  unfolding exponent
  blank = f.3

  unused : degree m ≤ 0 → ⊥
  unfolding exponent degree
  unused h = let l = get_or-le-sum_by (λ a. a) m.exponents f.0 0 f.1 in let u = f.2 in omega arith

-- induction on monomials, by their first variable
pub by_first {ℓ} : (P : Monomial → Type ℓ) → P unit → ((x : ℕ) → x < 12 → (m : Monomial) → IsBelow x m → P m → P (raise x m)) → (m : Monomial) → P m
by_first P empty more m = go (degree m) m (omega arith)
  where
    smaller : (x : ℕ) (m : Monomial) (n : ℕ) → x < 12 → exponent m x ≢ 0 → degree m ≤ suc n → degree (with_exponent x (pred (exponent m x)) m) ≤ n
    smaller x m n h ne d = let e = degree-with x (pred (exponent m x)) m h in omega arith

    back : (x : ℕ) (m : Monomial) → x < 12 → exponent m x ≢ 0 → raise x (with_exponent x (pred (exponent m x)) m) ≡ m
    back x m h ne =
        let e : suc (exponent (with_exponent x (pred (exponent m x)) m) x) ≡ exponent m x = ap suc (exponent-same x (pred (exponent m x)) m h) ∙ omega arith in
        ap (λ k. with_exponent x k (with_exponent x (pred (exponent m x)) m)) e ∙ with-with x (exponent m x) _ m ∙ with_own x m

    go : (n : ℕ) (m : Monomial) → degree m ≤ n → P m
    go zero m h = ⊎_elim (λ all. subst P (sym (none_used m all)) empty) (λ f. absurd (unused m f h)) (first m.exponents)
    go (suc n) m h = ⊎_elim (λ all. subst P (sym (none_used m all)) empty)
        (λ f. let x = f.0 in let xl = in_range m f in let m' = with_exponent x (pred (exponent m x)) m in
        subst P (back x m xl (used m f)) (more x xl m' (λ y l. exponent-other x y _ m (omega arith) ∙ blank m f y l) (go n m' (smaller x m n xl (used m f) h)))) (first m.exponents)

-- ---- the orders are total, and told apart

pub plain_cmp_apart : IsAntisymmetric plain_cmp
unfolding plain_cmp
plain_cmp_apart m n e = same_list m n (slice_cmp-IsAntisymmetric nat_cmp-IsAntisymmetric m.exponents n.exponents e)

pub own_key : (m : Monomial) → eq_by_cmp plain_cmp m m ≡ true
own_key m = ap is_eq (tied_itself plain_cmp_total m)

pub same_key : (m n : Monomial) → eq_by_cmp plain_cmp m n ≡ true → m ≡ n
same_key m n e = plain_cmp_apart m n ((Equal-is _).0 e)

pub order_total : (o : Order) → IsTotalOrder (order_cmp o)
order_total DegLex = then_total (on_total degree nat_cmp_total) plain_cmp_total
order_total DegRevLex = then_total (on_total degree nat_cmp_total) (back_total (on_total (λ m. reverse m.exponents) nat_list_cmp_total))

second_equal : (a b : Ordering) → ordering_then a b ≡ Equal → b ≡ Equal
second_equal Less b e = absurd (true≢false (ap is_eq (sym e)))
second_equal Equal b e = e
second_equal Greater b e = absurd (true≢false (ap is_eq (sym e)))

pub order_apart : (o : Order) → IsAntisymmetric (order_cmp o)
order_apart DegLex m n e = plain_cmp_apart m n (second_equal _ _ e)
order_apart DegRevLex m n e = same_list m n (sym (reverse-reverse m.exponents) ∙ ap reverse (sym (slice_cmp-IsAntisymmetric nat_cmp-IsAntisymmetric (reverse n.exponents) (reverse m.exponents) (second_equal _ _ e))) ∙ reverse-reverse n.exponents)

-- ---- and kept by sums of exponents

nat_cmp_sum : (a b c : ℕ) → nat_cmp (a + c) (b + c) ≡ nat_cmp a b
nat_cmp_sum a b c = grind (arith, nat_tests)

slice_cmp-added : (es fs gs : List ℕ) → length es ≡ length gs → length fs ≡ length gs → slice_cmp nat_cmp (zip_with ◌+◌ es gs) (zip_with ◌+◌ fs gs) ≡ slice_cmp nat_cmp es fs
unfolding zip_with
slice_cmp-added [] [] gs e f = refl
slice_cmp-added [] (b ∷ fs) gs e f = absurd (omega arith)
slice_cmp-added (a ∷ es) [] gs e f = absurd (omega arith)
slice_cmp-added (a ∷ es) (b ∷ fs) [] e f = absurd (omega arith)
slice_cmp-added (a ∷ es) (b ∷ fs) (c ∷ gs) e f = λ i. ordering_then (nat_cmp_sum a b c i) (slice_cmp-added es fs gs (ap pred e) (ap pred f) i)

pub sum-added : (es fs : List ℕ) → length es ≡ length fs → sum (zip_with ◌+◌ es fs) ≡ sum es + sum fs
unfolding zip_with
sum-added [] [] e = refl
sum-added [] (b ∷ fs) e = absurd (omega arith)
sum-added (a ∷ es) [] e = absurd (omega arith)
sum-added (a ∷ es) (b ∷ fs) e =
    let ih = sum-added es fs (ap pred e) in
    let p = sum_by-cons (λ x. x) (a + b) (zip_with ◌+◌ es fs) in let q = sum_by-cons (λ x. x) a es in let r = sum_by-cons (λ x. x) b fs in
    p ∙ ap (λ n. (a + b) + n) ih ∙ omega arith

-- where no number is greater, the sum of the differences is the difference of the sums
pub sum-less : (es fs : List ℕ) → AllZip (λ b a. b ≤ a) fs es → sum (zip_with ◌-◌ es fs) + sum fs ≡ sum es
unfolding zip_with
sum-less [] [] h = refl
sum-less [] (b ∷ fs) h = absurd h
sum-less (a ∷ es) [] h = absurd h
sum-less (a ∷ es) (b ∷ fs) h =
    let ih = sum-less es fs h.1 in let k = h.0 in
    let p = sum_by-cons (λ x. x) (a - b) (zip_with ◌-◌ es fs) in let q = sum_by-cons (λ x. x) a es in let r = sum_by-cons (λ x. x) b fs in
    omega arith

reverse_aux-added : (es fs gs hs : List ℕ) → length es ≡ length fs → reverse_aux (zip_with ◌+◌ es fs) (zip_with ◌+◌ gs hs) ≡ zip_with ◌+◌ (reverse_aux es gs) (reverse_aux fs hs)
unfolding zip_with
reverse_aux-added [] [] gs hs e = refl
reverse_aux-added [] (b ∷ fs) gs hs e = absurd (omega arith)
reverse_aux-added (a ∷ es) [] gs hs e = absurd (omega arith)
reverse_aux-added (a ∷ es) (b ∷ fs) gs hs e = reverse_aux-added es fs (a ∷ gs) (b ∷ hs) (ap pred e)

pub degree-product : (m n : Monomial) → degree (product m n) ≡ degree m + degree n
unfolding degree product by_exponents
degree-product m n = sum-added m.exponents n.exponents (m.twelve ∙ sym n.twelve)

get_or-zip_with : (f : ℕ → ℕ → ℕ) → f 0 0 ≡ 0 → (es fs : List ℕ) (x : ℕ) → length es ≡ length fs → get_or (zip_with f es fs) x 0 ≡ f (get_or es x 0) (get_or fs x 0)
unfolding zip_with
get_or-zip_with f z [] [] x e = sym z
get_or-zip_with f z [] (b ∷ fs) x e = absurd (omega arith)
get_or-zip_with f z (a ∷ es) [] x e = absurd (omega arith)
get_or-zip_with f z (a ∷ es) (b ∷ fs) zero e = refl
get_or-zip_with f z (a ∷ es) (b ∷ fs) (suc x) e = get_or-zip_with f z es fs x (ap pred e)

exponent-by_exponents : (f : ℕ → ℕ → ℕ) → f 0 0 ≡ 0 → (m n : Monomial) (x : ℕ) → exponent (by_exponents f m n) x ≡ f (exponent m x) (exponent n x)
unfolding exponent by_exponents
exponent-by_exponents f z m n x = get_or-zip_with f z m.exponents n.exponents x (m.twelve ∙ sym n.twelve)

pub exponent-product : (m n : Monomial) (x : ℕ) → exponent (product m n) x ≡ exponent m x + exponent n x
unfolding product
exponent-product m n x = exponent-by_exponents ◌+◌ refl m n x

pub exponent-lcm : (m n : Monomial) (x : ℕ) → exponent (lcm m n) x ≡ max (exponent m x) (exponent n x)
unfolding lcm
exponent-lcm m n x = exponent-by_exponents max refl m n x

pub exponent-quotient : (m n : Monomial) (x : ℕ) → exponent (quotient m n) x ≡ exponent m x - exponent n x
unfolding quotient
exponent-quotient m n x = exponent-by_exponents ◌-◌ refl m n x

pub order_sum : (o : Order) (m n p : Monomial) → order_cmp o (product m p) (product n p) ≡ order_cmp o m n
unfolding product by_exponents zip_with plain_cmp
order_sum DegLex m n p = (λ i. ordering_then (nat_cmp (degree-product m p i) (degree-product n p i)) (slice_cmp-added m.exponents n.exponents p.exponents (m.twelve ∙ sym p.twelve) (n.twelve ∙ sym p.twelve) i)) ∙ ap (λ r. ordering_then r (plain_cmp m n)) (nat_cmp_sum (degree m) (degree n) (degree p))
order_sum DegRevLex m n p =
    let turned = λ (q : Monomial). reverse_aux-added q.exponents p.exponents [] [] (q.twelve ∙ sym p.twelve) in
    let long = λ (q : Monomial). length-reverse q.exponents ∙ q.twelve ∙ sym p.twelve ∙ sym (length-reverse p.exponents) in
    (λ i. ordering_then (nat_cmp (degree-product m p i) (degree-product n p i)) (slice_cmp nat_cmp (turned n i) (turned m i)))
    ∙ (λ i. ordering_then (nat_cmp_sum (degree m) (degree n) (degree p) i) (slice_cmp-added (reverse n.exponents) (reverse m.exponents) (reverse p.exponents) (long n) (long m) i))

-- ---- one more at a variable

pub exponent-raise : (x : ℕ) (m : Monomial) → x < 12 → exponent (raise x m) x ≡ suc (exponent m x)
exponent-raise x m h = exponent-same x _ m h

pub exponent-raise_other : (x y : ℕ) (m : Monomial) → y ≢ x → exponent (raise x m) y ≡ exponent m y
exponent-raise_other x y m h = exponent-other x y _ m h

pub with-raise : (x e : ℕ) (m : Monomial) → with_exponent x e (raise x m) ≡ with_exponent x e m
with-raise x e m = with-with x e _ m

pub raise-with : (x e : ℕ) (m : Monomial) → x < 12 → raise x (with_exponent x e m) ≡ with_exponent x (suc e) m
raise-with x e m h = ap (λ k. with_exponent x (suc k) (with_exponent x e m)) (exponent-same x e m h) ∙ with-with x (suc e) e m

pub raise-with_other : (x y e : ℕ) (m : Monomial) → x ≢ y → raise y (with_exponent x e m) ≡ with_exponent x e (raise y m)
raise-with_other x y e m h = ap (λ k. with_exponent y (suc k) (with_exponent x e m)) (exponent-other x y e m (λ p. h (sym p))) ∙ with_comm x y e _ m h

pub raise_comm : (x y : ℕ) (m : Monomial) → raise x (raise y m) ≡ raise y (raise x m)
raise_comm x y m = by (ℕ_discrete x y)
  where
    by : Dec (x ≡ y) → raise x (raise y m) ≡ raise y (raise x m)
    by (yes e) = λ i. raise (e i) (raise (sym e i) m)
    by (no n) = sym (raise-with_other x y (suc (exponent m x)) m n ∙ ap (λ k. with_exponent x (suc k) (raise y m)) (sym (exponent-raise_other y x m n)))

-- induction on one exponent
pub by_exponent {ℓ} : (x : ℕ) → x < 12 → (P : Monomial → Type ℓ) → ((m : Monomial) → exponent m x ≡ 0 → P m) → ((m : Monomial) → P m → P (raise x m)) → (m : Monomial) → P m
by_exponent x h P empty more m = go (exponent m x) m refl
  where
    go : (n : ℕ) (m : Monomial) → exponent m x ≡ n → P m
    go zero m e = empty m e
    go (suc n) m e = subst P (raise-with x n m h ∙ ap (λ k. with_exponent x k m) (sym e) ∙ with_own x m) (more (with_exponent x n m) (go n (with_exponent x n m) (exponent-same x n m h)))

-- ---- sums of exponents

pub product-unit : (n : Monomial) → product unit n ≡ n
product-unit n = same_exponents _ _ (λ x h. exponent-product unit n x ∙ (let e = exponent-unit x in omega arith))

pub product_comm : (m n : Monomial) → product m n ≡ product n m
product_comm m n = same_exponents _ _ (λ x h. let p = exponent-product m n x in let q = exponent-product n m x in omega arith)

pub product-cancel : (m n p : Monomial) → product m n ≡ product m p → n ≡ p
product-cancel m n p e = same_exponents _ _ (λ x h. let a = exponent-product m n x in let b = exponent-product m p x in let c : exponent (product m n) x ≡ exponent (product m p) x = ap (λ q. exponent q x) e in omega arith)

pub product-raise : (x : ℕ) (m n : Monomial) → x < 12 → product (raise x m) n ≡ raise x (product m n)
product-raise x m n h = same_exponents _ _ (λ y l. by y (ℕ_discrete y x))
  where
    by : (y : ℕ) → Dec (y ≡ x) → exponent (product (raise x m) n) y ≡ exponent (raise x (product m n)) y
    by y (yes e) = subst (λ y. exponent (product (raise x m) n) y ≡ exponent (raise x (product m n)) y) (sym e) (let a = exponent-product (raise x m) n x in let b = exponent-raise x m h in let c = exponent-raise x (product m n) h in let d = exponent-product m n x in omega arith)
    by y (no n') = let a = exponent-product (raise x m) n y in let b = exponent-raise_other x y m n' in let c = exponent-raise_other x y (product m n) n' in let d = exponent-product m n y in omega arith

-- ---- powers of one variable

degree_unit : degree unit ≡ 0
unfolding degree unit
degree_unit = refl

pub degree-power : (x e : ℕ) → x < 12 → degree (with_exponent x e unit) ≡ e
degree-power x zero h = ap (λ n. degree (with_exponent x n unit)) (sym (exponent-unit x)) ∙ ap degree (with_own x unit) ∙ degree_unit
degree-power x (suc e) h = ap degree (sym (raise-with x e unit h)) ∙ degree-raise x (with_exponent x e unit) h ∙ ap suc (degree-power x e h)

pub sum-power : (x e : ℕ) → x < 12 → sum (set (replicate 12 0) x e) ≡ e
unfolding degree with_exponent unit
sum-power x e h = degree-power x e h

pub power_is : (x e : ℕ) → monomial_of (set (replicate 12 0) x e) ≡ with_exponent x e unit
unfolding with_exponent unit
power_is x e = same_list _ (with_exponent x e unit) (twelve_numbers (set (replicate 12 0) x e) (length-set (replicate 12 0) x e))

pub exponent-degree : (m : Monomial) (x : ℕ) → exponent m x ≤ degree m
unfolding exponent degree
exponent-degree m x = by (dec_lt x 12)
  where
    by : Dec (x < 12) → get_or m.exponents x 0 ≤ sum m.exponents
    by (yes h) = get_or-le-sum_by (λ e. e) m.exponents x 0 (subst (λ n. x < n) (sym m.twelve) h)
    by (no n) = let z : get_or m.exponents x 0 ≡ 0 = exponent_past x m (omega arith) in omega arith
