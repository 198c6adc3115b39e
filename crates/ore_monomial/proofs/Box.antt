-- The monomials whose exponents are at most n, in the first variables.
--     box v n              their list, for the first v variables
--     box_has, box_past, box_small    which they are
--     apart-box, length-box           each stands there once, and they are (n + 1)^v
--     natural_power a k    a^k
--     room                 ((2 v + 1) d + 1 + d)^v is less than twice ((2 v + 1) d + 1)^v
--     In-.., apart-..      members of lists, and lists without a member that stands twice
use Rattle.std.proofs.Common.{◌≡◌, ◌⊎◌, inl, inr, ⊎_elim, ℕ, zero, suc, ◌+◌, ◌-◌, ◌*◌, ◌<◌, ◌≤◌, List, [], ◌∷◌, ◌++◌, length, map, refl, sym, ap, ◌∙◌, subst, arith}
use Rattle.std.specs.List.{flat_map}
use Rattle.std.proofs.lemmas.List.{length-append, length-map}
use Rattle.ore_monomial.specs.Monomial.{Monomial, exponent, with_exponent, unit}
use Rattle.ore_monomial.specs.Passing.{numbers_to}
use Rattle.ore_monomial.proofs.Monomials.{exponent-same, exponent-other, exponent-unit, with-with, with_own, same_exponents}
use native.Mathlib.Decide.{dec_lt, ℕ_discrete}
use Rattle.ore_algebra.proofs.Solve.{In, AreDistinct}

pub natural_power : ℕ → ℕ → ℕ
natural_power a zero = 1
natural_power a (suc k) = a * natural_power a k

times_mono : (n x y : ℕ) → x ≤ y → n * x ≤ n * y
times_mono n x y h = grind arith

step_bound : (a d u c F G : ℕ) → c ≤ u → u * d ≤ a → F * suc c ≤ u * G → (a + d) * F * c ≤ u * (a * G)
step_bound a d u c F G h l e =
    let p : d * c ≤ d * u = times_mono d c u h in
    let q : F * (d * c) ≤ F * a = times_mono F (d * c) a (omega arith) in
    let r : a * (F * suc c) ≤ a * (u * G) = times_mono a (F * suc c) (u * G) e in
    omega arith

-- (a + d)^k (u - k) is at most u a^k where u d is at most a
bernoulli : (a d u k : ℕ) → k ≤ u → u * d ≤ a → natural_power (a + d) k * (u - k) ≤ u * natural_power a k
unfolding natural_power
bernoulli a d u zero h l = omega arith
bernoulli a d u (suc k) h l =
    let ih = bernoulli a d u k (omega arith) l in
    let e : u - k ≡ suc (u - suc k) = omega arith in
    step_bound a d u (u - suc k) (natural_power (a + d) k) (natural_power a k) (omega arith) l (subst (λ n. natural_power (a + d) k * n ≤ u * natural_power a k) e ih)

raised_pos : (a k : ℕ) → 0 < a → 0 < natural_power a k
unfolding natural_power
raised_pos a zero h = omega arith
raised_pos a (suc k) h = let p = times_mono a 1 (natural_power a k) (raised_pos a k h) in omega arith

below_twice : (v X Y : ℕ) → X * (v + 1) ≤ (v + v + 1) * Y → 0 < Y → X < Y + Y
below_twice v X Y h p = by (dec_lt X (Y + Y))
  where
    by : Dec (X < Y + Y) → X < Y + Y
    by (yes l) = l
    by (no n) = let q = times_mono (v + 1) (Y + Y) X (omega arith) in absurd (omega arith)

pub room : (d v : ℕ) → natural_power (((v + v + 1) * d + 1) + d) v < natural_power ((v + v + 1) * d + 1) v + natural_power ((v + v + 1) * d + 1) v
room d v =
    let a = (v + v + 1) * d + 1 in
    let b = bernoulli a d (v + v + 1) v (omega arith) (omega arith) in
    let e : v + v + 1 - v ≡ v + 1 = omega arith in
    below_twice v (natural_power (a + d) v) (natural_power a v) (subst (λ n. natural_power (a + d) v * n ≤ (v + v + 1) * natural_power a v) e b) (raised_pos a v (omega arith))

-- ---- members of lists

module _ {A : Type 0} where
  pub In-append_left : (z : A) (xs ys : List A) → In z xs → In z (xs ++ ys)
  In-append_left z [] ys h = absurd h
  In-append_left z (x ∷ xs) ys h = ⊎_elim inl (λ k. inr (In-append_left z xs ys k)) h

  pub In-append_right : (z : A) (xs ys : List A) → In z ys → In z (xs ++ ys)
  In-append_right z [] ys h = h
  In-append_right z (x ∷ xs) ys h = inr (In-append_right z xs ys h)

  pub In-split : (z : A) (xs ys : List A) → In z (xs ++ ys) → In z xs ⊎ In z ys
  In-split z [] ys h = inr h
  In-split z (x ∷ xs) ys h = ⊎_elim (λ e. inl (inl e)) (λ k. ⊎_elim (λ l. inl (inr l)) inr (In-split z xs ys k)) h

  pub apart-append : (xs ys : List A) → AreDistinct xs → AreDistinct ys → ((z : A) → In z xs → In z ys → ⊥) → AreDistinct (xs ++ ys)
  apart-append [] ys a b d = b
  apart-append (x ∷ xs) ys a b d = (λ h. ⊎_elim a.0 (d x (inl refl)) (In-split x xs ys h), apart-append xs ys a.1 b (λ z h. d z (inr h)))

module _ {A B : Type 0} (f : A → B) where
  pub In-map : (x : A) (xs : List A) → In x xs → In (f x) (map f xs)
  In-map x [] h = absurd h
  In-map x (y ∷ xs) h = ⊎_elim (λ e. inl (ap f e)) (λ k. inr (In-map x xs k)) h

  pub In-unmap : (z : B) (xs : List A) → In z (map f xs) → (x : A) × In x xs × (z ≡ f x)
  In-unmap z [] h = absurd h
  In-unmap z (y ∷ xs) h = ⊎_elim (λ e. (y, inl refl, e)) (λ k. let r = In-unmap z xs k in (r.0, inr r.1, r.2)) h

  pub apart-map : (xs : List A) → AreDistinct xs → ((x y : A) → In x xs → In y xs → f x ≡ f y → x ≡ y) → AreDistinct (map f xs)
  apart-map [] a e = tt
  apart-map (x ∷ xs) a e = (λ h. let r = In-unmap (f x) xs h in a.0 (subst (λ z. In z xs) (sym (e x r.0 (inl refl) (inr r.1) r.2)) r.1), apart-map xs a.1 (λ y z h k. e y z (inr h) (inr k)))

module _ {A B : Type 0} (f : A → List B) where
  pub In-flat_map : (x : A) (z : B) (xs : List A) → In x xs → In z (f x) → In z (flat_map f xs)
  In-flat_map x z [] h k = absurd h
  In-flat_map x z (y ∷ xs) h k = ⊎_elim (λ e. In-append_left z (f y) (flat_map f xs) (subst (λ w. In z (f w)) e k)) (λ l. In-append_right z (f y) (flat_map f xs) (In-flat_map x z xs l k)) h

  pub In-unflat : (z : B) (xs : List A) → In z (flat_map f xs) → (x : A) × In x xs × In z (f x)
  In-unflat z [] h = absurd h
  In-unflat z (y ∷ xs) h = ⊎_elim (λ k. (y, inl refl, k)) (λ k. let r = In-unflat z xs k in (r.0, inr r.1, r.2)) (In-split z (f y) (flat_map f xs) h)

  pub apart-flat_map : (xs : List A) → AreDistinct xs → ((x : A) → In x xs → AreDistinct (f x)) → ((x y : A) (z : B) → In x xs → In y xs → In z (f x) → In z (f y) → x ≡ y) → AreDistinct (flat_map f xs)
  apart-flat_map [] a each e = tt
  apart-flat_map (x ∷ xs) a each e = apart-append (f x) (flat_map f xs) (each x (inl refl)) (apart-flat_map xs a.1 (λ y h. each y (inr h)) (λ y z w h k. e y z w (inr h) (inr k)))
      (λ z h k. let r = In-unflat z xs k in a.0 (subst (λ w. In w xs) (sym (e x r.0 z (inl refl) (inr r.1) h r.2)) r.1))

  length-flat : (c : ℕ) (xs : List A) → ((x : A) → length (f x) ≡ c) → length (flat_map f xs) ≡ length xs * c
  length-flat c [] e = omega arith
  length-flat c (x ∷ xs) e = let p = length-append (f x) (flat_map f xs) in let q = e x in let r = length-flat c xs e in omega arith

-- ---- numbers up to n

length-numbers_to : (n : ℕ) → length (numbers_to n) ≡ suc n
unfolding numbers_to
length-numbers_to zero = refl
length-numbers_to (suc n) = ap suc (length-map (numbers_to n) suc ∙ length-numbers_to n)

In-numbers_to : (n e : ℕ) → e ≤ n → In e (numbers_to n)
unfolding numbers_to
In-numbers_to zero e h = inl (omega arith)
In-numbers_to (suc n) zero h = inl refl
In-numbers_to (suc n) (suc e) h = inr (In-map suc e (numbers_to n) (In-numbers_to n e (omega arith)))

pub numbers_to_small : (n e : ℕ) → In e (numbers_to n) → e ≤ n
unfolding numbers_to
numbers_to_small zero e h = ⊎_elim (λ p. omega arith) (λ k. absurd k) h
numbers_to_small (suc n) e h = ⊎_elim (λ p. omega arith) (λ k. let r = In-unmap suc e (numbers_to n) k in let s = numbers_to_small n r.0 r.1 in let t = r.2 in omega arith) h

pub apart-numbers_to : (n : ℕ) → AreDistinct (numbers_to n)
unfolding numbers_to
apart-numbers_to zero = (λ h. h, tt)
apart-numbers_to (suc n) = (λ h. let r = In-unmap suc 0 (numbers_to n) h in let t = r.2 in absurd (omega arith), apart-map suc (numbers_to n) (apart-numbers_to n) (λ x y h k e. omega arith))

-- ---- the box

pub box : ℕ → ℕ → List Monomial
box zero n = unit ∷ []
box (suc v) n = flat_map (λ e. map (with_exponent v e) (box v n)) (numbers_to n)

pub length-box : (v n : ℕ) → length (box v n) ≡ natural_power (suc n) v
unfolding box natural_power
length-box zero n = refl
length-box (suc v) n = length-flat (λ e. map (with_exponent v e) (box v n)) (natural_power (suc n) v) (numbers_to n) (λ e. length-map (box v n) (with_exponent v e) ∙ length-box v n) ∙ ap (λ k. k * natural_power (suc n) v) (length-numbers_to n)

-- a member of the next box: an exponent and a member of this one
In-unbox : (v n : ℕ) (m : Monomial) → In m (box (suc v) n) → (e : ℕ) × (e ≤ n) × (p : Monomial) × In p (box v n) × (m ≡ with_exponent v e p)
unfolding box
In-unbox v n m h =
    let r = In-unflat (λ e. map (with_exponent v e) (box v n)) m (numbers_to n) h in
    let s = In-unmap (with_exponent v r.0) m (box v n) r.2 in
    (r.0, numbers_to_small n r.0 r.1, s.0, s.1, s.2)

pub box_past : (v n : ℕ) (m : Monomial) → In m (box v n) → (y : ℕ) → v ≤ y → exponent m y ≡ 0
unfolding box
box_past zero n m h y l = ⊎_elim (λ e. ap (λ p. exponent p y) e ∙ exponent-unit y) (λ k. absurd k) h
box_past (suc v) n m h y l = let r = In-unbox v n m h in ap (λ p. exponent p y) r.4 ∙ exponent-other v y r.0 r.2 (omega arith) ∙ box_past v n r.2 r.3 y (omega arith)

pub box_small : (v n : ℕ) → v ≤ 12 → (m : Monomial) → In m (box v n) → (y : ℕ) → exponent m y ≤ n
unfolding box
box_small zero n vl m h y = ⊎_elim (λ e. let p = ap (λ p. exponent p y) e ∙ exponent-unit y in omega arith) (λ k. absurd k) h
box_small (suc v) n vl m h y = by (ℕ_discrete y v) (In-unbox v n m h) (box_small v n (omega arith))
  where
    by : Dec (y ≡ v) → (e : ℕ) × (e ≤ n) × (p : Monomial) × In p (box v n) × (m ≡ with_exponent v e p) → ((m : Monomial) → In m (box v n) → (y : ℕ) → exponent m y ≤ n) → exponent m y ≤ n
    by (yes e) r ih = let p : exponent m y ≡ r.0 = ap (exponent m) e ∙ ap (λ q. exponent q v) r.4 ∙ exponent-same v r.0 r.2 (omega arith) in let l = r.1 in omega arith
    by (no k) r ih = let p : exponent m y ≡ exponent r.2 y = ap (λ q. exponent q y) r.4 ∙ exponent-other v y r.0 r.2 k in let l = ih r.2 r.3 y in omega arith

pub box_has : (v n : ℕ) → v ≤ 12 → (m : Monomial) → ((y : ℕ) → exponent m y ≤ n) → ((y : ℕ) → v ≤ y → exponent m y ≡ 0) → In m (box v n)
unfolding box
box_has zero n vl m small past = inl (same_exponents m unit (λ y h. past y (omega arith) ∙ sym (exponent-unit y)))
box_has (suc v) n vl m small past =
    subst (λ q. In q (flat_map (λ e. map (with_exponent v e) (box v n)) (numbers_to n))) (with-with v (exponent m v) 0 m ∙ with_own v m)
    (In-flat_map (λ e. map (with_exponent v e) (box v n)) (exponent m v) (with_exponent v (exponent m v) (with_exponent v 0 m)) (numbers_to n) (In-numbers_to n (exponent m v) (small v))
    (In-map (with_exponent v (exponent m v)) (with_exponent v 0 m) (box v n) (box_has v n (omega arith) (with_exponent v 0 m) (λ y. less y (ℕ_discrete y v)) (λ y l. gone y l (ℕ_discrete y v)))))
  where
    less : (y : ℕ) → Dec (y ≡ v) → exponent (with_exponent v 0 m) y ≤ n
    less y (yes e) = let p : exponent (with_exponent v 0 m) y ≡ 0 = ap (exponent (with_exponent v 0 m)) e ∙ exponent-same v 0 m (omega arith) in omega arith
    less y (no k) = let p = exponent-other v y 0 m k in let l = small y in omega arith

    gone : (y : ℕ) → v ≤ y → Dec (y ≡ v) → exponent (with_exponent v 0 m) y ≡ 0
    gone y l (yes e) = ap (exponent (with_exponent v 0 m)) e ∙ exponent-same v 0 m (omega arith)
    gone y l (no k) = exponent-other v y 0 m k ∙ past y (omega arith)

pub apart-box : (v n : ℕ) → v ≤ 12 → AreDistinct (box v n)
unfolding box
apart-box zero n vl = (λ h. h, tt)
apart-box (suc v) n vl =
    apart-flat_map (λ e. map (with_exponent v e) (box v n)) (numbers_to n) (apart-numbers_to n)
    (λ e h. apart-map (with_exponent v e) (box v n) (apart-box v n (omega arith)) (λ p q h k same. back p h e ∙ ap (with_exponent v 0) same ∙ sym (back q k e)))
    (λ e f z h k a b. let r = In-unmap (with_exponent v e) z (box v n) a in let s = In-unmap (with_exponent v f) z (box v n) b in
    sym (exponent-same v e r.0 (omega arith)) ∙ ap (λ q. exponent q v) (sym r.2 ∙ s.2) ∙ exponent-same v f s.0 (omega arith))
  where
    back : (p : Monomial) → In p (box v n) → (e : ℕ) → p ≡ with_exponent v 0 (with_exponent v e p)
    back p h e = sym (with-with v 0 e p ∙ ap (λ k. with_exponent v k p) (sym (box_past v n p h v (omega arith))) ∙ with_own v p)
