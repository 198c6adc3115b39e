-- Lists that are mapped and joined, and the numbers up to a number.
--     flat_same_in, flat_none    lists that are joined of equal parts, and of nothing
--     drop-numbers_to            the numbers from k on are k and those from k + 1 on
--     flat_map_cut               what is beyond a adds nothing
use Rattle.std.proofs.Common.{◌≡◌, inl, inr, ℕ, zero, suc, ◌+◌, ◌-◌, ◌<◌, ◌≤◌, min, List, [], ◌∷◌, ◌++◌, length, map, drop, refl, sym, ap, ◌∙◌, arith}
use Rattle.std.proofs.lemmas.List.{map-append}
use Rattle.std.specs.List.{flat_map}
use native.Mathlib.Decide.{dec_le}
use Rattle.ore_algebra.proofs.Solve.{In}
use Rattle.ore_monomial.specs.Passing.{numbers_to}

pub map_map : {A B C : Type 0} (g : B → C) (f : A → B) (xs : List A) → map g (map f xs) ≡ map (λ x. g (f x)) xs
map_map g f [] = refl
map_map g f (x ∷ xs) = ap (λ ys. g (f x) ∷ ys) (map_map g f xs)

pub map-flat_map : {A B C : Type 0} (g : B → C) (f : A → List B) (xs : List A) → map g (flat_map f xs) ≡ flat_map (λ x. map g (f x)) xs
map-flat_map g f [] = refl
map-flat_map g f (x ∷ xs) = map-append g (f x) (flat_map f xs) ∙ ap (λ ys. map g (f x) ++ ys) (map-flat_map g f xs)

pub flat_map-map : {A B C : Type 0} (f : B → List C) (g : A → B) (xs : List A) → flat_map f (map g xs) ≡ flat_map (λ x. f (g x)) xs
flat_map-map f g [] = refl
flat_map-map f g (x ∷ xs) = ap (λ ys. f (g x) ++ ys) (flat_map-map f g xs)

pub flat_same : {A B : Type 0} (f g : A → List B) (xs : List A) → ((x : A) → f x ≡ g x) → flat_map f xs ≡ flat_map g xs
flat_same f g xs e = λ i. flat_map (λ x. e x i) xs

pub flat_same_in : {A B : Type 0} (f g : A → List B) (xs : List A) → ((x : A) → In x xs → f x ≡ g x) → flat_map f xs ≡ flat_map g xs
flat_same_in f g [] e = refl
flat_same_in f g (x ∷ xs) e = λ i. e x (inl refl) i ++ flat_same_in f g xs (λ y h. e y (inr h)) i

pub flat_none : {A B : Type 0} (f : A → List B) (xs : List A) → ((x : A) → In x xs → f x ≡ []) → flat_map f xs ≡ []
flat_none f [] e = refl
flat_none f (x ∷ xs) e = λ i. e x (inl refl) i ++ flat_none f xs (λ y h. e y (inr h)) i

-- ---- the numbers up to a number

pub length-numbers_to : (n : ℕ) → length (numbers_to n) ≡ suc n
unfolding numbers_to
length-numbers_to zero = refl
length-numbers_to (suc n) = ap suc (length_suc (numbers_to n) ∙ length-numbers_to n)
  where
    length_suc : (xs : List ℕ) → length (map suc xs) ≡ length xs
    length_suc [] = refl
    length_suc (x ∷ xs) = ap suc (length_suc xs)

drop-map : {A B : Type 0} (f : A → B) (k : ℕ) (xs : List A) → drop k (map f xs) ≡ map f (drop k xs)
drop-map f zero xs = refl
drop-map f (suc k) [] = refl
drop-map f (suc k) (x ∷ xs) = drop-map f k xs

pub drop-numbers_to : (n k : ℕ) → k ≤ n → drop k (numbers_to n) ≡ k ∷ drop (suc k) (numbers_to n)
unfolding numbers_to
drop-numbers_to zero zero h = refl
drop-numbers_to zero (suc k) h = absurd (omega arith)
drop-numbers_to (suc n) zero h = refl
drop-numbers_to (suc n) (suc k) h = drop-map suc k (numbers_to n) ∙ ap (map suc) (drop-numbers_to n k (omega arith)) ∙ ap (λ xs. suc k ∷ xs) (sym (drop-map suc (suc k) (numbers_to n)))

pub drop_all-numbers_to : (n : ℕ) → drop (suc n) (numbers_to n) ≡ []
unfolding numbers_to
drop_all-numbers_to zero = refl
drop_all-numbers_to (suc n) = drop-map suc (suc n) (numbers_to n) ∙ ap (map suc) (drop_all-numbers_to n)

-- what is beyond a adds nothing
flat_map-beyond : {B : Type 0} (f : ℕ → List B) (a e : ℕ) → ((k : ℕ) → a < k → f k ≡ []) → flat_map f (numbers_to (a + e)) ≡ flat_map f (numbers_to a)
unfolding numbers_to
flat_map-beyond f zero zero n = refl
flat_map-beyond f zero (suc e) n = ap (λ m. flat_map f (numbers_to m)) (let q : 0 + suc e ≡ suc e = omega arith in q)
    ∙ ap (λ ys. f 0 ++ ys) (flat_map-map f suc (numbers_to e) ∙ flat_none (λ x. f (suc x)) (numbers_to e) (λ x h. n (suc x) (omega arith)))
flat_map-beyond f (suc a) e n = ap (λ m. flat_map f (numbers_to m)) (let q : suc a + e ≡ suc (a + e) = omega arith in q)
    ∙ ap (λ ys. f 0 ++ ys) (flat_map-map f suc (numbers_to (a + e)) ∙ flat_map-beyond (λ x. f (suc x)) a e (λ k h. n (suc k) (omega arith)) ∙ sym (flat_map-map f suc (numbers_to a)))

pub flat_map_cut : {B : Type 0} (f : ℕ → List B) (a c : ℕ) → ((k : ℕ) → a < k → f k ≡ []) → flat_map f (numbers_to c) ≡ flat_map f (numbers_to (min a c))
flat_map_cut {B} f a c n = by (dec_le a c)
  where
    by : Dec (a ≤ c) → flat_map f (numbers_to c) ≡ flat_map f (numbers_to (min a c))
    by (yes l) =
        let e : a + (c - a) ≡ c = omega arith in let m : a ≡ min a c = omega arith in
        ap (λ x. flat_map f (numbers_to x)) (sym e) ∙ flat_map-beyond f a (c - a) n ∙ ap (λ x. flat_map f (numbers_to x)) m
    by (no h) = let m : c ≡ min a c = omega arith in ap (λ x. flat_map f (numbers_to x)) m
