-- Both orders of monomials are well founded: what holds of a monomial if it holds of all smaller ones holds of all.
--     by_order             that induction
--     below, by_lists      the same for numbers, and for lists of one length in the order of their first difference
--     rank_less            the rank of a smaller monomial is smaller
use Rattle.std.proofs.Common.{◌≡◌, ℕ, zero, suc, pred, ◌+◌, ◌-◌, ◌<◌, ◌≤◌, List, [], ◌∷◌, length, map, reverse, refl, sym, ap, ◌∙◌, subst, true≢false, arith}
use mathlib.Core.List.{reverse_aux}
use Rattle.std.specs.List.{sum}
use Rattle.std.specs.declared.cmp.Ordering.{Ordering}
use Rattle.std.specs.declared.cmp.Ordering.TheVariants.{Less, Equal, Greater}
use Rattle.std.specs.Ordering.{nat_cmp, ordering_then, is_lt, MatchOrdering}
use Rattle.std.specs.Cmp.Lexicographic.{slice_cmp}
use Rattle.std.proofs.lemmas.Cmp.{ranked}
use Rattle.std.proofs.lemmas.Bool.Decides.{nat_tests}
use Rattle.std.proofs.lemmas.List.Sums.{sum_by-cons}
use Rattle.std.proofs.lemmas.List.{length-map, length-reverse}
use Rattle.ore_monomial.specs.Monomial.{Monomial, degree, order_cmp, plain_cmp}
pub use Rattle.ore_monomial.specs.Monomial.{rank}
use Rattle.ore_monomial.specs.declared.order.Order.{Order}
use Rattle.ore_monomial.specs.declared.order.Order.TheVariants.{DegLex, DegRevLex}

pub below {ℓ} : (P : ℕ → Type ℓ) → ((n : ℕ) → ((k : ℕ) → k < n → P k) → P n) → (n k : ℕ) → k < n → P k
below P step zero k h = absurd (omega arith)
below P step (suc n) k h = step k (λ j l. below P step n j (omega arith))

-- ---- lists of one length, in the order of their first difference

module _ {ℓ} (P : List ℕ → Type ℓ) where
  abbrev pub FromSmaller : ℕ → Type ℓ
  FromSmaller n = (xs : List ℕ) → length xs ≡ n → ((ys : List ℕ) → length ys ≡ n → slice_cmp nat_cmp ys xs ≡ Less → P ys) → P xs

pub by_lists {ℓ} : (n : ℕ) (P : List ℕ → Type ℓ) → FromSmaller P n → (xs : List ℕ) → length xs ≡ n → P xs
by_lists zero P step [] e = step [] e smaller
  where
    smaller : (ys : List ℕ) → length ys ≡ 0 → slice_cmp nat_cmp ys [] ≡ Less → P ys
    smaller [] l h = absurd (true≢false (ap is_lt (sym h)))
    smaller (y ∷ ys) l h = absurd (omega arith)
by_lists zero P step (x ∷ xs) e = absurd (omega arith)
by_lists (suc n) P step [] e = absurd (omega arith)
by_lists (suc n) P step (x ∷ xs) e = below Head (λ x outer xs l. by_lists n (λ xs. P (x ∷ xs)) (λ xs l inner. step (x ∷ xs) (ap suc l) (smaller x outer xs inner)) xs l) (suc x) x (omega arith) xs (ap pred e)
  where
    Head : ℕ → Type ℓ
    Head x = (xs : List ℕ) → length xs ≡ n → P (x ∷ xs)

    smaller : (x : ℕ) → ((y : ℕ) → y < x → Head y) → (xs : List ℕ) → ((ys : List ℕ) → length ys ≡ n → slice_cmp nat_cmp ys xs ≡ Less → P (x ∷ ys)) → (zs : List ℕ) → length zs ≡ suc n → slice_cmp nat_cmp zs (x ∷ xs) ≡ Less → P zs
    smaller x outer xs inner [] l h = absurd (omega arith)
    smaller x outer xs inner (y ∷ ys) l h = by (nat_cmp y x) (ranked y x (nat_cmp y x) refl) h
      where
        by : (r : Ordering) → MatchOrdering r (y < x) (y ≡ x) (x < y) → ordering_then r (slice_cmp nat_cmp ys xs) ≡ Less → P (y ∷ ys)
        by Less m h = outer y m ys (ap pred l)
        by Equal m h = subst (λ z. P (z ∷ ys)) (sym m) (inner ys (ap pred l) h)
        by Greater m h = absurd (true≢false (ap is_lt (sym h)))

-- ---- the rank of a monomial, a list of 13 numbers

pub length-rank : (o : Order) (m : Monomial) → length (rank o m) ≡ 13
unfolding rank
length-rank DegLex m = ap suc m.twelve
length-rank DegRevLex m = ap suc (length-map (reverse m.exponents) (λ e. degree m - e) ∙ length-reverse m.exponents ∙ m.twelve)

pub sum-reverse_aux : (xs ys : List ℕ) → sum (reverse_aux xs ys) ≡ sum xs + sum ys
sum-reverse_aux [] ys = omega arith
sum-reverse_aux (x ∷ xs) ys = let e = sum-reverse_aux xs (x ∷ ys) in let p = sum_by-cons (λ a. a) x ys in let q = sum_by-cons (λ a. a) x xs in e ∙ omega arith

pub turned_cmp : (d a b : ℕ) → a ≤ d → b ≤ d → nat_cmp (d - b) (d - a) ≡ nat_cmp a b
turned_cmp d a b h k = grind (arith, nat_tests)

turned_lists : (d : ℕ) (xs ys : List ℕ) → sum xs ≤ d → sum ys ≤ d → length xs ≡ length ys → slice_cmp nat_cmp (map (λ e. d - e) ys) (map (λ e. d - e) xs) ≡ slice_cmp nat_cmp xs ys
turned_lists d [] [] h k e = refl
turned_lists d [] (y ∷ ys) h k e = absurd (omega arith)
turned_lists d (x ∷ xs) [] h k e = absurd (omega arith)
turned_lists d (x ∷ xs) (y ∷ ys) h k e =
    let p = sum_by-cons (λ a. a) x xs in let q = sum_by-cons (λ a. a) y ys in
    λ i. ordering_then (turned_cmp d x y (omega arith) (omega arith) i) (turned_lists d xs ys (omega arith) (omega arith) (ap pred e) i)

pub rank_less : (o : Order) (n m : Monomial) → order_cmp o n m ≡ Less → slice_cmp nat_cmp (rank o n) (rank o m) ≡ Less
unfolding rank degree plain_cmp
rank_less DegLex n m h = h
rank_less DegRevLex n m h = by (nat_cmp (degree n) (degree m)) (ranked _ _ (nat_cmp (degree n) (degree m)) refl) h
  where
    by : (r : Ordering) → MatchOrdering r (degree n < degree m) (degree n ≡ degree m) (degree m < degree n) → ordering_then r (slice_cmp nat_cmp (reverse m.exponents) (reverse n.exponents)) ≡ Less
        → ordering_then r (slice_cmp nat_cmp (map (λ e. degree n - e) (reverse n.exponents)) (map (λ e. degree m - e) (reverse m.exponents))) ≡ Less
    by Less k h = refl
    by Equal k h =
        let a = sum-reverse_aux m.exponents [] in
        let b = sum-reverse_aux n.exponents [] in
        let k' : sum n.exponents ≡ sum m.exponents = k in
        let long : length (reverse m.exponents) ≡ length (reverse n.exponents) = length-reverse m.exponents ∙ m.twelve ∙ sym n.twelve ∙ sym (length-reverse n.exponents) in
        ap (λ d. slice_cmp nat_cmp (map (λ e. d - e) (reverse n.exponents)) (map (λ e. degree m - e) (reverse m.exponents))) k
        ∙ turned_lists (degree m) (reverse m.exponents) (reverse n.exponents) (omega arith) (omega arith) long ∙ h
    by Greater k h = absurd (true≢false (ap is_lt (sym h)))

pub by_order {ℓ} : (o : Order) (P : Monomial → Type ℓ) → ((m : Monomial) → ((n : Monomial) → order_cmp o n m ≡ Less → P n) → P m) → (m : Monomial) → P m
by_order o P step m = by_lists 13 (λ xs. (m : Monomial) → rank o m ≡ xs → P m)
    (λ xs l ih m e. step m (λ n h. ih (rank o n) (length-rank o n) (subst (λ ys. slice_cmp nat_cmp (rank o n) ys ≡ Less) e (rank_less o n m h)) n refl))
    (rank o m) (length-rank o m) m refl
