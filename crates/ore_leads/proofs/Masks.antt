-- Masks of divisors: bit k is set exactly where lead k has a property.
--     reads, reads_all         f of the elements of a list from a place on, one by one; they are those of the mapped list
--     lanes_at_most            the mask of those of eight numbers that are at most a bound
--     mask_fits                it has eight bits
--     set_at_most              where the numbers are the exponents of one variable in eight leads, and the bound is that in n
--     set_in_both              bit k of two masks that are joined
--     AtMostBefore             no exponent of a variable before x is greater
--     before_first, before_next, before_past    before the first variable, before the next one, before one past the twelfth
use Rattle.std.proofs.Common.{◌≡◌, ℕ, suc, ◌+◌, ◌%◌, ◌^◌, ◌<◌, ◌≤◌, ◌↔◌, Bool, true, false, cond, leb, List, [], ◌∷◌, length, get_or, drop, map, replicate, bit_and, Fits, w8, w16, refl, sym, ap, subst, ◌∙◌, arith, drop-cons, below_more}
use Rattle.std.specs.Int.{bit_at}
use Rattle.std.specs.Simd.Lanes.{mask_l, top, zip2}
use Rattle.std.proofs.lemmas.Bool.{leb-true, leb-false}
use Rattle.std.proofs.lemmas.Nat.Bits.{bit_at_and, bit_at_ones, bit_at-lt}
use Rattle.std.proofs.lemmas.Simd.{bit_mask_l, bitmask_splat, mask_l-lt}
use Rattle.std.proofs.lemmas.List.{drop_all, get_or-map, length-map}
use Rattle.ore_monomial.specs.Monomial.{Monomial, exponent, unit, Divides}
use Rattle.ore_monomial.proofs.Monomials.{exponent_past}
use native.Mathlib.Decide.{dec_lt}

-- ---- the exponents of one variable

-- f of the elements of xs from place i on, as many as there are defaults
abbrev pub reads : {X : Type 0} → (X → ℕ) → List X → ℕ → List X → List ℕ
reads f xs i [] = []
reads f xs i (d ∷ ds) = f (get_or xs i d) ∷ reads f xs (suc i) ds

pub reads_all : {X : Type 0} (f : X → ℕ) (xs : List X) (i : ℕ) (ds : List X) → length xs ≡ i + length ds → reads f xs i ds ≡ map f (drop i xs)
reads_all f xs i [] e = sym (ap (map f) (drop_all i xs (omega arith)))
reads_all f xs i (d ∷ ds) e =
    ap (λ ys. f (get_or xs i d) ∷ ys) (reads_all f xs (suc i) ds (omega arith)) ∙ sym (ap (map f) (drop-cons xs i d (omega arith)))

-- ---- bits

-- what `simd_le` with a splat of b and `to_bitmask` give
abbrev pub lanes_at_most : List ℕ → ℕ → ℕ
lanes_at_most es b = mask_l (map (top 15) (zip2 (λ x y. cond (leb x y) 65535 0) es (replicate 8 b))) % 2 ^ 64

at_most_test : (a b : ℕ) (t : Bool) → leb a b ≡ t → (cond {A = ℕ} t 1 0 ≡ 1) ↔ (a ≤ b)
at_most_test a b true e = (λ h. leb-true a b e, λ h. refl)
at_most_test a b false e = (λ h. absurd (omega arith), λ h. absurd (omega (arith, leb-false a b e)))

module _ (leads : List Monomial) (n : Monomial) (x : ℕ) (es : List ℕ) (b : ℕ) (eight : length leads ≡ 8) (read : es ≡ map (λ lead. exponent lead x) leads) where
  abbrev tests : List Bool
  tests = map (λ e. leb e b) es

  long : length es ≡ 8
  long = ap length read ∙ length-map leads (λ lead. exponent lead x) ∙ eight

  bits_of_tests : lanes_at_most es b ≡ mask_l tests
  bits_of_tests = bitmask_splat w16 leb es 8 b long (omega arith)

  pub mask_fits : Fits w8 (lanes_at_most es b)
  mask_fits =
      let few : mask_l tests < 2 ^ 8 = subst (λ m. mask_l tests < 2 ^ m) (length-map es (λ e. leb e b) ∙ long) (mask_l-lt tests) in
      let same = bits_of_tests in
      omega arith

  pub set_at_most : b ≡ exponent n x → (k : ℕ) → k < 8 → (bit_at (lanes_at_most es b) k ≡ 1) ↔ (exponent (get_or leads k unit) x ≤ exponent n x)
  set_at_most own k l =
      let bit : bit_at (lanes_at_most es b) k ≡ cond (leb (get_or es k 0) b) 1 0 =
      ap (λ m. bit_at m k) bits_of_tests ∙ bit_mask_l tests k ∙ ap (λ t. cond t 1 0) (get_or-map (λ e. leb e b) es k 0 false (omega (arith, long))) in
      let lead : get_or es k 0 ≡ exponent (get_or leads k unit) x = ap (λ fs. get_or fs k 0) read ∙ get_or-map (λ m. exponent m x) leads k unit 0 (omega arith) in
      let test = at_most_test (get_or es k 0) b _ refl in
      (λ h. let least = test.0 (sym bit ∙ h) in omega arith, λ h. bit ∙ test.1 (omega arith))

pub set_in_both : (a b k : ℕ) {P Q : Type 0} → (bit_at a k ≡ 1) ↔ P → (bit_at b k ≡ 1) ↔ Q → (bit_at (bit_and a b) k ≡ 1) ↔ (P × Q)
set_in_both a b k p q =
    let both = bit_at_and a b k in
    let one = bit_at-lt a k in
    let other = bit_at-lt b k in
    (λ h. (p.0 (omega arith), q.0 (omega arith)), λ h. let s = p.1 h.0 in let t = q.1 h.1 in omega arith)

-- ---- the variables one after the other

-- no exponent of m at a variable before x is greater than that of n
abbrev pub AtMostBefore : ℕ → Monomial → Monomial → Type 0
AtMostBefore x m n = (y : ℕ) → y < x → exponent m y ≤ exponent n y

pub before_first : (m n : Monomial) (k : ℕ) → k < 8 → (bit_at 255 k ≡ 1) ↔ AtMostBefore 0 m n
before_first m n k l = (λ h y z. absurd (omega arith), λ h. bit_at_ones 8 k l)

pub before_next : (m n : Monomial) (x : ℕ) → (AtMostBefore x m n × (exponent m x ≤ exponent n x)) ↔ AtMostBefore (x + 1) m n
before_next m n x = (λ h. below_more _ _ h.0 h.1, λ h. (λ y l. h y (omega arith), h x (omega arith)))

pub before_past : (m n : Monomial) (x : ℕ) → 12 ≤ x → AtMostBefore x m n ↔ Divides m n
before_past m n x past = (λ h y. by h y (dec_lt y x), λ h y l. h y)
  where
    by : AtMostBefore x m n → (y : ℕ) → Dec (y < x) → exponent m y ≤ exponent n y
    by h y (yes l) = h y l
    by h y (no g) = let z = exponent_past y m (omega arith) in omega arith
