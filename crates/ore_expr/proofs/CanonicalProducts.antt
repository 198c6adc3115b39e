-- A term times a power of a variable that stands behind all variables of the term: nothing acts, and the numbers stay.
--     IsSmallFraction  numerator and denominator are below 2^127
--     single_times     the product is one term, the product of the monomials
--     IsPart           m has the exponents of another monomial below x, and none from x on
--     part_unit        the monomial 1 is such a part below the first variable
--     part_skip, part_more    the part below the next variable, without that variable and with its power
--     part_whole       it is the whole where no exponent is left
--     step_times       a part times the power of the next variable
use Rattle.std.proofs.Common.{◌≡◌, ◌≢◌, ℕ, suc, ◌+◌, ◌*◌, ◌/◌, ◌<◌, ◌≤◌, ◌^◌, Bool, true, cond, ◌&&◌, [], ◌∷◌, ℤ, pos, ◌+ℤ◌, ◌*ℤ◌, nat_abs, sym, ap, ◌∙◌, subst, arith, zero-mul, ⊎_elim}
use Rattle.std.specs.declared.result.Result.TheVariants.{Ok, Err}
use Rattle.std.proofs.lemmas.Bool.{le-leb}
use Rattle.std.proofs.lemmas.Bool.Decides.{leb_tells}
use Rattle.std.proofs.Math.Nat.{div-le_self}
use native.Mathlib.Decide.{ℕ_discrete}
use native.Mathlib.Nat.{one-dvd}
use Rattle.std.proofs.lemmas.Nat.Gcd.{same_from_IsGcd, dvd_refl}
use Rattle.ore_algebra.specs.Free.{empty_sum, single, plus}
use Rattle.ore_algebra.specs.Limits.{Overflow, Degree, program, is_within, ◌>>=◌, guard, fold_within}
use Rattle.ore_algebra.proofs.Integers.{integers, times_one}
use Rattle.ore_algebra.proofs.DomainLaws.{zero_plus}
use Rattle.ore_rational.specs.Gcd.{gcd, gcd_is}
use Rattle.ore_rational.specs.Fraction.{Fraction, whole, add}
use Rattle.ore_rational.specs.Within.{sum_fits, sum_within, fits, product_within}
use Rattle.ore_rational.specs.Field.{rationals}
use Rattle.ore_rational.specs.FractionRing.{one_apart}
use Rattle.ore_rational.proofs.Bounds.{Decides-within}
use Rattle.ore_monomial.specs.Monomial.{Monomial, exponent, degree, unit, with_exponent, product, plain_cmp}
use Rattle.ore_monomial.specs.Signature.{Signature, kind_at, coordinate_of}
use Rattle.ore_monomial.specs.Numbers.{numbers, numbers_within}
use Rattle.ore_monomial.proofs.Monomials.{exponent-same, exponent-other, exponent-unit, same_exponents, exponent-product, degree-product}
use Rattle.ore_monomial.proofs.Divisors.{degree-divides}
use Rattle.ore_monomial.proofs.Signatures.{lawful}
use Rattle.ore_monomial.proofs.Operators
use Rattle.ore_ring.specs.Terms.{Terms}
use Rattle.ore_ring.specs.Within.{add_term_within, degrees_fit, contribute, pair_within, row_within, times_within}
use Rattle.ore_ring.specs.Meets.{MeetsNone}
use Rattle.ore_ring.proofs.PlainNumbers.{plain_numbers}
use Rattle.ore_ring.proofs.Falls.{single_falling}

-- ---- numbers

within_abs : (x y : ℤ) → x ≡ y → nat_abs y < 2 ^ 127 → is_within program.magnitude (nat_abs x) ≡ true
within_abs x y e h = ap (λ z. is_within program.magnitude (nat_abs z)) e ∙ (Decides-within (nat_abs y)).1 h

all_four : (a b c d : Bool) → a ≡ true → b ≡ true → c ≡ true → d ≡ true → (a && (b && (c && d))) ≡ true
all_four a b c d p q r s = λ i. p i && (q i && (r i && s i))

gcd_one : (d : ℕ) → gcd 1 d ≡ 1
gcd_one d = same_from_IsGcd 1 d (gcd 1 d) 1 (gcd_is 1 d) (dvd_refl 1, one-dvd d, λ e u v. u)

once_less : (a b : ℕ) → a ≤ b → b < 2 ^ 127 → 1 * a < 2 ^ 127
once_less a b h l = omega arith

-- both parts of a fraction are in range
pub record IsSmallFraction (k : Fraction) : Type 0 where
  pub numerator : nat_abs k.num < 2 ^ 127
  pub denominator : k.den < 2 ^ 127

module _ (k : Fraction) (h : IsSmallFraction k) where
  fraction_fits : fits program k ≡ true
  unfolding fits
  fraction_fits = λ i. (Decides-within (nat_abs k.num)).1 h.numerator i && (Decides-within k.den).1 h.denominator i

  none-times : (n : ℕ) → pos 0 *ℤ pos n ≡ pos 0
  none-times n = ap pos (zero-mul n)

  zero-plus : (n : ℕ) → (pos 0 *ℤ pos n) +ℤ (k.num *ℤ pos 1) ≡ k.num
  zero-plus n = (λ i. none-times n i +ℤ times_one k.num i) ∙ zero_plus integers k.num

  sum_none : sum_fits program (whole (pos 0)) k ≡ true
  unfolding sum_fits
  sum_none =
      let fit = λ (g : ℕ). (is_within program.magnitude (nat_abs (pos 0 *ℤ pos (k.den / g)))
      && (is_within program.magnitude (nat_abs (k.num *ℤ pos (1 / g)))
      && (is_within program.magnitude (nat_abs ((pos 0 *ℤ pos (k.den / g)) +ℤ (k.num *ℤ pos (1 / g))))
      && is_within program.magnitude ((1 / g) * (k.den / gcd (nat_abs ((pos 0 *ℤ pos (k.den / g)) +ℤ (k.num *ℤ pos (1 / g)))) g))))) in
      let rest = gcd (nat_abs ((pos 0 *ℤ pos (k.den / 1)) +ℤ (k.num *ℤ pos 1))) 1 in
      let less = div-le_self k.den rest in
      ap fit (gcd_one k.den)
      ∙ all_four _ _ _ _
      (within_abs (pos 0 *ℤ pos (k.den / 1)) (pos 0) (none-times (k.den / 1)) (omega arith))
      (within_abs (k.num *ℤ pos 1) k.num (times_one k.num) h.numerator)
      (within_abs ((pos 0 *ℤ pos (k.den / 1)) +ℤ (k.num *ℤ pos 1)) k.num (zero-plus (k.den / 1)) h.numerator)
      ((Decides-within (1 * (k.den / rest))).1 (once_less (k.den / rest) k.den less h.denominator))

  product_one : product_within program k (whole (pos 1)) ≡ Ok k
  unfolding product_within
  product_one = ap (λ c. guard (fits program c) c Overflow) (rationals.times_one k) ∙ ap (λ b. guard b k Overflow) fraction_fits

  add_to_none : (p : Monomial) → add_term_within program (empty_sum rationals plain_cmp) p k ≡ Ok (single rationals plain_cmp p k)
  unfolding add_term_within sum_within
  add_to_none p =
      let f = plus rationals plain_cmp (empty_sum rationals plain_cmp) (single rationals plain_cmp p k) in
      ap (λ x. sum_within program x k >>= λ y. Ok f) (Operators.coefficient-empty_sum rationals p)
      ∙ ap (λ b. guard b (add (whole (pos 0)) k) Overflow >>= λ y. Ok f) sum_none
      ∙ ap Ok (Operators.zero-plus rationals (single rationals plain_cmp p k))

  contributed : (p : Monomial) → contribute program k (empty_sum rationals plain_cmp) (p, pos 1) ≡ Ok (single rationals plain_cmp p k)
  unfolding contribute
  contributed p = ap (λ r. r >>= λ c. add_term_within program (empty_sum rationals plain_cmp) p c) product_one ∙ add_to_none p

  module _ (s : Signature) (m n : Monomial) (meets : MeetsNone s m n) where
    pair : pair_within program s (m, k) (empty_sum rationals plain_cmp) (n, whole (pos 1)) ≡ Ok (single rationals plain_cmp (product m n) k)
    unfolding pair_within numbers_within
    pair =
        ap (λ r. r >>= λ uv. numbers_within program (numbers s m n) >>= λ ks. fold_within (contribute program uv) (empty_sum rationals plain_cmp) ks) product_one
        ∙ ap (λ ks. numbers_within program ks >>= λ ks. fold_within (contribute program k) (empty_sum rationals plain_cmp) ks) (plain_numbers s m n meets)
        ∙ ap (λ r. r >>= λ f. Ok f) (contributed (product m n))

    row : row_within program s ((n, whole (pos 1)) ∷ []) (empty_sum rationals plain_cmp) (m, k) ≡ Ok (single rationals plain_cmp (product m n) k)
    unfolding row_within
    row = ap (λ r. r >>= λ f. Ok f) pair

    small_degrees : degree m + degree n ≤ 32767 → degrees_fit program ((m, k) ∷ []) ((n, whole (pos 1)) ∷ []) ≡ true
    unfolding degrees_fit
    small_degrees d = ap (λ b. (b && true) && true) (le-leb (degree m + degree n) 32767 d)

    pub single_times : degree m + degree n ≤ 32767 → k ≢ whole (pos 0) → times_within program s (single rationals plain_cmp m k) (single rationals plain_cmp n (whole (pos 1))) ≡ Ok (single rationals plain_cmp (product m n) k)
    unfolding times_within
    single_times d a =
        let value = λ (ts us : Terms). cond (degrees_fit program ts us) (fold_within (row_within program s us) (empty_sum rationals plain_cmp) ts) (Err Degree) in
        (λ i. value (single_falling s.order m k a i) (single_falling s.order n (whole (pos 1)) one_apart i))
        ∙ ap (λ b. cond b (fold_within (row_within program s ((n, whole (pos 1)) ∷ [])) (empty_sum rationals plain_cmp) ((m, k) ∷ [])) (Err Degree)) (small_degrees d)
        ∙ ap (λ r. r >>= λ f. Ok f) row

-- ---- parts of a monomial

pub record IsPart (x : ℕ) (M m : Monomial) : Type 0 where
  pub below : (y : ℕ) → y < x → exponent m y ≡ exponent M y
  pub above : (y : ℕ) → x ≤ y → exponent m y ≡ 0

pub part_unit : (M : Monomial) → IsPart 0 M unit
part_unit M = record { below = λ y h. absurd (omega arith); above = λ y h. exponent-unit y }

pub part_skip : (x : ℕ) (M m : Monomial) → exponent M x ≡ 0 → IsPart x M m → IsPart (suc x) M m
part_skip x M m e p = record { below = λ y h. by y h (ℕ_discrete y x); above = λ y h. p.above y (omega arith) }
  where
    by : (y : ℕ) → y < suc x → Dec (y ≡ x) → exponent m y ≡ exponent M y
    by y h (yes d) = subst (λ z. exponent m z ≡ exponent M z) (sym d) (p.above x (omega arith) ∙ sym e)
    by y h (no n) = p.below y (omega arith)

pub part_whole : (x : ℕ) (M m : Monomial) → IsPart x M m → ((y : ℕ) → x ≤ y → exponent M y ≡ 0) → m ≡ M
part_whole x M m p h = same_exponents m M (λ y l. ⊎_elim (λ c. p.above y c.1 ∙ sym (h y c.1)) (λ c. p.below y c.1) (leb_tells x y))

module _ (x : ℕ) (M m : Monomial) (e : ℕ) (l : x < 12) (eq : exponent M x ≡ e) (p : IsPart x M m) where
  next_exponent : (y : ℕ) → exponent (product m (with_exponent x e unit)) y ≡ exponent m y + exponent (with_exponent x e unit) y
  next_exponent y = exponent-product m (with_exponent x e unit) y

  at_other : (y : ℕ) → y ≢ x → exponent (with_exponent x e unit) y ≡ 0
  at_other y n = exponent-other x y e unit n ∙ exponent-unit y

  pub part_more : IsPart (suc x) M (product m (with_exponent x e unit))
  part_more = record { below = λ y h. by y h (ℕ_discrete y x); above = λ y h. let a = next_exponent y in let b = at_other y (omega arith) in let c = p.above y (omega arith) in omega arith }
    where
      at_own : exponent (product m (with_exponent x e unit)) x ≡ exponent M x
      at_own = let a = next_exponent x in let b = exponent-same x e unit l in let c = p.above x (omega arith) in omega arith

      by : (y : ℕ) → y < suc x → Dec (y ≡ x) → exponent (product m (with_exponent x e unit)) y ≡ exponent M y
      by y h (yes d) = subst (λ z. exponent (product m (with_exponent x e unit)) z ≡ exponent M z) (sym d) at_own
      by y h (no n) = let a = next_exponent y in let b = at_other y n in let c = p.below y (omega arith) in omega arith

  before : (y : ℕ) → exponent m y ≢ 0 → y < x
  before y n = ⊎_elim (λ c. absurd (n (p.above y c.1))) (λ c. c.1) (leb_tells x y)

  meets_none : (s : Signature) → MeetsNone s m (with_exponent x e unit)
  meets_none s y acts there = at_other (coordinate_of (kind_at s y)) (let c = (lawful s y acts).0 in let b = before y there in omega arith)

  degree_most : degree m + degree (with_exponent x e unit) ≤ degree M
  degree_most =
      let most = degree-divides (product m (with_exponent x e unit)) M (λ y. ⊎_elim (λ c. let a = part_more.above y c.1 in omega arith) (λ c. let a = part_more.below y c.1 in omega arith) (leb_tells (suc x) y)) in
      let sums = degree-product m (with_exponent x e unit) in
      omega arith

  pub step_times : (s : Signature) (k : Fraction) → IsSmallFraction k → k ≢ whole (pos 0) → degree M ≤ 32767
      → times_within program s (single rationals plain_cmp m k) (single rationals plain_cmp (with_exponent x e unit) (whole (pos 1))) ≡ Ok (single rationals plain_cmp (product m (with_exponent x e unit)) k)
  step_times s k h a d = single_times k h s m (with_exponent x e unit) (meets_none s) (let b = degree_most in omega arith) a
