-- The adjoint of a monomial as one product of two monomials.
--     exponent-part        the exponent of a part
--     split                a monomial is its coordinates times its other letters
--     adjoint_split        its adjoint is its letters times its coordinates, with the sign
--     of_adjoint           adjoints of operators of a signature are of the signature
use Rattle.std.proofs.Common.{◌≡◌, ◌≢◌, ℕ, zero, suc, ◌+◌, ◌<◌, ◌≤◌, Bool, true, false, not, cond, List, [], ◌∷◌, length, get_or, refl, sym, ap, ◌∙◌, subst, true≢false, arith}
use Rattle.ore_algebra.specs.Domain.{Domain}
use Rattle.ore_algebra.specs.Free.{scale}
use Rattle.ore_algebra.specs.Ring.{power}
use Rattle.ore_algebra.proofs.DomainLaws as Numbers
use Rattle.ore_monomial.specs.Monomial.{Monomial, exponent, degree, product, raise, unit, plain_cmp}
use Rattle.ore_monomial.specs.Signature.{Signature, kind_at, coordinate_of, is_acting, is_coordinate}
use Rattle.ore_monomial.specs.declared.signature.VarKind.{VarKind}
use Rattle.ore_monomial.specs.declared.signature.VarKind.TheVariants.{Coordinate, Constant, Plain, Differential, Shift, Delay}
use Rattle.ore_monomial.specs.LetterRule.{Operator, letter, letter_times, monomial_times}
use Rattle.ore_monomial.proofs.Monomials.{by_first, same_exponents, seen_exponent, exponent-unit, exponent-raise, exponent-product, degree-raise, product-unit, product-raise, product_comm}
use Rattle.ore_monomial.proofs.Letters.{one_term}
use Rattle.ore_monomial.proofs.Commute.{letter_one, letter_still, letter_clear}
use Rattle.ore_monomial.proofs.MonomialProducts.{monomial_unit, monomial-raise}
use Rattle.ore_monomial.proofs.Operators
use Rattle.ore_monomial.proofs.Signatures.{lawful}
use Rattle.ore_ring.specs.Product.{times}
use Rattle.ore_ring.specs.Adjoint.{sign, adjoint_letter_times, adjoint_monomial, adjoint}
use Rattle.ore_ring.specs.AdjointWithin.{kept_exponents, part, coordinate_part, letter_part, sign_of}
use Rattle.ore_ring.specs.Belongs.{OperatorOf}
use Rattle.ore_ring.specs.Meets.{MeetsNone}
use Rattle.ore_ring.proofs.Product.{times-linear_left, times-linear_right, times_one_left}
use Rattle.ore_ring.proofs.Support.{AtMost, own_other, exponent-raise_any, most_scale, most_single, most_linear_extension, times_most}
use Rattle.ore_ring.proofs.Adjoints.{A, adjoint-raise, adjoint_unit, adjoint_one, adjoint-times}
use Rattle.ore_ring.proofs.Belonging.{clear_of, of_clear}

-- ---- exponents of a part

length-kept : (test : ℕ → Bool) (x : ℕ) (es : List ℕ) → length (kept_exponents test x es) ≡ length es
unfolding kept_exponents
length-kept test x [] = refl
length-kept test x (e ∷ es) = ap suc (length-kept test (suc x) es)

cond_none : (b : Bool) → ◌≡◌ {A = ℕ} (cond b 0 0) 0
cond_none true = refl
cond_none false = refl

get_or-kept : (test : ℕ → Bool) (x : ℕ) (es : List ℕ) (k : ℕ) → get_or (kept_exponents test x es) k 0 ≡ cond (test (x + k)) (get_or es k 0) 0
unfolding kept_exponents
get_or-kept test x [] k = sym (cond_none (test (x + k)))
get_or-kept test x (e ∷ es) zero = let z : x ≡ x + 0 = omega arith in ap (λ y. cond (test y) e 0) z
get_or-kept test x (e ∷ es) (suc k) = let z : suc x + k ≡ x + suc k = omega arith in get_or-kept test (suc x) es k ∙ ap (λ y. cond (test y) (get_or es k 0) 0) z

pub exponent-part : (test : ℕ → Bool) (m : Monomial) (x : ℕ) → exponent (part test m) x ≡ cond (test x) (exponent m x) 0
unfolding part exponent
exponent-part test m x = seen_exponent (kept_exponents test 0 m.exponents) x (length-kept test 0 m.exponents ∙ m.twelve) ∙ get_or-kept test 0 m.exponents x ∙ (let z : 0 + x ≡ x = omega arith in ap (λ y. cond (test y) (get_or m.exponents x 0) 0) z)

pub part_in : (test : ℕ → Bool) (m : Monomial) (x : ℕ) → test x ≡ true → exponent (part test m) x ≡ exponent m x
part_in test m x e = exponent-part test m x ∙ ap (λ b. cond b (exponent m x) 0) e

pub part_out : (test : ℕ → Bool) (m : Monomial) (x : ℕ) → test x ≡ false → exponent (part test m) x ≡ 0
part_out test m x e = exponent-part test m x ∙ ap (λ b. cond b (exponent m x) 0) e

acting_apart : (k : VarKind) → is_acting k ≡ true → is_coordinate k ≡ false
acting_apart Coordinate e = absurd (true≢false (sym e))
acting_apart Constant e = refl
acting_apart Plain e = refl
acting_apart (Differential on) e = refl
acting_apart (Shift on step) e = refl
acting_apart (Delay on step) e = refl

still_coordinate : (k : VarKind) → is_coordinate k ≡ true → is_acting k ≡ false
still_coordinate Coordinate e = refl
still_coordinate Constant e = refl
still_coordinate Plain e = refl
still_coordinate (Differential on) e = absurd (true≢false (sym e))
still_coordinate (Shift on step) e = absurd (true≢false (sym e))
still_coordinate (Delay on step) e = absurd (true≢false (sym e))

module _ (s : Signature) where
  abbrev at_coordinate : ℕ → Bool
  at_coordinate x = is_coordinate (kind_at s x)

  -- the coordinate of a letter is a coordinate
  coordinate_is : (x : ℕ) → is_acting (kind_at s x) ≡ true → at_coordinate (coordinate_of (kind_at s x)) ≡ true
  coordinate_is x h = ap is_coordinate (lawful s x h).1

  pub split : (m : Monomial) → product (coordinate_part s m) (letter_part s m) ≡ m
  split m = same_exponents _ m (λ x l. exponent-product _ _ x ∙ by (at_coordinate x) x refl)
    where
      by : (b : Bool) (x : ℕ) → at_coordinate x ≡ b → exponent (coordinate_part s m) x + exponent (letter_part s m) x ≡ exponent m x
      by true x e = let a = part_in at_coordinate m x e in let b = part_out (λ x. not (at_coordinate x)) m x (ap not e) in omega arith
      by false x e = let a = part_out at_coordinate m x e in let b = part_in (λ x. not (at_coordinate x)) m x (ap not e) in omega arith

  coordinates_again : (m : Monomial) → coordinate_part s (coordinate_part s m) ≡ coordinate_part s m
  coordinates_again m = same_exponents _ _ (λ x l. by (at_coordinate x) x refl)
    where
      by : (b : Bool) (x : ℕ) → at_coordinate x ≡ b → exponent (coordinate_part s (coordinate_part s m)) x ≡ exponent (coordinate_part s m) x
      by true x e = part_in at_coordinate (coordinate_part s m) x e
      by false x e = part_out at_coordinate (coordinate_part s m) x e ∙ sym (part_out at_coordinate m x e)

  no_coordinates : (m : Monomial) → coordinate_part s (letter_part s m) ≡ unit
  no_coordinates m = same_exponents _ _ (λ x l. by (at_coordinate x) x refl)
    where
      by : (b : Bool) (x : ℕ) → at_coordinate x ≡ b → exponent (coordinate_part s (letter_part s m)) x ≡ exponent unit x
      by true x e = part_in at_coordinate (letter_part s m) x e ∙ part_out (λ x. not (at_coordinate x)) m x (ap not e) ∙ sym (exponent-unit x)
      by false x e = part_out at_coordinate (letter_part s m) x e ∙ sym (exponent-unit x)

  coordinates_unit : coordinate_part s unit ≡ unit
  coordinates_unit = same_exponents _ _ (λ x l. by (at_coordinate x) x refl)
    where
      by : (b : Bool) (x : ℕ) → at_coordinate x ≡ b → exponent (coordinate_part s unit) x ≡ exponent unit x
      by true x e = part_in at_coordinate unit x e
      by false x e = part_out at_coordinate unit x e ∙ sym (exponent-unit x)

  coordinates-raise_in : (x : ℕ) (m : Monomial) → x < 12 → at_coordinate x ≡ true → coordinate_part s (raise x m) ≡ raise x (coordinate_part s m)
  coordinates-raise_in x m xl h = same_exponents _ _ (λ y l. by (at_coordinate y) y refl)
    where
      by : (b : Bool) (y : ℕ) → at_coordinate y ≡ b → exponent (coordinate_part s (raise x m)) y ≡ exponent (raise x (coordinate_part s m)) y
      by true y e =
          let a = part_in at_coordinate (raise x m) y e in
          let b = part_in at_coordinate m y e in
          let c = exponent-raise_any x y m xl in
          let d = exponent-raise_any x y (coordinate_part s m) xl in
          omega arith
      by false y e =
          let a = part_out at_coordinate (raise x m) y e in
          let b = part_out at_coordinate m y e in
          let d = exponent-raise_any x y (coordinate_part s m) xl in
          let o = own_other x y (λ k. true≢false (sym h ∙ ap at_coordinate k ∙ e)) in
          omega arith

  coordinates-raise_out : (x : ℕ) (m : Monomial) → x < 12 → at_coordinate x ≡ false → coordinate_part s (raise x m) ≡ coordinate_part s m
  coordinates-raise_out x m xl h = same_exponents _ _ (λ y l. by (at_coordinate y) y refl)
    where
      by : (b : Bool) (y : ℕ) → at_coordinate y ≡ b → exponent (coordinate_part s (raise x m)) y ≡ exponent (coordinate_part s m) y
      by true y e =
          let a = part_in at_coordinate (raise x m) y e in
          let b = part_in at_coordinate m y e in
          let c = exponent-raise_any x y m xl in
          let o = own_other x y (λ k. true≢false (sym e ∙ ap at_coordinate (sym k) ∙ h)) in
          omega arith
      by false y e = part_out at_coordinate (raise x m) y e ∙ sym (part_out at_coordinate m y e)

-- ---- products of monomials in which no letter meets its coordinate

module _ (K : Domain) (s : Signature) where
  still_there : (x y : ℕ) (m : Monomial) → x < 12 → exponent m y ≢ 0 → exponent (raise x m) y ≢ 0
  still_there x y m xl n e = let a = exponent-raise_any x y m xl in n (omega arith)

  raised_there : (x : ℕ) (m : Monomial) → x < 12 → exponent (raise x m) x ≢ 0
  raised_there x m xl e = let a = exponent-raise x m xl in absurd (omega arith)

  letter_raises : (x : ℕ) (m : Monomial) → (is_acting (kind_at s x) ≡ true → exponent m (coordinate_of (kind_at s x)) ≡ 0) → letter K s x m ≡ one_term K (raise x m)
  letter_raises x m h = by (is_acting (kind_at s x)) refl
    where
      by : (b : Bool) → is_acting (kind_at s x) ≡ b → letter K s x m ≡ one_term K (raise x m)
      by true e = letter_clear K s x m (h e)
      by false e = letter_still K s x m e

  pub clear_product : (m n : Monomial) → MeetsNone s m n → monomial_times K s m (one_term K n) ≡ one_term K (product m n)
  clear_product m n = by_first (λ m. MeetsNone s m n → monomial_times K s m (one_term K n) ≡ one_term K (product m n))
      (λ c. monomial_unit K s (one_term K n) ∙ ap (one_term K) (sym (product-unit n)))
      (λ x xl m b ih c.
      monomial-raise K s x m (one_term K n) xl b
      ∙ ap (letter_times K s x) (ih (λ y h k. c y h (still_there x y m xl k)))
      ∙ letter_one K s x (product m n)
      ∙ letter_raises x (product m n) (λ h.
      let t = coordinate_of (kind_at s x) in
      let a = exponent-product m n t in
      let p = b t (lawful s x h).0 in
      let q = c x h (raised_there x m xl) in
      omega arith)
      ∙ ap (one_term K) (sym (product-raise x m n xl)))
      m

  -- ---- the adjoint of a monomial in which no letter meets its coordinate

  sign_unit : sign_of K s unit ≡ K.one
  unfolding sign_of degree unit
  sign_unit = ap (λ m. power K.ring (K.minus K.one) (degree m)) (coordinates_unit s)

  sign-raise : (x : ℕ) (m : Monomial) → x < 12 → sign_of K s (raise x m) ≡ K.times (sign K (kind_at s x)) (sign_of K s m)
  unfolding sign_of sign
  sign-raise x m xl = by (kind_at s x) refl
    where
      same : is_coordinate (kind_at s x) ≡ false → sign_of K s (raise x m) ≡ K.times K.one (sign_of K s m)
      same h = ap (λ m. power K.ring (K.minus K.one) (degree m)) (coordinates-raise_out s x m xl h) ∙ sym (Numbers.one_times K _)

      by : (k : VarKind) → kind_at s x ≡ k → sign_of K s (raise x m) ≡ K.times (sign K k) (sign_of K s m)
      by Coordinate e = ap (λ m. power K.ring (K.minus K.one) (degree m)) (coordinates-raise_in s x m xl (ap is_coordinate e)) ∙ ap (power K.ring (K.minus K.one)) (degree-raise x (coordinate_part s m) xl)
      by Constant e = same (ap is_coordinate e)
      by Plain e = same (ap is_coordinate e)
      by (Differential on) e = same (ap is_coordinate e)
      by (Shift on step) e = same (ap is_coordinate e)
      by (Delay on step) e = same (ap is_coordinate e)

  -- the adjoint of one letter
  letter_adjoint : (x : ℕ) → A K s (lawful s) x ≡ scale K plain_cmp (sign K (kind_at s x)) (one_term K (raise x unit))
  unfolding adjoint_letter_times
  letter_adjoint x = ap (scale K plain_cmp (sign K (kind_at s x))) (letter_one K s x unit ∙ letter_raises x unit (λ h. exponent-unit (coordinate_of (kind_at s x))))

  times-scaled : (j k : K.Number) (f g : Operator K) → times K s (scale K plain_cmp j f) (scale K plain_cmp k g) ≡ scale K plain_cmp (K.times j k) (times K s f g)
  times-scaled j k f g = (times-linear_left K s (scale K plain_cmp k g)).scale j f ∙ ap (scale K plain_cmp j) ((times-linear_right K s f).scale k g) ∙ Operators.scale-scale K j k (times K s f g)

  pub adjoint_clear : (m : Monomial) → MeetsNone s m m → adjoint_monomial K s m ≡ scale K plain_cmp (sign_of K s m) (one_term K m)
  adjoint_clear = by_first (λ m. MeetsNone s m m → adjoint_monomial K s m ≡ scale K plain_cmp (sign_of K s m) (one_term K m))
      (λ c. adjoint_unit K s ∙ sym (ap (λ k. scale K plain_cmp k (one_term K unit)) sign_unit ∙ Operators.scale_one K (one_term K unit)))
      (λ x xl m b ih c.
      adjoint-raise K s (lawful s) x m xl b
      ∙ (λ i. times K s (ih (λ y h k. let a = exponent-raise_any x (coordinate_of (kind_at s y)) m xl in let z = c y h (still_there x y m xl k) in omega arith) i) (letter_adjoint x i))
      ∙ times-scaled (sign_of K s m) (sign K (kind_at s x)) (one_term K m) (one_term K (raise x unit))
      ∙ (λ i. scale K plain_cmp (K.times_comm (sign_of K s m) (sign K (kind_at s x)) i) ((times_one_left K s m (one_term K (raise x unit)) ∙ clear_product m (raise x unit) (λ y h k. meets x y m xl c h k) ∙ ap (one_term K) (turned x m xl)) i))
      ∙ ap (λ k. scale K plain_cmp k (one_term K (raise x m))) (sym (sign-raise x m xl)))
    where
      meets : (x y : ℕ) (m : Monomial) → x < 12 → MeetsNone s (raise x m) (raise x m) → is_acting (kind_at s y) ≡ true → exponent m y ≢ 0 → exponent (raise x unit) (coordinate_of (kind_at s y)) ≡ 0
      meets x y m xl c h k =
          let t = coordinate_of (kind_at s y) in
          let z = c y h (still_there x y m xl k) in
          let a = exponent-raise_any x t m xl in
          let d = exponent-raise_any x t unit xl in
          let u = exponent-unit t in
          omega arith

      turned : (x : ℕ) (m : Monomial) → x < 12 → product m (raise x unit) ≡ raise x m
      turned x m xl = product_comm m (raise x unit) ∙ product-raise x unit m xl ∙ ap (raise x) (product-unit m)

  -- ---- any monomial

  coordinates_meet : (m n : Monomial) → MeetsNone s (coordinate_part s m) n
  coordinates_meet m n x h k = absurd (k (part_out (λ x. is_coordinate (kind_at s x)) m x (acting_apart (kind_at s x) h)))

  letters_meet : (m n : Monomial) → MeetsNone s n (letter_part s m)
  letters_meet m n x h k = part_out (λ x. not (is_coordinate (kind_at s x))) m _ (ap not (coordinate_is s x h))

  pub adjoint_split : (m : Monomial) → adjoint_monomial K s m ≡ scale K plain_cmp (sign_of K s m) (monomial_times K s (letter_part s m) (one_term K (coordinate_part s m)))
  unfolding sign_of unit degree
  adjoint_split m =
      let c = coordinate_part s m in
      let p = letter_part s m in
      sym (adjoint_one K s m)
      ∙ ap (adjoint K s) (ap (one_term K) (sym (split s m)) ∙ sym (clear_product c p (coordinates_meet m p)) ∙ sym (times_one_left K s c (one_term K p)))
      ∙ adjoint-times K s (lawful s) (one_term K c) (one_term K p)
      ∙ (λ i. times K s ((adjoint_one K s p ∙ adjoint_clear p (letters_meet m p) ∙ ap (λ k. scale K plain_cmp k (one_term K p)) (ap (λ n. power K.ring (K.minus K.one) (degree n)) (no_coordinates s m))) i) ((adjoint_one K s c ∙ adjoint_clear c (coordinates_meet m c) ∙ ap (λ n. scale K plain_cmp (power K.ring (K.minus K.one) (degree n)) (one_term K c)) (coordinates_again s m)) i))
      ∙ times-scaled K.one (sign_of K s m) (one_term K p) (one_term K c)
      ∙ (λ i. scale K plain_cmp (Numbers.one_times K (sign_of K s m) i) (times_one_left K s p (one_term K c) i))

  -- ---- operators of the signature

  part_small : (test : ℕ → Bool) (m : Monomial) (y : ℕ) → exponent m y ≤ 0 → exponent (part test m) y ≤ 0
  part_small test m y h = by (test y) refl
    where
      by : (b : Bool) → test y ≡ b → exponent (part test m) y ≤ 0
      by true e = let a = part_in test m y e in omega arith
      by false e = let a = part_out test m y e in omega arith

  monomial_small : (m : Monomial) (y : ℕ) → exponent m y ≤ 0 → AtMost K y 0 (adjoint_monomial K s m)
  monomial_small m y h =
      subst (AtMost K y 0) (sym (adjoint_split m ∙ ap (scale K plain_cmp (sign_of K s m)) (sym (times_one_left K s (letter_part s m) (one_term K (coordinate_part s m))))))
      (most_scale K y 0 (sign_of K s m) _ (times_most K s (lawful s) y 0 0 (one_term K (letter_part s m)) (one_term K (coordinate_part s m))
      (most_single K y 0 (letter_part s m) K.one (part_small _ m y h))
      (most_single K y 0 (coordinate_part s m) K.one (part_small _ m y h))))

  pub of_adjoint : (f : Operator K) → OperatorOf K s f → OperatorOf K s (adjoint K s f)
  unfolding adjoint
  of_adjoint f a = of_clear K s _ (λ y l. most_linear_extension K y 0 0 (adjoint_monomial K s) f (λ m h. monomial_small m y h) (clear_of K s f a y l))
