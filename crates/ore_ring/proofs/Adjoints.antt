-- The adjoint reverses products, and is its own inverse.
--     A                      the adjoint of one letter
--     adjoint-linear         the adjoint is linear
--     adjoint_one            of one monomial; adjoint_unit of the monomial 1
--     adjoint-raise          one more of the first letter comes last
--     adjoint-letter         of a letter times an operator
--     adjoint-times          of a product
--     adjoint-adjoint        the adjoint of the adjoint
use Rattle.std.proofs.Common.{◌≡◌, ℕ, zero, suc, ◌+◌, ◌<◌, ◌≤◌, Bool, true, false, List, [], ◌∷◌, length, get_or, set, replicate, refl, sym, ap, ◌∙◌, subst, true≢false, arith}
use native.Mathlib.Nat
use native.Mathlib.Decide.{dec_lt, ℕ_discrete}
use Rattle.ore_algebra.specs.Domain.{Domain}
use Rattle.ore_algebra.specs.Free.{empty_sum, plus, scale}
use Rattle.ore_monomial.specs.Monomial.{Monomial, exponent, with_exponent, raise, unit, plain_cmp}
use Rattle.ore_monomial.specs.Signature.{Signature, kind_at, coordinate_of, is_acting, IsLawful}
use Rattle.ore_monomial.specs.declared.signature.VarKind.{VarKind}
use Rattle.ore_monomial.specs.declared.signature.VarKind.TheVariants.{Coordinate, Constant, Plain, Differential, Shift, Delay}
use Rattle.ore_monomial.specs.LetterRule.{Operator, letter_times, monomial_times}
use Rattle.ore_ring.specs.Product.{times}
use Rattle.ore_ring.specs.Adjoint.{sign, adjoint_letter_times, adjoint_power_times, adjoint_letters_times, adjoint_monomial, adjoint}
use Rattle.ore_algebra.proofs.DomainLaws as Numbers
use Rattle.ore_algebra.proofs.Linear.{IsLinear}
use Rattle.ore_monomial.proofs.Monomials.{exponent-raise_other, exponent-unit, by_first, IsBelow}
use Rattle.ore_monomial.proofs.Letters.{one_term, by_rule, CommutationRule, rule_of}
use Rattle.ore_monomial.proofs.Commute.{plain_rule, by_plain, no_gamma, rule, rule_other, rule_still, rule_acting, linear-by_rule, letter-linear, letter_one, swap}
use Rattle.ore_monomial.proofs.MonomialProducts.{monomial_unit, monomial-raise, letter_first}
use Rattle.ore_ring.proofs.Product.{times-linear_left, times-linear_right, times_one_left, letter-times, times_assoc, one-times, times-one}
use Rattle.ore_monomial.proofs.Operators

module _ (K : Domain) where
  sign_twice : (k : VarKind) → K.times (sign K k) (sign K k) ≡ K.one
  unfolding sign
  sign_twice Coordinate = Numbers.minus_times K K.one _ ∙ ap K.minus (Numbers.one_times K _) ∙ Numbers.minus_minus K K.one
  sign_twice Constant = K.times_one K.one
  sign_twice Plain = K.times_one K.one
  sign_twice (Differential on) = K.times_one K.one
  sign_twice (Shift on step) = K.times_one K.one
  sign_twice (Delay on step) = K.times_one K.one

  sign_acting : (k : VarKind) → is_acting k ≡ true → sign K k ≡ K.one
  unfolding sign
  sign_acting Coordinate h = absurd (true≢false (sym h))
  sign_acting Constant h = refl
  sign_acting Plain h = refl
  sign_acting (Differential on) h = refl
  sign_acting (Shift on step) h = refl
  sign_acting (Delay on step) h = refl

  sign_coordinate : sign K Coordinate ≡ K.minus K.one
  unfolding sign
  sign_coordinate = refl

  -- to turn the sign of the coordinate turns a rule round
  turned_rule : (r : CommutationRule K) → r.gamma ≡ K.zero → (Z X U Y V : Operator K) → by_rule K r (scale K plain_cmp (K.minus K.one) (by_rule K r Z X U Y)) X U V ≡ scale K plain_cmp (K.minus K.one) Z
  unfolding by_rule
  turned_rule r e Z X U Y V =
      ap (plus K plain_cmp _) (ap (λ f. plus K plain_cmp (scale K plain_cmp r.alpha X) (plus K plain_cmp (scale K plain_cmp r.beta U) f)) (gone V ∙ sym (gone Y)))
      ∙ ap (λ f. plus K plain_cmp f rest) (Operators.scale-plus K _ Z rest)
      ∙ Operators.plus_assoc K _ _ _
      ∙ ap (plus K plain_cmp (scale K plain_cmp (K.minus K.one) Z)) (Operators.plus_comm K _ _ ∙ Operators.plus_opposite K rest)
      ∙ Operators.plus_zero K _
    where
      rest : Operator K
      rest = plus K plain_cmp (scale K plain_cmp r.alpha X) (plus K plain_cmp (scale K plain_cmp r.beta U) (scale K plain_cmp r.gamma Y))

      gone : (W : Operator K) → scale K plain_cmp r.gamma W ≡ empty_sum K plain_cmp
      gone W = ap (λ k. scale K plain_cmp k W) e ∙ Operators.zero_scale K W

module _ (K : Domain) (s : Signature) where
  twice : (z w : ℕ) (f : Operator K) → adjoint_letter_times K s z (adjoint_letter_times K s w f) ≡ scale K plain_cmp (K.times (sign K (kind_at s z)) (sign K (kind_at s w))) (letter_times K s z (letter_times K s w f))
  unfolding adjoint_letter_times
  twice z w f = ap (scale K plain_cmp (sign K (kind_at s z))) ((letter-linear K s z).scale _ _) ∙ Operators.scale-scale K _ _ _

  unsigned : (x : ℕ) → sign K (kind_at s x) ≡ K.one → adjoint_letter_times K s x (one_term K unit) ≡ letter_times K s x (one_term K unit)
  unfolding adjoint_letter_times
  unsigned x e = ap (λ k. scale K plain_cmp k (letter_times K s x (one_term K unit))) e ∙ Operators.scale_one K _

  adjoint_letter-linear : (x : ℕ) → IsLinear K plain_cmp (adjoint_letter_times K s x)
  unfolding adjoint_letter_times
  adjoint_letter-linear x = Operators.linear_scale K (sign K (kind_at s x)) (letter-linear K s x)

  pub adjoint-linear : IsLinear K plain_cmp (adjoint K s)
  unfolding adjoint
  adjoint-linear = Operators.linear_extension-linear K (adjoint_monomial K s)

  pub adjoint_one : (m : Monomial) → adjoint K s (one_term K m) ≡ adjoint_monomial K s m
  unfolding adjoint
  adjoint_one m = Operators.linear_extension_one K (adjoint_monomial K s) m

  letters_none : (x n : ℕ) (g : Operator K) → adjoint_letters_times K s x (replicate n 0) g ≡ g
  unfolding adjoint_letters_times adjoint_power_times
  letters_none x zero g = refl
  letters_none x (suc n) g = letters_none (suc x) n g

  pub adjoint_unit : adjoint_monomial K s unit ≡ one_term K unit
  unfolding adjoint_monomial unit
  adjoint_unit = letters_none 0 12 _

  power_turned : (x n : ℕ) (f : Operator K) → adjoint_power_times K s x (suc n) f ≡ adjoint_power_times K s x n (adjoint_letter_times K s x f)
  unfolding adjoint_power_times
  power_turned x zero f = refl
  power_turned x (suc n) f = ap (adjoint_letter_times K s x) (power_turned x n f)

  letters_set : (es : List ℕ) (x j : ℕ) (g : Operator K) → j < length es → ((y : ℕ) → y < j → get_or es y 0 ≡ 0) → adjoint_letters_times K s x (set es j (suc (get_or es j 0))) g ≡ adjoint_letters_times K s x es (adjoint_letter_times K s (x + j) g)
  unfolding adjoint_letters_times adjoint_power_times
  letters_set [] x j g h b = absurd (omega arith)
  letters_set (a ∷ es) x zero g h b = ap (adjoint_letters_times K s (suc x) es) (power_turned x a g ∙ ap (λ y. adjoint_power_times K s x a (adjoint_letter_times K s y g)) (sym (Nat.add-zero x)))
  letters_set (a ∷ es) x (suc j) g h b =
      let e : suc x + j ≡ x + suc j = omega arith in
      ap (λ n. adjoint_letters_times K s (suc x) (set es j (suc (get_or es j 0))) (adjoint_power_times K s x n g)) (b 0 (omega arith))
      ∙ blank g
      ∙ letters_set es (suc x) j g (omega arith) (λ y l. b (suc y) (omega arith))
      ∙ (λ i. adjoint_letters_times K s (suc x) es (adjoint_letter_times K s (e i) g))
      ∙ sym (ap (λ n. adjoint_letters_times K s (suc x) es (adjoint_power_times K s x n (adjoint_letter_times K s (x + suc j) g))) (b 0 (omega arith)) ∙ blank_after)
    where
      blank : (g : Operator K) → adjoint_letters_times K s (suc x) (set es j (suc (get_or es j 0))) (adjoint_power_times K s x 0 g) ≡ adjoint_letters_times K s (suc x) (set es j (suc (get_or es j 0))) g
      blank g = refl

      blank_after : adjoint_letters_times K s (suc x) es (adjoint_power_times K s x 0 (adjoint_letter_times K s (x + suc j) g)) ≡ adjoint_letters_times K s (suc x) es (adjoint_letter_times K s (x + suc j) g)
      blank_after = refl

module _ (K : Domain) (s : Signature) (lawful : IsLawful s) where
  abbrev pub A : ℕ → Operator K
  A x = adjoint_letter_times K s x (one_term K unit)

  adjoint_letter_pass : (x : ℕ) → x < 12 → (f g : Operator K) → times K s (adjoint_letter_times K s x f) g ≡ adjoint_letter_times K s x (times K s f g)
  unfolding adjoint_letter_times
  adjoint_letter_pass x h f g = (times-linear_left K s g).scale _ _ ∙ ap (scale K plain_cmp (sign K (kind_at s x))) (letter-times K s lawful x h f g)

  power_pass : (x n : ℕ) → x < 12 → (f g : Operator K) → times K s (adjoint_power_times K s x n f) g ≡ adjoint_power_times K s x n (times K s f g)
  unfolding adjoint_power_times
  power_pass x zero h f g = refl
  power_pass x (suc n) h f g = adjoint_letter_pass x h _ g ∙ ap (adjoint_letter_times K s x) (power_pass x n h f g)

  letters_pass : (es : List ℕ) (x : ℕ) → x + length es ≤ 12 → (f g : Operator K) → times K s (adjoint_letters_times K s x es f) g ≡ adjoint_letters_times K s x es (times K s f g)
  unfolding adjoint_letters_times
  letters_pass [] x h f g = refl
  letters_pass (a ∷ es) x h f g = letters_pass es (suc x) (omega arith) _ g ∙ ap (adjoint_letters_times K s (suc x) es) (power_pass x a (omega arith) f g)

  -- one more of the first letter comes last
  pub adjoint-raise : (x : ℕ) (m : Monomial) → x < 12 → IsBelow x m → adjoint_monomial K s (raise x m) ≡ times K s (adjoint_monomial K s m) (A x)
  unfolding adjoint_monomial with_exponent exponent
  adjoint-raise x m h b =
      letters_set K s m.exponents 0 x _ (subst (λ n. x < n) (sym m.twelve) h) b
      ∙ ap (λ y. adjoint_letters_times K s 0 m.exponents (adjoint_letter_times K s y (one_term K unit))) (Nat.zero-add x)
      ∙ sym (letters_pass m.exponents 0 (let e = m.twelve in omega arith) (one_term K unit) (A x) ∙ ap (adjoint_letters_times K s 0 m.exponents) (one-times K s lawful (A x)))

  -- the adjoints of two letters meet the same relation, the other way round
  adjoint_swap : (x y : ℕ) → x < 12 → y < x → times K s (A y) (A x) ≡ by_rule K (rule K s x y) (times K s (A x) (A y)) (A x) (one_term K unit) (A y)
  adjoint_swap x y xl yx = by (ℕ_discrete (coordinate_of (kind_at s x)) y) (is_acting (kind_at s x)) refl
    where
      one : Operator K
      one = one_term K unit

      two : (z w : ℕ) → z < 12 → times K s (A z) (A w) ≡ scale K plain_cmp (K.times (sign K (kind_at s z)) (sign K (kind_at s w))) (letter_times K s z (letter_times K s w one))
      two z w zl = adjoint_letter_pass z zl one (A w) ∙ ap (adjoint_letter_times K s z) (one-times K s lawful (A w)) ∙ twice K s z w one

      goal : CommutationRule K → Type 0
      goal r = times K s (A y) (A x) ≡ by_rule K r (times K s (A x) (A y)) (A x) one (A y)

      ordered : (r : CommutationRule K) → rule K s x y ≡ r → letter_times K s x (letter_times K s y one) ≡ by_rule K r (letter_times K s y (letter_times K s x one)) (letter_times K s x one) one (letter_times K s y one)
      ordered r e = swap K s lawful x y xl yx one ∙ ap (λ r. by_rule K r (letter_times K s y (letter_times K s x one)) (letter_times K s x one) one (letter_times K s y one)) e

      plain : rule K s x y ≡ plain_rule K → goal (rule K s x y)
      plain e = two y x (omega arith) ∙ (λ i. scale K plain_cmp (K.times_comm (sign K (kind_at s y)) (sign K (kind_at s x)) i) (sym (ordered (plain_rule K) e ∙ by_plain K _ _ _ _) i)) ∙ sym (two x y xl) ∙ sym (ap (λ r. by_rule K r (times K s (A x) (A y)) (A x) one (A y)) e ∙ by_plain K _ _ _ _)

      by : Dec (coordinate_of (kind_at s x) ≡ y) → (c : Bool) → is_acting (kind_at s x) ≡ c → goal (rule K s x y)
      by (no n) c h = plain (rule_other K s x y n)
      by (yes e) false h = plain (rule_still K s x y h)
      by (yes e) true h =
          let r = rule_of K (kind_at s x) in
          let is : rule K s x y ≡ r = ap (rule K s x) (sym e) ∙ rule_acting K s x in
          let sx : sign K (kind_at s x) ≡ K.one = sign_acting K (kind_at s x) h in
          let sy : sign K (kind_at s y) ≡ K.minus K.one = ap (λ z. sign K (kind_at s z)) (sym e) ∙ ap (sign K) (lawful x h).1 ∙ sign_coordinate K in
          two y x (omega arith) ∙ ap (λ k. scale K plain_cmp k (letter_times K s y (letter_times K s x one))) ((λ i. K.times (sy i) (sx i)) ∙ K.times_one _)
          ∙ sym (ap (λ q. by_rule K q (times K s (A x) (A y)) (A x) one (A y)) is
          ∙ (λ i. by_rule K r ((two x y xl ∙ (λ j. scale K plain_cmp (K.times (sx j) (sy j)) (ordered r is j)) ∙ ap (λ k. scale K plain_cmp k (by_rule K r (letter_times K s y (letter_times K s x one)) (letter_times K s x one) one (letter_times K s y one))) (Numbers.one_times K _)) i) (unsigned K s x sx i) one (A y))
          ∙ turned_rule K r (no_gamma K (kind_at s x)) _ _ _ _ _)

  Reverses : ℕ → Type 0
  Reverses x = (f : Operator K) → adjoint K s (letter_times K s x f) ≡ times K s (adjoint K s f) (A x)

  reverses_next : (x : ℕ) → x < 12 → ((y : ℕ) → y < x → Reverses y) → Reverses x
  unfolding Reverses
  reverses_next x xl before f = Operators.same_linear K (Operators.linear_after K (adjoint-linear K s) (letter-linear K s x)) (Operators.linear_after K (times-linear_left K s (A x)) (adjoint-linear K s)) (by_first P at_unit more) f
    where
      P : Monomial → Type 0
      P m = adjoint K s (letter_times K s x (one_term K m)) ≡ times K s (adjoint K s (one_term K m)) (A x)

      first : (m : Monomial) → IsBelow x m → P m
      first m b = ap (adjoint K s) (letter_one K s x m ∙ letter_first K s lawful x m b) ∙ adjoint_one K s (raise x m) ∙ adjoint-raise x m xl b ∙ ap (λ h. times K s h (A x)) (sym (adjoint_one K s m))

      at_unit : P unit
      at_unit = first unit (λ y l. exponent-unit y)

      later : (y : ℕ) → y < x → (m : Monomial) → IsBelow y m → P m → P (raise y m)
      later y yx m b ih =
          let f = one_term K m in
          let r = rule K s x y in
          let is : letter_times K s y f ≡ one_term K (raise y m) = letter_one K s y m ∙ letter_first K s lawful y m b in
          subst (λ f. adjoint K s (letter_times K s x f) ≡ times K s (adjoint K s f) (A x)) is
          (ap (adjoint K s) (swap K s lawful x y xl yx f)
          ∙ linear-by_rule K r (adjoint-linear K s) _ _ _ _
          ∙ (λ i. by_rule K r ((before y yx (letter_times K s x f) ∙ ap (λ h. times K s h (A y)) ih ∙ times_assoc K s lawful _ _ _) i) (ih i) (sym (times-one K s lawful (adjoint K s f)) i) (before y yx f i))
          ∙ sym (linear-by_rule K r (times-linear_right K s (adjoint K s f)) _ _ _ _)
          ∙ ap (times K s (adjoint K s f)) (sym (adjoint_swap x y xl yx))
          ∙ sym (times_assoc K s lawful _ _ _)
          ∙ ap (λ h. times K s h (A x)) (sym (before y yx f)))

      more : (y : ℕ) → y < 12 → (m : Monomial) → IsBelow y m → P m → P (raise y m)
      more y yl m b ih = by (dec_lt y x)
        where
          by : Dec (y < x) → P (raise y m)
          by (yes l) = later y l m b ih
          by (no n) = first (raise y m) (λ z l. let lt : z < y = omega arith in exponent-raise_other y z m (omega arith) ∙ b z lt)

  reverses_at : (n x : ℕ) → n < 12 → x < suc n → ((y : ℕ) → y < n → Reverses y) → Dec (x < n) → Reverses x
  reverses_at n x h l before (yes k) = before x k
  reverses_at n x h l before (no k) = let e : n ≡ x = omega arith in subst Reverses e (reverses_next n h before)

  reverses_below : (n : ℕ) → n ≤ 12 → (x : ℕ) → x < n → Reverses x
  reverses_below zero h x l = absurd (omega arith)
  reverses_below (suc n) h x l = reverses_at n x h l (reverses_below n (omega arith)) (dec_lt x n)

  pub adjoint-letter : (x : ℕ) → x < 12 → (f : Operator K) → adjoint K s (letter_times K s x f) ≡ times K s (adjoint K s f) (A x)
  unfolding Reverses
  adjoint-letter x h = reverses_below 12 (omega arith) x h

  adjoint-monomial_times : (m : Monomial) (g : Operator K) → adjoint K s (monomial_times K s m g) ≡ times K s (adjoint K s g) (adjoint_monomial K s m)
  adjoint-monomial_times m g = by_first (λ m. adjoint K s (monomial_times K s m g) ≡ times K s (adjoint K s g) (adjoint_monomial K s m))
      (ap (adjoint K s) (monomial_unit K s g) ∙ sym (ap (times K s (adjoint K s g)) (adjoint_unit K s) ∙ times-one K s lawful _))
      (λ x xl m b ih. ap (adjoint K s) (monomial-raise K s x m g xl b) ∙ adjoint-letter x xl _ ∙ ap (λ h. times K s h (A x)) ih ∙ times_assoc K s lawful _ _ _ ∙ ap (times K s (adjoint K s g)) (sym (adjoint-raise x m xl b)))
      m

  -- the adjoint reverses products
  pub adjoint-times : (f g : Operator K) → adjoint K s (times K s f g) ≡ times K s (adjoint K s g) (adjoint K s f)
  adjoint-times f g = Operators.same_linear K
      (Operators.linear_after K (adjoint-linear K s) (times-linear_left K s g))
      (Operators.linear_after K (times-linear_right K s (adjoint K s g)) (adjoint-linear K s))
      (λ m. ap (adjoint K s) (times_one_left K s m g) ∙ adjoint-monomial_times m g ∙ ap (times K s (adjoint K s g)) (sym (adjoint_one K s m))) f

  adjoint_letter_back : (x : ℕ) → x < 12 → (f : Operator K) → times K s (adjoint K s (A x)) f ≡ letter_times K s x f
  unfolding adjoint_letter_times
  adjoint_letter_back x h f =
      let X = letter_times K s x (one_term K unit) in
      let k = sign K (kind_at s x) in
      ap (λ g. times K s g f) ((adjoint-linear K s).scale k X
      ∙ ap (scale K plain_cmp k) (adjoint-letter x h (one_term K unit) ∙ ap (λ g. times K s g (A x)) (adjoint_one K s unit ∙ adjoint_unit K s) ∙ one-times K s lawful (A x))
      ∙ Operators.scale-scale K k k X ∙ ap (λ j. scale K plain_cmp j X) (sign_twice K (kind_at s x)) ∙ Operators.scale_one K X)
      ∙ letter-times K s lawful x h (one_term K unit) f ∙ ap (letter_times K s x) (one-times K s lawful f)

  pub adjoint-adjoint : (f : Operator K) → adjoint K s (adjoint K s f) ≡ f
  adjoint-adjoint f = Operators.same_linear K (Operators.linear_after K (adjoint-linear K s) (adjoint-linear K s)) (Operators.linear_itself K)
      (by_first (λ m. adjoint K s (adjoint K s (one_term K m)) ≡ one_term K m)
      (ap (adjoint K s) (adjoint_one K s unit ∙ adjoint_unit K s) ∙ adjoint_one K s unit ∙ adjoint_unit K s)
      (λ x xl m b ih. ap (adjoint K s) (adjoint_one K s (raise x m) ∙ adjoint-raise x m xl b) ∙ adjoint-times _ _ ∙ adjoint_letter_back x xl _ ∙ ap (letter_times K s x) (ap (adjoint K s) (sym (adjoint_one K s m)) ∙ ih) ∙ letter_one K s x m ∙ letter_first K s lawful x m b))
      f
