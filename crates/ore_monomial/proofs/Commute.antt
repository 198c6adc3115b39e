-- The letters as maps of operators, and the relations between them.
--     plain_rule, by_plain            the rule of letters that commute, and what it makes
--     rule x y                        the rule of the letter x over the letter y
--     rule_acting, rule_other, rule_still    which rule that is
--     Agree                           two rules over one coordinate whose letters commute
--     letter-linear                   a letter is a linear map
--     letter_one, letter_still, letter_clear    a letter times a monomial: by definition, where it does not act,
--                                     and where its coordinate does not occur
--     over                            a letter over one that does not act
--     swap                            a letter over any letter before it
use Rattle.std.proofs.Common.{◌≡◌, ◌≢◌, ℕ, suc, ◌<◌, Bool, true, false, refl, sym, ap, ◌∙◌, subst, true≢false, arith}
use native.Mathlib.Decide.{ℕ_discrete}
use Rattle.ore_algebra.specs.Domain.{Domain}
use Rattle.ore_algebra.specs.Free.{plus}
use Rattle.ore_monomial.specs.Monomial.{Monomial, exponent, with_exponent, raise, plain_cmp}
use Rattle.ore_monomial.specs.Signature.{Signature, kind_at, coordinate_of, is_acting, IsLawful}
use Rattle.ore_monomial.specs.Passing.{passings}
use Rattle.ore_monomial.specs.declared.signature.VarKind.{VarKind}
use Rattle.ore_monomial.specs.declared.signature.VarKind.TheVariants.{Coordinate, Constant, Plain, Differential, Shift, Delay}
use Rattle.ore_monomial.specs.LetterRule.{Operator, letter, letter_times}
use Rattle.ore_algebra.proofs.DomainLaws as Numbers
use Rattle.ore_algebra.proofs.Linear.{IsLinear}
use Rattle.ore_monomial.proofs.Monomials.{with_own, exponent-raise, exponent-raise_other, with-raise, raise-with, raise-with_other, raise_comm, by_exponent}
use Rattle.ore_monomial.proofs.Letters.{one_term, pass_sum, collect-passed, passed-linear, passed_same, raised_plain, only_stays, CommutationRule, rule_of, by_rule, passes_none, passes_more, nothing_more}
use Rattle.ore_monomial.proofs.Operators

module _ (K : Domain) where
  abbrev pub plain_rule : CommutationRule K
  plain_rule = record { alpha = K.zero; beta = K.zero; gamma = K.zero }

  rule_of_plain : (k : VarKind) → is_acting k ≡ false → rule_of K k ≡ plain_rule
  rule_of_plain Coordinate e = refl
  rule_of_plain Constant e = refl
  rule_of_plain Plain e = refl
  rule_of_plain (Differential on) e = absurd (true≢false e)
  rule_of_plain (Shift on step) e = absurd (true≢false e)
  rule_of_plain (Delay on step) e = absurd (true≢false e)

  passings_plain : (k : VarKind) (a : ℕ) → is_acting k ≡ false → passings K k a ≡ only_stays K
  unfolding passings only_stays
  passings_plain Coordinate a e = refl
  passings_plain Constant a e = refl
  passings_plain Plain a e = refl
  passings_plain (Differential on) a e = absurd (true≢false e)
  passings_plain (Shift on step) a e = absurd (true≢false e)
  passings_plain (Delay on step) a e = absurd (true≢false e)

  pub by_plain : (a b c d : Operator K) → by_rule K plain_rule a b c d ≡ a
  by_plain a b c d = sym (nothing_more K a b c d)

  pub by_rule-linear : (r : CommutationRule K) {S T U V : Operator K → Operator K} → IsLinear K plain_cmp S → IsLinear K plain_cmp T → IsLinear K plain_cmp U → IsLinear K plain_cmp V → IsLinear K plain_cmp (λ f. by_rule K r (S f) (T f) (U f) (V f))
  unfolding by_rule
  by_rule-linear r a b c d = Operators.linear_plus K a (Operators.linear_plus K (Operators.linear_scale K r.alpha b) (Operators.linear_plus K (Operators.linear_scale K r.beta c) (Operators.linear_scale K r.gamma d)))

  pub linear-by_rule : (r : CommutationRule K) {S : Operator K → Operator K} → IsLinear K plain_cmp S → (a b c d : Operator K) → S (by_rule K r a b c d) ≡ by_rule K r (S a) (S b) (S c) (S d)
  unfolding by_rule
  linear-by_rule r l a b c d = l.plus _ _ ∙ ap (plus K plain_cmp _) (l.plus _ _ ∙ (λ i. plus K plain_cmp (l.scale r.alpha b i) ((l.plus _ _ ∙ (λ j. plus K plain_cmp (l.scale r.beta c j) (l.scale r.gamma d j))) i)))

-- two rules on one coordinate whose letters commute
pub record Agree (K : Domain) (r q : CommutationRule K) : Type 0 where
  pub cross : K.times r.gamma q.alpha ≡ K.zero
  pub cross_back : K.times q.gamma r.alpha ≡ K.zero
  pub level : K.times r.gamma q.beta ≡ K.times q.gamma r.beta

module _ (K : Domain) where
  swap_rules : (r q : CommutationRule K) → Agree K r q → (Z A B f TZ TA TB T : Operator K) → by_rule K q (by_rule K r TZ Z B TB) Z A (by_rule K r TA A f T) ≡ by_rule K r (by_rule K q TZ Z A TA) Z B (by_rule K q TB B f T)
  unfolding by_rule
  swap_rules r q a Z A B f TZ TA TB T = simp (Operators.scale-plus K, Operators.scale-scale K, Operators.plus_assoc K, a.cross, a.cross_back, a.level, Operators.zero_scale K, Operators.zero-plus K, Operators.plus-left_comm K, K.times_comm)

  pub no_gamma : (k : VarKind) → (rule_of K k).gamma ≡ K.zero
  no_gamma Coordinate = refl
  no_gamma Constant = refl
  no_gamma Plain = refl
  no_gamma (Differential on) = refl
  no_gamma (Shift on step) = refl
  no_gamma (Delay on step) = refl

  agree : (r q : CommutationRule K) → r.gamma ≡ K.zero → q.gamma ≡ K.zero → Agree K r q
  agree r q e f = record {
    cross = ap (λ k. K.times k q.alpha) e ∙ Numbers.zero_times K _;
    cross_back = ap (λ k. K.times k r.alpha) f ∙ Numbers.zero_times K _;
    level = ap (λ k. K.times k q.beta) e ∙ Numbers.zero_times K _ ∙ sym (ap (λ k. K.times k r.beta) f ∙ Numbers.zero_times K _);
  }

module _ (K : Domain) (s : Signature) where
  unfoldable pub rule : ℕ → ℕ → CommutationRule K
  rule x y = elim (ℕ_discrete (coordinate_of (kind_at s x)) y) [ yes e ↦ rule_of K (kind_at s x) | no n ↦ plain_rule K ]

  pub rule_acting : (x : ℕ) → rule x (coordinate_of (kind_at s x)) ≡ rule_of K (kind_at s x)
  unfolding rule
  rule_acting x = elim (ℕ_discrete (coordinate_of (kind_at s x)) (coordinate_of (kind_at s x))) as (λ d. elim d [ yes e ↦ rule_of K (kind_at s x) | no n ↦ plain_rule K ] ≡ rule_of K (kind_at s x)) [ yes e ↦ refl | no n ↦ absurd (n refl) ]

  pub rule_other : (x y : ℕ) → coordinate_of (kind_at s x) ≢ y → rule x y ≡ plain_rule K
  unfolding rule
  rule_other x y h = elim (ℕ_discrete (coordinate_of (kind_at s x)) y) as (λ d. elim d [ yes e ↦ rule_of K (kind_at s x) | no n ↦ plain_rule K ] ≡ plain_rule K) [ yes e ↦ absurd (h e) | no n ↦ refl ]

  pub rule_still : (x y : ℕ) → is_acting (kind_at s x) ≡ false → rule x y ≡ plain_rule K
  unfolding rule
  rule_still x y h = elim (ℕ_discrete (coordinate_of (kind_at s x)) y) as (λ d. elim d [ yes e ↦ rule_of K (kind_at s x) | no n ↦ plain_rule K ] ≡ plain_rule K) [ yes e ↦ rule_of_plain K (kind_at s x) h | no n ↦ refl ]

  pub rule_level : (x t : ℕ) → (rule x t).gamma ≡ K.zero
  unfolding rule
  rule_level x t = elim (ℕ_discrete (coordinate_of (kind_at s x)) t) as (λ (d : Dec (coordinate_of (kind_at s x) ≡ t)). (◌≡◌ {A = K.Number} (let r : CommutationRule K = elim d [ yes e ↦ rule_of K (kind_at s x) | no n ↦ plain_rule K ] in r.gamma) K.zero)) [ yes e ↦ no_gamma K (kind_at s x) | no n ↦ refl ]

  rules_agree : (x y t : ℕ) → Agree K (rule x t) (rule y t)
  unfolding rule
  rules_agree x y t = agree K (rule x t) (rule y t) (rule_level x t) (rule_level y t)

  abbrev pub Commute : ℕ → ℕ → Monomial → Type 0
  Commute x y m = letter_times K s x (letter_times K s y (one_term K m)) ≡ letter_times K s y (letter_times K s x (one_term K m))

  pub letter-linear : (x : ℕ) → IsLinear K plain_cmp (letter_times K s x)
  unfolding letter_times
  letter-linear x = Operators.linear_extension-linear K (letter K s x)

  pub letter_one : (x : ℕ) (m : Monomial) → letter_times K s x (one_term K m) ≡ letter K s x m
  unfolding letter_times
  letter_one x m = Operators.linear_extension_one K (letter K s x) m

  letter-passed : (x : ℕ) (m : Monomial) → letter K s x m ≡ pass_sum K (passings K (kind_at s x) (exponent m (coordinate_of (kind_at s x)))) (exponent m (coordinate_of (kind_at s x))) (λ e. one_term K (raise x (with_exponent (coordinate_of (kind_at s x)) e m))) (λ e. one_term K (with_exponent (coordinate_of (kind_at s x)) e m))
  unfolding letter
  letter-passed x m = collect-passed K x (coordinate_of (kind_at s x)) m (passings K (kind_at s x) (exponent m (coordinate_of (kind_at s x))))

  -- a letter that does not act is raised
  pub letter_still : (x : ℕ) (m : Monomial) → is_acting (kind_at s x) ≡ false → letter K s x m ≡ one_term K (raise x m)
  unfolding only_stays
  letter_still x m h =
      let t = coordinate_of (kind_at s x) in
      letter-passed x m
      ∙ ap (λ ps. pass_sum K ps (exponent m t) (λ e. one_term K (raise x (with_exponent t e m))) (λ e. one_term K (with_exponent t e m))) (passings_plain K (kind_at s x) _ h)
      ∙ raised_plain K (exponent m t) _ _ ∙ ap (λ n. one_term K (raise x n)) (with_own t m)

  -- and so is one that has nothing to act on
  pub letter_clear : (x : ℕ) (m : Monomial) → exponent m (coordinate_of (kind_at s x)) ≡ 0 → letter K s x m ≡ one_term K (raise x m)
  letter_clear x m h =
      let t = coordinate_of (kind_at s x) in
      letter-passed x m
      ∙ (λ i. pass_sum K (passings K (kind_at s x) (h i)) (h i) (λ e. one_term K (raise x (with_exponent t e m))) (λ e. one_term K (with_exponent t e m)))
      ∙ passes_none K (kind_at s x) _ _ ∙ ap (λ n. one_term K (raise x n)) (ap (λ e. with_exponent t e m) (sym h) ∙ with_own t m)

module _ (K : Domain) (s : Signature) (lawful : IsLawful s) where
  -- an acting letter over one more of its coordinate
  pub letter-raise_own : (x : ℕ) (m : Monomial) → x < 12 → is_acting (kind_at s x) ≡ true → let t = coordinate_of (kind_at s x) in
      letter K s x (raise t m) ≡ by_rule K (rule_of K (kind_at s x)) (letter_times K s t (letter K s x m)) (letter K s x m) (one_term K m) (one_term K (raise t m))
  letter-raise_own x m xl h =
      let k = kind_at s x in
      let t = coordinate_of k in
      let before : t < x = (lawful x h).0 in
      let tl : t < 12 = omega arith in
      let apart : t ≢ x = omega arith in
      let still : is_acting (kind_at s t) ≡ false = ap is_acting (lawful x h).1 in
      let a = exponent m t in
      let u = λ (e : ℕ). one_term K (raise x (with_exponent t e m)) in
      let v = λ (e : ℕ). one_term K (with_exponent t e m) in
      let up = λ (e : ℕ). letter_one K s t (raise x (with_exponent t e m)) ∙ letter_still K s t _ still ∙ ap (one_term K) (raise_comm t x _ ∙ ap (raise x) (raise-with t e m tl)) in
      let over = λ (e : ℕ). letter_one K s t (with_exponent t e m) ∙ letter_still K s t _ still ∙ ap (one_term K) (raise-with t e m tl) in
      letter-passed K s x (raise t m)
      ∙ (λ i. pass_sum K (passings K k (exponent-raise t m tl i)) (exponent-raise t m tl i) (λ e. one_term K (raise x (with-raise t e m i))) (λ e. one_term K (with-raise t e m i)))
      ∙ passes_more K k a u v
      ∙ (λ i. by_rule K (rule_of K k)
      ((sym (ap (letter_times K s t) (letter-passed K s x m) ∙ passed-linear K (letter-linear K s t) (passings K k a) a u v ∙ passed_same K (passings K k a) a _ _ _ _ up over)) i)
      (sym (letter-passed K s x m) i)
      (one_term K (with_own t m i))
      (one_term K (with_exponent t (suc a) m)))

  -- a letter over one more of a letter that is not its coordinate and does not act
  letter-raise_other : (x y : ℕ) (m : Monomial) → is_acting (kind_at s y) ≡ false → coordinate_of (kind_at s x) ≢ y → letter K s x (raise y m) ≡ letter_times K s y (letter K s x m)
  letter-raise_other x y m still apart =
      let k = kind_at s x in
      let t = coordinate_of k in
      let a = exponent m t in
      let same = exponent-raise_other y t m apart in
      let up = λ (e : ℕ). letter_one K s y (raise x (with_exponent t e m)) ∙ letter_still K s y _ still ∙ ap (one_term K) (raise_comm y x _ ∙ ap (raise x) (raise-with_other t y e m apart)) in
      let over = λ (e : ℕ). letter_one K s y (with_exponent t e m) ∙ letter_still K s y _ still ∙ ap (one_term K) (raise-with_other t y e m apart) in
      letter-passed K s x (raise y m)
      ∙ (λ i. pass_sum K (passings K k (same i)) (same i) (λ e. one_term K (raise x (with_exponent t e (raise y m)))) (λ e. one_term K (with_exponent t e (raise y m))))
      ∙ sym (ap (letter_times K s y) (letter-passed K s x m) ∙ passed-linear K (letter-linear K s y) (passings K k a) a _ _ ∙ passed_same K (passings K k a) a _ _ _ _ up over)

  -- the relation of any letter x with a letter y that does not act
  pub over : (x y : ℕ) → x < 12 → is_acting (kind_at s y) ≡ false → (f : Operator K) → letter_times K s x (letter_times K s y f) ≡ by_rule K (rule K s x y) (letter_times K s y (letter_times K s x f)) (letter_times K s x f) f (letter_times K s y f)
  over x y xl still f = Operators.same_linear K (Operators.linear_after K lx ly) (by_rule-linear K (rule K s x y) (Operators.linear_after K ly lx) lx (Operators.linear_itself K) ly) singles f
    where
      lx : IsLinear K plain_cmp (letter_times K s x)
      lx = letter-linear K s x

      ly : IsLinear K plain_cmp (letter_times K s y)
      ly = letter-linear K s y

      raised : (m : Monomial) → letter_times K s y (one_term K m) ≡ one_term K (raise y m)
      raised m = letter_one K s y m ∙ letter_still K s y m still

      key : (m : Monomial) (b : Bool) → is_acting (kind_at s x) ≡ b → Dec (coordinate_of (kind_at s x) ≡ y) → letter K s x (raise y m) ≡ by_rule K (rule K s x y) (letter_times K s y (letter K s x m)) (letter K s x m) (one_term K m) (one_term K (raise y m))
      key m b h (no n) = letter-raise_other x y m still n ∙ sym (ap (λ r. by_rule K r (letter_times K s y (letter K s x m)) (letter K s x m) (one_term K m) (one_term K (raise y m))) (rule_other K s x y n) ∙ by_plain K _ _ _ _)
      key m true h (yes e) = subst (λ y. letter K s x (raise y m) ≡ by_rule K (rule K s x y) (letter_times K s y (letter K s x m)) (letter K s x m) (one_term K m) (one_term K (raise y m))) e
          (letter-raise_own x m xl h ∙ ap (λ r. by_rule K r (letter_times K s (coordinate_of (kind_at s x)) (letter K s x m)) (letter K s x m) (one_term K m) (one_term K (raise (coordinate_of (kind_at s x)) m))) (sym (rule_acting K s x)))
      key m false h (yes e) =
          letter_still K s x (raise y m) h ∙ ap (one_term K) (raise_comm x y m)
          ∙ sym (ap (letter_times K s y) (letter_still K s x m h) ∙ raised (raise x m))
          ∙ sym (ap (λ r. by_rule K r (letter_times K s y (letter K s x m)) (letter K s x m) (one_term K m) (one_term K (raise y m))) (rule_still K s x y h) ∙ by_plain K _ _ _ _)

      singles : (m : Monomial) → letter_times K s x (letter_times K s y (one_term K m)) ≡ by_rule K (rule K s x y) (letter_times K s y (letter_times K s x (one_term K m))) (letter_times K s x (one_term K m)) (one_term K m) (letter_times K s y (one_term K m))
      singles m =
          ap (letter_times K s x) (raised m) ∙ letter_one K s x (raise y m) ∙ key m (is_acting (kind_at s x)) refl (ℕ_discrete _ _)
          ∙ (λ i. by_rule K (rule K s x y) (letter_times K s y (sym (letter_one K s x m) i)) (sym (letter_one K s x m) i) (one_term K m) (sym (raised m) i))

  -- ---- two acting letters

  still_coordinate : (x : ℕ) → is_acting (kind_at s x) ≡ true → is_acting (kind_at s (coordinate_of (kind_at s x))) ≡ false
  still_coordinate x h = ap is_acting (lawful x h).1

  module _ (x y : ℕ) (xl : x < 12) (yl : y < 12) (hx : is_acting (kind_at s x) ≡ true) (hy : is_acting (kind_at s y) ≡ true) where
    commute_more : (t : ℕ) → is_acting (kind_at s t) ≡ false → (m : Monomial) → Commute K s x y m → Commute K s x y (raise t m)
    commute_more t still m ih =
        let raised : letter_times K s t (one_term K m) ≡ one_term K (raise t m) = letter_one K s t m ∙ letter_still K s t m still in
        subst (λ g. letter_times K s x (letter_times K s y g) ≡ letter_times K s y (letter_times K s x g)) raised (twice x y xl yl ∙ swap_rules K (rule K s x t) (rule K s y t) (rules_agree K s x y t) _ _ _ _ _ _ _ _ ∙ (λ i. by_rule K (rule K s x t) (by_rule K (rule K s y t) (letter_times K s t (ih i)) (ih i) (letter_times K s x f) (letter_times K s t (letter_times K s x f))) (ih i) (letter_times K s y f) (by_rule K (rule K s y t) (letter_times K s t (letter_times K s y f)) (letter_times K s y f) f (letter_times K s t f))) ∙ sym (twice y x yl xl))
      where
        f : Operator K
        f = one_term K m

        twice : (z w : ℕ) → z < 12 → w < 12 → letter_times K s z (letter_times K s w (letter_times K s t f)) ≡ by_rule K (rule K s w t) (by_rule K (rule K s z t) (letter_times K s t (letter_times K s z (letter_times K s w f))) (letter_times K s z (letter_times K s w f)) (letter_times K s w f) (letter_times K s t (letter_times K s w f))) (letter_times K s z (letter_times K s w f)) (letter_times K s z f) (by_rule K (rule K s z t) (letter_times K s t (letter_times K s z f)) (letter_times K s z f) f (letter_times K s t f))
        twice z w zl wl =
            ap (letter_times K s z) (over w t wl still f)
            ∙ linear-by_rule K (rule K s w t) (letter-linear K s z) _ _ _ _
            ∙ (λ i. by_rule K (rule K s w t) (over z t zl still (letter_times K s w f) i) (letter_times K s z (letter_times K s w f)) (letter_times K s z f) (over z t zl still f i))

    apart_coordinate : (z w : ℕ) → is_acting (kind_at s z) ≡ true → is_acting (kind_at s w) ≡ true → coordinate_of (kind_at s z) ≢ w
    apart_coordinate z w hz hw e = true≢false (sym hw ∙ ap (λ v. is_acting (kind_at s v)) (sym e) ∙ still_coordinate z hz)

    commute_clear : (m : Monomial) → exponent m (coordinate_of (kind_at s x)) ≡ 0 → exponent m (coordinate_of (kind_at s y)) ≡ 0 → Commute K s x y m
    commute_clear m ex ey =
        ap (letter_times K s x) (letter_one K s y m ∙ letter_clear K s y m ey) ∙ letter_one K s x _ ∙ letter_clear K s x (raise y m) (exponent-raise_other y _ m (apart_coordinate x y hx hy) ∙ ex)
        ∙ ap (one_term K) (raise_comm x y m)
        ∙ sym (ap (letter_times K s y) (letter_one K s x m ∙ letter_clear K s x m ex) ∙ letter_one K s y _ ∙ letter_clear K s y (raise x m) (exponent-raise_other x _ m (apart_coordinate y x hy hx) ∙ ey))

    commute_all : (m : Monomial) → Commute K s x y m
    commute_all = by_exponent tx txl (Commute K s x y)
        (by_exponent ty tyl (λ m. exponent m tx ≡ 0 → Commute K s x y m) (λ m ey ex. commute_clear m ex ey) (λ m ih ex. commute_more ty (still_coordinate y hy) m (ih (lower_zero m (ℕ_discrete tx ty) ex))))
        (λ m ih. commute_more tx (still_coordinate x hx) m ih)
      where
        tx : ℕ
        tx = coordinate_of (kind_at s x)

        ty : ℕ
        ty = coordinate_of (kind_at s y)

        txl : tx < 12
        txl = let e = (lawful x hx).0 in omega arith

        tyl : ty < 12
        tyl = let e = (lawful y hy).0 in omega arith

        lower_zero : (m : Monomial) → Dec (tx ≡ ty) → exponent (raise ty m) tx ≡ 0 → exponent m tx ≡ 0
        lower_zero m (yes e) ex = let p = exponent-raise ty m tyl in let q : exponent (raise ty m) tx ≡ exponent (raise ty m) ty = ap (exponent (raise ty m)) e in absurd (omega arith)
        lower_zero m (no n) ex = sym (exponent-raise_other ty tx m n) ∙ ex

  -- ---- the relation of any two letters

  pub swap : (x y : ℕ) → x < 12 → y < x → (f : Operator K) → letter_times K s x (letter_times K s y f) ≡ by_rule K (rule K s x y) (letter_times K s y (letter_times K s x f)) (letter_times K s x f) f (letter_times K s y f)
  swap x y xl yx f = by (is_acting (kind_at s y)) (is_acting (kind_at s x)) refl refl
    where
      goal : Type 0
      goal = letter_times K s x (letter_times K s y f) ≡ by_rule K (rule K s x y) (letter_times K s y (letter_times K s x f)) (letter_times K s x f) f (letter_times K s y f)

      commuting : rule K s x y ≡ plain_rule K → letter_times K s x (letter_times K s y f) ≡ letter_times K s y (letter_times K s x f) → goal
      commuting r e = e ∙ sym (ap (λ r. by_rule K r (letter_times K s y (letter_times K s x f)) (letter_times K s x f) f (letter_times K s y f)) r ∙ by_plain K _ _ _ _)

      yl : y < 12
      yl = omega arith

      below : is_acting (kind_at s y) ≡ true → coordinate_of (kind_at s y) ≢ x
      below hy = let e = (lawful y hy).0 in omega arith

      by : (b c : Bool) → is_acting (kind_at s y) ≡ b → is_acting (kind_at s x) ≡ c → goal
      by false c hy hx = over x y xl hy f
      by true false hy hx = commuting (rule_still K s x y hx) (sym (over y x yl hx f ∙ ap (λ r. by_rule K r (letter_times K s x (letter_times K s y f)) (letter_times K s y f) f (letter_times K s x f)) (rule_other K s y x (below hy)) ∙ by_plain K _ _ _ _))
      by true true hy hx = commuting (rule_other K s x y (apart_coordinate x y xl yl hx hy x y hx hy)) (Operators.same_linear K (Operators.linear_after K (letter-linear K s x) (letter-linear K s y)) (Operators.linear_after K (letter-linear K s y) (letter-linear K s x)) (commute_all x y xl yl hx hy) f)
