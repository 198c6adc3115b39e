-- What the code of adjoints computes.
--     Before, Rest            the exponents that are written; the others are 0
--     step_in, step_out       one more variable is looked at
--     part_is, part_small     all written, they are the coordinate part, and its degree is small
--     letters_are             the rest of the monomial is its letter part
--     even_power, odd_power   powers of -1
--     adjoint_made, adjoint_stops, adjoint_of    an adjoint, from the contributions of its terms
use Rattle.std.proofs.Common.{◌≡◌, ◌≢◌, ℕ, zero, suc, ◌+◌, ◌-◌, ◌%◌, ◌<◌, ◌≤◌, Bool, true, false, not, cond, List, [], length, get_or, set, pos, refl, sym, ap, ◌∙◌, subst, arith, get_or-set_same, get_or-set_other}
use Rattle.std.specs.Prelude.{IfOk}
use Rattle.std.specs.declared.result.Result.{Result}
use Rattle.std.specs.declared.result.Result.TheVariants.{Ok, Err}
use Rattle.std.specs.List.{sum}
use native.Mathlib.Decide.{ℕ_discrete}
use Rattle.ore_algebra.specs.Free.{empty_sum}
use Rattle.ore_algebra.specs.Limits.{Cause, program, ◌>>=◌, fold_within}
use Rattle.ore_algebra.specs.Ring.{power}
use Rattle.ore_algebra.proofs.DomainLaws as Numbers
use Rattle.ore_rational.specs.Fraction.{Fraction, whole, mul, neg}
use Rattle.ore_rational.specs.Field.{rationals}
use Rattle.ore_monomial.specs.Monomial.{Monomial, monomial_of, exponent, degree, quotient, Divides, plain_cmp}
use Rattle.ore_monomial.specs.MonomialCode.{twelve_numbers}
use Rattle.ore_monomial.specs.Signature.{Signature, kind_at, is_coordinate}
use Rattle.ore_monomial.specs.LetterRule.{Operator}
use Rattle.ore_monomial.specs.declared.stop.RingStop.{RingStop}
use Rattle.ore_monomial.specs.Gives.{Gives}
use Rattle.ore_monomial.proofs.Divisors.{degree-divides}
use Rattle.ore_monomial.proofs.Monomials.{same_exponents, seen_exponent, exponent-quotient, degree-product, exponent-degree}
use Rattle.ore_ring.specs.AdjointWithin.{part, coordinate_part, letter_part, adjoint_term_within, adjoint_within}
use Rattle.ore_ring.specs.Belongs.{Belongs, OperatorOf}
use Rattle.ore_ring.specs.Contributions.{add_terms_within, push_adjoint}
use Rattle.ore_ring.specs.Ordered.{Ordered}
use Rattle.ore_ring.specs.Terms.{Terms, falling}
use Rattle.ore_ring.proofs.AdjointLaws.{adjoint_value}
use Rattle.ore_ring.proofs.AdjointParts.{exponent-part, part_in, part_out, split, of_adjoint}
use Rattle.ore_ring.proofs.Contributed.{adjoint_collected}
use Rattle.ore_ring.proofs.OpSums.{minus_one_times}

module _ (s : Signature) (m : Monomial) where
  abbrev pub Before : ℕ → List ℕ → Type 0
  Before k values = (j : ℕ) → j < k → get_or values j 0 ≡ cond (is_coordinate (kind_at s j)) (exponent m j) 0

  abbrev pub Rest : ℕ → List ℕ → Type 0
  Rest k values = (j : ℕ) → k ≤ j → get_or values j 0 ≡ 0

  pub step_in : (k : ℕ) (values : List ℕ) (v : ℕ) → k < length values → is_coordinate (kind_at s k) ≡ true → v ≡ exponent m k → Before k values → Rest k values → Before (k + 1) (set values k v) × Rest (k + 1) (set values k v)
  step_in k values v l h e b r = (λ j t. by j t (ℕ_discrete j k), λ j t. let ne : j ≢ k = omega arith in rw get_or-set_other (r j (omega arith)))
    where
      by : (j : ℕ) → j < k + 1 → Dec (j ≡ k) → get_or (set values k v) j 0 ≡ cond (is_coordinate (kind_at s j)) (exponent m j) 0
      by j t (yes f) = subst (λ i. get_or (set values k v) i 0 ≡ cond (is_coordinate (kind_at s i)) (exponent m i) 0) (sym f) (rw get_or-set_same (e ∙ sym (ap (λ c. cond c (exponent m k) 0) h)))
      by j t (no n) = rw get_or-set_other (b j (omega arith))

  pub step_out : (k : ℕ) (values : List ℕ) → is_coordinate (kind_at s k) ≡ false → Before k values → Rest k values → Before (k + 1) values × Rest (k + 1) values
  step_out k values h b r = (λ j t. by j t (ℕ_discrete j k), λ j t. r j (omega arith))
    where
      by : (j : ℕ) → j < k + 1 → Dec (j ≡ k) → get_or values j 0 ≡ cond (is_coordinate (kind_at s j)) (exponent m j) 0
      by j t (yes f) = subst (λ i. get_or values i 0 ≡ cond (is_coordinate (kind_at s i)) (exponent m i) 0) (sym f) (r k (omega arith) ∙ sym (ap (λ c. cond c (exponent m k) 0) h))
      by j t (no n) = b j (omega arith)

  pub part_is : (values : List ℕ) → length values ≡ 12 → Before 12 values → monomial_of values ≡ coordinate_part s m
  part_is values l b = same_exponents _ _ (λ x h. seen_exponent values x l ∙ b x h ∙ sym (exponent-part (λ x. is_coordinate (kind_at s x)) m x))

  coordinates_divide : Divides (coordinate_part s m) m
  coordinates_divide x = by (is_coordinate (kind_at s x)) refl
    where
      by : (b : Bool) → is_coordinate (kind_at s x) ≡ b → exponent (coordinate_part s m) x ≤ exponent m x
      by true e = let a = part_in (λ x. is_coordinate (kind_at s x)) m x e in omega arith
      by false e = let a = part_out (λ x. is_coordinate (kind_at s x)) m x e in omega arith

  pub part_divides : (c : Monomial) → c ≡ coordinate_part s m → Divides c m
  part_divides c e = subst (λ n. Divides n m) (sym e) coordinates_divide

  pub part_small : (values : List ℕ) → length values ≡ 12 → Before 12 values → degree m ≤ 32767 → sum values ≤ 32767
  unfolding degree
  part_small values l b h =
      let e : sum (monomial_of values).exponents ≡ sum values = ap sum (twelve_numbers values l) in
      let d = degree-divides (monomial_of values) m (part_divides (monomial_of values) (part_is values l b)) in
      omega arith

  pub letters_are : (c : Monomial) → c ≡ coordinate_part s m → quotient m c ≡ letter_part s m
  letters_are c f = ap (quotient m) f ∙ same_exponents _ _ (λ x l. exponent-quotient m (coordinate_part s m) x ∙ by (is_coordinate (kind_at s x)) x refl)
    where
      by : (b : Bool) (x : ℕ) → is_coordinate (kind_at s x) ≡ b → exponent m x - exponent (coordinate_part s m) x ≡ exponent (letter_part s m) x
      by true x e = let a = part_in (λ x. is_coordinate (kind_at s x)) m x e in let b = part_out (λ x. not (is_coordinate (kind_at s x))) m x (ap not e) in omega arith
      by false x e = let a = part_out (λ x. is_coordinate (kind_at s x)) m x e in let b = part_in (λ x. not (is_coordinate (kind_at s x))) m x (ap not e) in omega arith

  pub parts_small : (c p : Monomial) → c ≡ coordinate_part s m → p ≡ letter_part s m → degree m ≤ 32767 → degree p + degree c ≤ 32767
  parts_small c p e f h =
      let d = degree-product (coordinate_part s m) (letter_part s m) in
      let g = ap degree (split s m) in
      let x = ap degree e in
      let y = ap degree f in
      omega arith

  -- a monomial of degree 0 is both its parts
  pub part_one : (test : ℕ → Bool) → degree m ≡ 0 → m ≡ part test m
  part_one test h = same_exponents m (part test m) (λ x l. by (test x) x refl)
    where
      by : (b : Bool) (x : ℕ) → test x ≡ b → exponent m x ≡ exponent (part test m) x
      by true x e = sym (part_in test m x e)
      by false x e = let a = part_out test m x e in let d = exponent-degree m x in omega arith

-- ---- powers of -1

abbrev pub power_times : ℕ → Fraction → Fraction
power_times n x = mul (power rationals.ring (neg (whole (pos 1))) n) x

power_next : (n : ℕ) (x : Fraction) → power_times (suc n) x ≡ neg (power_times n x)
power_next n x = rationals.times_assoc (neg (whole (pos 1))) (power rationals.ring (neg (whole (pos 1))) n) x ∙ minus_one_times (power_times n x)

signs : (n : ℕ) (x : Fraction) → (n % 2 ≡ 0 → power_times n x ≡ x) × (n % 2 ≢ 0 → power_times n x ≡ neg x)
signs zero x = (λ h. Numbers.one_times rationals x, λ h. absurd (h refl))
signs (suc n) x =
    let ih = signs n x in (
      λ h. power_next n x ∙ ap neg (ih.1 (λ z. omega arith)) ∙ Numbers.minus_minus rationals x,
      λ h. power_next n x ∙ ap neg (ih.0 (omega arith)),
    )

pub even_power : (n : ℕ) (x : Fraction) → n % 2 ≡ 0 → power_times n x ≡ x
even_power n x = (signs n x).0

pub odd_power : (n : ℕ) (x : Fraction) → n % 2 ≢ 0 → power_times n x ≡ neg x
odd_power n x = (signs n x).1

-- ---- an adjoint, from the contributions of its terms

module _ (s : Signature) (v : Ordered) (ts : Terms) (te : ts ≡ falling v.by v.sum) (vo : Belongs s v) where
  chosen : (z : Operator rationals) → z ≡ empty_sum rationals plain_cmp → adjoint_within program s v.sum ≡ fold_within (adjoint_term_within program s) z ts
  unfolding adjoint_within
  chosen z n = λ i. fold_within (adjoint_term_within program s) (sym n i) (sym (te ∙ ap (λ o. falling o v.sum) vo.order) i)

  collected : adjoint_within program s v.sum ≡ (fold_within (push_adjoint program s) [] ts >>= add_terms_within program (empty_sum rationals plain_cmp))
  collected = chosen (empty_sum rationals plain_cmp) refl ∙ sym (adjoint_collected program s ts)

  pub adjoint_stops : (c : Cause) (z : Terms) → z ≡ [] → fold_within (push_adjoint program s) z ts ≡ Err c → adjoint_within program s v.sum ≡ Err c
  adjoint_stops c z n h = collected ∙ ap (λ r. r >>= add_terms_within program (empty_sum rationals plain_cmp)) (ap (λ z. fold_within (push_adjoint program s) z ts) (sym n) ∙ h)

  pub adjoint_made : (z out : Terms) → z ≡ [] → fold_within (push_adjoint program s) z ts ≡ Ok out → adjoint_within program s v.sum ≡ add_terms_within program (empty_sum rationals plain_cmp) out
  adjoint_made z out n h = collected ∙ ap (λ r. r >>= add_terms_within program (empty_sum rationals plain_cmp)) (ap (λ z. fold_within (push_adjoint program s) z ts) (sym n) ∙ h)

  pub adjoint_belongs : (x : Ordered) → x.by ≡ v.by → adjoint_within program s v.sum ≡ Ok x.sum → Belongs s x
  adjoint_belongs x b e = record { order = b ∙ vo.order; variables = subst (OperatorOf rationals s) (sym (adjoint_value program s v.sum x.sum e)) (of_adjoint rationals s v.sum vo.variables) }

  pub adjoint_of : (r : Result Ordered RingStop) → Gives (λ x. x.sum) r (adjoint_within program s v.sum) → IfOk r (λ x. x.by ≡ v.by) → IfOk r (Belongs s)
  adjoint_of (Ok x) e b = adjoint_belongs x b e
  adjoint_of (Err c) e b = tt
