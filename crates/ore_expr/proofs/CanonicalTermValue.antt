-- The value of the tree of a term: the term without its sign.
--     size             a fraction without its sign
--     magnitude_value  the value of its tree
--     term_gives       the value of the tree of a term
use Rattle.std.proofs.Common.{◌≡◌, ◌≢◌, ℕ, zero, suc, ◌+◌, ◌<◌, ◌≤◌, ◌^◌, Bool, true, false, List, [], ◌∷◌, length, get_or, ℤ, pos, negsuc, nat_abs, refl, sym, ap, ◌∙◌, subst, arith, zero-add}
use Rattle.std.specs.Prelude.{nat_eq, if◌then◌else◌, decimal}
use Rattle.std.specs.declared.option.Option.TheVariants.{Some}
use Rattle.std.specs.Option.{unwrap_or}
use Rattle.std.specs.declared.result.Result.{Result}
use Rattle.std.specs.declared.result.Result.TheVariants.{Ok}
use Rattle.std.specs.List.{sum}
use Rattle.std.proofs.lemmas.Bool.Decides.{nat_tests}
use Rattle.ore_algebra.specs.Free.{single}
use Rattle.ore_algebra.specs.Limits.{Cause, program, ◌>>=◌}
use Rattle.ore_rational.specs.Fraction.{Fraction, whole, reduce}
use Rattle.ore_rational.specs.Field.{rationals}
use Rattle.ore_rational.specs.FractionRing.{one_apart, zero-num, same, is_self, reduce_is}
use Rattle.ore_rational.proofs.FractionLaws.{same_parts}
use Rattle.ore_monomial.specs.Monomial.{Monomial, exponent, degree, unit, with_exponent, product, plain_cmp}
use Rattle.ore_monomial.specs.Signature.{Signature, MonomialOf}
use Rattle.ore_monomial.specs.LetterRule.{Operator}
use Rattle.ore_monomial.proofs.Monomials.{exponent_past, product-unit}
use Rattle.ore_ring.specs.Terms.{Summand as OneTerm}
use Rattle.ore_ring.specs.Within.{times_within}
use Rattle.ore_ring.proofs.Falls.{left_true, right_true}
use Rattle.ore_expr.specs.Grammar.{Term, Alone, Product, Factor, Bare, Power, Whole, Quotient, Variable}
use Rattle.ore_expr.specs.Faults.{index_of}
use Rattle.ore_expr.specs.Values.{power_of_variable, variable_index, term_value, factor_value, atom_value}
use Rattle.ore_text.specs.CanonicalText.{is_one}
use Rattle.ore_expr.specs.Laws.{IsStorableTerm}
use Rattle.ore_expr.proofs.CanonicalTree.{factor_trees, product_tree, magnitude_tree, with_trees, term_tree, numeral, head_small, small_sum}
use Rattle.ore_expr.proofs.CanonicalFaults.{IsIndexed}
use Rattle.ore_expr.proofs.CanonicalProducts.{IsSmallFraction, IsPart, part_unit, part_skip, part_whole, part_more, step_times}

-- ---- the magnitude

abbrev pub size : Fraction → Fraction
size q = record { num = pos (nat_abs q.num); den = q.den; positive = q.positive; reduced = q.reduced }

size_small : (q : Fraction) → nat_abs q.num < 2 ^ 127 → q.den < 2 ^ 127 → IsSmallFraction (size q)
size_small q h k = record { numerator = h; denominator = k }

zero_abs : (z : ℤ) → nat_abs z ≡ 0 → z ≡ pos 0
zero_abs (pos n) e = ap pos e
zero_abs (negsuc n) e = absurd (omega arith)

size_apart : (q : Fraction) → q ≢ whole (pos 0) → size q ≢ whole (pos 0)
size_apart q n e = n (zero-num q (zero_abs q.num (ap (λ p. nat_abs p.num) e)))

eq_true : (a b : ℕ) → nat_eq a b ≡ true → a ≡ b
eq_true a b h = grind (arith, nat_tests)

size_whole : (q : Fraction) → nat_eq q.den 1 ≡ true → whole (pos (nat_abs q.num)) ≡ size q
size_whole q h = same_parts (whole (pos (nat_abs q.num))) (size q) refl (ap pos (sym (eq_true q.den 1 h)))

size_reduced : (q : Fraction) → reduce (pos (nat_abs q.num)) q.den ≡ size q
size_reduced q = same (reduce_is (pos (nat_abs q.num)) q.den q.positive) (is_self (size q)) refl

size_one : (q : Fraction) → is_one q ≡ true → whole (pos 1) ≡ size q
size_one q h = same_parts (whole (pos 1)) (size q) (ap pos (sym (eq_true (nat_abs q.num) 1 (left_true _ _ h)))) (ap pos (sym (eq_true q.den 1 (right_true _ _ h))))

module _ (s : Signature) (all : List (List ℕ)) where
  abbrev value : Term → Result (Operator rationals) Cause
  value t = term_value program s all t

  magnitude_value : (q : Fraction) → nat_abs q.num < 2 ^ 127 → q.den < 2 ^ 127 → value (Alone (Bare (magnitude_tree q))) ≡ Ok (single rationals plain_cmp unit (size q))
  unfolding term_value factor_value atom_value
  magnitude_value q h k = by (nat_eq q.den 1) refl
    where
      by : (b : Bool) → nat_eq q.den 1 ≡ b → atom_value program s all (if b then Whole (decimal (nat_abs q.num)) else Quotient (decimal (nat_abs q.num)) (decimal q.den)) ≡ Ok (single rationals plain_cmp unit (size q))
      by true e = ap (λ n. Ok (single rationals plain_cmp unit (whole (pos n)))) (numeral (nat_abs q.num) h).1 ∙ ap (λ p. Ok (single rationals plain_cmp unit p)) (size_whole q e)
      by false e = (λ i. Ok (single rationals plain_cmp unit (reduce (pos ((numeral (nat_abs q.num) h).1 i)) ((numeral q.den k).1 i)))) ∙ ap (λ p. Ok (single rationals plain_cmp unit p)) (size_reduced q)

  -- ---- factors

  FactorGives : Factor → ℕ → ℕ → Type 0
  FactorGives f x e = factor_value program s all f ≡ Ok (single rationals plain_cmp (with_exponent x e unit) (whole (pos 1)))

  index_is : (name : List ℕ) (x : ℕ) → index_of all name ≡ Some x → variable_index all name ≡ x
  index_is name x e = ap (λ o. unwrap_or o 0) e

  variable_gives : (name : List ℕ) (x : ℕ) → index_of all name ≡ Some x → FactorGives (Bare (Variable name)) x 1
  unfolding FactorGives factor_value atom_value power_of_variable
  variable_gives name x e = ap (λ y. Ok (single rationals plain_cmp (with_exponent y 1 unit) (whole (pos 1)))) (index_is name x e)

  power_gives : (name : List ℕ) (x e : ℕ) → e ≤ 32767 → index_of all name ≡ Some x → FactorGives (Power (Variable name) (decimal e)) x e
  unfolding FactorGives factor_value atom_value power_of_variable
  power_gives name x e h k = λ i. Ok (single rationals plain_cmp (with_exponent (index_is name x k i) ((numeral e (omega arith)).1 i) unit) (whole (pos 1)))

  module _ (M : Monomial) (of : MonomialOf s M) (most : degree M ≤ 32767) where
    -- names and exponents that are left, from the variable x on
    record IsLeft (x : ℕ) (names : List (List ℕ)) (es : List ℕ) : Type 0 where
      indexed : IsIndexed all x names
      names_end : x + length names ≡ length s.kinds
      exponents_end : x + length es ≡ 12
      same : (j : ℕ) → get_or es j 0 ≡ exponent M (x + j)
      total : sum es ≤ 32767

    left_next : (x : ℕ) (name : List ℕ) (names : List (List ℕ)) (e : ℕ) (es : List ℕ) → IsLeft x (name ∷ names) (e ∷ es) → IsLeft (suc x) names es
    left_next x name names e es h = record {
      indexed = h.indexed.1;
      names_end = let a = h.names_end in omega arith;
      exponents_end = let a = h.exponents_end in omega arith;
      same = λ j. h.same (suc j) ∙ ap (exponent M) (moved x j);
      total = (head_small e es h.total).1;
    }
      where
        moved : (x j : ℕ) → x + suc j ≡ suc x + j
        moved x j = omega arith

    own : (x : ℕ) (names : List (List ℕ)) (e : ℕ) (es : List ℕ) → IsLeft x names (e ∷ es) → exponent M x ≡ e
    own x names e es h = sym (h.same 0 ∙ ap (exponent M) (nothing x))
      where
        nothing : (x : ℕ) → x + 0 ≡ x
        nothing x = omega arith

    in_range : (x : ℕ) (names : List (List ℕ)) (e : ℕ) (es : List ℕ) → IsLeft x names (e ∷ es) → x < 12
    in_range x names e es h = let a = h.exponents_end in omega arith

    module _ (k : Fraction) (small : IsSmallFraction k) (apart : k ≢ whole (pos 0)) where
      abbrev Has : Term → Monomial → Type 0
      Has t m = value t ≡ Ok (single rationals plain_cmp m k)

      times_factor : (x : ℕ) (m : Monomial) (t : Term) (f : Factor) (e : ℕ) → x < 12 → exponent M x ≡ e → IsPart x M m → FactorGives f x e → Has t m → Has (Product t f) (product m (with_exponent x e unit))
      unfolding FactorGives term_value
      times_factor x m t f e l d p g h = (λ i. h i >>= λ a. g i >>= λ b. times_within program s a b) ∙ step_times x M m e l d p s k small apart most

      factors_give : (x : ℕ) (names : List (List ℕ)) (es : List ℕ) → IsLeft x names es → (m : Monomial) → IsPart x M m → (t : Term) → Has t m → Has (product_tree t (factor_trees names es)) M
      factors_give x [] es h m p t v = v ∙ ap (λ n. Ok (single rationals plain_cmp n k)) (part_whole x M m p (λ y l. of y (let a = h.names_end in omega arith)))
      factors_give x (name ∷ names) [] h m p t v = v ∙ ap (λ n. Ok (single rationals plain_cmp n k)) (part_whole x M m p (λ y l. exponent_past y M (let a = h.exponents_end in omega arith)))
      factors_give x (name ∷ names) (zero ∷ es) h m p t v = factors_give (suc x) names es (left_next x name names 0 es h) m (part_skip x M m (own x _ 0 es h) p) t v
      factors_give x (name ∷ names) (suc zero ∷ es) h m p t v =
          let l = in_range x _ 1 es h in
          let o = own x _ 1 es h in
          factors_give (suc x) names es (left_next x name names 1 es h) (product m (with_exponent x 1 unit)) (part_more x M m 1 l o p) (Product t (Bare (Variable name))) (times_factor x m t (Bare (Variable name)) 1 l o p (variable_gives name x h.indexed.0) v)
      factors_give x (name ∷ names) (suc (suc e) ∷ es) h m p t v =
          let n = suc (suc e) in
          let l = in_range x _ n es h in
          let o = own x _ n es h in
          let f = Power (Variable name) (decimal n) in
          factors_give (suc x) names es (left_next x name names n es h) (product m (with_exponent x n unit)) (part_more x M m n l o p) (Product t f) (times_factor x m t f n l o p (power_gives name x n (head_small n es h.total).0 h.indexed.0) v)

    -- a first factor stands for itself
    abbrev StartGives : List Factor → Type 0
    StartGives [] = Unit {0}
    StartGives (f ∷ fs) = value (product_tree (Alone f) fs) ≡ Ok (single rationals plain_cmp M (whole (pos 1)))

    one_small : IsSmallFraction (whole (pos 1))
    one_small = record { numerator = omega arith; denominator = omega arith }

    first_part : (x e : ℕ) → x < 12 → exponent M x ≡ e → IsPart x M unit → IsPart (suc x) M (with_exponent x e unit)
    first_part x e l o p = subst (IsPart (suc x) M) (product-unit (with_exponent x e unit)) (part_more x M unit e l o p)

    start_gives : (x : ℕ) (names : List (List ℕ)) (es : List ℕ) → IsLeft x names es → IsPart x M unit → StartGives (factor_trees names es)
    unfolding term_value FactorGives
    start_gives x [] es h p = tt
    start_gives x (name ∷ names) [] h p = tt
    start_gives x (name ∷ names) (zero ∷ es) h p = start_gives (suc x) names es (left_next x name names 0 es h) (part_skip x M unit (own x _ 0 es h) p)
    start_gives x (name ∷ names) (suc zero ∷ es) h p =
        factors_give (whole (pos 1)) one_small one_apart (suc x) names es (left_next x name names 1 es h) (with_exponent x 1 unit) (first_part x 1 (in_range x _ 1 es h) (own x _ 1 es h) p) (Alone (Bare (Variable name))) (variable_gives name x h.indexed.0)
    start_gives x (name ∷ names) (suc (suc e) ∷ es) h p =
        let n = suc (suc e) in
        factors_give (whole (pos 1)) one_small one_apart (suc x) names es (left_next x name names n es h) (with_exponent x n unit) (first_part x n (in_range x _ n es h) (own x _ n es h) p) (Alone (Power (Variable name) (decimal n))) (power_gives name x n (head_small n es h.total).0 h.indexed.0)

    with_gives : (q : Fraction) (fs : List Factor) → value (product_tree (Alone (Bare (magnitude_tree q))) fs) ≡ Ok (single rationals plain_cmp M (size q)) → StartGives fs → value (with_trees q fs) ≡ Ok (single rationals plain_cmp M (size q))
    with_gives q [] v w = v
    with_gives q (f ∷ fs) v w = by (is_one q) refl
      where
        by : (b : Bool) → is_one q ≡ b → value (if b then product_tree (Alone f) fs else product_tree (Alone (Bare (magnitude_tree q))) (f ∷ fs)) ≡ Ok (single rationals plain_cmp M (size q))
        by true e = w ∙ ap (λ p. Ok (single rationals plain_cmp M p)) (size_one q e)
        by false e = v

  pub term_gives : IsIndexed all 0 all → length all ≡ length s.kinds → (t : OneTerm) → IsStorableTerm t → MonomialOf s t.0 → t.1 ≢ whole (pos 0) → value (term_tree all t) ≡ Ok (single rationals plain_cmp t.0 (size t.1))
  unfolding exponent
  term_gives i c t h of n =
      let left : IsLeft t.0 of h.degree 0 all t.0.exponents = record {
        indexed = i;
        names_end = omega arith;
        exponents_end = let a = t.0.twelve in omega arith;
        same = λ j. ap (λ x. get_or t.0.exponents x 0) (sym (zero-add j));
        total = small_sum t h.degree;
      } in
      with_gives t.0 of h.degree t.1 (factor_trees all t.0.exponents)
      (factors_give t.0 of h.degree (size t.1) (size_small t.1 h.numerator h.denominator) (size_apart t.1 n) 0 all t.0.exponents left unit (part_unit t.0) (Alone (Bare (magnitude_tree t.1))) (magnitude_value t.1 h.numerator h.denominator))
      (start_gives t.0 of h.degree 0 all t.0.exponents left (part_unit t.0))
