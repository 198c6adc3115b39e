-- No token of a canonical text has a fault.
--     AreSound          no token has a fault of its own, where these stand before, the last one first
--     sound_lexemes     then lexemes with these tokens have none
--     IsSoundAnywhere   whatever stands before
--     TakesNumber       a number that may follow here has no fault
--     IsIndexed         the index of each of these names is its place, from x on
--     names_indexed     so it is of distinct names
--     canonical_sound   the tokens of the tree of an operator have no fault
use Rattle.std.proofs.Common.{◌≡◌, ◌≢◌, ℕ, zero, suc, ◌<◌, ◌≤◌, ◌^◌, Bool, true, false, List, [], ◌∷◌, ◌++◌, ℤ, pos, negsuc, nat_abs, refl, sym, ap, ◌∙◌, subst, arith, append_assoc}
use Rattle.std.specs.Prelude.{nat_eq, nat_lt, if◌then◌else◌, decimal}
use Rattle.std.specs.declared.option.Option.{Option}
use Rattle.std.specs.declared.option.Option.TheVariants.{None, Some}
use Rattle.std.specs.Option.{option_map}
use Rattle.std.specs.Bool.{Decides}
use Rattle.std.specs.List.{AllByRecursion, sum}
use Rattle.std.specs.Str.Parse.{digits_value}
use Rattle.std.specs.Str.{bytes_eq}
use Rattle.std.proofs.lemmas.Slice.Eq.{bytes_eq-Decides}
use Rattle.std.proofs.lemmas.Bool.Decides.{nat_tests}
use Rattle.ore_rational.specs.Fraction.{Fraction}
use Rattle.ore_ring.specs.Terms.{Summand as OneTerm, Terms}
use Rattle.ore_expr.specs.Tokens.{Token, Number, Name, Plus, Minus, Star, Slash, Caret, Lexeme, tokens_of}
use Rattle.ore_expr.specs.Grammar.{Alone, Factor, Bare, Power, Whole, Quotient, Variable, expression_tokens, term_tokens, factor_tokens, atom_tokens}
use Rattle.ore_expr.specs.declared.fault.TextFault.{TextFault}
use Rattle.ore_expr.specs.declared.fault.TextFault.TheVariants.{NumberTooWide, ZeroDenominator, PowerTooLarge}
use Rattle.ore_expr.specs.Faults.{greatest_number, greatest_exponent, index_of, number_fault, name_fault, own_fault, IsSound}
use Rattle.ore_text.specs.Names.{IsDistinct}
use Rattle.ore_text.specs.CanonicalText.{is_one}
use Rattle.ore_expr.specs.Laws.{IsStorableTerm}
use Rattle.ore_expr.proofs.CanonicalTree.{factor_trees, product_tree, magnitude_tree, with_trees, term_tree, first_tree, canonical_tree, star_tokens, product_tokens, sign_token, first_tokens, later_tokens, first_tree_tokens, later_tree_tokens, numeral, head_small, small_sum}

-- ---- names

abbrev pub IsIndexed : List (List ℕ) → ℕ → List (List ℕ) → Type 0
IsIndexed all x [] = Unit {0}
IsIndexed all x (name ∷ names) = (index_of all name ≡ Some x) × IsIndexed all (suc x) names

own_index : (name : List ℕ) (names : List (List ℕ)) → index_of (name ∷ names) name ≡ Some 0
own_index name names = ap (λ b. if b then Some 0 else option_map suc (index_of names name)) ((bytes_eq-Decides name name).1 refl)

other_bytes : (n m : List ℕ) → m ≢ n → bytes_eq n m ≡ false
other_bytes n m h = by (bytes_eq n m) (bytes_eq-Decides n m)
  where
    by : (b : Bool) → Decides b (n ≡ m) → b ≡ false
    by true d = absurd (h (sym (d.0 refl)))
    by false d = refl

later_index : (first name : List ℕ) (names : List (List ℕ)) (x : ℕ) → name ≢ first → index_of names name ≡ Some x → index_of (first ∷ names) name ≡ Some (suc x)
later_index first name names x h e = (λ i. if other_bytes first name h i then Some 0 else option_map suc (e i))

later_indexed : (first : List ℕ) (all : List (List ℕ)) (x : ℕ) (names : List (List ℕ)) → AllByRecursion (λ m. m ≢ first) names → IsIndexed all x names → IsIndexed (first ∷ all) (suc x) names
later_indexed first all x [] h k = tt
later_indexed first all x (name ∷ names) h k = (later_index first name all x h.0 k.0, later_indexed first all (suc x) names h.1 k.1)

pub names_indexed : (names : List (List ℕ)) → IsDistinct names → IsIndexed names 0 names
names_indexed [] h = tt
names_indexed (name ∷ names) h = (own_index name names, later_indexed name names 0 names h.0 (names_indexed names h.1))

-- ---- numbers

abbrev TakesNumber : List Token → Type 0
TakesNumber before = (place n : ℕ) → n < 2 ^ 127 → number_fault before place n ≡ None

wide_false : (n : ℕ) → n < 2 ^ 127 → nat_lt greatest_number n ≡ false
wide_false n h = grind (arith, nat_tests)

narrow : (place n : ℕ) → n < 2 ^ 127 → (◌≡◌ {A = Option TextFault} (if nat_lt greatest_number n then Some (NumberTooWide place) else None) None)
narrow place n h = ap (λ b. if b then Some (NumberTooWide place) else None) (wide_false n h)

above_zero : (n : ℕ) → 0 < n → nat_eq n 0 ≡ false
above_zero n h = grind (arith, nat_tests)

small_power : (n : ℕ) → n ≤ 32767 → nat_lt greatest_exponent n ≡ false
small_power n h = grind (arith, nat_tests)

module _ (all : List (List ℕ)) where
  abbrev pub AreSound : List Token → List Token → Type 0
  AreSound before [] = Unit {0}
  AreSound before (t ∷ ts) = ((place : ℕ) → own_fault all before place t ≡ None) × AreSound (t ∷ before) ts

  pub sound_lexemes : (before : List Token) (xs : List Lexeme) → AreSound before (tokens_of xs) → IsSound all before xs
  sound_lexemes before [] h = tt
  sound_lexemes before (x ∷ xs) h = (h.0 x.place, sound_lexemes (x.token ∷ before) xs h.1)

  abbrev IsSoundAnywhere : List Token → Type 0
  IsSoundAnywhere ts = (before : List Token) → AreSound before ts

  -- ---- factors

  abbrev FactorSound : Factor → Type 0
  FactorSound f = (rest : List Token) → IsSoundAnywhere rest → IsSoundAnywhere (factor_tokens f ++ rest)

  name_sound : (name : List ℕ) (x place : ℕ) → index_of all name ≡ Some x → name_fault place (index_of all name) ≡ None
  name_sound name x place e = ap (name_fault place) e

  variable_sound : (name : List ℕ) (x : ℕ) → index_of all name ≡ Some x → FactorSound (Bare (Variable name))
  unfolding factor_tokens atom_tokens
  variable_sound name x e rest s before = (λ place. name_sound name x place e, s (Name name ∷ before))

  power_sound : (name : List ℕ) (x e : ℕ) → index_of all name ≡ Some x → e ≤ 32767 → FactorSound (Power (Variable name) (decimal e))
  unfolding factor_tokens atom_tokens
  power_sound name x e h k rest s before =
      let v : digits_value 10 (decimal e) ≡ e = (numeral e (omega arith)).1 in
      (λ place. name_sound name x place h, (λ place. refl, (λ place. ap (λ b. if b then Some (PowerTooLarge place) else None) (ap (nat_lt greatest_exponent) v ∙ small_power e k), s (Number (decimal e) ∷ Caret ∷ Name name ∷ before))))

  factors_sound : (x : ℕ) (names : List (List ℕ)) (es : List ℕ) → IsIndexed all x names → sum es ≤ 32767 → AllByRecursion FactorSound (factor_trees names es)
  factors_sound x [] es h k = tt
  factors_sound x (name ∷ names) [] h k = tt
  factors_sound x (name ∷ names) (zero ∷ es) h k = factors_sound (suc x) names es h.1 (head_small 0 es k).1
  factors_sound x (name ∷ names) (suc zero ∷ es) h k = (variable_sound name x h.0, factors_sound (suc x) names es h.1 (head_small 1 es k).1)
  factors_sound x (name ∷ names) (suc (suc e) ∷ es) h k = (power_sound name x (suc (suc e)) h.0 (head_small (suc (suc e)) es k).0, factors_sound (suc x) names es h.1 (head_small (suc (suc e)) es k).1)

  stars_sound : (fs : List Factor) (rest : List Token) → AllByRecursion FactorSound fs → IsSoundAnywhere rest → IsSoundAnywhere (star_tokens fs ++ rest)
  stars_sound [] rest h s before = s before
  stars_sound (f ∷ fs) rest h s before =
      (λ place. refl, subst (AreSound (Star ∷ before)) (sym (append_assoc (factor_tokens f) (star_tokens fs) rest)) (h.0 (star_tokens fs ++ rest) (stars_sound fs rest h.1 s) (Star ∷ before)))

  -- ---- terms

  abbrev TermSound : List Token → Type 0
  TermSound ts = (before rest : List Token) → TakesNumber before → IsSoundAnywhere rest → AreSound before (ts ++ rest)

  number_sound : (n : ℕ) → n < 2 ^ 127 → (before : List Token) → TakesNumber before → (place : ℕ) → number_fault before place (digits_value 10 (decimal n)) ≡ None
  number_sound n h before t place = ap (number_fault before place) (numeral n h).1 ∙ t place n h

  magnitude_sound : (q : Fraction) → nat_abs q.num < 2 ^ 127 → q.den < 2 ^ 127 → TermSound (atom_tokens (magnitude_tree q))
  unfolding atom_tokens
  magnitude_sound q h k before rest t s = by (nat_eq q.den 1)
    where
      by : (b : Bool) → AreSound before (atom_tokens (if b then Whole (decimal (nat_abs q.num)) else Quotient (decimal (nat_abs q.num)) (decimal q.den)) ++ rest)
      by true = (number_sound (nat_abs q.num) h before t, s (Number (decimal (nat_abs q.num)) ∷ before))
      by false = (
        number_sound (nat_abs q.num) h before t,
        (
          λ place. refl,
          (
            λ place. ap (number_fault (Slash ∷ Number (decimal (nat_abs q.num)) ∷ before) place) (numeral q.den k).1
                ∙ ap (λ b. if b then Some (ZeroDenominator place) else if nat_lt greatest_number q.den then Some (NumberTooWide place) else None) (above_zero q.den q.positive)
                ∙ narrow place q.den k,
            s (Number (decimal q.den) ∷ Slash ∷ Number (decimal (nat_abs q.num)) ∷ before),
          ),
        ),
      )

  with_sound : (q : Fraction) (fs : List Factor) → nat_abs q.num < 2 ^ 127 → q.den < 2 ^ 127 → AllByRecursion FactorSound fs → TermSound (term_tokens (with_trees q fs))
  unfolding term_tokens factor_tokens
  with_sound q [] h k a before rest t s = magnitude_sound q h k before rest t s
  with_sound q (f ∷ fs) h k a before rest t s = by (is_one q)
    where
      by : (b : Bool) → AreSound before (term_tokens (if b then product_tree (Alone f) fs else product_tree (Alone (Bare (magnitude_tree q))) (f ∷ fs)) ++ rest)
      by true =
          subst (AreSound before) (sym (ap (λ us. us ++ rest) (product_tokens (Alone f) fs) ∙ append_assoc (factor_tokens f) (star_tokens fs) rest))
          (a.0 (star_tokens fs ++ rest) (stars_sound fs rest a.1 s) before)
      by false =
          subst (AreSound before) (sym (ap (λ us. us ++ rest) (product_tokens (Alone (Bare (magnitude_tree q))) (f ∷ fs)) ∙ append_assoc (atom_tokens (magnitude_tree q)) (star_tokens (f ∷ fs)) rest))
          (magnitude_sound q h k before (star_tokens (f ∷ fs) ++ rest) t (stars_sound (f ∷ fs) rest a s))

  -- ---- the whole tree

  module _ (indexed : IsIndexed all 0 all) where
    term_sound : (t : OneTerm) → IsStorableTerm t → TermSound (term_tokens (term_tree all t))
    term_sound t h = with_sound t.1 (factor_trees all t.0.exponents) h.numerator h.denominator (factors_sound 0 all t.0.exponents indexed (small_sum t h.degree))

    later_sound : (ts : Terms) → AllByRecursion IsStorableTerm ts → IsSoundAnywhere (later_tokens all ts)
    later_sound [] h before = tt
    later_sound (t ∷ ts) h before = by t.1.num (later_sound ts h.1)
      where
        by : (z : ℤ) → IsSoundAnywhere (later_tokens all ts) → AreSound before (sign_token z ∷ (term_tokens (term_tree all t) ++ later_tokens all ts))
        by (pos n) s = (λ place. refl, term_sound t h.0 (Plus ∷ before) (later_tokens all ts) narrow s)
        by (negsuc n) s = (λ place. refl, term_sound t h.0 (Minus ∷ before) (later_tokens all ts) narrow s)

    pub canonical_sound : (ts : Terms) → AllByRecursion IsStorableTerm ts → AreSound [] (expression_tokens (canonical_tree all ts))
    unfolding expression_tokens term_tokens factor_tokens atom_tokens
    canonical_sound [] h = (λ place. refl, tt)
    canonical_sound (t ∷ ts) h =
        let tree = term_tree all t in
        subst (AreSound []) (sym (later_tree_tokens all (first_tree t.1.num tree) ts ∙ ap (λ us. us ++ later_tokens all ts) (first_tree_tokens t.1.num tree))) (by t.1.num)
      where
        by : (z : ℤ) → AreSound [] (first_tokens z (term_tokens (term_tree all t)) ++ later_tokens all ts)
        by (pos n) = term_sound t h.0 [] (later_tokens all ts) narrow (later_sound ts h.1)
        by (negsuc n) = (λ place. refl, term_sound t h.0 (Minus ∷ []) (later_tokens all ts) narrow (later_sound ts h.1))
