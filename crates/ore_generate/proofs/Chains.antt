-- Facts about generated problems.
--     added                       a name that isn't there yet is added
--     term_sum                    the operator of a stored term
--     constant_is, power_of_variable_is       a term as a number, as a power of a variable
--     few_gain                    a gain is at most 4
--     all_made                    what holds of each value of a function holds of a list of them
--     term_storable               a term in the program's ranges, as an operator
--     generated_printable         a generated problem can be printed and read again
use Rattle.std.proofs.Common.{◌≡◌, ◌≢◌, ℕ, zero, suc, ◌+◌, ◌%◌, ◌^◌, ◌<◌, ◌≤◌, Bool, true, false, true≢false, cond, List, [], ◌∷◌, ◌++◌, length, map, pos, neg_ℤ, refl, sym, ap, ◌∙◌, subst, arith}
use Rattle.std.specs.Prelude.{IfOk, IsSome, nat_eq, nat_abs, codes}
use Rattle.std.specs.Cmp.{tied_itself}
use Rattle.std.specs.List.{AllByRecursion, range_with_len}
use Rattle.std.specs.Ordering.{eq_by_cmp, is_eq}
use Rattle.std.specs.declared.option.Option.{Option}
use Rattle.std.specs.declared.option.Option.TheVariants.{None}
use Rattle.std.specs.declared.result.Result.{Result}
use Rattle.std.specs.declared.result.Result.TheVariants.{Ok, Err}
use Rattle.std.proofs.lemmas.List.FromFn.{length-map-range_with_len}
use Rattle.ore_algebra.specs.Free.{single, coefficient}
use Rattle.ore_algebra.proofs.FreeLaws
use Rattle.ore_rational.specs.Fraction.{Fraction, whole, abs-neg}
use Rattle.ore_rational.specs.Field.{rationals}
use Rattle.ore_monomial.specs.declared.order.Order.{Order}
use Rattle.ore_monomial.specs.Monomial.{Monomial, degree, unit, with_exponent, plain_cmp}
use Rattle.ore_monomial.specs.LetterRule.{Operator, constant}
use Rattle.ore_monomial.proofs.Monomials.{plain_cmp_total, plain_cmp_apart}
use Rattle.ore_monomial.proofs.Operators
use Rattle.ore_ring.specs.Ordered.{Ordered}
use Rattle.ore_ring.proofs.Belonging.{of_none, of_single}
use Rattle.ore_text.specs.Names.{index_of, IsAdded, AreNames}
use Rattle.ore_text.specs.Printable.{IsStorableTerm, IsStorable, IsPrintable}
use Rattle.ore_text.proofs.NameLemmas.{AreNames-push}
use Rattle.ore_text.proofs.PrintableTerms.{in_terms}
use Rattle.ore_expr.specs.Values.{zero_operator, power_of_variable}
use Rattle.ore_expr.proofs.Stacks.{unit_of, power_of}
use Rattle.ore_problem.specs.Stored.{IsPrintableSystem}
use Rattle.ore_generate.specs.Chain.{is_cut, gain, entry, equation, equations, names, signature, generated}

-- ---- names

pub added : (E : Type 0) (is_new : Bool) (old new : List (List ℕ)) (name : List ℕ) → index_of old name ≡ None → IsAdded {E = E} (Ok is_new) old new name → new ≡ old ++ name ∷ []
added E true old new name absent h = h.1
added E false old new name absent h = absurd (none_is (index_of old name) absent h.0)
  where
    none_is : (o : Option ℕ) → o ≡ None → IsSome o → ⊥
    none_is o e h = cc

-- ---- entries

pub term_sum : {E : Type 0} (o : Order) (m : Monomial) (q : Fraction) (r : Result Ordered E) (f : Operator rationals) → single rationals plain_cmp m q ≡ f → IfOk r (λ v. v ≡ record { by = o; sum = single rationals plain_cmp m q }) → IfOk r (λ v. v.sum ≡ f)
term_sum o m q (Ok v) f same h = ap (λ (w : Ordered). w.sum) h ∙ same
term_sum o m q (Err e) f same h = tt

pub constant_is : (m : Monomial) (q k : Fraction) → m ≡ unit → q ≡ k → single rationals plain_cmp m q ≡ constant rationals k
constant_is m q k e f = λ i. single rationals plain_cmp (e i) (f i)

pub power_of_variable_is : (m : Monomial) (q : Fraction) (x e : ℕ) → m ≡ with_exponent x e unit → q ≡ whole (pos 1) → single rationals plain_cmp m q ≡ power_of_variable x e
unfolding power_of_variable
power_of_variable_is m q x e f g = λ i. single rationals plain_cmp (f i) (g i)

-- the operator of an equation, by whether the variable is that of the equation, or the next one
module _ (n i : ℕ) where
  choice : Bool → Bool → Operator rationals
  choice own next = cond own (power_of_variable 1 1) (cond next (constant rationals (whole (neg_ℤ (pos (gain n i))))) zero_operator)

pub few_gain : (n i : ℕ) → gain n i ≤ 4
few_gain n i = by (is_cut n i)
  where
    by : (b : Bool) → cond b 0 (1 + (n + i) % 4) ≤ 4
    by true = omega arith
    by false = omega arith

-- ---- texts

pub all_made : {X : Type 0} (P : X → Type 0) (f : ℕ → X) (a n : ℕ) → ((k : ℕ) → P (f k)) → AllByRecursion P (map f (range_with_len a n))
all_made P f a zero h = tt
all_made P f a (suc n) h = (h a, all_made P f (a + 1) n h)

pub term_storable : (m : Monomial) (q : Fraction) → IsStorableTerm (m, q) → IsStorable (single rationals plain_cmp m q)
term_storable m q h = in_terms IsStorableTerm term (λ p n. by p n (eq_by_cmp plain_cmp p m) refl)
  where
    term : Operator rationals
    term = single rationals plain_cmp m q

    at : Monomial → Fraction
    at p = coefficient rationals plain_cmp term p

    own : at m ≡ q
    own = Operators.coefficient-own rationals m q

    by : (p : Monomial) → at p ≢ whole (pos 0) → (b : Bool) → eq_by_cmp plain_cmp p m ≡ b → IsStorableTerm (p, at p)
    by p n true e =
        let same : p ≡ m = FreeLaws.same_key rationals plain_cmp_total plain_cmp_apart p m e in
        subst IsStorableTerm (λ i. (sym same i, (sym own ∙ ap at (sym same)) i)) h
    by p n false e = absurd (n (Operators.coefficient-other rationals m q p (λ same. true≢false (sym (ap is_eq (tied_itself plain_cmp_total m)) ∙ ap (λ x. eq_by_cmp plain_cmp x m) (sym same) ∙ e))))

are_names : AreNames names
are_names = AreNames-push (codes "t" ∷ []) (codes "d") (AreNames-push [] (codes "t") (record { form = tt; distinct = tt }) (refl, omega arith, λ k d h. absurd (omega arith)) refl) (refl, omega arith, λ k d h. absurd (omega arith)) refl

none_printable : IsPrintable signature names zero_operator
none_printable = record {
  names_fit = are_names;
  count = refl;
  variables = of_none rationals signature;
  storable = in_terms IsStorableTerm zero_operator (λ q n. absurd (n (Operators.coefficient-empty_sum rationals q)));
}

power_printable : IsPrintable signature names (power_of_variable 1 1)
unfolding power_of_variable degree with_exponent unit
power_printable =
    record {
      names_fit = are_names;
      count = refl;
      variables = of_single rationals signature (with_exponent 1 1 unit) (whole (pos 1)) (power_of signature 1 1 (omega arith));
      storable = term_storable (with_exponent 1 1 unit) (whole (pos 1)) (record { numerator = omega arith; denominator = omega arith; degree = small });
    }
  where
    small : degree (with_exponent 1 1 unit) ≤ 32767
    small = let e : degree (with_exponent 1 1 unit) ≡ 1 = refl in omega (arith, e)

constant_printable : (k : ℕ) → k ≤ 4 → IsPrintable signature names (constant rationals (whole (neg_ℤ (pos k))))
unfolding degree unit
constant_printable k few =
    record {
      names_fit = are_names;
      count = refl;
      variables = of_single rationals signature unit (whole (neg_ℤ (pos k))) (unit_of signature);
      storable = term_storable unit (whole (neg_ℤ (pos k))) (record { numerator = small; denominator = omega arith; degree = none });
    }
  where
    small : nat_abs (neg_ℤ (pos k)) < 2 ^ 127
    small = let e : nat_abs (neg_ℤ (pos k)) ≡ k = abs-neg (pos k) in omega (arith, e, few)

    none : degree unit ≤ 32767
    none = let e : degree unit ≡ 0 = refl in omega (arith, e)

entry_printable : (n i j : ℕ) → IsPrintable signature names (entry n i j)
unfolding choice
entry_printable n i j = by (nat_eq j i) (nat_eq j (i + 1))
  where
    by : (own next : Bool) → IsPrintable signature names (choice n i own next)
    by true next = power_printable
    by false true = constant_printable (gain n i) (few_gain n i)
    by false false = none_printable

pub generated_printable : (n : ℕ) → IsPrintableSystem (generated n)
unfolding equation equations
generated_printable n =
    record {
      names = are_names;
      count = refl;
      rows = let e = length-map-range_with_len (equation n) 1 40 in omega (arith, e);
      cols = omega arith;
      lengths = all_made (λ r. length r ≡ 41) (equation n) 1 40 (λ i. length-map-range_with_len (entry n i) 1 41);
      entries = all_made (AllByRecursion (IsPrintable signature names)) (equation n) 1 40 (λ i. all_made (IsPrintable signature names) (entry n i) 1 41 (λ j. entry_printable n i j));
    }
