-- The test whether a term divides a term.
--     divides_tested           the test of exponents passes exactly where one monomial divides the other
--     divides_term_true        that of terms passes exactly where their columns are equal too
--     test_same_column, test_other_column     its answer in one column, and in two
--     first_divisor-Some       what is found divides, and none before it does
--     first_divisor-None       where nothing is found none divides
use Rattle.std.proofs.Common.{◌≡◌, ◌≢◌, ℕ, zero, suc, pred, ◌<◌, ◌≤◌, Bool, true, false, List, [], ◌∷◌, length, get_or, refl, sym, ap, ◌∙◌, true≢false, arith}
use Rattle.std.specs.Prelude.{◌&&◌, ◌↔◌, IsTrue, nat_eq, nat_le, nat_lt, cond}
use Rattle.std.specs.List.{list_all, zip, position_or_len}
use Rattle.std.specs.declared.option.Option.{Option}
use Rattle.std.specs.declared.option.Option.TheVariants.{None, Some}
use Rattle.std.proofs.lemmas.Bool.Decides.{nat_tests}
use Rattle.std.proofs.lemmas.List.Quantifiers.{position-Some}
use Rattle.std.proofs.lemmas.List.Sums.{fails_before_first}
use Rattle.std.proofs.lemmas.Bool.{and_parts}
use Rattle.ore_monomial.specs.Monomial.{Monomial, exponent, Divides}
use Rattle.ore_monomial.specs.Term.{Term}
use Rattle.ore_leads.specs.FirstDivisor.{divides_term, first_divisor}

abbrev at_most : List ℕ → List ℕ → Bool
at_most es fs = list_all (λ p. nat_le p.0 p.1) (zip es fs)

passed_each : (es fs : List ℕ) → length es ≡ length fs → at_most es fs ≡ true → (x : ℕ) → get_or es x 0 ≤ get_or fs x 0
passed_each [] fs e h x = omega arith
passed_each (a ∷ es) [] e h x = absurd (omega arith)
passed_each (a ∷ es) (b ∷ fs) e h x = by (nat_le a b) refl (passed_each es fs (ap pred e)) h x
  where
    by : (t : Bool) → nat_le a b ≡ t → (at_most es fs ≡ true → (x : ℕ) → get_or es x 0 ≤ get_or fs x 0) → (t && at_most es fs) ≡ true → (x : ℕ) → get_or (a ∷ es) x 0 ≤ get_or (b ∷ fs) x 0
    by true k later h zero = grind (arith, nat_tests)
    by true k later h (suc x) = later h x
    by false k later h x = absurd (true≢false (sym h))

each_passes : (es fs : List ℕ) → length es ≡ length fs → ((x : ℕ) → get_or es x 0 ≤ get_or fs x 0) → at_most es fs ≡ true
each_passes [] fs e h = refl
each_passes (a ∷ es) [] e h = absurd (omega arith)
each_passes (a ∷ es) (b ∷ fs) e h = ap (λ t. t && at_most es fs) (first (h 0)) ∙ each_passes es fs (ap pred e) (λ x. h (suc x))
  where
    first : a ≤ b → nat_le a b ≡ true
    first k = grind (arith, nat_tests)

pub divides_tested : (m n : Monomial) → (list_all (λ p. nat_le p.0 p.1) (zip m.exponents n.exponents) ≡ true) ↔ Divides m n
unfolding exponent
divides_tested m n = (λ h. passed_each m.exponents n.exponents (m.twelve ∙ sym n.twelve) h, λ d. each_passes m.exponents n.exponents (m.twelve ∙ sym n.twelve) d)

columns_equal : (j k : ℕ) → nat_eq j k ≡ true → j ≡ k
columns_equal j k h = grind (arith, nat_tests)

equal_columns : (j k : ℕ) → j ≡ k → nat_eq j k ≡ true
equal_columns j k h = grind (arith, nat_tests)

pub divides_term_true : (t u : Term) → (divides_term t u ≡ true) ↔ ((t.column ≡ u.column) × Divides t.monomial u.monomial)
unfolding divides_term
divides_term_true t u = (
  λ h. let b = and_parts (nat_eq t.column u.column) _ h in (columns_equal t.column u.column b.0, (divides_tested t.monomial u.monomial).0 b.1),
  λ h. ap (λ b. b && at_most t.monomial.exponents u.monomial.exponents) (equal_columns t.column u.column h.0) ∙ (divides_tested t.monomial u.monomial).1 h.1,
)

same_test : (a b : Bool) → (a ≡ true → b ≡ true) → (b ≡ true → a ≡ true) → a ≡ b
same_test true b h k = sym (h refl)
same_test false true h k = k refl
same_test false false h k = refl

-- in one column the answer is whether the monomial divides
pub test_same_column : (t u : Term) (answer : Bool) → t.column ≡ u.column → IsTrue answer ↔ Divides t.monomial u.monomial → answer ≡ divides_term t u
test_same_column t u answer e h = same_test answer (divides_term t u) (λ a. (divides_term_true t u).1 (e, h.0 a)) (λ a. h.1 ((divides_term_true t u).0 a).1)

-- in two columns no term divides
pub test_other_column : (t u : Term) → t.column ≢ u.column → nat_eq t.column u.column ≡ divides_term t u
unfolding divides_term
test_other_column t u n = let e = unequal t.column u.column n in e ∙ ap (λ b. b && at_most t.monomial.exponents u.monomial.exponents) (sym e)
  where
    unequal : (j k : ℕ) → j ≢ k → nat_eq j k ≡ false
    unequal j k n = grind (arith, nat_tests)

-- ---- the first divisor

pub first_divisor-Some : (ts : List Term) (u : Term) (i : ℕ) (d : Term) → first_divisor ts u ≡ Some i → (i < length ts) × (divides_term (get_or ts i d) u ≡ true) × ((k : ℕ) → k < i → divides_term (get_or ts k d) u ≡ false)
first_divisor-Some ts u i d e = position-Some (λ t. divides_term t u) ts i d e

pub first_divisor-None : (ts : List Term) (u : Term) (d : Term) → first_divisor ts u ≡ None → (k : ℕ) → k < length ts → divides_term (get_or ts k d) u ≡ false
first_divisor-None ts u d e k l = by (nat_lt place (length ts)) refl e
  where
    place : ℕ
    place = position_or_len (λ t. divides_term t u) ts

    by : (b : Bool) → nat_lt place (length ts) ≡ b → ◌≡◌ {A = Option ℕ} (cond b (Some place) None) None → divides_term (get_or ts k d) u ≡ false
    by true h e = cc
    by false h e = fails_before_first (λ t. divides_term t u) ts k d (past place (length ts) h l)
      where
        past : (i n : ℕ) → nat_lt i n ≡ false → k < n → k < i
        past i n h l = grind (arith, nat_tests)
