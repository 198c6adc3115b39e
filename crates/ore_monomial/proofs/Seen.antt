-- What the fields of stored exponents say of the monomial.
--     values_are, total_is        the stored numbers are the exponents, and their sum the degree
--     from_values                 a list of these exponents is seen as this monomial
--     zip_with_of                 numbers combined place by place are the exponents of the combined monomials
--     divides_values, values_divide    divisors, as the stored numbers have them
--     all_at_most_true            the test of the code
--     rank_cmp                    the order of ranks is the order of the monomials
use Rattle.std.proofs.Common.{◌≡◌, ℕ, zero, suc, pred, ◌≤◌, List, [], ◌∷◌, length, get_or, subst, true≢false, arith, refl, sym, ap, ap₂, ◌∙◌}
use Rattle.std.specs.declared.cmp.Ordering.{Ordering}
use Rattle.std.specs.declared.cmp.Ordering.TheVariants.{Less, Equal, Greater}
use Rattle.std.specs.Ordering.{nat_cmp, ordering_reverse}
use Rattle.std.specs.List.{sum, AllZip, list_all, zip}
use Rattle.std.specs.Prelude.{Bool, true, false, ◌&&◌, IsTrue, ◌↔◌, nat_le}
use Rattle.std.proofs.lemmas.Bool.Decides.{nat_tests}
use Rattle.std.specs.Cmp.{tied_itself}
use Rattle.std.specs.Cmp.Lexicographic.{slice_cmp}
use Rattle.std.proofs.lemmas.Cmp.{nat_list_cmp_total}
use Rattle.ore_monomial.specs.Monomial.{Monomial, monomial_of, exponent, Divides, degree, unit, zip_with, by_exponents, order_cmp, rank}
use Rattle.ore_monomial.proofs.Monomials.{same_list, twelve_numbers, order_total, order_apart}
use Rattle.ore_monomial.proofs.WellFounded.{rank_less}
use Rattle.ore_monomial.specs.declared.exps.Exps.TheInside.{Inside}
use Rattle.ore_monomial.specs.declared.order.Order.{Order}
use Rattle.ore_monomial.specs.StoredExps.{IsStoredExps}

pub values_are : (a : Inside) (m : Monomial) → monomial_of a.values ≡ m → IsStoredExps a → a.values ≡ m.exponents
values_are a m e h = sym (twelve_numbers a.values h.twelve) ∙ ap (λ n. n.exponents) e

pub total_is : (a : Inside) (m : Monomial) → monomial_of a.values ≡ m → IsStoredExps a → a.total ≡ degree m
unfolding degree
total_is a m e h = h.total ∙ ap sum (values_are a m e h)

pub from_values : (es : List ℕ) (m : Monomial) → length es ≡ 12 → es ≡ m.exponents → monomial_of es ≡ m
from_values es m h e = same_list _ m (twelve_numbers es h ∙ e)

pub zeros : monomial_of (0 ∷ 0 ∷ 0 ∷ 0 ∷ 0 ∷ 0 ∷ 0 ∷ 0 ∷ 0 ∷ 0 ∷ 0 ∷ 0 ∷ []) ≡ unit
unfolding unit
zeros = same_list _ unit refl

pub zip_with_literally : (f : ℕ → ℕ → ℕ) (es fs : List ℕ) → length es ≡ 12 → length fs ≡ 12 → zip_with f (monomial_of es).exponents (monomial_of fs).exponents ≡ zip_with f es fs
zip_with_literally f es fs h k = ap₂ (zip_with f) (twelve_numbers es h) (twelve_numbers fs k)

pub zip_with_of : (f : ℕ → ℕ → ℕ) (a b : Inside) (m n : Monomial) → monomial_of a.values ≡ m → IsStoredExps a → monomial_of b.values ≡ n → IsStoredExps b → zip_with f a.values b.values ≡ (by_exponents f m n).exponents
unfolding by_exponents
zip_with_of f a b m n e h g k = ap₂ (zip_with f) (values_are a m e h) (values_are b n g k)

-- ---- no exponent is greater

all_at_most : (es fs : List ℕ) → length es ≡ length fs → ((x : ℕ) → get_or es x 0 ≤ get_or fs x 0) → AllZip (λ a b. a ≤ b) es fs
all_at_most [] [] e h = tt
all_at_most [] (b ∷ fs) e h = absurd (omega arith)
all_at_most (a ∷ es) [] e h = absurd (omega arith)
all_at_most (a ∷ es) (b ∷ fs) e h = (h 0, all_at_most es fs (ap pred e) (λ x. h (suc x)))

each_at_most : (es fs : List ℕ) → AllZip (λ a b. a ≤ b) es fs → (x : ℕ) → get_or es x 0 ≤ get_or fs x 0
each_at_most [] [] h x = omega arith
each_at_most [] (b ∷ fs) h x = absurd h
each_at_most (a ∷ es) [] h x = absurd h
each_at_most (a ∷ es) (b ∷ fs) h zero = h.0
each_at_most (a ∷ es) (b ∷ fs) h (suc x) = each_at_most es fs h.1 x

and_true : (b c : Bool) → IsTrue (b && c) ↔ (IsTrue b × IsTrue c)
and_true true c = (λ h. (refl, h), λ h. h.1)
and_true false c = (λ h. absurd (true≢false (sym h)), λ h. h.0)

at_most_true : (a b : ℕ) → IsTrue (nat_le a b) ↔ (a ≤ b)
at_most_true a b = (λ h. grind (arith, nat_tests), λ h. grind (arith, nat_tests))

-- the test of the code
pub all_at_most_true : (es fs : List ℕ) → length es ≡ length fs → IsTrue (list_all (λ p. nat_le p.0 p.1) (zip es fs)) ↔ AllZip (λ a b. a ≤ b) es fs
all_at_most_true [] [] e = (λ h. tt, λ h. refl)
all_at_most_true [] (b ∷ fs) e = absurd (omega arith)
all_at_most_true (a ∷ es) [] e = absurd (omega arith)
all_at_most_true (a ∷ es) (b ∷ fs) e =
    let ih = all_at_most_true es fs (ap pred e) in (
      λ h. let both = (and_true (nat_le a b) _).0 h in ((at_most_true a b).0 both.0, ih.0 both.1),
      λ h. (and_true (nat_le a b) _).1 ((at_most_true a b).1 h.0, ih.1 h.1),
    )

module _ (a b : Inside) (m n : Monomial) (e : monomial_of a.values ≡ m) (h : IsStoredExps a) (f : monomial_of b.values ≡ n) (k : IsStoredExps b) where
  pub divides_values : Divides m n → AllZip (λ x y. x ≤ y) a.values b.values
  unfolding exponent
  divides_values d = all_at_most a.values b.values (h.twelve ∙ sym k.twelve) (λ x. subst (λ es. get_or es x 0 ≤ get_or b.values x 0) (sym (values_are a m e h)) (subst (λ es. get_or m.exponents x 0 ≤ get_or es x 0) (sym (values_are b n f k)) (d x)))

  pub values_divide : AllZip (λ x y. x ≤ y) a.values b.values → Divides m n
  unfolding exponent
  values_divide d x = subst (λ es. get_or es x 0 ≤ get_or n.exponents x 0) (values_are a m e h) (subst (λ es. get_or a.values x 0 ≤ get_or es x 0) (values_are b n f k) (each_at_most a.values b.values d x))

-- the order of keys is that of the monomials
pub rank_cmp : (o : Order) (m n : Monomial) → slice_cmp nat_cmp (rank o m) (rank o n) ≡ order_cmp o m n
rank_cmp o m n = by (order_cmp o m n) refl
  where
    by : (r : Ordering) → order_cmp o m n ≡ r → slice_cmp nat_cmp (rank o m) (rank o n) ≡ r
    by Less e = rank_less o m n e
    by Equal e = ap (λ p. slice_cmp nat_cmp (rank o m) (rank o p)) (sym (order_apart o m n e)) ∙ tied_itself nat_list_cmp_total (rank o m)
    by Greater e = nat_list_cmp_total.antisymm (rank o m) (rank o n) ∙ ap ordering_reverse (rank_less o n m ((order_total o).antisymm n m ∙ ap ordering_reverse e))
