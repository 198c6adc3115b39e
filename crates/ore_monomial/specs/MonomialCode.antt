-- How monomials are stored and told apart.
--     same_list         monomials with the same exponents are the same
--     twelve_numbers    a list of twelve numbers is the exponents of its monomial
--     seen_again, monomial_code     a monomial is stored as the list of its exponents
--     monomial_eq       two monomials have the same exponents
--     plain_cmp_total, monomial_equiv    the plain order is total, and its equality is an equivalence
use Rattle.std.specs.Prelude.{◌≡◌, ℕ, zero, suc, ◌<◌, Bool, List, length, get_or}
use Rattle.std.specs.Coded.{Coded, coded_ℕ, coded_list, code_by}
use Rattle.std.specs.Ordering.{eq_by_cmp}
use Rattle.std.specs.Cmp.{IsTotalOrder, IsEquivalence}
use Rattle.std.proofs.Common.{refl, sym, arith}
use Rattle.std.proofs.lemmas.Cmp.{nat_list_cmp_total, on_total, eq_by_cmp_equiv}
use Rattle.std.proofs.lemmas.List.{ext_get_or}
use native.Mathlib.Decide.{ℕ_discrete}
use mathlib.Core.HLevel.{hedberg, Σ_prop_path}
use Rattle.ore_monomial.specs.Monomial.{Monomial, monomial_of, plain_cmp}

pub same_list : (m n : Monomial) → m.exponents ≡ n.exponents → m ≡ n
same_list m n e =
    let pairs : ◌≡◌ {A = (es : List ℕ) × (length es ≡ 12)} (m.exponents, m.twelve) (n.exponents, n.twelve) = Σ_prop_path (λ es. hedberg ℕ_discrete _ _) e in
    λ i. record { exponents = (pairs i).0; twelve = (pairs i).1 }

pub twelve_numbers : (es : List ℕ) → length es ≡ 12 → (monomial_of es).exponents ≡ es
twelve_numbers es h = ext_get_or 0 _ es (sym h) (λ i l. at i l)
  where
    at : (i : ℕ) → i < 12 → get_or (monomial_of es).exponents i 0 ≡ get_or es i 0
    at zero l = refl
    at (suc zero) l = refl
    at (suc (suc zero)) l = refl
    at (suc (suc (suc zero))) l = refl
    at (suc (suc (suc (suc zero)))) l = refl
    at (suc (suc (suc (suc (suc zero))))) l = refl
    at (suc (suc (suc (suc (suc (suc zero)))))) l = refl
    at (suc (suc (suc (suc (suc (suc (suc zero))))))) l = refl
    at (suc (suc (suc (suc (suc (suc (suc (suc zero)))))))) l = refl
    at (suc (suc (suc (suc (suc (suc (suc (suc (suc zero))))))))) l = refl
    at (suc (suc (suc (suc (suc (suc (suc (suc (suc (suc zero)))))))))) l = refl
    at (suc (suc (suc (suc (suc (suc (suc (suc (suc (suc (suc zero))))))))))) l = refl
    at (suc (suc (suc (suc (suc (suc (suc (suc (suc (suc (suc (suc i)))))))))))) l = absurd (omega arith)

pub seen_again : (m : Monomial) → monomial_of m.exponents ≡ m
seen_again m = same_list _ m (twelve_numbers m.exponents m.twelve)

-- a monomial is stored as the list of its exponents
abbrev pub monomial_code : Coded Monomial
monomial_code = code_by (List ℕ) (coded_list coded_ℕ) (λ m. m.exponents) monomial_of seen_again

-- two monomials have the same exponents
abbrev pub monomial_eq : Monomial → Monomial → Bool
monomial_eq = eq_by_cmp plain_cmp

pub plain_cmp_total : IsTotalOrder plain_cmp
unfolding plain_cmp
plain_cmp_total = on_total (λ m. m.exponents) nat_list_cmp_total

pub monomial_equiv : IsEquivalence monomial_eq
monomial_equiv = eq_by_cmp_equiv plain_cmp_total
