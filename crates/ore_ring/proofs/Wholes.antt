-- Whole numbers that pass the test are in the range.
--     whole_of          numbers that are within the limits
use Rattle.std.proofs.Common.{◌≡◌, Bool, true, false, List, [], ◌∷◌, refl, subst, ℤ, nat_abs}
use Rattle.std.specs.declared.result.Result.TheVariants.{Ok}
use Rattle.std.specs.List.{list_all}
use Rattle.std.proofs.lemmas.List.Elements.{All-nil, All-cons}
use Rattle.ore_monomial.specs.Monomial.{Monomial}
use Rattle.ore_rational.specs.Range.{InRange}
use Rattle.ore_rational.proofs.Bounds.{Decides-within}
use Rattle.ore_algebra.specs.Limits.{Overflow, program, is_within, guard}
use Rattle.ore_monomial.specs.Numbers.{numbers_within}
use Rattle.ore_ring.proofs.Falls.{left_true, right_true}
use Rattle.ore_ring.specs.Products.{AreWhole}

tested : (ks : List (Monomial × ℤ)) → list_all (λ k. is_within program.magnitude (nat_abs k.1)) ks ≡ true → AreWhole ks
tested [] e = All-nil (λ (k : Monomial × ℤ). InRange k.1)
tested (k ∷ ks) e = All-cons (λ (k : Monomial × ℤ). InRange k.1) k ks ((Decides-within (nat_abs k.1)).0 (left_true _ _ e)) (tested ks (right_true _ _ e))

pub whole_of : (ks rs : List (Monomial × ℤ)) → numbers_within program ks ≡ Ok rs → AreWhole rs
unfolding numbers_within
whole_of ks rs e = by (list_all (λ k. is_within program.magnitude (nat_abs k.1)) ks) refl e
  where
    by : (b : Bool) → list_all (λ k. is_within program.magnitude (nat_abs k.1)) ks ≡ b → guard b ks Overflow ≡ Ok rs → AreWhole rs
    by true f g = let h : ks ≡ rs = cc in subst AreWhole h (tested ks f)
    by false f g = let no : ⊥ = cc in absurd no
