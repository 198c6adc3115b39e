-- The whole numbers of a product of monomials in which no letter meets its coordinate.
--     plain_numbers     the product of the monomials, once
--     plain_push        so it contributes that product, with the fraction
--     fraction_push     1 times a fraction goes to the end as that fraction
--     still_meets       letters that do not act meet no coordinate
use Rattle.std.proofs.Common.{◌≡◌, ◌<◌, ◌^◌, false, [], ◌∷◌, ◌++◌, pos, refl, ap, ◌∙◌, true≢false, sym}
use Rattle.std.specs.declared.result.Result.{Result}
use Rattle.std.specs.declared.result.Result.TheVariants.{Ok, Err}
use Rattle.ore_algebra.specs.Free.{single}
use Rattle.ore_algebra.specs.Limits.{Cause, program, ◌>>=◌, fold_within}
use Rattle.ore_algebra.proofs.Integers.{integers}
use Rattle.ore_monomial.specs.Monomial.{Monomial, product}
use Rattle.ore_monomial.specs.Signature.{Signature, kind_at, is_acting}
use Rattle.ore_monomial.specs.Numbers.{numbers, numbers_within}
use Rattle.ore_monomial.specs.Numbers.{falling_over}
use Rattle.ore_rational.specs.Fraction.{Fraction}
use Rattle.ore_rational.specs.Range.{InRange}
use Rattle.ore_rational.proofs.Bounds.{fits_from}
use Rattle.ore_ring.specs.Terms.{Terms}
use Rattle.ore_ring.specs.Contributions.{push_number, push_product}
use Rattle.ore_ring.specs.Meets.{MeetsNone}
use Rattle.ore_ring.proofs.AdjointParts.{clear_product}
use Rattle.ore_ring.proofs.FractionSteps.{product_one}
use Rattle.ore_monomial.proofs.FallingTerms.{falling_over-collect}

pub plain_numbers : (s : Signature) (m n : Monomial) → MeetsNone s m n → numbers s m n ≡ (product m n, pos 1) ∷ []
unfolding numbers single
plain_numbers s m n h =
    ap (falling_over integers s.order) (clear_product integers s m n h)
    ∙ falling_over-collect integers s.order ((product m n, pos 1) ∷ []) tt (integers.one_apart, tt)

pub still_meets : (s : Signature) → ((x : Rattle.std.proofs.Common.ℕ) → is_acting (kind_at s x) ≡ false) → (m n : Monomial) → MeetsNone s m n
still_meets s h m n x a k = absurd (true≢false (sym a ∙ h x))

pub one_number : (m : Monomial) → numbers_within program ((m, pos 1) ∷ []) ≡ Ok ((m, pos 1) ∷ [])
unfolding numbers_within
one_number m = refl

pub plain_push : (s : Signature) (uv : Fraction) (out : Terms) (m n : Monomial) → MeetsNone s m n → push_product program s uv out m n ≡ push_number program uv out (product m n, pos 1)
unfolding push_product
plain_push s uv out m n h =
    ap (λ ks. numbers_within program ks >>= λ ks. fold_within (push_number program uv) out ks) (plain_numbers s m n h)
    ∙ ap (λ r. r >>= λ ks. fold_within (push_number program uv) out ks) (one_number (product m n))
    ∙ alone (push_number program uv out (product m n, pos 1))
  where
    alone : (r : Result Terms Cause) → (r >>= λ t. Ok t) ≡ r
    alone (Ok t) = refl
    alone (Err e) = refl

pub fraction_push : (uv : Fraction) (out : Terms) (m : Monomial) → InRange uv.num → uv.den < 2 ^ 127 → push_number program uv out (m, pos 1) ≡ Ok (out ++ (m, uv) ∷ [])
unfolding push_number
fraction_push uv out m num den = ap (λ r. r >>= λ c. Ok (out ++ (m, c) ∷ [])) (product_one uv (fits_from uv num den))
