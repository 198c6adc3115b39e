-- The monomials by which lowering divides.
--     divisor-product         a divisor is a product of two powers
--     divides_room            a divisor divides what has room for it
--     quotient-divisor        dividing is lowering
use Rattle.std.proofs.Common.{◌≡◌, ◌≢◌, ℕ, ◌+◌, ◌-◌, ◌<◌, ◌≤◌, set, replicate, OkIff, IsOkAnd, sym, ap, ◌∙◌, subst, arith}
use Rattle.std.specs.declared.result.Result.{Result}
use Rattle.std.specs.declared.result.Result.TheVariants.{Ok, Err}
use Rattle.std.specs.List.{sum}
use native.Mathlib.Decide.{dec_lt, ℕ_discrete}
use Rattle.ore_monomial.specs.Monomial.{Monomial, exponent, with_exponent, unit, lower, product, quotient, Divides, monomial_of}
use Rattle.ore_monomial.proofs.Monomials.{same_exponents, exponent-same, exponent-other, exponent-unit, exponent_past, exponent-product, exponent-quotient, sum-power, power_is}
use Rattle.ore_commute.specs.ClosedForm.{divisor, fallen}
use Rattle.ore_commute.proofs.Lowering.{with_past}

pub power_exact : {E : Type 0} (x e : ℕ) → x < 12 → (r : Result Monomial E) → OkIff r (sum (set (replicate 12 0) x e) ≤ 32767) (monomial_of (set (replicate 12 0) x e)) → OkIff r (e ≤ 32767) (with_exponent x e unit)
power_exact x e h r k = subst (λ m. OkIff r (e ≤ 32767) m) (power_is x e) (subst (λ n. OkIff r (n ≤ 32767) (monomial_of (set (replicate 12 0) x e))) (sum-power x e h) k)

-- a call that is Ok exactly where P holds is Ok where it does
pub ok_where : {X E : Type 0} (r : Result X E) (P : Type 0) (v w : X) → OkIff r P v → P → v ≡ w → IsOkAnd r (λ x. x ≡ w)
ok_where (Ok x) P v w k p e = k.1 ∙ e
ok_where (Err e) P v w k p q = absurd (k p)

pub divisor-product : (t d k j : ℕ) → t < 12 → d < 12 → t ≢ d → product (with_exponent d k unit) (with_exponent t (k + j) unit) ≡ divisor t d k j
unfolding divisor
divisor-product t d k j tl dl n = same_exponents _ _ (λ x xl. at x xl (ℕ_discrete x t) (ℕ_discrete x d))
  where
    at : (x : ℕ) → x < 12 → Dec (x ≡ t) → Dec (x ≡ d) → exponent (product (with_exponent d k unit) (with_exponent t (k + j) unit)) x ≡ exponent (with_exponent t (k + j) (with_exponent d k unit)) x
    at x xl (yes e) q = subst (λ y. exponent (product (with_exponent d k unit) (with_exponent t (k + j) unit)) y ≡ exponent (with_exponent t (k + j) (with_exponent d k unit)) y) (sym e)
        (let a = exponent-product (with_exponent d k unit) (with_exponent t (k + j) unit) t in let b = exponent-other d t k unit n in let c = exponent-unit t in
        let f = exponent-same t (k + j) unit tl in let g = exponent-same t (k + j) (with_exponent d k unit) tl in omega arith)
    at x xl (no r) q =
        let a = exponent-product (with_exponent d k unit) (with_exponent t (k + j) unit) x in let b = exponent-other t x (k + j) unit r in let c = exponent-unit x in
        let g = exponent-other t x (k + j) (with_exponent d k unit) r in omega arith

pub divisor_alone : (t k j : ℕ) → divisor t 12 k j ≡ with_exponent t (k + j) unit
unfolding divisor
divisor_alone t k j = ap (with_exponent t (k + j)) (with_past 12 k unit (omega arith))

exponent-divisor : (t d k j x : ℕ) → t < 12 → t ≢ d → (exponent (divisor t d k j) t ≡ k + j) × (d < 12 → exponent (divisor t d k j) d ≡ k) × (x ≢ t → x ≢ d → exponent (divisor t d k j) x ≡ 0)
unfolding divisor
exponent-divisor t d k j x tl n = (
  exponent-same t (k + j) (with_exponent d k unit) tl,
  (λ dl. exponent-other t d (k + j) (with_exponent d k unit) (λ e. n (sym e)) ∙ exponent-same d k unit dl),
  (λ p q. exponent-other t x (k + j) (with_exponent d k unit) p ∙ exponent-other d x k unit q ∙ exponent-unit x),
)

-- m has room for the divisor
pub divides_room : (t d k j : ℕ) (m : Monomial) → t < 12 → t ≢ d → k + j ≤ exponent m t → (d < 12 → k ≤ exponent m d) → Divides (divisor t d k j) m
divides_room t d k j m tl n jl kl x = at (ℕ_discrete x t) (ℕ_discrete x d) (dec_lt d 12)
  where
    at : Dec (x ≡ t) → Dec (x ≡ d) → Dec (d < 12) → exponent (divisor t d k j) x ≤ exponent m x
    at (yes e) q l = subst (λ y. exponent (divisor t d k j) y ≤ exponent m y) (sym e) (let a = (exponent-divisor t d k j x tl n).0 in omega arith)
    at (no r) (yes e) (yes l) = subst (λ y. exponent (divisor t d k j) y ≤ exponent m y) (sym e) (let a = (exponent-divisor t d k j x tl n).1 l in let b = kl l in omega arith)
    at (no r) (yes e) (no l) = let a = exponent_past x (divisor t d k j) (let z : x ≡ d = e in omega arith) in omega arith
    at (no r) (no q) l = let a = (exponent-divisor t d k j x tl n).2 r q in omega arith

pub quotient-divisor : (t d k j : ℕ) (m : Monomial) → t < 12 → t ≢ d → quotient m (divisor t d k j) ≡ fallen t d k j m
quotient-divisor t d k j m tl n = same_exponents _ _ (λ x xl. at x xl (ℕ_discrete x t) (ℕ_discrete x d))
  where
    at : (x : ℕ) → x < 12 → Dec (x ≡ t) → Dec (x ≡ d) → exponent (quotient m (divisor t d k j)) x ≡ exponent (fallen t d k j m) x
    at x xl (yes e) q = subst (λ y. exponent (quotient m (divisor t d k j)) y ≡ exponent (fallen t d k j m) y) (sym e)
        (let a = exponent-quotient m (divisor t d k j) t in let b = (exponent-divisor t d k j x tl n).0 in
        let c = exponent-same t (exponent (lower d k m) t - (k + j)) (lower d k m) tl in let f = exponent-other d t (exponent m d - k) m n in omega arith)
    at x xl (no r) (yes e) = subst (λ y. y < 12 → y ≢ t → exponent (quotient m (divisor t d k j)) y ≡ exponent (fallen t d k j m) y) (sym e)
        (λ dl dt. let a = exponent-quotient m (divisor t d k j) d in let b = (exponent-divisor t d k j d tl n).1 dl in
        let c = exponent-other t d (exponent (lower d k m) t - (k + j)) (lower d k m) dt in let f = exponent-same d (exponent m d - k) m dl in omega arith) xl r
    at x xl (no r) (no q) =
        let a = exponent-quotient m (divisor t d k j) x in let b = (exponent-divisor t d k j x tl n).2 r q in
        let c = exponent-other t x (exponent (lower d k m) t - (k + j)) (lower d k m) r in let f = exponent-other d x (exponent m d - k) m q in omega arith
