-- Terms whose fractions are negated in place, one after another.
--     negated_to       the first of them are negated
--     negated_more     one more is
use Rattle.std.proofs.Common.{◌≡◌, ℕ, zero, suc, ◌+◌, ◌<◌, [], ◌∷◌, ◌++◌, take, drop, set, length, get_or, refl, sym, ap, ◌∙◌, arith, add-one}
use Rattle.ore_rational.specs.Fraction.{Fraction, neg}
use Rattle.ore_ring.specs.Terms.{Summand, Terms}
use Rattle.ore_ring.specs.Merge.{opposite_terms}

abbrev pub negated_to : ℕ → Terms → Terms
negated_to i xs = opposite_terms (take i xs) ++ drop i xs

more : (xs : Terms) (i : ℕ) (d : Summand) → i < length xs → set (negated_to i xs) i ((get_or (negated_to i xs) i d).0, neg (get_or (negated_to i xs) i d).1) ≡ negated_to (suc i) xs
more [] i d h = absurd (omega arith)
more (x ∷ xs) zero d h = refl
more (x ∷ xs) (suc i) d h = ap (λ ts. (x.0, neg x.1) ∷ ts) (more xs i d (omega arith))

pub negated_more : (ys xs : Terms) (i : ℕ) (d : Summand) (n : Fraction) → ys ≡ negated_to i xs → i < length xs → n ≡ neg (get_or ys i d).1 → set ys i ((get_or ys i d).0, n) ≡ negated_to (i + 1) xs
negated_more ys xs i d n e h m =
    ap (λ n. set ys i ((get_or ys i d).0, n)) m
    ∙ ap (λ ys. set ys i ((get_or ys i d).0, neg (get_or ys i d).1)) e
    ∙ more xs i d h
    ∙ ap (λ k. negated_to k xs) (sym (add-one i))
