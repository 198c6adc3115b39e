-- Choices, run by run.
--     treatment_count_in-treated, treatment_count_in-skipped    how many pairs are treated with one more choice that treats, or that skips
--     with_choice-set                      the choice goes to the end of the last run
--     but_last-take, without_last-set      the last choice leaves the last run
use Rattle.std.proofs.Common.{◌≡◌, ◌≢◌, ◌+◌, ◌-◌, ℕ, zero, suc, List, [], ◌∷◌, ◌++◌, length, take, get_or, refl, ap, arith, set}
use Rattle.ore_rows.specs.declared.choices.Choice.{Choice}
use Rattle.ore_rows.specs.declared.choices.Choice.TheVariants.{Treat, Skip}
use Rattle.ore_course.specs.Choices as course
use Rattle.ore_course.specs.Choices.{but_last, without_last}
use Rattle.ore_groebner.specs.Choosing.{treated_pair_count_in, with_choice}
use Rattle.ore_groebner.proofs.Given.{treatment_count_in-with_choice}

pub treatment_count_in-treated : (runs : List (List Choice)) (i j : ℕ) → runs ≢ [] → treated_pair_count_in (with_choice runs (Treat i j)) ≡ suc (treated_pair_count_in runs)
unfolding course.treatment_count course.cost
treatment_count_in-treated runs i j h = let e = treatment_count_in-with_choice runs (Treat i j) h in omega (arith, e)

pub treatment_count_in-skipped : (runs : List (List Choice)) (i j via : ℕ) → runs ≢ [] → treated_pair_count_in (with_choice runs (Skip i j via)) ≡ treated_pair_count_in runs
unfolding course.treatment_count course.cost
treatment_count_in-skipped runs i j via h = let e = treatment_count_in-with_choice runs (Skip i j via) h in omega (arith, e)

pub with_choice-set : (runs : List (List Choice)) (c : Choice) (k : ℕ) → length runs ≡ suc k → with_choice runs c ≡ set runs k (get_or runs k [] ++ c ∷ [])
unfolding with_choice
with_choice-set [] c k h = absurd (omega arith)
with_choice-set (r ∷ []) c zero h = refl
with_choice-set (r ∷ []) c (suc k) h = absurd (omega arith)
with_choice-set (r ∷ s ∷ runs) c zero h = absurd (omega arith)
with_choice-set (r ∷ s ∷ runs) c (suc k) h = ap (λ rs. r ∷ rs) (with_choice-set (s ∷ runs) c k (omega arith))

pub but_last-take : (cs : List Choice) (n : ℕ) → n ≡ length cs - 1 → take n cs ≡ but_last cs
unfolding but_last
but_last-take [] zero e = refl
but_last-take [] (suc n) e = refl
but_last-take (c ∷ []) zero e = refl
but_last-take (c ∷ []) (suc n) e = absurd (omega (arith, e))
but_last-take (c ∷ d ∷ cs) zero e = absurd (omega (arith, e))
but_last-take (c ∷ d ∷ cs) (suc n) e = ap (λ ds. c ∷ ds) (but_last-take (d ∷ cs) n (omega (arith, e)))

pub without_last-set : (runs : List (List Choice)) (k : ℕ) → length runs ≡ suc k → without_last runs ≡ set runs k (but_last (get_or runs k []))
unfolding without_last
without_last-set [] k h = absurd (omega (arith, h))
without_last-set (r ∷ []) zero h = refl
without_last-set (r ∷ []) (suc k) h = absurd (omega (arith, h))
without_last-set (r ∷ s ∷ runs) zero h = absurd (omega (arith, h))
without_last-set (r ∷ s ∷ runs) (suc k) h = ap (λ rs. r ∷ rs) (without_last-set (s ∷ runs) k (omega (arith, h)))
