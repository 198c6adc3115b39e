-- Runs, as lists of choices, with a new run or with one choice more.
--     with_choice, without_last, treatment_count  of runs with one choice more
--     .._start                 the same of runs with a new one
use Rattle.std.proofs.Common.{◌≡◌, ◌≢◌, ◌+◌, Bool, List, [], ◌∷◌, ◌++◌, refl, ap, ◌∙◌, arith}
use Rattle.ore_course.specs.Choices.{cost, treatment_count, treatment_count_in, with_choice, but_last, without_last}
use Rattle.ore_course.proofs.Basics.{no_nil}

module _ {C : Type 0} where
  pub with_choice-append : (before runs : List (List C)) (c : C) → runs ≢ [] → with_choice (before ++ runs) c ≡ before ++ with_choice runs c
  unfolding with_choice
  with_choice-append [] runs c h = refl
  with_choice-append (cs ∷ []) [] c h = absurd (h refl)
  with_choice-append (cs ∷ []) (ds ∷ runs) c h = refl
  with_choice-append (cs ∷ ds ∷ before) runs c h = ap (λ rs. cs ∷ rs) (with_choice-append (ds ∷ before) runs c h)

  but_last-append : (cs : List C) (c : C) → but_last (cs ++ c ∷ []) ≡ cs
  unfolding but_last
  but_last-append [] c = refl
  but_last-append (d ∷ []) c = refl
  but_last-append (d ∷ e ∷ cs) c = ap (λ ds. d ∷ ds) (but_last-append (e ∷ cs) c)

  without_last-cons : (cs : List C) (runs : List (List C)) → runs ≢ [] → without_last (cs ∷ runs) ≡ cs ∷ without_last runs
  unfolding without_last
  without_last-cons cs [] h = absurd (h refl)
  without_last-cons cs (ds ∷ runs) h = refl

  with_choice-some : (ds : List C) (runs : List (List C)) (c : C) → with_choice (ds ∷ runs) c ≢ []
  unfolding with_choice
  with_choice-some ds [] c e = no_nil e
  with_choice-some ds (es ∷ runs) c e = no_nil e

  pub without_last-with_choice : (runs : List (List C)) (c : C) → without_last (with_choice runs c) ≡ runs
  unfolding without_last with_choice
  without_last-with_choice [] c = refl
  without_last-with_choice (cs ∷ []) c = ap (λ ds. ds ∷ []) (but_last-append cs c)
  without_last-with_choice (cs ∷ ds ∷ runs) c = without_last-cons cs (with_choice (ds ∷ runs) c) (with_choice-some ds runs c) ∙ ap (λ rs. cs ∷ rs) (without_last-with_choice (ds ∷ runs) c)

module _ {C : Type 0} (is_treatment : C → Bool) where
  treatment_count-push : (cs : List C) (c : C) → treatment_count is_treatment (cs ++ c ∷ []) ≡ treatment_count is_treatment cs + cost is_treatment c
  unfolding treatment_count
  treatment_count-push [] c = omega arith
  treatment_count-push (d ∷ cs) c = let h = treatment_count-push cs c in omega (arith, h)

  pub treatment_count_in-with_choice : (runs : List (List C)) (c : C) → runs ≢ [] → treatment_count_in is_treatment (with_choice runs c) ≡ treatment_count_in is_treatment runs + cost is_treatment c
  unfolding treatment_count_in with_choice
  treatment_count_in-with_choice [] c h = absurd (h refl)
  treatment_count_in-with_choice (cs ∷ []) c h = let e = treatment_count-push cs c in omega (arith, e)
  treatment_count_in-with_choice (cs ∷ ds ∷ runs) c h = let e = treatment_count_in-with_choice (ds ∷ runs) c (λ e. no_nil e) in omega (arith, e)

  pub treatment_count_in-start : (runs : List (List C)) → treatment_count_in is_treatment (runs ++ [] ∷ []) ≡ treatment_count_in is_treatment runs
  unfolding treatment_count_in treatment_count
  treatment_count_in-start [] = omega arith
  treatment_count_in-start (cs ∷ runs) = ap (λ n. treatment_count is_treatment cs + n) (treatment_count_in-start runs)
