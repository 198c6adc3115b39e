-- The choices of runs, with one more choice.
--     with_choice-begun, start-begun     there is a run
--     present-cons, earlier-cons         the parts of more runs
--     present-with_choice, earlier-with_choice, treatment_count_in-with_choice    what the last run, the others and all treat with one more choice
--     present-start, earlier-start       the same of a run that begins
--     within_budget_start, within_budget_next      a run that begins, and a choice that the budget allows, stay within the budget
--     runs_are                           the runs are the others and the last
--     one_more                           the runs of which the others are those that were there before
--     chosen_pairs-push, lists_next      the pairs of some choices, and of one more
use Rattle.std.proofs.Common.{◌≡◌, ◌≢◌, ℕ, ◌+◌, ◌≤◌, List, [], ◌∷◌, ◌++◌, refl, sym, ap, ◌∙◌, arith}
use Rattle.std.specs.Prelude.{◌&&◌, ◌||◌, nat_eq}
use Rattle.std.proofs.lemmas.List.{map-append}
use Rattle.ore_rows.specs.declared.choices.Choice.{Choice}
use Rattle.ore_rows.specs.declared.choices.Choice.TheVariants.{Treat, Skip}
use Rattle.ore_pairs.specs.PairRule.{is_listed, HaveSamePairs}
use Rattle.ore_pairs.proofs.PairRuleLaws.{is_listed-push}
use Rattle.ore_course.specs.Choices as course
use Rattle.ore_course.proofs.GivenRuns as given
use Rattle.ore_pairs.specs.Runner.{treats_pair}
use Rattle.ore_groebner.specs.Choosing.{first_of, second_of, chosen_pairs, treated_pair_count, treated_pair_count_in, present, with_choice, IsWithinBudget, AreWithinBudget}
use Rattle.ore_groebner.specs.Following.{earlier}
use Rattle.ore_groebner.specs.Honest.{HasOneMoreRun}

cons_not_nil : {X : Type 0} (x : X) (xs : List X) → x ∷ xs ≢ []
cons_not_nil x xs e = cc

pub with_choice-begun : (runs : List (List Choice)) (c : Choice) → runs ≢ [] → with_choice runs c ≢ []
unfolding with_choice
with_choice-begun [] c h = absurd (h refl)
with_choice-begun (cs ∷ []) c h = cons_not_nil _ _
with_choice-begun (cs ∷ ds ∷ runs) c h = cons_not_nil _ _

pub start-begun : (runs : List (List Choice)) (cs : List Choice) → runs ++ cs ∷ [] ≢ []
start-begun [] cs = cons_not_nil _ _
start-begun (ds ∷ runs) cs = cons_not_nil _ _

pub present-cons : (cs : List Choice) (runs : List (List Choice)) → runs ≢ [] → present (cs ∷ runs) ≡ present runs
unfolding present
present-cons cs [] h = absurd (h refl)
present-cons cs (ds ∷ runs) h = refl

pub earlier-cons : (cs : List Choice) (runs : List (List Choice)) → runs ≢ [] → earlier (cs ∷ runs) ≡ cs ∷ earlier runs
unfolding earlier
earlier-cons cs [] h = absurd (h refl)
earlier-cons cs (ds ∷ runs) h = refl

pub present-with_choice : (runs : List (List Choice)) (c : Choice) → runs ≢ [] → present (with_choice runs c) ≡ present runs ++ c ∷ []
unfolding present with_choice
present-with_choice [] c h = absurd (h refl)
present-with_choice (cs ∷ []) c h = refl
present-with_choice (cs ∷ ds ∷ runs) c h = present-cons cs (with_choice (ds ∷ runs) c) (with_choice-begun (ds ∷ runs) c (cons_not_nil _ _)) ∙ present-with_choice (ds ∷ runs) c (cons_not_nil _ _)

pub earlier-with_choice : (runs : List (List Choice)) (c : Choice) → earlier (with_choice runs c) ≡ earlier runs
unfolding earlier with_choice
earlier-with_choice [] c = refl
earlier-with_choice (cs ∷ []) c = refl
earlier-with_choice (cs ∷ ds ∷ runs) c = earlier-cons cs (with_choice (ds ∷ runs) c) (with_choice-begun (ds ∷ runs) c (cons_not_nil _ _)) ∙ ap (λ rs. cs ∷ rs) (earlier-with_choice (ds ∷ runs) c)

pub treatment_count_in-with_choice : (runs : List (List Choice)) (c : Choice) → runs ≢ [] → treated_pair_count_in (with_choice runs c) ≡ treated_pair_count_in runs + treated_pair_count (c ∷ [])
unfolding course.treatment_count
treatment_count_in-with_choice runs c h = let e = given.treatment_count_in-with_choice treats_pair runs c h in omega (arith, e)

pub present-start : (runs : List (List Choice)) → present (runs ++ [] ∷ []) ≡ []
unfolding present
present-start [] = refl
present-start (cs ∷ runs) = present-cons cs (runs ++ [] ∷ []) (start-begun runs []) ∙ present-start runs

pub earlier-start : (runs : List (List Choice)) → earlier (runs ++ [] ∷ []) ≡ runs
unfolding earlier
earlier-start [] = refl
earlier-start (cs ∷ runs) = earlier-cons cs (runs ++ [] ∷ []) (start-begun runs []) ∙ ap (λ rs. cs ∷ rs) (earlier-start runs)

pub within_budget_start : (runs now : List (List Choice)) (budget new : ℕ) → now ≡ runs ++ [] ∷ [] → new ≡ budget → AreWithinBudget runs budget → AreWithinBudget now new
within_budget_start runs now budget new e f h = rw (e, f, given.treatment_count_in-start treats_pair runs) h

treats_allowed : (runs : List (List Choice)) (budget : ℕ) (c : Choice) → AreWithinBudget runs budget → IsWithinBudget runs budget c → treated_pair_count_in runs + treated_pair_count (c ∷ []) ≤ budget
unfolding course.treatment_count course.cost
treats_allowed runs budget (Treat i j) h k = omega arith
treats_allowed runs budget (Skip i j via) h k = omega arith

pub within_budget_next : (runs now : List (List Choice)) (budget new : ℕ) (c : Choice) → runs ≢ [] → now ≡ with_choice runs c → new ≡ budget → IsWithinBudget runs budget c → AreWithinBudget runs budget → AreWithinBudget now new
within_budget_next runs now budget new c begun e f k h = rw (e, f, treatment_count_in-with_choice runs c begun) (treats_allowed runs budget c h k)

pub runs_are : (runs : List (List Choice)) → runs ≢ [] → runs ≡ earlier runs ++ present runs ∷ []
unfolding present earlier
runs_are [] h = absurd (h refl)
runs_are (cs ∷ []) h = refl
runs_are (cs ∷ ds ∷ runs) h = ap (λ rs. cs ∷ rs) (runs_are (ds ∷ runs) (cons_not_nil _ _))

pub one_more : (before runs : List (List Choice)) → runs ≢ [] → earlier runs ≡ earlier (before ++ [] ∷ []) → HasOneMoreRun before runs
one_more before runs h e = runs_are runs h ∙ ap (λ rs. rs ++ present runs ∷ []) (e ∙ earlier-start before)

-- ---- the pairs of choices

pub chosen_pairs-push : (i j : ℕ) (cs : List Choice) (c : Choice) → is_listed i j (chosen_pairs (cs ++ c ∷ [])) ≡ ((nat_eq i (first_of c) && nat_eq j (second_of c)) || is_listed i j (chosen_pairs cs))
chosen_pairs-push i j cs c = ap (is_listed i j) (map-append (λ (d : Choice). (first_of d, second_of d)) cs (c ∷ [])) ∙ is_listed-push i j (chosen_pairs cs) (first_of c, second_of c)

pub lists_next : (ps qs : List (ℕ × ℕ)) (cs : List Choice) (c : Choice) → HaveSamePairs ps (chosen_pairs cs) → HaveSamePairs qs ((first_of c, second_of c) ∷ ps) → HaveSamePairs qs (chosen_pairs (cs ++ c ∷ []))
unfolding is_listed
lists_next ps qs cs c lists adds i j = adds i j ∙ ap (λ b. (nat_eq i (first_of c) && nat_eq j (second_of c)) || b) (lists i j) ∙ sym (chosen_pairs-push i j cs c)
