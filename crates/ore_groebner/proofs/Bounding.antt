-- A choice leaves less to be done.
--     rows_left                  the rows of the basis and the pairs that the budget still allows to treat: no more rows come
--     adds_keeps, adds_it        what is listed when a pair is added
--     rows_fewer, rows_longer    no more rows are left after a choice, and it makes at most one
--     left_smaller               a choice that is followed leaves fewer pairs that aren't listed
use Rattle.std.proofs.Common.{◌≡◌, ◌≢◌, ℕ, ◌+◌, ◌-◌, ◌<◌, ◌≤◌, true, List, [], ◌∷◌, length, refl, ap, ◌∙◌, subst, arith}
use Rattle.std.proofs.lemmas.List.{length-map, length-append}
use Rattle.ore_monomial.specs.Signature.{Signature}
use Rattle.ore_rows.specs.StoredBasis.{StoredBasis, monic_of, monics}
use Rattle.ore_rows.specs.declared.choices.Choice.{Choice}
use Rattle.ore_rows.specs.declared.choices.Choice.TheVariants.{Treat, Skip}
use Rattle.ore_rows.specs.Reduction.{leads_of}
use Rattle.ore_pairs.specs.PairRule.{is_listed, HaveSamePairs, is_lawful}
use Rattle.ore_course.specs.Choices as course
use Rattle.ore_groebner.specs.Choosing.{first_of, second_of, treated_pair_count, treated_pair_count_in, with_choice, IsWithinBudget}
use Rattle.ore_groebner.specs.Following.{IsFollowed}
use Rattle.ore_groebner.specs.RunProgress.{run_state}
use Rattle.ore_groebner.specs.declared.progress.Progress.{Progress}
use Rattle.ore_pairs.proofs.PairRuleLaws.{listed_first, listed_later}
use Rattle.ore_groebner.proofs.LawfulSteps.{lawful_treat}
use Rattle.ore_groebner.proofs.Given.{treatment_count_in-with_choice}
use Rattle.ore_groebner.proofs.Stepping.{step_longer}
use Rattle.ore_groebner.proofs.Unlisted.{Keeps, unlisted, unlisted-smaller}

abbrev pub rows_left : StoredBasis → List (List Choice) → ℕ → ℕ
rows_left basis given budget = length basis.items + (budget - treated_pair_count_in given)

adds_keeps : (i j : ℕ) (ps qs : List (ℕ × ℕ)) → HaveSamePairs qs ((i, j) ∷ ps) → Keeps ps qs
adds_keeps i j ps qs adds x y e = adds x y ∙ listed_later x y (i, j) ps e

adds_it : (i j : ℕ) (ps qs : List (ℕ × ℕ)) → HaveSamePairs qs ((i, j) ∷ ps) → is_listed i j qs ≡ true
adds_it i j ps qs adds = adds i j ∙ listed_first i j (i, j) ps refl refl

rows_fewer : (c : Choice) (given : List (List Choice)) (budget m n t : ℕ) → IsWithinBudget given budget c → m ≤ n + treated_pair_count (c ∷ []) → t ≡ treated_pair_count_in given + treated_pair_count (c ∷ []) → m + (budget - t) ≤ n + (budget - treated_pair_count_in given)
unfolding course.treatment_count course.cost
rows_fewer (Treat i j) given budget m n t h k e = omega arith
rows_fewer (Skip i j via) given budget m n t h k e = omega arith

rows_longer : (s : Signature) (p q : Progress) (c : Choice) → IsFollowed s p c q → length q.basis.items ≤ length p.basis.items + treated_pair_count (c ∷ [])
rows_longer s p q c f =
    let g = step_longer s (run_state p) (run_state q) c f.made in
    counts (length q.basis.items) (length p.basis.items) (length (monics q.basis)) (length (monics p.basis)) (length g.0) (treated_pair_count (c ∷ [])) (length-map q.basis.items monic_of) (length-map p.basis.items monic_of) (ap (λ bs. length bs) g.1 ∙ length-append (monics p.basis) g.0) g.2
  where
    counts : (a b x y r t : ℕ) → x ≡ a → y ≡ b → x ≡ y + r → r ≤ t → a ≤ b + t
    counts a b x y r t e f g h = omega arith

pub left_smaller : (s : Signature) (p q : Progress) (c : Choice) (given : List (List Choice)) (budget : ℕ) → given ≢ [] → is_lawful (leads_of p.basis.items) p.listed c ≡ true → IsWithinBudget given budget c → IsFollowed s p c q → unlisted q.listed (rows_left q.basis (with_choice given c) budget) < unlisted p.listed (rows_left p.basis given budget)
left_smaller s p q c given budget begun lawful within_budget f =
    let o = lawful_treat (leads_of p.basis.items) p.listed c lawful in
    unlisted-smaller p.listed q.listed (first_of c) (second_of c) _ _ (adds_keeps (first_of c) (second_of c) p.listed q.listed f.listed) o.unlisted (adds_it (first_of c) (second_of c) p.listed q.listed f.listed) o.ordered (inside (second_of c) _ _ (subst (λ n. second_of c < n) (length-map p.basis.items (λ b. b.lead)) o.within))
    (rows_fewer c given budget (length q.basis.items) (length p.basis.items) (treated_pair_count_in (with_choice given c)) within_budget (rows_longer s p q c f) (treatment_count_in-with_choice given c begun))
  where
    inside : (j n m : ℕ) → j < n → j < n + m
    inside j n m h = omega arith
