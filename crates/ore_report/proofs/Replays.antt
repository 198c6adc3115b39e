-- What a replaying chooser gave, and what it keeps.
--     present-at, next_at      the present run by its place, and the next kept choice
--     none_with                where there is no run, no choice comes to one
--     fronts_none              no run was begun
--     fronts_of-given          what it gave, by the numbers of these choices
--     fronts_begun             a run that begins
--     behind, BeginsWith-snoc  the kept choice behind those given of a run
--     fronts_next              the next kept choice is given
--     treatment_count-front, fronts_treats     what was given treats no more pairs than what is kept
--     next_within_budget            so the budget allows the next kept choice
--     any_none, any_found      no number passes a test, or one does
--     none_left, some_left     no pair may be treated, or one may
--     IsUnchosen, unchosen_..  what is answered without a lawful choice
use Rattle.std.proofs.Common.{◌≡◌, ◌≢◌, ℕ, zero, suc, ◌-◌, ◌<◌, ◌≤◌, true, false, List, [], ◌∷◌, ◌++◌, length, map, take, get_or, slice_get, refl, sym, ap, ap₂, ◌∙◌, subst, arith, true≢false, append_assoc}
use Rattle.std.specs.declared.option.Option.TheVariants.{None, Some}
use Rattle.std.specs.Prelude.{Bool, cond, ◌||◌, IfSome}
use Rattle.std.specs.declared.result.Result.TheVariants.{Ok}
use Rattle.std.specs.List.{list_any, range_with_len}
use Rattle.std.proofs.lemmas.List.Folds.{list_any_at}
use Rattle.std.proofs.lemmas.List.FromFn.{length-range_with_len}
use Rattle.std.proofs.lemmas.Option.{slice_get_past, get_or_from_slice_get}
use Rattle.std.proofs.Math.Seq.{take-append_seam}
use Rattle.ore_algebra.specs.Lists.{BeginsWith}
use Rattle.ore_course.specs.Choices as course
use Rattle.ore_course.specs.Replaying.{AreFronts}
use Rattle.ore_monomial.specs.Term.{Term}
use Rattle.ore_rows.specs.declared.choices.Choice.{Choice}
use Rattle.ore_rows.specs.declared.choices.Choice.TheVariants.{Treat, Skip}
use Rattle.ore_pairs.specs.PairRule.{some_pair, may_treat, is_lawful, AreAllListed, HasUnlisted}
use Rattle.ore_pairs.proofs.PairRuleLaws.{all_from, treat_from}
use Rattle.ore_pairs.proofs.SomePair.{not_true, there, pair_some, some_pair_is}
use Rattle.ore_groebner.specs.Choosing.{treated_pair_count, treated_pair_count_in, present, with_choice, next_kept, IsWithinBudget}
use Rattle.ore_groebner.specs.Choosing.{given_after, IsChooserAnswer}
use Rattle.ore_groebner.specs.Rules.{IsAllowed}
use Rattle.ore_groebner.specs.BasisLeads.{BasisLeads}
use Rattle.ore_groebner.specs.declared.chooser.Next.{Next}
use Rattle.ore_groebner.specs.declared.chooser.Next.TheVariants.{Complete, NoLawful}
use Rattle.ore_report.specs.Replay.{ReplayState, fronts_of, given_by, replay_settings, replay_allows, replay_allows_spent}
use Rattle.ore_report.proofs.GivenRuns.{treatment_count_in-treated}

-- ---- the runs by their places

present-at : (runs : List (List Choice)) (k : ℕ) → length runs ≡ suc k → get_or runs k [] ≡ present runs
unfolding present
present-at [] k h = absurd (omega (arith, h))
present-at (cs ∷ []) zero h = refl
present-at (cs ∷ []) (suc k) h = absurd (omega (arith, h))
present-at (cs ∷ ds ∷ runs) zero h = absurd (omega (arith, h))
present-at (cs ∷ ds ∷ runs) (suc k) h = present-at (ds ∷ runs) k (omega (arith, h))

some_length : (runs : List (List Choice)) → runs ≢ [] → length runs ≡ suc (length runs - 1)
some_length [] h = absurd (h refl)
some_length (cs ∷ runs) h = omega arith

pub next_at : (kept given : List (List Choice)) (n : ℕ) (run last : List Choice) (count : ℕ) → given ≢ [] → n ≡ length given → slice_get kept (n - 1) ≡ Some run → slice_get given (n - 1) ≡ Some last → count ≡ length last
    → next_kept kept given ≡ slice_get run count
next_at kept given n run last count begun counted kept_run given_run e =
    let place : length given - 1 ≡ n - 1 = omega (arith, counted) in
    let here : get_or kept (length given - 1) [] ≡ run = ap (λ k. get_or kept k []) place ∙ get_or_from_slice_get kept (n - 1) run [] kept_run in
    let present_is : present given ≡ last = sym (present-at given (length given - 1) (some_length given begun)) ∙ ap (λ k. get_or given k []) place ∙ get_or_from_slice_get given (n - 1) last [] given_run in
    ap₂ slice_get here (ap length present_is ∙ sym e)

pub none_with : (runs : List (List Choice)) (c : Choice) → length runs ≡ 0 → with_choice runs c ≡ runs
unfolding with_choice
none_with [] c h = refl
none_with (cs ∷ runs) c h = absurd (omega (arith, h))

-- ---- fronts

pub fronts_none : (kept : List (List Choice)) → AreFronts kept []
unfolding AreFronts
fronts_none kept = tt

pub fronts_of-given : (kept given : List (List Choice)) → AreFronts kept given → fronts_of kept (map length given) ≡ given
unfolding AreFronts fronts_of
fronts_of-given kept [] h = refl
fronts_of-given [] (gs ∷ given) h = ap₂ (λ x xs. x ∷ xs) (sym h.0) (fronts_of-given [] given h.1)
fronts_of-given (ks ∷ kept) (gs ∷ given) h = ap₂ (λ x xs. x ∷ xs) (ap (take (length gs)) h.0.1 ∙ take-append_seam gs h.0.0) (fronts_of-given kept given h.1)

pub fronts_begun : (kept given : List (List Choice)) → AreFronts kept given → AreFronts kept (given ++ [] ∷ [])
unfolding AreFronts
fronts_begun [] [] h = (refl, tt)
fronts_begun (ks ∷ kept) [] h = ((ks, refl), tt)
fronts_begun [] (gs ∷ given) h = (h.0, fronts_begun [] given h.1)
fronts_begun (ks ∷ kept) (gs ∷ given) h = (h.0, fronts_begun kept given h.1)

behind : (gs rest : List Choice) (c : Choice) → slice_get (gs ++ rest) (length gs) ≡ Some c → (more : List Choice) × (rest ≡ c ∷ more)
behind [] [] c e = absurd (let z : ⊥ = cc in z)
behind [] (d ∷ more) c e = (more, let f : d ≡ c = cc in ap (λ x. x ∷ more) f)
behind (g ∷ gs) rest c e = behind gs rest c e

BeginsWith-snoc : (ks gs : List Choice) (c : Choice) → BeginsWith ks gs → slice_get ks (length gs) ≡ Some c → BeginsWith ks (gs ++ c ∷ [])
BeginsWith-snoc ks gs c h e =
    let m = behind gs h.0 c (ap (λ xs. slice_get xs (length gs)) (sym h.1) ∙ e) in
    (m.0, h.1 ∙ ap (λ xs. gs ++ xs) m.1 ∙ sym (append_assoc gs (c ∷ []) m.0))

none_kept : (n k : ℕ) → slice_get (get_or {A = List Choice} [] n []) k ≡ None
none_kept n k = slice_get_past (get_or {A = List Choice} [] n []) k (omega arith)

pub fronts_next : (kept given : List (List Choice)) (c : Choice) → AreFronts kept given → given ≢ [] → next_kept kept given ≡ Some c → AreFronts kept (with_choice given c)
unfolding AreFronts with_choice present
fronts_next kept [] c h b e = absurd (b refl)
fronts_next [] (gs ∷ given) c h b e = absurd (let n = none_kept (length (gs ∷ given) - 1) (length (present (gs ∷ given))) in let z : ⊥ = cc in z)
fronts_next (ks ∷ kept) (gs ∷ []) c h b e = (BeginsWith-snoc ks gs c h.0 e, tt)
fronts_next (ks ∷ kept) (gs ∷ hs ∷ given) c h b e = (h.0, fronts_next kept (hs ∷ given) c h.1 (λ z. cc) (sym (ap (λ m. slice_get (get_or (ks ∷ kept) m []) (length (present (hs ∷ given)))) (shift (length given))) ∙ e))
  where
    shift : (n : ℕ) → suc (suc n) - 1 ≡ suc (suc n - 1)
    shift n = omega arith

-- ---- treatments

treatment_count-front : (gs rest : List Choice) → treated_pair_count gs ≤ treated_pair_count (gs ++ rest)
unfolding course.treatment_count
treatment_count-front [] rest = omega arith
treatment_count-front (g ∷ gs) rest = let h = treatment_count-front gs rest in omega (arith, h)

fronts_treats : (kept given : List (List Choice)) → AreFronts kept given → treated_pair_count_in given ≤ treated_pair_count_in kept
unfolding AreFronts course.treatment_count_in course.treatment_count
fronts_treats kept [] h = omega arith
fronts_treats [] (gs ∷ given) h = let few = fronts_treats [] given h.1 in let none : treated_pair_count gs ≡ treated_pair_count [] = ap treated_pair_count h.0 in omega (arith, few, none)
fronts_treats (ks ∷ kept) (gs ∷ given) h =
    let few = fronts_treats kept given h.1 in
    let front = treatment_count-front gs h.0.0 in
    let same : treated_pair_count ks ≡ treated_pair_count (gs ++ h.0.0) = ap treated_pair_count h.0.1 in
    omega (arith, few, front, same)

pub next_within_budget : (kept given : List (List Choice)) (c : Choice) → AreFronts kept given → given ≢ [] → next_kept kept given ≡ Some c → IsWithinBudget given (treated_pair_count_in kept) c
next_within_budget kept given (Treat i j) h b e =
    let few = fronts_treats kept (with_choice given (Treat i j)) (fronts_next kept given (Treat i j) h b e) in
    let one = treatment_count_in-treated given i j b in
    omega (arith, few, one)
next_within_budget kept given (Skip i j via) h b e = tt

-- ---- pairs that are left

none_in : (test : ℕ → Bool) (xs : List ℕ) → ((i : ℕ) → i < length xs → test (get_or xs i 0) ≡ false) → list_any test xs ≡ false
none_in test [] h = refl
none_in test (x ∷ xs) h = ap₂ ◌||◌ (h 0 (omega arith)) (none_in test xs (λ i l. h (suc i) (omega (arith, l))))

pub any_none : (test : ℕ → Bool) (n : ℕ) → ((k : ℕ) → k < n → test k ≡ false) → list_any test (range_with_len 0 n) ≡ false
any_none test n h = none_in test (range_with_len 0 n) (λ i l. let m : i < n = subst (λ k. i < k) (length-range_with_len 0 n) l in ap test (there n i m) ∙ h i m)

pub any_found : (test : ℕ → Bool) (n x : ℕ) → x < n → test x ≡ true → list_any test (range_with_len 0 n) ≡ true
any_found test n x l e = list_any_at test (range_with_len 0 n) x 0 (subst (λ m. x < m) (sym (length-range_with_len 0 n)) l) (ap test (there n x l) ∙ e)

module _ (leads : List Term) (listed : List (ℕ × ℕ)) where
  pub none_left : some_pair (length leads) (may_treat leads listed) ≡ false → AreAllListed leads listed
  none_left e = all_from leads listed (λ i j. not_true (may_treat leads listed i j) (λ t. true≢false (sym (found i j t) ∙ e)))
    where
      found : (i j : ℕ) → may_treat leads listed i j ≡ true → some_pair (length leads) (may_treat leads listed) ≡ true
      found i j t =
          let pair = treat_from leads listed i j t in
          let first = pair.ordered in
          let second = pair.within in
          pair_some (length leads) (may_treat leads listed) i j (omega (arith, first, second)) second t

  pub some_left : some_pair (length leads) (may_treat leads listed) ≡ true → HasUnlisted leads listed
  some_left e = some_pair_is (length leads) (may_treat leads listed) e

-- ---- what is answered

module _ (s : ReplayState) (leads : List Term) (ps : List (ℕ × ℕ)) (x : Next) where
  abbrev pub IsUnchosen : Type 0
  IsUnchosen = x ≡ cond (some_pair (length leads) (may_treat leads ps)) NoLawful Complete

  pub unchosen_answer : IsUnchosen → IfSome (next_kept s.kept (given_by s)) (λ c. is_lawful leads ps c ≡ false) → IsChooserAnswer leads ps (given_by s) (replay_settings s) x
  unchosen_answer h unlawful = by (some_pair (length leads) (may_treat leads ps)) refl h
    where
      by : (b : Bool) → some_pair (length leads) (may_treat leads ps) ≡ b → x ≡ cond b NoLawful Complete → IsChooserAnswer leads ps (given_by s) (replay_settings s) x
      by true e f = subst (IsChooserAnswer leads ps (given_by s) (replay_settings s)) (sym f) (some_left leads ps e, refl, unlawful)
      by false e f = subst (IsChooserAnswer leads ps (given_by s) (replay_settings s)) (sym f) (none_left leads ps e)

  pub unchosen_allowed : IsUnchosen → (shown : BasisLeads) (qs : List (ℕ × ℕ)) → IsAllowed replay_allows replay_allows_spent shown qs x
  unchosen_allowed h shown qs = by (some_pair (length leads) (may_treat leads ps)) h
    where
      by : (b : Bool) → x ≡ cond b NoLawful Complete → IsAllowed replay_allows replay_allows_spent shown qs x
      by true f = subst (IsAllowed replay_allows replay_allows_spent shown qs) (sym f) tt
      by false f = subst (IsAllowed replay_allows replay_allows_spent shown qs) (sym f) tt

  pub unchosen_given : IsUnchosen → (runs : List (List Choice)) → runs ≡ given_after runs (Ok x)
  unchosen_given h runs = by (some_pair (length leads) (may_treat leads ps)) h
    where
      by : (b : Bool) → x ≡ cond b NoLawful Complete → runs ≡ given_after runs (Ok x)
      by true f = sym (ap (λ y. given_after runs (Ok y)) f)
      by false f = sym (ap (λ y. given_after runs (Ok y)) f)
