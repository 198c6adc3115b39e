-- Choices that lead to the progress of a run.
--     IsOldOrNew, slice_get-push, take_front    the items of a list with one more
--     determined                 some choices lead to one state
--     state_after-push, reached_push   one more choice leads on from there
--     led_pairs                  the listed pairs are those of the choices, in order
--     led_reached                the state of the progress is reached
--     allowed_here               a rule allows something at the state of the progress
--     allowed_push               a rule allows one more choice
--     spent_here                 a rule allows that the budget is spent
--     led_next                   one more choice leads to what it makes of the progress
--     led_start                  no choices lead to the first basis
use Rattle.std.proofs.Common.{◌≡◌, ℕ, zero, suc, ◌<◌, ◌≤◌, Bool, true, List, [], ◌∷◌, ◌++◌, length, take, refl, sym, ap, ◌∙◌, subst, arith}
use Rattle.std.proofs.Common.{inl, inr}
use Rattle.std.specs.Prelude.{◌⊎◌}
use Rattle.std.specs.List.{slice_get}
use Rattle.std.specs.declared.option.Option.TheVariants.{Some}
use Rattle.std.specs.declared.result.Result.{Result}
use Rattle.std.specs.declared.result.Result.TheVariants.{Ok, Err}
use Rattle.std.proofs.lemmas.List.{take-append-le, length-map}
use Rattle.std.proofs.Math.Seq.{take-append_seam}
use Rattle.std.proofs.lemmas.Option.{same_Some, none-some}
use Rattle.ore_rational.specs.Field.{rationals}
use Rattle.ore_monomial.specs.Signature.{Signature}
use Rattle.ore_pairs.specs.Run.{RunState, Refusal}
use Rattle.ore_course.specs.Leading as course
use Rattle.ore_rows.specs.Stored.{OperatorMatrix}
use Rattle.ore_rows.specs.StoredBasis.{HaveLeads, monic_of}
use Rattle.ore_rows.specs.declared.choices.Choice.{Choice}
use Rattle.ore_pairs.specs.PairList.{pairs_of}
use Rattle.ore_pairs.specs.PairRule.{is_listed}
use Rattle.ore_groebner.specs.Choosing.{chosen_pairs}
use Rattle.ore_groebner.specs.Following.{state_after_choice, IsFollowed, IsLed}
use Rattle.ore_groebner.specs.Honest.{first_state, state_after, IsReached, IsAllowedAt, RuleAllowsEach, MayBeSpent}
use Rattle.ore_groebner.specs.RunProgress.{run_state, choices_of, IsProgressOf, IsBegun}
use Rattle.ore_groebner.specs.BasisLeads.{BasisLeads, basis_leads}
use Rattle.ore_groebner.specs.declared.progress.Progress.{Progress}
use Rattle.ore_groebner.proofs.Given.{lists_next}
use Rattle.ore_algebra.proofs.ResultLaws.{no_ok, same_ok}
use Rattle.ore_groebner.proofs.ProgressParts.{pairs_of-entries_from}
use Rattle.ore_groebner.proofs.StateLeads.{state_leads-state}

-- ---- lists

-- an item of a list with one more is one of the list, or the last
abbrev IsOldOrNew : {X : Type 0} → List X → X → ℕ → X → Type 0
IsOldOrNew xs x k y = ((slice_get xs k ≡ Some y) × (k < length xs)) ⊎ ((k ≡ length xs) × (x ≡ y))

slice_get-push : {X : Type 0} (xs : List X) (x : X) (k : ℕ) (y : X) → slice_get (xs ++ x ∷ []) k ≡ Some y → IsOldOrNew xs x k y
slice_get-push [] x zero y e = inr (refl, same_Some x y e)
slice_get-push [] x (suc k) y e = absurd (none-some _ e)
slice_get-push (z ∷ xs) x zero y e = inl (e, omega arith)
slice_get-push (z ∷ xs) x (suc k) y e = by (slice_get-push xs x k y e)
  where
    by : IsOldOrNew xs x k y → IsOldOrNew (z ∷ xs) x (suc k) y
    by (inl h) = inl (h.0, let l = h.1 in omega arith)
    by (inr h) = inr (ap suc h.0, h.1)

take_front : {X : Type 0} (xs : List X) (x : X) (k : ℕ) → k ≤ length xs → take k (xs ++ x ∷ []) ≡ take k xs
take_front xs x k h = take-append-le k xs (x ∷ []) h

module _ (s : Signature) (a : OperatorMatrix) where
  determined : (cs : List Choice) (x y : RunState rationals) → IsReached s a cs x → IsReached s a cs y → x ≡ y
  determined cs x y h k = same_ok x y (sym h.led ∙ ap (λ st. state_after s a st cs) (same_ok h.start k.start (sym h.begun ∙ k.begun)) ∙ k.led)

  state_after-push : (st mid next : RunState rationals) (cs : List Choice) (c : Choice) → state_after s a st cs ≡ Ok mid → state_after_choice s mid c ≡ Ok next → state_after s a st (cs ++ c ∷ []) ≡ Ok next
  unfolding course.run
  state_after-push st mid next [] c e f = ap (λ (r : Result (RunState rationals) Refusal). elim r [ Ok next ↦ state_after s a next [] | Err refusal ↦ Err refusal ]) (ap (λ st. state_after_choice s st c) (same_ok st mid e) ∙ f)
  state_after-push st mid next (d ∷ cs) c e f = by (state_after_choice s st d) (λ between. λ g. state_after-push between mid next cs c g f) e
    where
      by : (r : Result (RunState rationals) Refusal) → ((between : RunState rationals) → state_after s a between cs ≡ Ok mid → state_after s a between (cs ++ c ∷ []) ≡ Ok next)
          → ◌≡◌ {A = Result (RunState rationals) Refusal} (elim r [ Ok next ↦ state_after s a next cs | Err refusal ↦ Err refusal ]) (Ok mid)
          → ◌≡◌ {A = Result (RunState rationals) Refusal} (elim r [ Ok next ↦ state_after s a next (cs ++ c ∷ []) | Err refusal ↦ Err refusal ]) (Ok next)
      by (Ok between) more e = more between e
      by (Err refusal) more e = absurd (no_ok e)

  pub reached_push : (mid next : RunState rationals) (cs : List Choice) (c : Choice) → IsReached s a cs mid → state_after_choice s mid c ≡ Ok next → IsReached s a (cs ++ c ∷ []) next
  reached_push mid next cs c h e = record { start = h.start; begun = h.begun; led = state_after-push h.start mid next cs c h.led e }

  -- ---- rules

  module _ (allows : BasisLeads → List (ℕ × ℕ) → Choice → Bool) where
    pub led_reached : (cs : List Choice) (p : Progress) → IsLed s a allows cs p → IsReached s a cs (run_state p)
    led_reached cs p led = record { start = led.start; begun = led.begun; led = led.led }

    pub led_pairs : (cs : List Choice) (p : Progress) → IsLed s a allows cs p → pairs_of (run_state p).listed ≡ chosen_pairs cs
    led_pairs cs p led = pairs_of-entries_from p.first p.events.items ∙ ap chosen_pairs led.events

    allowed_here : (cs : List Choice) (p : Progress) → IsLed s a allows cs p → HaveLeads p.basis.items → (allowed : BasisLeads → List (ℕ × ℕ) → Bool) → allowed (basis_leads p.basis) (chosen_pairs cs) ≡ true → IsAllowedAt s allowed (run_state p)
    allowed_here cs p led have allowed h = (λ k. allowed (state_leads-state s a p led.fits have k) (led_pairs cs p led k)) ∙ h

    pub allowed_push : (cs : List Choice) (c : Choice) (p : Progress) → IsLed s a allows cs p → HaveLeads p.basis.items → allows (basis_leads p.basis) (chosen_pairs cs) c ≡ true → RuleAllowsEach s a allows (cs ++ c ∷ [])
    allowed_push cs c p led have here k d st e reached = by (slice_get-push cs c k d e)
      where
        by : IsOldOrNew cs c k d → IsAllowedAt s (λ shown ps. allows shown ps d) st
        by (inl h) = led.allowed k d st h.0 (subst (λ ds. IsReached s a ds st) (take_front cs c k (let l = h.1 in omega arith)) reached)
        by (inr h) =
            let there : IsReached s a cs st = subst (λ ds. IsReached s a ds st) (ap (λ n. take n (cs ++ c ∷ [])) h.0 ∙ take-append_seam cs (c ∷ [])) reached in
            subst (λ d. IsAllowedAt s (λ shown ps. allows shown ps d) st) h.1 (subst (λ st. IsAllowedAt s (λ shown ps. allows shown ps c) st) (determined cs (run_state p) st (led_reached cs p led) there) (allowed_here cs p led have (λ shown ps. allows shown ps c) here))

    pub spent_here : (cs : List Choice) (p : Progress) → IsLed s a allows cs p → HaveLeads p.basis.items → (allows_spent : BasisLeads → List (ℕ × ℕ) → Bool) → allows_spent (basis_leads p.basis) (chosen_pairs cs) ≡ true → MayBeSpent s a allows_spent cs
    spent_here cs p led have allows_spent h st reached = subst (IsAllowedAt s allows_spent) (determined cs (run_state p) st (led_reached cs p led) reached) (allowed_here cs p led have allows_spent h)

    pub led_next : (cs : List Choice) (c : Choice) (p q : Progress) → IsLed s a allows cs p → HaveLeads p.basis.items → allows (basis_leads p.basis) (chosen_pairs cs) c ≡ true → IsFollowed s p c q → IsLed s a allows (cs ++ c ∷ []) q
    led_next cs c p q led have here f = record {
      start = led.start;
      begun = led.begun;
      led = state_after-push led.start (run_state p) (run_state q) cs c led.led f.made;
      fits = f.fits;
      lists = lists_next p.listed q.listed cs c led.lists f.listed;
      events = f.shape.events ∙ ap (λ ds. ds ++ c ∷ []) led.events;
      first = f.shape.first ∙ led.first;
      cols = f.shape.cols ∙ led.cols;
      width = f.shape.width ∙ led.width;
      allowed = allowed_push cs c p led have here;
    }

    pub led_start : (p : Progress) → first_state s a ≡ Ok (run_state p) → IsProgressOf s p → IsBegun p → p.first ≡ length p.basis.items → p.basis.cols ≡ a.cols → p.basis.width ≡ length a.rows → IsLed s a allows [] p
    unfolding course.run is_listed
    led_start p starts fits begun first cols width = record {
      start = run_state p;
      begun = starts;
      led = refl;
      fits = fits;
      lists = λ i j. ap (is_listed i j) begun.listed;
      events = ap choices_of begun.events;
      first = first ∙ sym (length-map p.basis.items monic_of);
      cols = cols;
      width = width;
      allowed = λ k c st e reached. absurd (none-some _ e);
    }
