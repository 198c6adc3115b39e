-- A rule that allows one choice in each state: there is one report within a budget, or one answer, and not both.
--     Outcome                  an answer, or the cause and the stop line of a report
--     Path                     choices that the rule allows, to a state where this holds
--     AtChoiceHere, AtBudgetHere    a report stops in this run, in a choice, or since the budget is spent
--     EndsRun, Valid           what holds at the end of a run, and along the runs of a course
--     bounded                  no more treatments come than the budget has
--     one_path, one_outcome    there is one way
--     honest_valid, formed_valid    reports and answers go this way
--     one_report, one_answer, not_both    the laws
use Rattle.std.proofs.Common.{◌≡◌, ◌⊎◌, ℕ, ◌+◌, ◌≤◌, true, false, List, [], ◌∷◌, refl, sym, ap, ◌∙◌, subst, inl, inr, arith}
use Rattle.std.specs.declared.result.Result.{Result}
use Rattle.std.specs.declared.result.Result.TheVariants.{Ok, Err}
use Rattle.ore_algebra.specs.Limits.{Cause}
use Rattle.ore_course.specs.Choices.{IsClosed, Refusal, Runner, cost, treatment_count, treatment_count_in, Unlawful, Stopped}
use Rattle.ore_course.specs.Course.{Course, Done, Stops, Runs}
use Rattle.ore_course.specs.Leading.{Rule, run, IsCompleteState, AreAllowed, LeadsTo, IsIn, IsFormedBy, AreAllowedIn}
use Rattle.ore_course.specs.Report.{Reported, StopLine, Report, IsHonestAt, IsStopAllowed, IsHonestBy, IsWithinBy, IsWithin, ByStop, ByBudget, AtForced, AtChoice, AtBudget}
use Rattle.ore_course.specs.Bounded.{IsStrict}
use Rattle.ore_course.proofs.Basics.{one_ok, ok_err, true_false}
use Rattle.ore_algebra.proofs.ResultLaws.{same_ok, same_err, no_ok}

pub data Outcome (C X : Type 0) : Type 0 where
  Answer : X → Outcome C X
  Stop : Reported → StopLine C → Outcome C X

same_stop : {C X : Type 0} (a b : Reported) (s t : StopLine C) → ◌≡◌ {A = Outcome C X} (Stop a s) (Stop b t) → (a ≡ b) × (s ≡ t)
same_stop a b s t e = (cc, cc)

same_answer : {C X : Type 0} (x y : X) → ◌≡◌ {A = Outcome C X} (Answer x) (Answer y) → x ≡ y
same_answer x y e = cc

no_answer : {C X : Type 0} {x : X} {a : Reported} {s : StopLine C} → ◌≡◌ {A = Outcome C X} (Answer x) (Stop a s) → ⊥
no_answer e = cc

same_stopped : (c d : Cause) → Stopped c ≡ Stopped d → c ≡ d
same_stopped c d e = cc

not_stopped : {c : Cause} → Unlawful ≡ Stopped c → ⊥
not_stopped e = cc

shifted : (V : ℕ → Type 0) (used a b : ℕ) → V (used + (a + b)) → V (used + a + b)
shifted V used a b v = let same : used + (a + b) ≡ used + a + b = omega arith in subst V same v

module _ {S C : Type 0} (R : Runner S C) (rule : Rule S C) where
  cost_treatment : (c : C) → R.is_treatment c ≡ true → cost R.is_treatment c ≡ 1
  unfolding cost
  cost_treatment c e = rw e refl

  module _ (closed : IsClosed R) (strict : IsStrict R rule) (budget : ℕ) where
    -- so many treatments came before
    Path : (S → ℕ → Type 0) → S → ℕ → List C → Type 0
    Path G st used [] = G st used
    Path G st used (c ∷ cs) = (rule.allows st c ≡ true) × (next : S) × (R.step st c ≡ Ok next) × Path G next (used + cost R.is_treatment c) cs

    path_bounded : (G : S → ℕ → Type 0) → ((st : S) (used : ℕ) → G st used → used ≤ budget) → (st : S) (used : ℕ) (cs : List C) → Path G st used cs → used ≤ budget
    unfolding Path
    path_bounded G h st used [] g = h st used g
    path_bounded G h st used (c ∷ cs) (a, next, e, more) = let k = path_bounded G h next (used + cost R.is_treatment c) cs more in omega (arith, k)

    path_of : (G : S → ℕ → Type 0) (st : S) (used : ℕ) (cs : List C) (last : S) → AreAllowed R rule st cs → run R st cs ≡ Ok last → G last (used + treatment_count R.is_treatment cs) → Path G st used cs
    unfolding Path AreAllowed run treatment_count
    path_of G st used [] last a e g = let same : used + 0 ≡ used = omega arith in subst (λ n. G st n) same (subst (λ s. G s (used + 0)) (sym (same_ok st last e)) g)
    path_of G st used (c ∷ cs) last a e g = by (R.step st c) refl e
        (λ next h more. path_of G next (used + cost R.is_treatment c) cs last more h
        (let same : used + treatment_count R.is_treatment (c ∷ cs) ≡ used + cost R.is_treatment c + treatment_count R.is_treatment cs = omega arith in subst (λ n. G last n) same g))
      where
        by : (r : Result S Refusal) → R.step st c ≡ r → ◌≡◌ {A = Result S Refusal} (elim r [ Ok next ↦ run R next cs | Err refusal ↦ Err refusal ]) (Ok last)
            → ((next : S) → run R next cs ≡ Ok last → AreAllowed R rule next cs → Path G next (used + cost R.is_treatment c) cs)
            → (rule.allows st c ≡ true) × (next : S) × (R.step st c ≡ Ok next) × Path G next (used + cost R.is_treatment c) cs
        by (Ok next) s h more = (a.0, next, s, more next h (a.1 next s))
        by (Err refusal) s h more = absurd (no_ok h)

    -- where one way ends, no allowed choice leads on along the other
    abbrev Blocks : (S → ℕ → Type 0) → (S → ℕ → Type 0) → Type 0
    Blocks G H = (st : S) (used : ℕ) (c : C) (next : S) (cs : List C) → G st used → rule.allows st c ≡ true → R.step st c ≡ Ok next → Path H next (used + cost R.is_treatment c) cs → ⊥

    one_path : (G H : S → ℕ → Type 0) → Blocks G H → Blocks H G → (st : S) (used : ℕ) (cs ds : List C) → Path G st used cs → Path H st used ds
        → (cs ≡ ds) × (last : S) × (n : ℕ) × G last n × H last n
    unfolding Path
    one_path G H left right st used [] [] g h = (refl, st, used, g, h)
    one_path G H left right st used [] (d ∷ ds) g (a, next, e, more) = absurd (left st used d next ds g a e more)
    one_path G H left right st used (c ∷ cs) [] (a, next, e, more) h = absurd (right st used c next cs h a e more)
    one_path G H left right st used (c ∷ cs) (d ∷ ds) (a, next, e, more) (b, other, f, more_other) =
        let same : d ≡ c = strict.one st d c b a in
        let there : other ≡ next = one_ok (R.step st c) other next (subst (λ x. R.step st x ≡ Ok other) same f) e in
        let moved : Path H next (used + cost R.is_treatment c) ds = subst (λ s. Path H s (used + cost R.is_treatment c) ds) there (subst (λ x. Path H other (used + cost R.is_treatment x) ds) same more_other) in
        let k = one_path G H left right next (used + cost R.is_treatment c) cs ds more moved in
        (ap (λ xs. c ∷ xs) k.0 ∙ ap (λ x. x ∷ ds) (sym same), k.1, k.2, k.3, k.4)

    module _ {X : Type 0} where
      -- the report stops in this run, at a choice, or where the budget is spent
      AtChoiceHere : S → ℕ → Outcome C X → Type 0
      AtChoiceHere st used o = (c : Cause) × (choice : C) × (o ≡ Stop (ByStop c) (AtChoice choice)) × (R.step st choice ≡ Err (Stopped c)) × (rule.allows st choice ≡ true) × (used + cost R.is_treatment choice ≤ budget)

      AtBudgetHere : S → ℕ → Outcome C X → Type 0
      AtBudgetHere st used o = (o ≡ Stop (ByBudget budget) AtBudget) × (R.is_complete st ≡ false) × (rule.allows_spent st ≡ true) × (used ≡ budget)

      abbrev EndsRun : List (List C) → Outcome C X → (S → ℕ → Type 0) → S → ℕ → Type 0
      EndsRun runs o V st used = ((runs ≡ []) × (AtChoiceHere st used o ⊎ AtBudgetHere st used o)) ⊎ (IsCompleteState R st × V st used)

      Valid : List (List C) → Outcome C X → Course S X → ℕ → Type 0
      Valid [] o (Done x) used = (o ≡ Answer x) × (used ≤ budget)
      Valid [] o (Stops c) used = (o ≡ Stop (ByStop c) AtForced) × (used ≤ budget)
      Valid [] o (Runs first next) used = ⊥
      Valid (cs ∷ runs) o (Done x) used = ⊥
      Valid (cs ∷ runs) o (Stops c) used = ⊥
      Valid (cs ∷ runs) o (Runs first next) used = Path (EndsRun runs o (λ st n. Valid runs o (next st) n)) first used cs

      ends_bounded : (runs : List (List C)) (o : Outcome C X) (V : S → ℕ → Type 0) → ((st : S) (used : ℕ) → V st used → used ≤ budget) → (st : S) (used : ℕ) → EndsRun runs o V st used → used ≤ budget
      unfolding AtChoiceHere AtBudgetHere
      ends_bounded runs o V h st used (inl (e, inl (c, choice, f, s, a, within_budget))) = omega (arith, within_budget)
      ends_bounded runs o V h st used (inl (e, inr (f, left, a, spent))) = omega (arith, spent)
      ends_bounded runs o V h st used (inr (complete, v)) = h st used v

      bounded : (runs : List (List C)) (o : Outcome C X) (course : Course S X) (used : ℕ) → Valid runs o course used → used ≤ budget
      unfolding Valid
      bounded [] o (Done x) used (e, h) = h
      bounded [] o (Stops c) used (e, h) = h
      bounded [] o (Runs first next) used h = absurd h
      bounded (cs ∷ runs) o (Done x) used h = absurd h
      bounded (cs ∷ runs) o (Stops c) used h = absurd h
      bounded (cs ∷ runs) o (Runs first next) used h =
          path_bounded (EndsRun runs o (λ st n. Valid runs o (next st) n)) (ends_bounded runs o (λ st n. Valid runs o (next st) n) (λ st n. bounded runs o (next st) n)) first used cs h

      blocks : (runs : List (List C)) (o : Outcome C X) (V : S → ℕ → Type 0) (H : S → ℕ → Type 0) → ((st : S) (used : ℕ) → H st used → used ≤ budget) → Blocks (EndsRun runs o V) H
      unfolding AtChoiceHere AtBudgetHere
      blocks runs o V H h st used c next cs (inl (e, inl (cause, choice, f, s, a, within_budget))) b g more =
          ok_err (R.step st c) next (Stopped cause) g (subst (λ x. R.step st x ≡ Err (Stopped cause)) (strict.one st choice c a b) s)
      blocks runs o V H h st used c next cs (inl (e, inr (f, left, a, spent))) b g more =
          let one = cost_treatment c (strict.treats_last st c a b) in
          let k = path_bounded H h next (used + cost R.is_treatment c) cs more in absurd (omega (arith, k, one, spent))
      blocks runs o V H h st used c next cs (inr (complete, v)) b g more = ok_err (R.step st c) next Unlawful g (closed st c complete)

      one_stop : (st : S) (used : ℕ) (o p : Outcome C X) → AtChoiceHere st used o ⊎ AtBudgetHere st used o → AtChoiceHere st used p ⊎ AtBudgetHere st used p → o ≡ p
      unfolding AtChoiceHere AtBudgetHere
      one_stop st used o p (inl (c, choice, f, s, a, within_budget)) (inl (d, other, g, t, b, within_budget_too)) =
          let same : other ≡ choice = strict.one st other choice b a in
          let cause : d ≡ c = same_stopped d c (same_err (Stopped d) (Stopped c) (sym (subst (λ u. R.step st u ≡ Err (Stopped d)) same t) ∙ s)) in
          f ∙ sym (g ∙ (ap (λ e. Stop (ByStop e) (AtChoice other)) cause ∙ ap (λ u. Stop (ByStop c) (AtChoice u)) same))
      one_stop st used o p (inl (c, choice, f, s, a, within_budget)) (inr (g, left, b, spent)) = let one = cost_treatment choice (strict.treats_last st choice b a) in absurd (omega (arith, within_budget, spent, one))
      one_stop st used o p (inr (g, left, b, spent)) (inl (c, choice, f, s, a, within_budget)) = let one = cost_treatment choice (strict.treats_last st choice b a) in absurd (omega (arith, within_budget, spent, one))
      one_stop st used o p (inr (f, left, a, spent)) (inr (g, left_too, b, spent_too)) = f ∙ sym g

      not_complete : (st : S) (used : ℕ) (o : Outcome C X) → AtChoiceHere st used o ⊎ AtBudgetHere st used o → R.is_complete st ≡ true → ⊥
      unfolding AtChoiceHere AtBudgetHere
      not_complete st used o (inl (c, choice, f, s, a, within_budget)) complete = not_stopped (same_err Unlawful (Stopped c) (sym (closed st choice complete) ∙ s))
      not_complete st used o (inr (f, left, a, spent)) complete = true_false (R.is_complete st) complete left

      one_end : (runs rs : List (List C)) (o p : Outcome C X) (V W : S → ℕ → Type 0) (st : S) (used : ℕ) → (V st used → W st used → (runs ≡ rs) × (o ≡ p))
          → EndsRun runs o V st used → EndsRun rs p W st used → (runs ≡ rs) × (o ≡ p)
      one_end runs rs o p V W st used more (inl (e, s)) (inl (f, t)) = (e ∙ sym f, one_stop st used o p s t)
      one_end runs rs o p V W st used more (inl (e, s)) (inr (complete, w)) = absurd (not_complete st used o s complete)
      one_end runs rs o p V W st used more (inr (complete, v)) (inl (f, t)) = absurd (not_complete st used p t complete)
      one_end runs rs o p V W st used more (inr (complete, v)) (inr (complete_too, w)) = more v w

      one_outcome : (runs rs : List (List C)) (o p : Outcome C X) (course : Course S X) (used : ℕ) → Valid runs o course used → Valid rs p course used → (runs ≡ rs) × (o ≡ p)
      unfolding Valid
      one_outcome [] [] o p (Done x) used h k = (refl, h.0 ∙ sym k.0)
      one_outcome [] [] o p (Stops c) used h k = (refl, h.0 ∙ sym k.0)
      one_outcome [] [] o p (Runs first next) used h k = absurd h
      one_outcome [] (ds ∷ rs) o p (Done x) used h k = absurd k
      one_outcome [] (ds ∷ rs) o p (Stops c) used h k = absurd k
      one_outcome [] (ds ∷ rs) o p (Runs first next) used h k = absurd h
      one_outcome (cs ∷ runs) rs o p (Done x) used h k = absurd h
      one_outcome (cs ∷ runs) rs o p (Stops c) used h k = absurd h
      one_outcome (cs ∷ runs) [] o p (Runs first next) used h k = absurd k
      one_outcome (cs ∷ runs) (ds ∷ rs) o p (Runs first next) used h k = by (one_path G H block_left block_right first used cs ds h k) (λ st n. one_outcome runs rs o p (next st) n)
        where
          G : S → ℕ → Type 0
          G = EndsRun runs o (λ st n. Valid runs o (next st) n)

          H : S → ℕ → Type 0
          H = EndsRun rs p (λ st n. Valid rs p (next st) n)

          block_left : Blocks G H
          block_left = blocks runs o (λ st n. Valid runs o (next st) n) H (ends_bounded rs p (λ st n. Valid rs p (next st) n) (λ st n. bounded rs p (next st) n))

          block_right : Blocks H G
          block_right = blocks rs p (λ st n. Valid rs p (next st) n) G (ends_bounded runs o (λ st n. Valid runs o (next st) n) (λ st n. bounded runs o (next st) n))

          by : (cs ≡ ds) × (last : S) × (n : ℕ) × G last n × H last n → ((st : S) (n : ℕ) → Valid runs o (next st) n → Valid rs p (next st) n → (runs ≡ rs) × (o ≡ p)) → (cs ∷ runs ≡ ds ∷ rs) × (o ≡ p)
          by (e, last, n, g, q) more =
              let m = one_end runs rs o p (λ st n. Valid runs o (next st) n) (λ st n. Valid rs p (next st) n) last n (more last n) g q in
              (ap (λ xs. xs ∷ runs) e ∙ ap (λ xs. ds ∷ xs) m.0, m.1)

      -- ---- reports and answers go this way

      run_valid : (runs : List (List C)) (o : Outcome C X) (first : S) (next : S → Course S X) (used : ℕ) (cs : List C) (last : S) → AreAllowed R rule first cs → run R first cs ≡ Ok last
          → EndsRun runs o (λ st n. Valid runs o (next st) n) last (used + treatment_count R.is_treatment cs) → Valid (cs ∷ runs) o (Runs first next) used
      unfolding Valid
      run_valid runs o first next used cs last a led end = path_of (EndsRun runs o (λ st n. Valid runs o (next st) n)) first used cs last a led end

      lead_valid : (runs : List (List C)) (o : Outcome C X) (course rest : Course S X) (used : ℕ) → LeadsTo R course runs rest → AreAllowedIn R rule course runs
          → Valid [] o rest (used + treatment_count_in R.is_treatment runs) → Valid runs o course used
      unfolding LeadsTo AreAllowedIn treatment_count_in
      lead_valid [] o course rest used e a v = let same : used + 0 ≡ used = omega arith in subst (λ n. Valid [] o course n) same (subst (λ p. Valid [] o p (used + 0)) (sym e) v)
      lead_valid (cs ∷ runs) o (Done x) rest used e a v = absurd e
      lead_valid (cs ∷ runs) o (Stops c) rest used e a v = absurd e
      lead_valid (cs ∷ runs) o (Runs first next) rest used (last, led, complete, more) a v =
          run_valid runs o first next used cs last a.0 led (inr (complete, lead_valid runs o (next last) rest (used + treatment_count R.is_treatment cs) more (a.1 last led) (shifted (λ n. Valid [] o rest n) used (treatment_count R.is_treatment cs) (treatment_count_in R.is_treatment runs) v)))

      in_valid : (runs : List (List C)) (o : Outcome C X) (course : Course S X) (st : S) (used : ℕ) → IsIn R course runs st → AreAllowedIn R rule course runs
          → AtChoiceHere st (used + treatment_count_in R.is_treatment runs) o ⊎ AtBudgetHere st (used + treatment_count_in R.is_treatment runs) o → Valid runs o course used
      unfolding IsIn AreAllowedIn treatment_count_in
      in_valid runs o (Done x) st used h a s = absurd h
      in_valid runs o (Stops c) st used h a s = absurd h
      in_valid [] o (Runs first next) st used h a s = absurd h
      in_valid (cs ∷ []) o (Runs first next) st used h a s =
          let same : used + (treatment_count R.is_treatment cs + 0) ≡ used + treatment_count R.is_treatment cs = omega arith in
          run_valid [] o first next used cs st a.0 h (inl (refl, subst (λ n. AtChoiceHere st n o ⊎ AtBudgetHere st n o) same s))
      in_valid (cs ∷ ds ∷ runs) o (Runs first next) st used (last, led, complete, more) a s =
          run_valid (ds ∷ runs) o first next used cs last a.0 led
          (inr (complete, in_valid (ds ∷ runs) o (next last) st (used + treatment_count R.is_treatment cs) more (a.1 last led) (shifted (λ n. AtChoiceHere st n o ⊎ AtBudgetHere st n o) used (treatment_count R.is_treatment cs) (treatment_count_in R.is_treatment (ds ∷ runs)) s)))

      formed_valid : (course : Course S X) (runs : List (List C)) (x : X) → IsFormedBy R course runs x → AreAllowedIn R rule course runs → treatment_count_in R.is_treatment runs ≤ budget → Valid runs (Answer x) course 0
      unfolding Valid
      formed_valid course runs x h a within_budget = lead_valid runs (Answer x) course (Done x) 0 h a (refl, omega (arith, within_budget))

      stop_valid : (course : Course S X) (runs : List (List C)) (cause : Reported) (stop : StopLine C) → IsHonestAt R course runs cause stop → AreAllowedIn R rule course runs → IsStopAllowed R rule course runs stop
          → IsWithinBy R budget (record { cause = cause; runs = runs; stop = stop }) cause → Valid runs (Stop cause stop) course 0
      unfolding Valid IsHonestAt IsStopAllowed AtChoiceHere AtBudgetHere
      stop_valid course runs cause AtForced (c, e, h) a s w =
          let within_budget : treatment_count_in R.is_treatment runs + 0 ≤ budget = subst (λ r. IsWithinBy R budget (record { cause = cause; runs = runs; stop = AtForced }) r) e w in
          lead_valid runs (Stop cause AtForced) course (Stops c) 0 h a (ap (λ r. Stop r AtForced) e, omega (arith, within_budget))
      stop_valid course runs cause (AtChoice choice) (c, e, st, h, t) a s w =
          let within_budget : treatment_count_in R.is_treatment runs + cost R.is_treatment choice ≤ budget = subst (λ r. IsWithinBy R budget (record { cause = cause; runs = runs; stop = AtChoice choice }) r) e w in
          in_valid runs (Stop cause (AtChoice choice)) course st 0 h a (inl (c, choice, ap (λ r. Stop r (AtChoice choice)) e, t, s st h, omega (arith, within_budget)))
      stop_valid course runs cause AtBudget (e, st, h, t) a s w =
          let spent : treatment_count_in R.is_treatment runs ≡ budget = subst (λ r. IsWithinBy R budget (record { cause = cause; runs = runs; stop = AtBudget }) r) e w in
          in_valid runs (Stop cause AtBudget) course st 0 h a (inr (ap (λ r. Stop r AtBudget) (e ∙ ap ByBudget spent), t, s st h, omega (arith, spent)))

      honest_valid : (course : Course S X) (report : Report C) → IsHonestBy R rule course report → IsWithin R budget report → Valid report.runs (Stop report.cause report.stop) course 0
      honest_valid course report h w = stop_valid course report.runs report.cause report.stop h.honest h.choices h.stop w

      -- ---- the laws

      pub one_report : (course : Course S X) (r s : Report C) → IsHonestBy R rule course r → IsWithin R budget r → IsHonestBy R rule course s → IsWithin R budget s → r ≡ s
      one_report course r s h w k v =
          let m = one_outcome r.runs s.runs (Stop r.cause r.stop) (Stop s.cause s.stop) course 0 (honest_valid course r h w) (honest_valid course s k v) in
          let n = same_stop {C = C} {X = X} r.cause s.cause r.stop s.stop m.1 in
          λ i. record { cause = n.0 i; runs = m.0 i; stop = n.1 i }

      pub one_answer : (course : Course S X) (runs rs : List (List C)) (x y : X) → IsFormedBy R course runs x → AreAllowedIn R rule course runs → treatment_count_in R.is_treatment runs ≤ budget
          → IsFormedBy R course rs y → AreAllowedIn R rule course rs → treatment_count_in R.is_treatment rs ≤ budget → (runs ≡ rs) × (x ≡ y)
      one_answer course runs rs x y h a within_budget k b within_budget_too =
          let m = one_outcome runs rs (Answer x) (Answer y) course 0 (formed_valid course runs x h a within_budget) (formed_valid course rs y k b within_budget_too) in (m.0, same_answer x y m.1)

      pub not_both : (course : Course S X) (runs : List (List C)) (x : X) (r : Report C) → IsFormedBy R course runs x → AreAllowedIn R rule course runs → treatment_count_in R.is_treatment runs ≤ budget
          → IsHonestBy R rule course r → IsWithin R budget r → ⊥
      not_both course runs x r h a within_budget k w =
          no_answer (one_outcome runs r.runs (Answer x) (Stop r.cause r.stop) course 0 (formed_valid course runs x h a within_budget) (honest_valid course r k w)).1
