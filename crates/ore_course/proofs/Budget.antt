-- A budget exists: all runs of a course have fewer treatments together than some number.
--     few                        choices have no more treatments than there are choices
--     leads_runs, in_runs, honest_runs    runs that lead somewhere are runs of the course, and so are those of a report
--     spent_cause                a report that the budget is spent says how many were treated
--     for_all, one_serves        one number serves finitely many choices, and all states that a run reaches
--     budget_exists              the law
--     short_forced, short_run, short_bind    how a course is shown to have such numbers
--     within_exact               runs of a course that may stop are runs of the course that it is at most
--     fewer, no_budget           reports have fewer treatments; no budget so great is spent
--     most_forced, most_run, IsCourseAtMost-bind  how a course is shown to be at most another
use Rattle.std.proofs.Common.{◌≡◌, ◌⊎◌, ◌≢◌, ℕ, zero, suc, ◌+◌, ◌≤◌, ◌<◌, Bool, true, false, cond, List, [], ◌∷◌, length, refl, sym, ap, ◌∙◌, subst, inl, inr, arith}
use Rattle.std.specs.List.{Contains}
use Rattle.std.specs.declared.result.Result.{Result}
use Rattle.std.specs.declared.result.Result.TheVariants.{Ok, Err}
use Rattle.ore_algebra.specs.Limits.{Cause, IsAtMost}
use Rattle.ore_course.specs.Choices.{Refusal, Runner, cost, treatment_count, treatment_count_in}
use Rattle.ore_course.specs.Course.{Course, ◌>>=◌, forced, run_from, Done, Stops, Runs}
use Rattle.ore_course.specs.Leading.{run, IsCompleteState, LeadsTo, IsIn}
use Rattle.ore_course.specs.Report.{Reported, StopLine, Report, IsHonestAt, IsHonest, ByStop, ByBudget, AtForced, AtChoice, AtBudget}
use Rattle.ore_course.specs.Bounded.{IsShort, HasFewChoices, AreRunsOf, AreShort, HasBudget, Extends, IsCourseAtMost}
use Rattle.ore_course.proofs.Basics.{one_ok, no_nil, result_cases, bool_cases, true_false}
use Rattle.ore_algebra.proofs.ResultLaws.{same_ok, no_ok}
use Rattle.ore_course.proofs.Leads.{run_step}

same_budget : (a b : ℕ) → ByBudget a ≡ ByBudget b → a ≡ b
same_budget a b e = cc

no_stop : {c : Cause} {n : ℕ} → ByStop c ≡ ByBudget n → ⊥
no_stop e = cc

contains_none : {C : Type 0} (c : C) → Contains [] c → ⊥
contains_none c (k, less, e) = omega (arith, less)

first_or_later : {C : Type 0} (d : C) (ds : List C) (c : C) → Contains (d ∷ ds) c → (c ≡ d) ⊎ Contains ds c
first_or_later d ds c (zero, less, e) = inl (sym e)
first_or_later d ds c (suc k, less, e) = inr (k, omega (arith, less), e)

module _ {S C : Type 0} (R : Runner S C) where
  cost_small : (c : C) → cost R.is_treatment c ≤ 1
  unfolding cost
  cost_small c = by (R.is_treatment c)
    where
      by : (b : Bool) → cond b 1 0 ≤ 1
      by true = omega arith
      by false = omega arith

  few : (cs : List C) → treatment_count R.is_treatment cs ≤ length cs
  unfolding treatment_count
  few [] = omega arith
  few (c ∷ cs) = let h = few cs in let small = cost_small c in omega (arith, h, small)

  pub leads_runs : {X : Type 0} (course : Course S X) (runs : List (List C)) (rest : Course S X) → LeadsTo R course runs rest → AreRunsOf R course runs
  unfolding LeadsTo AreRunsOf
  leads_runs course [] rest h = tt
  leads_runs (Done x) (cs ∷ runs) rest h = absurd h
  leads_runs (Stops c) (cs ∷ runs) rest h = absurd h
  leads_runs (Runs first next) (cs ∷ runs) rest (last, led, complete, more) = (last, led, (λ n. complete), leads_runs (next last) runs rest more)

  pub in_runs : {X : Type 0} (course : Course S X) (runs : List (List C)) (st : S) → IsIn R course runs st → AreRunsOf R course runs
  unfolding IsIn AreRunsOf
  in_runs course [] st h = tt
  in_runs (Done x) (cs ∷ runs) st h = absurd h
  in_runs (Stops c) (cs ∷ runs) st h = absurd h
  in_runs (Runs first next) (cs ∷ []) st h = (st, h, (λ n. absurd (n refl)), tt)
  in_runs (Runs first next) (cs ∷ ds ∷ runs) st (last, led, complete, more) = (last, led, (λ n. complete), in_runs (next last) (ds ∷ runs) st more)

  pub honest_runs : {X : Type 0} (course : Course S X) (runs : List (List C)) (cause : Reported) (stop : StopLine C) → IsHonestAt R course runs cause stop → AreRunsOf R course runs
  unfolding IsHonestAt
  honest_runs course runs cause AtForced (c, e, h) = leads_runs course runs (Stops c) h
  honest_runs course runs cause (AtChoice choice) (c, e, st, h, s) = in_runs course runs st h
  honest_runs course runs cause AtBudget (e, st, h, s) = in_runs course runs st h

  -- a report that the budget is spent says how many were treated
  pub spent_cause : {X : Type 0} (course : Course S X) (runs : List (List C)) (cause : Reported) (stop : StopLine C) (n : ℕ) → IsHonestAt R course runs cause stop → cause ≡ ByBudget n → n ≡ treatment_count_in R.is_treatment runs
  unfolding IsHonestAt
  spent_cause course runs cause AtForced n (c, e, h) same = absurd (no_stop (sym e ∙ same))
  spent_cause course runs cause (AtChoice choice) n (c, e, st, h, s) same = absurd (no_stop (sym e ∙ same))
  spent_cause course runs cause AtBudget n h same = same_budget n (treatment_count_in R.is_treatment runs) (sym same ∙ h.0)

  module _ (few_choices : HasFewChoices R) where
    -- ---- one number for finitely many choices

    module _ (P : S → ℕ → Type 0) (grows : (st : S) (a b : ℕ) → a ≤ b → P st a → P st b) where
      for_all : (st : S) → ((c : C) (next : S) → R.step st c ≡ Ok next → (b : ℕ) × P next b) → (choices : List C)
          → (b : ℕ) × ((c : C) (next : S) → Contains choices c → R.step st c ≡ Ok next → P next b)
      for_all st each [] = (0, λ c next h e. absurd (contains_none c h))
      for_all st each (d ∷ ds) = by (result_cases (R.step st d)) (for_all st each ds)
        where
          other : (b : ℕ) (a : ℕ) → a ≤ b → ((c : C) (next : S) → Contains ds c → R.step st c ≡ Ok next → P next a) → (c : C) (next : S) → Contains ds c → R.step st c ≡ Ok next → P next b
          other b a le h c next among e = grows next a b le (h c next among e)

          by : ((next : S) × (R.step st d ≡ Ok next)) ⊎ ((r : Refusal) × (R.step st d ≡ Err r)) → (b : ℕ) × ((c : C) (next : S) → Contains ds c → R.step st c ≡ Ok next → P next b)
              → (b : ℕ) × ((c : C) (next : S) → Contains (d ∷ ds) c → R.step st c ≡ Ok next → P next b)
          by (inl (there, e)) (a, h) =
              let own = each d there e in (
                own.0 + a,
                λ c next contains. elim (first_or_later d ds c contains) [
                  | inl same ↦ λ f. subst (λ s. P s (own.0 + a)) (one_ok (R.step st d) there next e (subst (λ x. R.step st x ≡ Ok next) same f)) (grows there own.0 (own.0 + a) (omega arith) own.1)
                  | inr among ↦ λ f. other (own.0 + a) a (omega arith) h c next among f
                ],
              )
          by (inr (r, e)) (a, h) = (
            a,
            λ c next contains. elim (first_or_later d ds c contains) [
              | inl same ↦ λ f. absurd (no_ok (sym e ∙ subst (λ x. R.step st x ≡ Ok next) same f))
              | inr among ↦ λ f. h c next among f
            ],
          )

    -- ---- one number for all states that a run reaches

    module _ (Q : S → ℕ → Type 0) (grows : (st : S) (a b : ℕ) → a ≤ b → Q st a → Q st b) where
      abbrev Serves : S → ℕ → Type 0
      Serves st b = (cs : List C) (last : S) → run R st cs ≡ Ok last → Q last b

      one_step : (st : S) (cs : List C) (c : C) (last : S) → run R st (c ∷ cs) ≡ Ok last → (next : S) × (R.step st c ≡ Ok next) × (run R next cs ≡ Ok last)
      unfolding run
      one_step st cs c last e = by (R.step st c) refl e
        where
          by : (r : Result S Refusal) → R.step st c ≡ r → ◌≡◌ {A = Result S Refusal} (elim r [ Ok next ↦ run R next cs | Err refusal ↦ Err refusal ]) (Ok last)
              → (next : S) × (R.step st c ≡ Ok next) × (run R next cs ≡ Ok last)
          by (Ok next) s h = (next, s, h)
          by (Err refusal) s h = absurd (no_ok h)

      pub one_serves : (n : ℕ) (st : S) → IsShort R n st → ((cs : List C) (last : S) → run R st cs ≡ Ok last → (b : ℕ) × Q last b) → (b : ℕ) × Serves st b
      unfolding run
      one_serves zero st short each = let h = short [] st refl in (0, λ cs last e. absurd (omega (arith, h)))
      one_serves (suc n) st short each = by (each [] st refl) (for_all Serves (λ s a b le h cs last e. grows last a b le (h cs last e)) st
          (λ c next e. one_serves n next (λ cs last h. shorter (length cs) (short (c ∷ cs) last (run_step R st next last c cs e h))) (λ cs last h. each (c ∷ cs) last (run_step R st next last c cs e h))) (few_choices st).0)
        where
          shorter : (k : ℕ) → suc k < suc n → k < n
          shorter k h = omega arith

          by : (b : ℕ) × Q st b → (b : ℕ) × ((c : C) (next : S) → Contains (few_choices st).0 c → R.step st c ≡ Ok next → Serves next b) → (b : ℕ) × Serves st b
          by (a, q) (b, h) = (
            a + b,
            elim [
              | [] ↦ λ last e. subst (λ s. Q s (a + b)) (same_ok st last e) (grows st a (a + b) (omega arith) q)
              | c ∷ cs ↦ λ last e. let k = one_step st cs c last e in grows last b (a + b) (omega arith) (h c k.0 ((few_choices st).1 c k.0 k.1) k.1 cs last k.2)
            ],
          )

    -- ---- the law

    module _ {X : Type 0} where
      -- the runs of a course that follow a state, where this is complete
      abbrev Fewer : S → Course S X → ℕ → Type 0
      Fewer last course b = (runs : List (List C)) → (runs ≢ [] → IsCompleteState R last) → AreRunsOf R course runs → treatment_count_in R.is_treatment runs < b

      incomplete_fewer : (last : S) (course : Course S X) → R.is_complete last ≡ false → Fewer last course 1
      unfolding treatment_count_in
      incomplete_fewer last course left [] complete h = omega arith
      incomplete_fewer last course left (cs ∷ runs) complete h = absurd (true_false (R.is_complete last) (complete (λ e. no_nil e)) left)

      after_state : (last : S) (course : Course S X) → (IsCompleteState R last → HasBudget R course) → (b : ℕ) × Fewer last course b
      after_state last course h = by (bool_cases (R.is_complete last))
        where
          by : (R.is_complete last ≡ true) ⊎ (R.is_complete last ≡ false) → (b : ℕ) × Fewer last course b
          by (inl complete) = let k = h complete in (k.0, λ runs over. k.1 runs)
          by (inr left) = (1, incomplete_fewer last course left)

      pub budget_exists : (course : Course S X) → AreShort R course → HasBudget R course
      unfolding AreShort AreRunsOf treatment_count_in
      budget_exists (Done x) h = (1, elim [ [] ↦ λ k. omega arith | cs ∷ runs ↦ λ k. absurd k ])
      budget_exists (Stops c) h = (1, elim [ [] ↦ λ k. omega arith | cs ∷ runs ↦ λ k. absurd k ])
      budget_exists (Runs first next) (short, later) =
          by (one_serves (λ last b. Fewer last (next last) b) (λ st a b le h runs over k. below (treatment_count_in R.is_treatment runs) a b le (h runs over k)) short.0 first short.1
          (λ cs last e. after_state last (next last) (λ complete. budget_exists (next last) (later cs last e complete))))
        where
          below : (t a b : ℕ) → a ≤ b → t < a → t < b
          below t a b le h = omega arith

          sum : (t u n b : ℕ) → t < n → u < b → t + u < n + b
          sum t u n b h k = omega arith

          less : (t l n : ℕ) → t ≤ l → l < n → t < n
          less t l n h k = omega arith

          after : (t n : ℕ) → t < n → t < suc n
          after t n h = omega arith

          by : (b : ℕ) × ((cs : List C) (last : S) → run R first cs ≡ Ok last → Fewer last (next last) b) → HasBudget R (Runs first next)
          by (b, h) = (
            suc (short.0 + b),
            elim [
              | [] ↦ λ k. omega arith
              | cs ∷ runs ↦ λ (last, led, over, more). after (treatment_count R.is_treatment cs + treatment_count_in R.is_treatment runs) (short.0 + b) (sum (treatment_count R.is_treatment cs) (treatment_count_in R.is_treatment runs) short.0 b (less (treatment_count R.is_treatment cs) (length cs) short.0 (few cs) (short.1 cs last led)) (h cs last led runs over more))
            ],
          )

  -- ---- how a course is shown to have such numbers

  pub short_forced : {X : Type 0} (r : Result X Cause) → AreShort R (forced r)
  unfolding AreShort forced
  short_forced (Ok x) = tt
  short_forced (Err c) = tt

  -- a run that has such a number
  pub short_run : (starts : Result S Cause) → ((first : S) → starts ≡ Ok first → (n : ℕ) × IsShort R n first) → AreShort R (run_from starts)
  unfolding AreShort forced run_from ◌>>=◌
  short_run (Ok first) h = (h first refl, λ cs last e complete. tt)
  short_run (Err c) h = tt

  -- what follows is asked for answers that runs lead to alone
  pub short_bind : {X Y : Type 0} (course : Course S X) (f : X → Course S Y) → AreShort R course → ((runs : List (List C)) (x : X) → LeadsTo R course runs (Done x) → AreShort R (f x)) → AreShort R (course >>= f)
  unfolding AreShort ◌>>=◌ LeadsTo
  short_bind (Done x) f h more = more [] x refl
  short_bind (Stops c) f h more = tt
  short_bind (Runs first next) f (short, later) more =
      (short, λ cs last e complete. short_bind (next last) f (later cs last e complete) (λ runs x k. more (cs ∷ runs) x (last, e, complete, k)))

-- ---- a course that may stop

module _ {S C : Type 0} (R E : Runner S C) (extends : Extends R E) where
  run_extends : (st : S) (cs : List C) (last : S) → run R st cs ≡ Ok last → run E st cs ≡ Ok last
  unfolding run
  run_extends st [] last e = ap Ok (same_ok st last e)
  run_extends st (c ∷ cs) last e = by (R.step st c) refl e (λ next. run_extends next cs last)
    where
      by : (r : Result S Refusal) → R.step st c ≡ r → ◌≡◌ {A = Result S Refusal} (elim r [ Ok next ↦ run R next cs | Err refusal ↦ Err refusal ]) (Ok last)
          → ((next : S) → run R next cs ≡ Ok last → run E next cs ≡ Ok last) → run E st (c ∷ cs) ≡ Ok last
      by (Ok next) s h more = run_step E st next last c cs (extends.follows st c next s) (more next h)
      by (Err refusal) s h more = absurd (no_ok h)

  pub within_exact : {X : Type 0} (course exact : Course S X) (runs : List (List C)) → IsCourseAtMost course exact → AreRunsOf R course runs → AreRunsOf E exact runs
  unfolding IsCourseAtMost AreRunsOf
  within_exact course exact [] most h = tt
  within_exact (Done x) exact (cs ∷ runs) most h = absurd h
  within_exact (Stops c) exact (cs ∷ runs) most h = absurd h
  within_exact (Runs first next) (Done y) (cs ∷ runs) most h = absurd most
  within_exact (Runs first next) (Stops c) (cs ∷ runs) most h = absurd most
  within_exact (Runs first next) (Runs other later) (cs ∷ runs) (e, most) (last, led, complete, more) =
      (last, subst (λ s. run E s cs ≡ Ok last) e (run_extends first cs last led), (λ n. sym (extends.same last) ∙ complete n), within_exact (next last) (later last) runs (most last) more)

  same_cost : (c : C) → cost R.is_treatment c ≡ cost E.is_treatment c
  unfolding cost
  same_cost c = ap (λ b. cond b 1 0) (extends.treatments c)

  same_treats : (cs : List C) → treatment_count R.is_treatment cs ≡ treatment_count E.is_treatment cs
  unfolding treatment_count
  same_treats [] = refl
  same_treats (c ∷ cs) = let one = same_cost c in let more = same_treats cs in omega (arith, one, more)

  same_treats_in : (runs : List (List C)) → treatment_count_in R.is_treatment runs ≡ treatment_count_in E.is_treatment runs
  unfolding treatment_count_in
  same_treats_in [] = refl
  same_treats_in (cs ∷ runs) = let one = same_treats cs in let more = same_treats_in runs in omega (arith, one, more)

  -- every honest report has fewer treatments than the number of the exact course
  pub fewer : {X : Type 0} (course exact : Course S X) → IsCourseAtMost course exact → (budget : HasBudget E exact) → (report : Report C) → IsHonest R course report → treatment_count_in R.is_treatment report.runs < budget.0
  fewer course exact most budget report h =
      subst (λ n. n < budget.0) (sym (same_treats_in report.runs)) (budget.1 report.runs (within_exact course exact report.runs most (honest_runs R course report.runs report.cause report.stop h)))

  -- no budget so great is spent
  pub no_budget : {X : Type 0} (course exact : Course S X) → IsCourseAtMost course exact → (budget : HasBudget E exact) → (report : Report C) → IsHonest R course report → (n : ℕ) → report.cause ≡ ByBudget n → n < budget.0
  no_budget course exact most budget report h n cause =
      let few_treated = fewer course exact most budget report h in
      subst (λ k. k < budget.0) (sym (spent_cause R course report.runs report.cause report.stop n h cause)) few_treated

-- ---- how a course is at most another

-- forced work that gives no other value than this
pub most_forced : (S : Type 0) {X : Type 0} (r t : Result X Cause) → IsAtMost r t → IsCourseAtMost {S = S} (forced r) (forced t)
unfolding IsCourseAtMost forced
most_forced S (Err c) t h = tt
most_forced S (Ok x) (Ok y) h = sym (same_ok y x h)
most_forced S (Ok x) (Err c) h = absurd (no_ok h)

-- a run from the state that this gives
pub most_run : {S : Type 0} (r t : Result S Cause) → IsAtMost r t → IsCourseAtMost (run_from r) (run_from t)
unfolding IsCourseAtMost run_from forced ◌>>=◌
most_run (Err c) t h = tt
most_run (Ok x) (Ok y) h = (sym (same_ok y x h), λ last. refl)
most_run (Ok x) (Err c) h = absurd (no_ok h)

-- one course behind another
pub IsCourseAtMost-bind : {S X Y : Type 0} (p q : Course S X) (f g : X → Course S Y) → IsCourseAtMost p q → ((x : X) → IsCourseAtMost (f x) (g x)) → IsCourseAtMost (p >>= f) (q >>= g)
unfolding IsCourseAtMost ◌>>=◌
IsCourseAtMost-bind (Stops c) q f g h more = tt
IsCourseAtMost-bind (Done x) (Done y) f g h more = subst (λ z. IsCourseAtMost (f x) (g z)) h (more x)
IsCourseAtMost-bind (Done x) (Stops c) f g h more = absurd h
IsCourseAtMost-bind (Done x) (Runs first next) f g h more = absurd h
IsCourseAtMost-bind (Runs first next) (Done y) f g h more = absurd h
IsCourseAtMost-bind (Runs first next) (Stops c) f g h more = absurd h
IsCourseAtMost-bind (Runs first next) (Runs other later) f g (e, h) more = (e, λ last. IsCourseAtMost-bind (next last) (later last) f g (h last) more)
