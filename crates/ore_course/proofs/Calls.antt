-- How code that follows a course is proved: one lemma for each statement.
--     in_one                     runs lead to one state
--     started                    nothing is done yet
--     worked                     forced work has given a value
--     called_to, called          a call that follows a part of the course has come to some rest of it, or has answered
--     work_stopped, work_halted  forced work has stopped; that as a halt
--     call_halted                a call that follows a part of the course has halted
--     .._last                    the same of the last statement of a course
--     formed, formed_within      at the end the course forms the answer by the runs given, and within the budget
--     reported, halt_reported    at a halt the report is honest by the rule and within the budget; as a clause of a call
use Rattle.std.proofs.Common.{◌≡◌, ◌≢◌, ℕ, ◌+◌, ◌≤◌, Bool, List, [], ◌∷◌, ◌++◌, true, IfErr, refl, sym, ap, ◌∙◌, subst, arith, append_assoc, append-nil}
use Rattle.std.specs.declared.result.Result.{Result}
use Rattle.std.specs.declared.result.Result.TheVariants.{Ok, Err}
use Rattle.ore_algebra.specs.Limits.{Cause}
use Rattle.ore_course.specs.Choices.{cost, Runner, treatment_count_in, with_choice, without_last, next_kept}
use Rattle.ore_course.specs.Course.{Course, ◌>>=◌, forced, Done, Stops, Runs}
use Rattle.ore_course.specs.Leading.{IsFormedWithin, Rule, run, LeadsTo, IsIn, IsFormedBy, AreAllowedIn}
use Rattle.ore_course.specs.Report.{IsHonestAt, IsStopAllowed, IsHonestBy, IsWithin, ByStop, ByBudget, AtChoice}
use Rattle.ore_course.specs.Following.{IsReported, Halt, report_of, IsReportable, Follows, IsLeftIn, IsStopChoice, IsSpent, IsUnlawful, IsHaltedIn, InForced, InChoice, Passed, Spent, NoLawful, Memory}
use Rattle.ore_course.proofs.Basics.{one_ok, no_nil}
use Rattle.ore_course.proofs.GivenRuns.{with_choice-append, without_last-with_choice, treatment_count_in-with_choice}
use Rattle.ore_course.proofs.Leads.{bind_done, leads_trans, leads_bind, in_none, in_trans, in_bind, allowed_none, allowed_trans, allowed_bind, allowed_in_bind}

module _ {S C : Type 0} (R : Runner S C) where
  pub in_some : {X : Type 0} (course : Course S X) (runs : List (List C)) (st : S) → IsIn R course runs st → runs ≢ []
  in_some course [] st h e = in_none R course st h
  in_some course (cs ∷ runs) st h e = no_nil e

  -- runs lead to one state
  pub in_one : {X : Type 0} (course : Course S X) (runs : List (List C)) (st other : S) → IsIn R course runs st → IsIn R course runs other → st ≡ other
  unfolding IsIn
  in_one course [] st other h k = absurd (in_none R course st h)
  in_one (Done x) (cs ∷ runs) st other h k = absurd h
  in_one (Stops c) (cs ∷ runs) st other h k = absurd h
  in_one (Runs first next) (cs ∷ []) st other h k = one_ok (run R first cs) st other h k
  in_one (Runs first next) (cs ∷ ds ∷ runs) st other (mid, led, complete, more) (mid_k, led_k, complete_k, more_k) =
      in_one (next mid) (ds ∷ runs) st other more (subst (λ s. IsIn R (next s) (ds ∷ runs) other) (one_ok (run R first cs) mid_k mid led_k led) more_k)

  module _ (rule : Rule S C) where
    -- ---- going on

    pub started : {X : Type 0} (course : Course S X) (given : List (List C)) → Follows R rule course given given course
    unfolding LeadsTo
    started course given = record { added = []; given_is = sym (append-nil given); leads = refl; allowed = allowed_none R rule course }

    pub worked : {X Y : Type 0} {course : Course S Y} {before given : List (List C)} (r : Result X Cause) (x : X) (f : X → Course S Y)
        → r ≡ Ok x → Follows R rule course before given (forced r >>= f) → Follows R rule course before given (f x)
    unfolding forced ◌>>=◌
    worked {course} {before} {given} r x f e h = subst (λ t. Follows R rule course before given (forced t >>= f)) e h

    pub work_stopped : {X Y : Type 0} {course : Course S Y} {before given : List (List C)} (r : Result X Cause) (c : Cause) (f : X → Course S Y)
        → r ≡ Err c → Follows R rule course before given (forced r >>= f) → Follows R rule course before given (Stops c)
    unfolding forced ◌>>=◌
    work_stopped {course} {before} {given} r c f e h = subst (λ t. Follows R rule course before given (forced t >>= f)) e h

    joined : (before added more given mid : List (List C)) → mid ≡ before ++ added → given ≡ mid ++ more → given ≡ before ++ (added ++ more)
    joined before added more given mid e f = f ∙ (ap (λ rs. rs ++ more) e ∙ append_assoc before added more)

    -- a part of the course that was followed to some rest of it
    pub called_to : {X Y : Type 0} {course : Course S Y} {before mid given : List (List C)} (part rest : Course S X) (f : X → Course S Y)
        → Follows R rule part mid given rest → Follows R rule course before mid (part >>= f) → Follows R rule course before given (rest >>= f)
    called_to {course} {before} {mid} {given} part rest f k h = record {
      added = h.added ++ k.added;
      given_is = joined before h.added k.added given mid h.given_is k.given_is;
      leads = leads_trans R course h.added (part >>= f) k.added (rest >>= f) h.leads (leads_bind R part k.added rest f k.leads);
      allowed = allowed_trans R rule course h.added (part >>= f) k.added h.leads h.allowed (allowed_bind R rule part k.added rest f k.leads k.allowed);
    }

    pub called : {X Y : Type 0} {course : Course S Y} {before mid given : List (List C)} (part : Course S X) (x : X) (f : X → Course S Y)
        → Follows R rule part mid given (Done x) → Follows R rule course before mid (part >>= f) → Follows R rule course before given (f x)
    unfolding ◌>>=◌
    called part x f k h = called_to part (Done x) f k h

    -- ---- halts

    left_in : {X Y : Type 0} {course : Course S Y} {before mid : List (List C)} (part : Course S X) (f : X → Course S Y) (runs : List (List C)) (P : S → Type 0)
        → (h : Follows R rule course before mid (part >>= f)) → IsLeftIn R rule part runs P → IsLeftIn R rule course (h.added ++ runs) P
    left_in {course} part f runs P h k = record {
      state = k.state;
      is_in = in_trans R course h.added (part >>= f) runs k.state h.leads (in_bind R part runs k.state f k.is_in);
      allowed = allowed_trans R rule course h.added (part >>= f) runs h.leads h.allowed (allowed_in_bind R rule part runs k.state f k.is_in k.allowed);
      here = k.here;
    }

    pub call_halted : {X Y : Type 0} {course : Course S Y} {before mid : List (List C)} (given : List (List C)) (budget : ℕ) (replays : Bool) (kept : List (List C)) (part : Course S X) (f : X → Course S Y) (halt : Halt C)
        → IsHaltedIn R rule part mid given budget replays kept halt → Follows R rule course before mid (part >>= f) → IsHaltedIn R rule course before given budget replays kept halt
    unfolding IsHaltedIn ◌>>=◌
    call_halted given budget replays kept part f (Passed c InForced) k h = called_to part (Stops c) f k h
    call_halted {before = before} {mid = mid} given budget replays kept part f (Passed c (InChoice choice)) (passed, e, left) h = (
      h.added ++ passed,
      joined before h.added (with_choice passed choice) given mid h.given_is e ∙ ap (λ rs. before ++ rs) (sym (with_choice-append h.added passed choice (in_some part passed left.state left.is_in))),
      left_in part f passed (IsStopChoice R rule c choice) h left,
    )
    call_halted {before = before} {mid = mid} given budget replays kept part f Spent (added, e, left, spent, live) h =
        (h.added ++ added, joined before h.added added given mid h.given_is e, left_in part f added (IsSpent R rule) h left, spent, live)
    call_halted {before = before} {mid = mid} given budget replays kept part f NoLawful (added, e, left, replaying) h =
        (h.added ++ added, joined before h.added added given mid h.given_is e, left_in part f added (IsUnlawful R rule (next_kept kept given)) h left, replaying)
    call_halted given budget replays kept part f Memory k h = tt

    -- the halt of forced work that stopped
    pub work_halted : {X Y : Type 0} {course : Course S Y} {before given : List (List C)} (budget : ℕ) (replays : Bool) (kept : List (List C)) (r : Result X Cause) (c : Cause) (f : X → Course S Y)
        → r ≡ Err c → Follows R rule course before given (forced r >>= f) → IsHaltedIn R rule course before given budget replays kept (Passed c InForced)
    unfolding IsHaltedIn
    work_halted budget replays kept r c f e h = work_stopped r c f e h

    -- ---- the last statement of a course

    pub worked_last : {X : Type 0} {course : Course S X} {before given : List (List C)} (r : Result X Cause) (x : X)
        → r ≡ Ok x → Follows R rule course before given (forced r) → Follows R rule course before given (Done x)
    unfolding forced
    worked_last {course = course} {before} {given} r x e h = subst (λ t. Follows R rule course before given (forced t)) e h

    pub work_stopped_last : {X : Type 0} {course : Course S X} {before given : List (List C)} (r : Result X Cause) (c : Cause)
        → r ≡ Err c → Follows R rule course before given (forced r) → Follows R rule course before given (Stops c)
    unfolding forced
    work_stopped_last {course = course} {before} {given} r c e h = subst (λ t. Follows R rule course before given (forced t)) e h

    pub work_halted_last : {X : Type 0} {course : Course S X} {before given : List (List C)} (budget : ℕ) (replays : Bool) (kept : List (List C)) (r : Result X Cause) (c : Cause)
        → r ≡ Err c → Follows R rule course before given (forced r) → IsHaltedIn R rule course before given budget replays kept (Passed c InForced)
    unfolding IsHaltedIn
    work_halted_last budget replays kept r c e h = work_stopped_last r c e h

    pub called_last : {X : Type 0} {course : Course S X} {before mid given : List (List C)} (part : Course S X) (x : X)
        → Follows R rule part mid given (Done x) → Follows R rule course before mid part → Follows R rule course before given (Done x)
    called_last {course = course} {before} {mid} part x k h = called part x Done k (subst (λ p. Follows R rule course before mid p) (sym (bind_done part)) h)

    pub call_halted_last : {X : Type 0} {course : Course S X} {before mid : List (List C)} (given : List (List C)) (budget : ℕ) (replays : Bool) (kept : List (List C)) (part : Course S X) (halt : Halt C)
        → IsHaltedIn R rule part mid given budget replays kept halt → Follows R rule course before mid part → IsHaltedIn R rule course before given budget replays kept halt
    call_halted_last {course = course} {before} {mid} given budget replays kept part halt k h =
        call_halted given budget replays kept part Done halt k (subst (λ p. Follows R rule course before mid p) (sym (bind_done part)) h)

    -- ---- the ends

    pub formed : {X : Type 0} {course : Course S X} {given : List (List C)} {x : X} → Follows R rule course [] given (Done x) → IsFormedBy R course given x × AreAllowedIn R rule course given
    formed {course = course} {x = x} h = (subst (λ rs. LeadsTo R course rs (Done x)) (sym h.given_is) h.leads, subst (λ rs. AreAllowedIn R rule course rs) (sym h.given_is) h.allowed)

    pub formed_within : {X : Type 0} {course : Course S X} {given : List (List C)} {x : X} (budget : ℕ) → Follows R rule course [] given (Done x) → treatment_count_in R.is_treatment given ≤ budget → IsFormedWithin R rule budget course given x
    formed_within budget h within_budget = let k = formed h in record { formed = k.0; allowed = k.1; within_budget = within_budget }

    stop_there : {X : Type 0} (course : Course S X) (runs : List (List C)) (c : Cause) (choice : C) → IsLeftIn R rule course runs (IsStopChoice R rule c choice)
        → IsHonestBy R rule course (record { cause = ByStop c; runs = runs; stop = AtChoice choice })
    unfolding IsHonestAt IsStopAllowed
    stop_there course runs c choice left = record {
      honest = (c, refl, left.state, left.is_in, left.here.0);
      choices = left.allowed;
      stop = λ st h. subst (λ s. rule.allows s choice ≡ true) (in_one course runs left.state st left.is_in h) left.here.1;
    }

    pub reported : {X : Type 0} (course : Course S X) (given : List (List C)) (budget : ℕ) (replays : Bool) (kept : List (List C)) (halt : Halt C)
        → IsHaltedIn R rule course [] given budget replays kept halt → IsReportable halt → treatment_count_in R.is_treatment given ≤ budget
        → IsHonestBy R rule course (report_of given budget halt) × IsWithin R budget (report_of given budget halt)
    unfolding IsHaltedIn IsHonestAt IsStopAllowed
    reported course given budget replays kept (Passed c InForced) h u within_budget = (
      record { honest = (c, refl, subst (λ rs. LeadsTo R course rs (Stops c)) (sym h.given_is) h.leads); choices = subst (λ rs. AreAllowedIn R rule course rs) (sym h.given_is) h.allowed; stop = tt },
      omega arith,
    )
    reported course given budget replays kept (Passed c (InChoice choice)) (passed, e, left) u within_budget =
        let same : passed ≡ without_last given = sym (ap without_last e ∙ without_last-with_choice passed choice) in
        let count : treatment_count_in R.is_treatment given ≡ treatment_count_in R.is_treatment passed + cost R.is_treatment choice = ap (λ rs. treatment_count_in R.is_treatment rs) e ∙ treatment_count_in-with_choice R.is_treatment passed choice (in_some course passed left.state left.is_in) in (
          subst (λ rs. IsHonestBy R rule course (record { cause = ByStop c; runs = rs; stop = AtChoice choice })) same (stop_there course passed c choice left),
          subst (λ rs. treatment_count_in R.is_treatment rs + cost R.is_treatment choice ≤ budget) same (omega (arith, count)),
        )
    reported course given budget replays kept Spent (added, e, left, spent, live) u within_budget =
        let is_in : IsIn R course given left.state = subst (λ rs. IsIn R course rs left.state) (sym e) left.is_in in (
          record {
            honest = (ap ByBudget (sym spent), left.state, is_in, left.here.0);
            choices = subst (λ rs. AreAllowedIn R rule course rs) (sym e) left.allowed;
            stop = λ st h. subst (λ s. rule.allows_spent s ≡ true) (in_one course given left.state st is_in h) left.here.1;
          },
          refl,
        )
    reported course given budget replays kept NoLawful h u within_budget = absurd u
    reported course given budget replays kept Memory h u within_budget = absurd u

    -- the clause of a wrapper: a call that began where no run was given, of whose halts this is the halt
    pub halt_reported : {X A H : Type 0} (course : Course S X) (halt_of : H → Halt C) (result : Result A H) (before given : List (List C)) (budget : ℕ) (replays : Bool) (kept : List (List C))
        → IfErr result (λ h. IsHaltedIn R rule course before given budget replays kept (halt_of h)) → before ≡ [] → treatment_count_in R.is_treatment given ≤ budget
        → IfErr result (λ h. IsReported R rule course given budget (halt_of h))
    halt_reported course halt_of (Ok a) before given budget replays kept h start within_budget = tt
    halt_reported course halt_of (Err halt) before given budget replays kept h start within_budget =
        λ reportable. reported course given budget replays kept (halt_of halt) (subst (λ b. IsHaltedIn R rule course b given budget replays kept (halt_of halt)) start h) reportable within_budget
