-- Where runs lead, of courses that go on, and of runs and further runs.
--     bind_done, bind_assoc     a course that goes on with its own answer; going on twice
--     no_done                   a course that stops isn't done
--     run_step                  one choice before others
--     leads_trans, leads_bind    runs and further runs; a course that goes on
--     in_none                   where no run was begun, none is in a state
--     in_step, in_trans, in_bind    the same of the state of the last run
--     leads_split, worked_split, ran_split    the parts of a course that was followed to its end
--     allowed_trans, allowed_bind, allowed_in_bind    the same of what a rule allows
use Rattle.std.proofs.Common.{◌≡◌, List, [], ◌∷◌, ◌++◌, refl, sym, ap, subst}
use Rattle.std.specs.declared.result.Result.{Result}
use Rattle.std.specs.declared.result.Result.TheVariants.{Ok, Err}
use Rattle.ore_algebra.specs.Limits.{Cause}
use Rattle.ore_course.specs.Choices.{Runner}
use Rattle.ore_course.specs.Course.{Course, ◌>>=◌, forced, run_from, Done, Stops, Runs}
use Rattle.ore_course.specs.Leading.{Rule, run, IsCompleteState, LeadsTo, IsIn, AreAllowedIn}
use Rattle.ore_course.proofs.Basics.{one_ok}

pub bind_done : {S X : Type 0} (course : Course S X) → (course >>= Done) ≡ course
unfolding ◌>>=◌
bind_done (Done x) = refl
bind_done (Stops c) = refl
bind_done (Runs first next) = ap (Runs first) (λ i last. bind_done (next last) i)

pub bind_assoc : {S X Y Z : Type 0} (course : Course S X) (f : X → Course S Y) (g : Y → Course S Z) → ((course >>= f) >>= g) ≡ (course >>= (λ x. f x >>= g))
unfolding ◌>>=◌
bind_assoc (Done x) f g = refl
bind_assoc (Stops c) f g = refl
bind_assoc (Runs first next) f g = ap (Runs first) (λ i last. bind_assoc (next last) f g i)

pub no_done : {S X : Type 0} {c : Cause} {x : X} → ◌≡◌ {A = Course S X} (Stops c) (Done x) → ⊥
no_done e = cc

no_run : {S X : Type 0} {first : S} {next : S → Course S X} {x : X} → ◌≡◌ {A = Course S X} (Runs first next) (Done x) → ⊥
no_run e = cc

module _ {S C : Type 0} (R : Runner S C) where
  pub run_step : (st next last : S) (c : C) (cs : List C) → R.step st c ≡ Ok next → run R next cs ≡ Ok last → run R st (c ∷ cs) ≡ Ok last
  unfolding run
  run_step st next last c cs e h = rw (e, run) h

  pub leads_trans : {X : Type 0} (course : Course S X) (before : List (List C)) (rest : Course S X) (bs : List (List C)) (end : Course S X)
      → LeadsTo R course before rest → LeadsTo R rest bs end → LeadsTo R course (before ++ bs) end
  unfolding LeadsTo
  leads_trans course [] rest bs end e h = subst (λ p. LeadsTo R p bs end) (sym e) h
  leads_trans (Done x) (cs ∷ before) rest bs end e h = absurd e
  leads_trans (Stops c) (cs ∷ before) rest bs end e h = absurd e
  leads_trans (Runs first next) (cs ∷ before) rest bs end (last, led, complete, more) h = (last, led, complete, leads_trans (next last) before rest bs end more h)

  pub leads_bind : {X Y : Type 0} (course : Course S X) (runs : List (List C)) (rest : Course S X) (f : X → Course S Y)
      → LeadsTo R course runs rest → LeadsTo R (course >>= f) runs (rest >>= f)
  unfolding LeadsTo ◌>>=◌
  leads_bind course [] rest f e = ap (λ p. p >>= f) e
  leads_bind (Done x) (cs ∷ runs) rest f e = absurd e
  leads_bind (Stops c) (cs ∷ runs) rest f e = absurd e
  leads_bind (Runs first next) (cs ∷ runs) rest f (last, led, complete, more) = (last, led, complete, leads_bind (next last) runs rest f more)

  pub in_none : {X : Type 0} (course : Course S X) (st : S) → IsIn R course [] st → ⊥
  unfolding IsIn
  in_none (Done x) st h = h
  in_none (Stops c) st h = h
  in_none (Runs first next) st h = h

  pub in_step : {X : Type 0} (first : S) (next : S → Course S X) (cs : List C) (runs : List (List C)) (last st : S)
      → run R first cs ≡ Ok last → IsCompleteState R last → IsIn R (next last) runs st → IsIn R (Runs first next) (cs ∷ runs) st
  unfolding IsIn
  in_step first next cs [] last st led complete h = absurd (in_none (next last) st h)
  in_step first next cs (ds ∷ runs) last st led complete h = (last, led, complete, h)

  pub in_trans : {X : Type 0} (course : Course S X) (before : List (List C)) (rest : Course S X) (bs : List (List C)) (st : S)
      → LeadsTo R course before rest → IsIn R rest bs st → IsIn R course (before ++ bs) st
  unfolding LeadsTo
  in_trans course [] rest bs st e h = subst (λ p. IsIn R p bs st) (sym e) h
  in_trans (Done x) (cs ∷ before) rest bs st e h = absurd e
  in_trans (Stops c) (cs ∷ before) rest bs st e h = absurd e
  in_trans (Runs first next) (cs ∷ before) rest bs st (last, led, complete, more) h = in_step first next cs (before ++ bs) last st led complete (in_trans (next last) before rest bs st more h)

  pub in_bind : {X Y : Type 0} (course : Course S X) (runs : List (List C)) (st : S) (f : X → Course S Y)
      → IsIn R course runs st → IsIn R (course >>= f) runs st
  unfolding IsIn ◌>>=◌
  in_bind course [] st f h = absurd (in_none course st h)
  in_bind (Done x) (cs ∷ runs) st f h = absurd h
  in_bind (Stops c) (cs ∷ runs) st f h = absurd h
  in_bind (Runs first next) (cs ∷ []) st f h = h
  in_bind (Runs first next) (cs ∷ ds ∷ runs) st f (last, led, complete, more) = (last, led, complete, in_bind (next last) (ds ∷ runs) st f more)

  -- ---- the parts of a course that was followed to its end

  pub leads_split : {X Y : Type 0} (course : Course S X) (f : X → Course S Y) (runs : List (List C)) (y : Y) → LeadsTo R (course >>= f) runs (Done y)
      → (x : X) × (before : List (List C)) × (after : List (List C)) × (runs ≡ before ++ after) × LeadsTo R course before (Done x) × LeadsTo R (f x) after (Done y)
  unfolding LeadsTo ◌>>=◌
  leads_split (Done x) f runs y h = (x, [], runs, refl, refl, h)
  leads_split (Stops c) f [] y h = absurd (no_done h)
  leads_split (Stops c) f (cs ∷ runs) y h = absurd h
  leads_split (Runs first next) f [] y h = absurd (no_run h)
  leads_split (Runs first next) f (cs ∷ runs) y (last, led, complete, more) =
      let k = leads_split (next last) f runs y more in (k.0, cs ∷ k.1, k.2, ap (λ rs. cs ∷ rs) k.3, (last, led, complete, k.4), k.5)

  pub worked_split : {X Y : Type 0} (r : Result X Cause) (f : X → Course S Y) (runs : List (List C)) (y : Y) → LeadsTo R (forced r >>= f) runs (Done y)
      → (x : X) × (r ≡ Ok x) × LeadsTo R (f x) runs (Done y)
  unfolding LeadsTo ◌>>=◌ forced
  worked_split (Ok x) f runs y h = (x, refl, h)
  worked_split (Err c) f [] y h = absurd (no_done h)
  worked_split (Err c) f (cs ∷ runs) y h = absurd h

  pub ran_split : {Y : Type 0} (starts : Result S Cause) (f : S → Course S Y) (runs : List (List C)) (y : Y) → LeadsTo R (run_from starts >>= f) runs (Done y)
      → (first : S) × (cs : List C) × (after : List (List C)) × (last : S) × (starts ≡ Ok first) × (runs ≡ cs ∷ after) × (run R first cs ≡ Ok last) × IsCompleteState R last × LeadsTo R (f last) after (Done y)
  unfolding LeadsTo ◌>>=◌ forced run_from
  ran_split (Ok first) f [] y h = absurd (no_run h)
  ran_split (Ok first) f (cs ∷ runs) y (last, led, complete, more) = (first, cs, runs, last, refl, refl, led, complete, more)
  ran_split (Err c) f [] y h = absurd (no_done h)
  ran_split (Err c) f (cs ∷ runs) y h = absurd h

  module _ (rule : Rule S C) where
    pub allowed_none : {X : Type 0} (course : Course S X) → AreAllowedIn R rule course []
    unfolding AreAllowedIn
    allowed_none (Done x) = tt
    allowed_none (Stops c) = tt
    allowed_none (Runs first next) = tt

    pub allowed_trans : {X : Type 0} (course : Course S X) (before : List (List C)) (rest : Course S X) (bs : List (List C))
        → LeadsTo R course before rest → AreAllowedIn R rule course before → AreAllowedIn R rule rest bs → AreAllowedIn R rule course (before ++ bs)
    unfolding LeadsTo AreAllowedIn
    allowed_trans course [] rest bs e a h = subst (λ p. AreAllowedIn R rule p bs) (sym e) h
    allowed_trans (Done x) (cs ∷ before) rest bs e a h = absurd e
    allowed_trans (Stops c) (cs ∷ before) rest bs e a h = absurd e
    allowed_trans (Runs first next) (cs ∷ before) rest bs (last, led, complete, more) a h =
        let all : AreAllowedIn R rule (next last) (before ++ bs) = allowed_trans (next last) before rest bs more (a.1 last led) h in
        (a.0, λ other led_other. subst (λ st. AreAllowedIn R rule (next st) (before ++ bs)) (one_ok (run R first cs) last other led led_other) all)

    -- each run is one of the first course, since it leads to this course
    pub allowed_bind : {X Y : Type 0} (course : Course S X) (runs : List (List C)) (rest : Course S X) (f : X → Course S Y)
        → LeadsTo R course runs rest → AreAllowedIn R rule course runs → AreAllowedIn R rule (course >>= f) runs
    unfolding LeadsTo AreAllowedIn ◌>>=◌
    allowed_bind course [] rest f e a = allowed_none (course >>= f)
    allowed_bind (Done x) (cs ∷ runs) rest f e a = absurd e
    allowed_bind (Stops c) (cs ∷ runs) rest f e a = absurd e
    allowed_bind (Runs first next) (cs ∷ runs) rest f (last, led, complete, more) a =
        let all : AreAllowedIn R rule (next last >>= f) runs = allowed_bind (next last) runs rest f more (a.1 last led) in
        (a.0, λ other led_other. subst (λ st. AreAllowedIn R rule (next st >>= f) runs) (one_ok (run R first cs) last other led led_other) all)

    -- each run is one of the first course, since the last is in a state of it
    pub allowed_in_bind : {X Y : Type 0} (course : Course S X) (runs : List (List C)) (st : S) (f : X → Course S Y)
        → IsIn R course runs st → AreAllowedIn R rule course runs → AreAllowedIn R rule (course >>= f) runs
    unfolding IsIn AreAllowedIn ◌>>=◌
    allowed_in_bind course [] st f h a = allowed_none (course >>= f)
    allowed_in_bind (Done x) (cs ∷ runs) st f h a = absurd h
    allowed_in_bind (Stops c) (cs ∷ runs) st f h a = absurd h
    allowed_in_bind (Runs first next) (cs ∷ []) st f h a = (a.0, λ last led. allowed_none (next last >>= f))
    allowed_in_bind (Runs first next) (cs ∷ ds ∷ runs) st f (last, led, complete, more) a =
        let all : AreAllowedIn R rule (next last >>= f) (ds ∷ runs) = allowed_in_bind (next last) (ds ∷ runs) st f more (a.1 last led) in
        (a.0, λ other led_other. subst (λ s. AreAllowedIn R rule (next s >>= f) (ds ∷ runs)) (one_ok (run R first cs) last other led led_other) all)
