-- The first line of a report that fails, as a relation: what the lines before it lead to, and what is amiss there.
--     AreFollowed               some runs are begun and followed, and then this holds
--     CannotBegin, IsRefused    no run may begin; a choice of the run that is next doesn't lead on
--     IsFirstFailing            the lines before a place pass, and its own doesn't
use Rattle.std.specs.Prelude.{◌≡◌, ◌<◌, true, false, List, [], ◌∷◌, length, slice_get, take}
use Rattle.std.specs.declared.option.Option.{Option}
use Rattle.std.specs.declared.option.Option.TheVariants.{None, Some}
use Rattle.std.specs.declared.result.Result.TheVariants.{Ok, Err}
use Rattle.ore_course.specs.Choices.{Refusal, Runner, treatment_count_in}
use Rattle.ore_course.specs.Course.{Course, Done, Stops, Runs}
use Rattle.ore_course.specs.Leading.{run}
use Rattle.ore_course.specs.Report.{Report}
use Rattle.ore_course.specs.Failing.{ReportPlace, OfRun, OfChoice, OfStop, is_over, stop_passes}

module _ {S C : Type 0} (R : Runner S C) {X : Type 0} where
  -- these runs are begun and followed, one after another, and this holds of the last state and of what is left
  unfoldable pub AreFollowed : (Option S → Course S X → Type 0) → Option S → Course S X → List (List C) → Type 0
  AreFollowed Q last rest [] = Q last rest
  AreFollowed Q last (Runs first next) (cs ∷ runs) = (is_over R last ≡ true) × (st : S) × (run R first cs ≡ Ok st) × AreFollowed Q (Some st) (next st) runs
  AreFollowed Q last (Done x) (cs ∷ runs) = ⊥
  AreFollowed Q last (Stops cause) (cs ∷ runs) = ⊥

  -- the run before isn't complete, or no run is next
  unfoldable pub CannotBegin : Option S → Course S X → Type 0
  CannotBegin last (Runs first next) = is_over R last ≡ false
  CannotBegin last (Done x) = Unit {0}
  CannotBegin last (Stops cause) = Unit {0}

  -- a run is next and may begin, these choices lead on, and then this one doesn't
  unfoldable pub IsRefused : List C → C → Option S → Course S X → Type 0
  IsRefused before c last (Runs first next) = (is_over R last ≡ true) × (st : S) × (refusal : Refusal) × (run R first before ≡ Ok st) × (R.step st c ≡ Err refusal)
  IsRefused before c last (Done x) = ⊥
  IsRefused before c last (Stops cause) = ⊥

  -- the lines before the place pass, and its own doesn't
  unfoldable pub IsFirstFailing : Course S X → Report C → ReportPlace C → Type 0
  IsFirstFailing course report (OfRun k) = (k < length report.runs) × AreFollowed CannotBegin None course (take k report.runs)
  IsFirstFailing course report (OfChoice k n c) =
      (cs : List C) × (slice_get report.runs k ≡ Some cs) × (slice_get cs n ≡ Some c) × AreFollowed (IsRefused (take n cs) c) None course (take k report.runs)
  IsFirstFailing course report OfStop = AreFollowed (λ last rest. stop_passes R report.cause (treatment_count_in R.is_treatment report.runs) last rest report.stop ≡ false) None course report.runs
