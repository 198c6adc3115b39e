-- How a search with the choices of a report decides the check of the report.
--     runner_closed            in a complete state no choice is lawful
--     found_answer, halted_answer     the answer where the search found something, and where it halted
--     none_halted, some_halted        the same, by the halt of its result
--     decides                  an answer that is that of the check is valid where the report is honest
--     IsReplayedFrom           the answer is that of the lines of the report from a run on
--     none_begun, fewer_passed, all_passed    a run that wasn't begun; of which fewer choices passed; of which all did
--     more_begun, stop_fails, stop_passes     behind the last run
--     passed_inside, passed_all, passed_but_one    how many choices of a run passed
use Rattle.std.proofs.Common.{◌≡◌, ◌≢◌, ◌↔◌, ℕ, suc, ◌+◌, ◌-◌, ◌<◌, ◌≤◌, Bool, true, false, cond, List, [], length, get_or, slice_get, refl, sym, ap, ◌∙◌, subst, arith}
use Rattle.std.specs.Prelude.{IfOk, IfErr}
use Rattle.std.specs.Result.{result_err}
use Rattle.std.specs.declared.result.Result.{Result}
use Rattle.std.specs.declared.result.Result.TheVariants.{Ok, Err}
use Rattle.std.specs.declared.option.Option.{Option}
use Rattle.std.specs.declared.option.Option.TheVariants.{None, Some}
use Rattle.std.proofs.lemmas.Option.{get_or_from_slice_get}
use Rattle.ore_algebra.specs.Limits.{program}
use Rattle.ore_rational.specs.Field.{rationals, rational_inverses}
use Rattle.ore_course.specs.Choices.{IsClosed, treatment_count_in, without_last}
use Rattle.ore_course.specs.Failing.{ReportPlace, OfRun, OfChoice, OfStop}
use Rattle.ore_course.specs.Following.{Memory, IsHaltedIn}
use Rattle.ore_course.specs.Replaying.{End, kept_of, passed_of, stop_decided, replayed, AreFronts}
use Rattle.ore_course.proofs.Replay.{fronts, replay_answered, replay_halted}
use Rattle.ore_monomial.specs.Signature.{Signature}
use Rattle.ore_rows.specs.Arithmetic.{within}
use Rattle.ore_rows.specs.declared.choices.Choice.{Choice}
use Rattle.ore_pairs.proofs.CompleteStates.{closed}
use Rattle.ore_pairs.specs.Reached.{rule_of}
use Rattle.ore_pairs.specs.Runner.{treats_pair}
use Rattle.ore_cert.specs.CourseReport.{reported_as, stop_as, course_report}
use Rattle.ore_cert.specs.declared.report.Report.{Report}
use Rattle.ore_blocks.specs.CheckBlock.{RowMatrix}
use Rattle.ore_groebner.specs.Courses.{halt_in_course}
use Rattle.ore_groebner.specs.declared.outcome.Halt.{Halt}
use Rattle.ore_groebner.specs.declared.outcome.Halt.TheVariants as stopped
use Rattle.ore_check.specs.declared.answer.Checked.{Checked as Answer}
use Rattle.ore_check.specs.declared.answer.Checked.TheVariants as answer
use Rattle.ore_check.proofs.PlanReports.{report_true}
use Rattle.ore_check.specs.Reports.{program_runner, plan_course, IsHonestReport, failing_place, check_report}
use Rattle.ore_report.specs.Replay.{ReplayState, given_by, replay_settings, replay_allows, replay_allows_spent, gives_kept}
use Rattle.ore_commands.specs.ReportAnswers.{end_of, answer_to}
use Rattle.ore_commands.specs.Search.{IsFoundBy, IsHaltedBy}
use Rattle.ore_commands.specs.declared.found.Found.{Found}
use Rattle.ore_commands.proofs.ReportLines.{from, run_missing, choice_missing, choices_given, one_more, at_stop, passed-length, passed_before, passed_last}
use Rattle.ore_commands.proofs.RepliesOfCheck.{answer_same}

pub runner_closed : (s : Signature) → IsClosed (program_runner s)
runner_closed s st c e = closed rationals rational_inverses s.order (within program s) st c e

module _ (s : Signature) (r : RowMatrix) (report : Report) (chooser : ReplayState) (keeps : chooser.kept ≡ kept_of (course_report report)) where
  given_fronts : AreFronts (kept_of (course_report report)) (given_by chooser)
  given_fronts = subst (λ kept. AreFronts kept (given_by chooser)) keeps (fronts chooser.kept (given_by chooser) ((gives_kept chooser).gives_kept refl))

  pub found_answer : (found : Found) → IsFoundBy s r replay_allows replay_allows_spent report.plan [] (given_by chooser) found
      → answer_to report (replayed (program_runner s) (course_report report) (given_by chooser) None) ≡ check_report s r report
  found_answer found h =
      ap (answer_to report) (sym (replay_answered (program_runner s) (runner_closed s) (rule_of s replay_allows replay_allows_spent) (plan_course s report.plan r) (course_report report) (given_by chooser) h.0 h.1 given_fronts))
      ∙ sym (answer_same report (failing_place s r report))

  some_memory : (halt : Halt) → halt ≢ stopped.Memory → halt_in_course halt ≢ Memory
  some_memory (stopped.Overflow place) h e = cc
  some_memory (stopped.Degree place) h e = cc
  some_memory stopped.Spent h e = cc
  some_memory stopped.NoLawful h e = cc
  some_memory stopped.Memory h e = h refl

  pub halted_answer : (halt : Halt) → IsHaltedBy s r replay_allows replay_allows_spent report.plan [] (given_by chooser) (replay_settings chooser) halt → halt ≢ stopped.Memory
      → answer_to report (replayed (program_runner s) (course_report report) (given_by chooser) (end_of (Some halt))) ≡ check_report s r report
  halted_answer halt h memory =
      let R = program_runner s in
      let rule = rule_of s replay_allows replay_allows_spent in
      let course = plan_course s report.plan r in
      let halts = subst (λ kept. IsHaltedIn R rule course [] (given_by chooser) (replay_settings chooser).budget true kept (halt_in_course halt)) keeps h in
      ap (answer_to report) (sym (replay_halted R (runner_closed s) rule course (course_report report) (given_by chooser) (replay_settings chooser).budget (halt_in_course halt) halts given_fronts (some_memory halt memory)))
      ∙ sym (answer_same report (failing_place s r report))

  module _ (result : Result Found Halt) (before : List (List Choice)) (start : before ≡ []) where
    pub none_halted : result_err result ≡ None → IfOk result (IsFoundBy s r replay_allows replay_allows_spent report.plan before (given_by chooser))
        → answer_to report (replayed (program_runner s) (course_report report) (given_by chooser) (end_of None)) ≡ check_report s r report
    none_halted = by result
      where
        by : (result : Result Found Halt) → result_err result ≡ None → IfOk result (IsFoundBy s r replay_allows replay_allows_spent report.plan before (given_by chooser))
            → answer_to report (replayed (program_runner s) (course_report report) (given_by chooser) (end_of None)) ≡ check_report s r report
        by (Ok found) e h = found_answer found (subst (λ runs. IsFoundBy s r replay_allows replay_allows_spent report.plan runs (given_by chooser) found) start h)
        by (Err halt) e h = absurd (let some : ◌≡◌ {A = Option Halt} (Some halt) None = e in let z : ⊥ = cc in z)

    pub some_halted : (halt : Halt) → result_err result ≡ Some halt → IfErr result (IsHaltedBy s r replay_allows replay_allows_spent report.plan before (given_by chooser) (replay_settings chooser)) → halt ≢ stopped.Memory
        → answer_to report (replayed (program_runner s) (course_report report) (given_by chooser) (end_of (Some halt))) ≡ check_report s r report
    some_halted halt = by result
      where
        by : (result : Result Found Halt) → result_err result ≡ Some halt → IfErr result (IsHaltedBy s r replay_allows replay_allows_spent report.plan before (given_by chooser) (replay_settings chooser)) → halt ≢ stopped.Memory
            → answer_to report (replayed (program_runner s) (course_report report) (given_by chooser) (end_of (Some halt))) ≡ check_report s r report
        by (Ok found) e h memory = absurd (let none : ◌≡◌ {A = Option Halt} None (Some halt) = e in let z : ⊥ = cc in z)
        by (Err own) e h memory =
            let same : own ≡ halt = let some : ◌≡◌ {A = Option Halt} (Some own) (Some halt) = e in cc in
            halted_answer halt (subst (λ runs. IsHaltedBy s r replay_allows replay_allows_spent report.plan runs (given_by chooser) (replay_settings chooser) halt) start
            (subst (IsHaltedBy s r replay_allows replay_allows_spent report.plan before (given_by chooser) (replay_settings chooser)) same h)) memory

pub decides : (s : Signature) (r : RowMatrix) (report : Report) (given : Answer) → (given ≢ answer.Memory → given ≡ check_report s r report) → given ≢ answer.Memory → (given ≡ answer.Valid) ↔ IsHonestReport s r report
decides s r report given is memory = let e = is memory in (λ valid. (report_true s r report).0 (sym e ∙ valid), λ honest. e ∙ (report_true s r report).1 honest)

-- ---- the lines of a report, from a run on

module _ (report : Report) (given : List (List Choice)) (end : End Choice) where
  abbrev pub IsReplayedFrom : ℕ → Type 0
  IsReplayedFrom k = (s : Signature) → replayed (program_runner s) (course_report report) given end ≡ from s (course_report report) end (passed_of given end) report.runs k

  abbrev pub IsReplayAnswer : Answer → Type 0
  IsReplayAnswer result = (s : Signature) → result ≡ answer_to report (replayed (program_runner s) (course_report report) given end)

  abbrev pub passed : List (List Choice)
  passed = passed_of given end

  module _ (k : ℕ) (h : IsReplayedFrom k) where
    decided_so : (result : Answer) (place : Option (ReportPlace Choice)) → ((s : Signature) → from s (course_report report) end passed report.runs k ≡ place) → result ≡ answer_to report place → IsReplayAnswer result
    decided_so result place f e = λ s. e ∙ ap (answer_to report) (sym (h s ∙ f s))

    pub none_begun : (result : Answer) → length given ≤ k → k < length report.runs → result ≡ answer_to report (Some (OfRun k)) → IsReplayAnswer result
    none_begun result l m e = decided_so result _ (λ s. run_missing s (course_report report) end passed report.runs k (rw (passed-length given end) l) m) e

    pub fewer_passed : (result : Answer) (c : Choice) (n : ℕ) → n ≡ length (get_or passed k []) → k < length given → k < length report.runs → slice_get (get_or report.runs k []) n ≡ Some c
        → result ≡ answer_to report (Some (OfChoice k n c)) → IsReplayAnswer result
    fewer_passed result c n same l m at e =
        let at_length = subst (λ n. slice_get (get_or report.runs k []) n ≡ Some c) same at in
        let e_length = subst (λ n. result ≡ answer_to report (Some (OfChoice k n c))) same e in
        decided_so result _ (λ s. choice_missing s (course_report report) end passed report.runs k c (rw (passed-length given end) l) m at_length) e_length

    pub all_passed : k < length given → k < length report.runs → length (get_or report.runs k []) ≤ length (get_or passed k []) → IsReplayedFrom (suc k)
    all_passed l m n = λ s. h s ∙ choices_given s (course_report report) end passed report.runs k (rw (passed-length given end) l) m n

    pub more_begun : (result : Answer) → length report.runs ≤ k → k < length given → result ≡ answer_to report (Some OfStop) → IsReplayAnswer result
    more_begun result m l e = decided_so result _ (λ s. one_more s (course_report report) end passed report.runs k m (rw (passed-length given end) l)) e

    module _ (test : Bool) (is : test ≡ stop_decided (reported_as report.cause) (treatment_count_in treats_pair report.runs) (stop_as report.stop) end) (m : length report.runs ≤ k) (l : length given ≤ k) where
      here : (s : Signature) → from s (course_report report) end passed report.runs k ≡ cond test None (Some OfStop)
      here s = at_stop s (course_report report) end passed report.runs k m (rw (passed-length given end) l) ∙ ap (λ b. cond b None (Some OfStop)) (sym is)

      pub stop_passes : test ≡ true → IsReplayAnswer answer.Valid
      stop_passes t = decided_so answer.Valid None (λ s. here s ∙ ap (λ b. cond b None (Some OfStop)) t) refl

      pub stop_fails : (result : Answer) → test ≡ false → result ≡ answer_to report (Some OfStop) → IsReplayAnswer result
      stop_fails result t e = decided_so result (Some OfStop) (λ s. here s ∙ ap (λ b. cond b None (Some OfStop)) t) e

-- ---- how many choices of a run passed

module _ (given : List (List Choice)) (end : End Choice) (k : ℕ) (run : List Choice) (e : slice_get given k ≡ Some run) (count : ℕ) (is : count ≡ length run) where
  counted : count ≡ length (get_or given k [])
  counted = is ∙ ap length (sym (get_or_from_slice_get given k run [] e))

  pub passed_inside : k + 1 < length given → count ≡ length (get_or (passed_of given end) k [])
  passed_inside l = let m : suc k < length given = omega (arith, l) in counted ∙ ap length (sym (passed_before given end k m))

  pub passed_all : passed_of given end ≡ given → count ≡ length (get_or (passed_of given end) k [])
  passed_all f = counted ∙ ap (λ runs. length (get_or runs k [])) (sym f)

  pub passed_but_one : (result : ℕ) → result ≡ count - 1 → length given ≡ suc k → passed_of given end ≡ without_last given → result ≡ length (get_or (passed_of given end) k [])
  passed_but_one result f l g = f ∙ ap (λ n. n - 1) counted ∙ sym (passed_last given k l) ∙ ap (λ runs. length (get_or runs k [])) (sym g)
