-- The lines of a report: which fails, by the numbers of choices, and where it stands.
--     from                     the first place that fails, from a run on
--     run_missing, choice_missing, choices_given     at a run that wasn't begun; with fewer choices; with all
--     one_more, at_stop        behind the last run
--     passed-length            as many runs passed as were given
--     passed_before, without_last-at, passed_last    the choices that passed in a run before the last, and in the last
--     capped_sum, capped_more  a number that rises to 2^64 - 1 and stays there
--     treatment_count_in-drop, treatment_count-drop    how many treatments are left
--     lines-more               the lines of one more run
--     .._step, .._end          one step of a loop that counts treatments or lines, and its end
--     run_line, choice_line, stop_line     the answer at a run, at a choice, and at the stop line
--     same_budget              a budget below 2^32 is some number just where it is that number up to 2^64 - 1
use Rattle.std.proofs.Common.{◌≡◌, ℕ, zero, suc, ◌+◌, ◌-◌, ◌<◌, ◌≤◌, Bool, true, false, cond, List, [], ◌∷◌, length, drop, get_or, slice_get, min, refl, sym, ap, ap₂, ◌∙◌, arith}
use Rattle.std.specs.Prelude.{nat_le, nat_eq}
use Rattle.std.specs.declared.option.Option.{Option}
use Rattle.std.specs.declared.option.Option.TheVariants.{None, Some}
use Rattle.std.proofs.lemmas.Bool.Decides.{nat_tests}
use Rattle.std.proofs.lemmas.Option.{slice_get_past, slice_get_within, get_or_from_slice_get}
use Rattle.std.proofs.lemmas.List.{drop_all}
use Rattle.std.proofs.Math.Seq.{drop-cons}
use Rattle.ore_course.specs.Choices.{but_last, without_last, treatment_count, treatment_count_in, cost}
use Rattle.ore_course.specs.Failing.{ReportPlace, OfRun, OfChoice, OfStop, run_lines_before, report_line}
use Rattle.ore_course.specs.Following.{Passed, Spent, NoLawful, Memory, InForced, InChoice}
use Rattle.ore_course.specs.Report.{Report}
use Rattle.ore_course.specs.Replaying.{End, passed_of, stop_decided, decided}
use Rattle.ore_monomial.specs.Signature.{Signature}
use Rattle.ore_rows.specs.declared.choices.Choice.{Choice}
use Rattle.ore_pairs.specs.Runner.{treats_pair}
use Rattle.ore_cert.specs.declared.report.Report.{Report as Certified}
use Rattle.ore_blocks.specs.declared.reason.Reason.{Reason}
use Rattle.ore_blocks.specs.declared.reason.Reason.TheVariants as reason
use Rattle.ore_check.specs.declared.answer.Checked.TheVariants as answer
use Rattle.ore_check.specs.Check.{capped}
use Rattle.ore_check.specs.Reports.{program_runner, reason_of}
use Rattle.ore_commands.specs.ReportAnswers.{answer_to, line_at}

-- ---- the line that fails

module _ (s : Signature) (report : Report Choice) (end : End Choice) (passed runs : List (List Choice)) where
  abbrev pub from : ℕ → Option (ReportPlace Choice)
  from k = decided (program_runner s) report end k (drop k passed) (drop k runs)

  pub run_missing : (k : ℕ) → length passed ≤ k → k < length runs → from k ≡ Some (OfRun k)
  unfolding decided
  run_missing k l h = ap₂ (decided (program_runner s) report end k) (drop_all k passed l) (drop-cons runs k [] h)

  pub choice_missing : (k : ℕ) (c : Choice) → k < length passed → k < length runs → slice_get (get_or runs k []) (length (get_or passed k [])) ≡ Some c → from k ≡ Some (OfChoice k (length (get_or passed k [])) c)
  unfolding decided
  choice_missing k c l h e =
      ap₂ (decided (program_runner s) report end k) (drop-cons passed k [] l) (drop-cons runs k [] h)
      ∙ ap (λ o. elim o [ Some c ↦ Some (OfChoice k (length (get_or passed k [])) c) | None ↦ decided (program_runner s) report end (suc k) (drop (suc k) passed) (drop (suc k) runs) ]) e

  pub choices_given : (k : ℕ) → k < length passed → k < length runs → length (get_or runs k []) ≤ length (get_or passed k []) → from k ≡ from (suc k)
  unfolding decided
  choices_given k l h m =
      ap₂ (decided (program_runner s) report end k) (drop-cons passed k [] l) (drop-cons runs k [] h)
      ∙ ap (λ o. elim o [ Some c ↦ Some (OfChoice k (length (get_or passed k [])) c) | None ↦ decided (program_runner s) report end (suc k) (drop (suc k) passed) (drop (suc k) runs) ])
      (slice_get_past (get_or runs k []) (length (get_or passed k [])) m)

  pub one_more : (k : ℕ) → length runs ≤ k → k < length passed → from k ≡ Some OfStop
  unfolding decided
  one_more k h l = ap₂ (decided (program_runner s) report end k) (drop-cons passed k [] l) (drop_all k runs h)

  pub at_stop : (k : ℕ) → length runs ≤ k → length passed ≤ k → from k ≡ cond (stop_decided report.cause (treatment_count_in treats_pair report.runs) report.stop end) None (Some OfStop)
  unfolding decided
  at_stop k h l = ap₂ (decided (program_runner s) report end k) (drop_all k passed l) (drop_all k runs h)

-- ---- the choices that passed

without_last-length : (given : List (List Choice)) → length (without_last given) ≡ length given
unfolding without_last
without_last-length [] = refl
without_last-length (cs ∷ []) = refl
without_last-length (cs ∷ ds ∷ given) = ap suc (without_last-length (ds ∷ given))

pub passed-length : (given : List (List Choice)) (end : End Choice) → length (passed_of given end) ≡ length given
passed-length given None = refl
passed-length given (Some (Passed cause InForced)) = refl
passed-length given (Some (Passed cause (InChoice c))) = without_last-length given
passed-length given (Some Spent) = refl
passed-length given (Some NoLawful) = refl
passed-length given (Some Memory) = refl

without_last-before : (given : List (List Choice)) (k : ℕ) → suc k < length given → get_or (without_last given) k [] ≡ get_or given k []
unfolding without_last
without_last-before [] k h = refl
without_last-before (cs ∷ []) k h = absurd (omega (arith, h))
without_last-before (cs ∷ ds ∷ given) zero h = refl
without_last-before (cs ∷ ds ∷ given) (suc k) h = without_last-before (ds ∷ given) k (omega (arith, h))

pub passed_before : (given : List (List Choice)) (end : End Choice) (k : ℕ) → suc k < length given → get_or (passed_of given end) k [] ≡ get_or given k []
passed_before given None k h = refl
passed_before given (Some (Passed cause InForced)) k h = refl
passed_before given (Some (Passed cause (InChoice c))) k h = without_last-before given k h
passed_before given (Some Spent) k h = refl
passed_before given (Some NoLawful) k h = refl
passed_before given (Some Memory) k h = refl

without_last-at : (given : List (List Choice)) (k : ℕ) → length given ≡ suc k → get_or (without_last given) k [] ≡ but_last (get_or given k [])
unfolding without_last
without_last-at [] k h = absurd (omega (arith, h))
without_last-at (cs ∷ []) zero h = refl
without_last-at (cs ∷ []) (suc k) h = absurd (omega (arith, h))
without_last-at (cs ∷ ds ∷ given) zero h = absurd (omega (arith, h))
without_last-at (cs ∷ ds ∷ given) (suc k) h = without_last-at (ds ∷ given) k (omega (arith, h))

but_last-length : (cs : List Choice) → length (but_last cs) ≡ length cs - 1
unfolding but_last
but_last-length [] = refl
but_last-length (c ∷ []) = refl
but_last-length (c ∷ d ∷ cs) = let h = but_last-length (d ∷ cs) in omega (arith, h)

pub passed_last : (given : List (List Choice)) (k : ℕ) → length given ≡ suc k → length (get_or (without_last given) k []) ≡ length (get_or given k []) - 1
passed_last given k h = ap length (without_last-at given k h) ∙ but_last-length (get_or given k [])

-- ---- numbers of lines and of treatments

capped_is : (n : ℕ) → capped n ≡ min n 18446744073709551615
capped_is n = by (nat_le n 18446744073709551615) refl
  where
    by : (b : Bool) → nat_le n 18446744073709551615 ≡ b → cond b n 18446744073709551615 ≡ min n 18446744073709551615
    by true e = let l : n ≤ 18446744073709551615 = grind (arith, nat_tests) in omega (arith, l)
    by false e = let l : 18446744073709551615 < n = grind (arith, nat_tests) in omega (arith, l)

pub capped_sum : (a b : ℕ) → min (capped a + b) 18446744073709551615 ≡ capped (a + b)
capped_sum a b = let e = capped_is a in let f = capped_is (a + b) in omega (arith, e, f)

pub capped_more : (a b rest : ℕ) → capped (min (a + capped b) 18446744073709551615 + rest) ≡ capped (a + (b + rest))
capped_more a b rest =
    let e = capped_is b in
    let f = capped_is (min (a + capped b) 18446744073709551615 + rest) in
    let g = capped_is (a + (b + rest)) in
    omega (arith, e, f, g)

pub capped_small : (n : ℕ) → n ≤ 18446744073709551615 → capped n ≡ n
capped_small n l = let e = capped_is n in omega (arith, e, l)

pub treatment_count_in-drop : (runs : List (List Choice)) (k : ℕ) → k < length runs → treatment_count_in treats_pair (drop k runs) ≡ treatment_count treats_pair (get_or runs k []) + treatment_count_in treats_pair (drop (suc k) runs)
unfolding treatment_count_in
treatment_count_in-drop runs k h = ap (treatment_count_in treats_pair) (drop-cons runs k [] h)

pub treatment_count_in-end : (runs : List (List Choice)) (k : ℕ) → length runs ≤ k → treatment_count_in treats_pair (drop k runs) ≡ 0
unfolding treatment_count_in
treatment_count_in-end runs k h = ap (treatment_count_in treats_pair) (drop_all k runs h)

pub treatment_count-drop : (cs : List Choice) (k : ℕ) (c : Choice) → k < length cs → treatment_count treats_pair (drop k cs) ≡ cost treats_pair (get_or cs k c) + treatment_count treats_pair (drop (suc k) cs)
unfolding treatment_count
treatment_count-drop cs k c h = ap (treatment_count treats_pair) (drop-cons cs k c h)

pub treatment_count-end : (cs : List Choice) (k : ℕ) → length cs ≤ k → treatment_count treats_pair (drop k cs) ≡ 0
unfolding treatment_count
treatment_count-end cs k h = ap (treatment_count treats_pair) (drop_all k cs h)

pub lines-more : (runs : List (List Choice)) (k : ℕ) → k < length runs → run_lines_before runs (suc k) ≡ run_lines_before runs k + suc (length (get_or runs k []))
unfolding run_lines_before
lines-more [] k h = absurd (omega (arith, h))
lines-more (cs ∷ []) zero h = omega arith
lines-more (cs ∷ ds ∷ runs) zero h = omega arith
lines-more (cs ∷ runs) (suc k) h = let e = lines-more runs k (omega (arith, h)) in omega (arith, e)

-- ---- one step of a count

module _ (runs : List (List Choice)) (k : ℕ) (run : List Choice) (e : slice_get runs k ≡ Some run) where
  within : k < length runs
  within = slice_get_within runs k run e

  read : get_or runs k [] ≡ run
  read = get_or_from_slice_get runs k run [] e

  more_is : k + 1 ≡ suc k
  more_is = omega arith

  pub treated_step : (t b total : ℕ) → b ≡ capped (treatment_count treats_pair run) → capped (t + treatment_count_in treats_pair (drop k runs)) ≡ total → capped (min (t + b) 18446744073709551615 + treatment_count_in treats_pair (drop (k + 1) runs)) ≡ total
  treated_step t b total f inv =
      ap₂ (λ x n. capped (min (t + x) 18446744073709551615 + treatment_count_in treats_pair (drop n runs))) f more_is
      ∙ capped_more t (treatment_count treats_pair run) (treatment_count_in treats_pair (drop (suc k) runs))
      ∙ ap (λ n. capped (t + n)) (sym (treatment_count_in-drop runs k within ∙ ap (λ cs. treatment_count treats_pair cs + treatment_count_in treats_pair (drop (suc k) runs)) read))
      ∙ inv

  pub line_step : (line : ℕ) → line ≡ capped (4 + run_lines_before runs k) → min (line + (length run + 1)) 18446744073709551615 ≡ capped (4 + run_lines_before runs (k + 1))
  line_step line inv =
      ap (λ n. min (n + (length run + 1)) 18446744073709551615) inv
      ∙ capped_sum (4 + run_lines_before runs k) (length run + 1)
      ∙ ap capped same
    where
      lines : run_lines_before runs (k + 1) ≡ run_lines_before runs k + suc (length run)
      lines = ap (run_lines_before runs) more_is ∙ lines-more runs k within ∙ ap (λ cs. run_lines_before runs k + suc (length cs)) read

      same : 4 + run_lines_before runs k + (length run + 1) ≡ 4 + run_lines_before runs (k + 1)
      same = omega (arith, lines)

pub line_start : (runs : List (List Choice)) → 4 ≡ capped (line_at runs 0)
unfolding run_lines_before
line_start [] = refl
line_start (cs ∷ runs) = refl

pub treated_end : (runs : List (List Choice)) (k t total : ℕ) → length runs ≤ k → t ≤ 18446744073709551615 → capped (t + treatment_count_in treats_pair (drop k runs)) ≡ total → t ≡ total
treated_end runs k t total l small inv = sym (capped_small t small) ∙ ap capped (let none = treatment_count_in-end runs k l in let h : t ≡ t + treatment_count_in treats_pair (drop k runs) = omega (arith, none) in h) ∙ inv

pub counted_step : (cs : List Choice) (k : ℕ) (c : Choice) (t b total : ℕ) → slice_get cs k ≡ Some c → b ≡ cost treats_pair c → capped (t + treatment_count treats_pair (drop k cs)) ≡ total → capped (min (t + b) 18446744073709551615 + treatment_count treats_pair (drop (k + 1) cs)) ≡ total
unfolding cost
counted_step cs k c t b total e f inv =
    let small : cost treats_pair c ≤ 18446744073709551615 = cost_small (treats_pair c) in
    let more : k + 1 ≡ suc k = omega arith in
    ap₂ (λ x n. capped (min (t + x) 18446744073709551615 + treatment_count treats_pair (drop n cs))) (f ∙ sym (capped_small (cost treats_pair c) small)) more
    ∙ capped_more t (cost treats_pair c) (treatment_count treats_pair (drop (suc k) cs))
    ∙ ap (λ n. capped (t + n)) (sym (treatment_count-drop cs k c (slice_get_within cs k c e) ∙ ap (λ d. cost treats_pair d + treatment_count treats_pair (drop (suc k) cs)) (get_or_from_slice_get cs k c c e)))
    ∙ inv
  where
    cost_small : (b : Bool) → cond b 1 0 ≤ 18446744073709551615
    cost_small true = omega arith
    cost_small false = omega arith

pub counted_end : (cs : List Choice) (k t total : ℕ) → length cs ≤ k → t ≤ 18446744073709551615 → capped (t + treatment_count treats_pair (drop k cs)) ≡ total → t ≡ total
counted_end cs k t total l small inv = sym (capped_small t small) ∙ ap capped (let none = treatment_count-end cs k l in let h : t ≡ t + treatment_count treats_pair (drop k cs) = omega (arith, none) in h) ∙ inv

-- ---- the answer at a line

module _ (report : Certified) where
  pub run_line : (k line : ℕ) → line ≡ capped (line_at report.runs k) → answer.Invalid line reason.Run ≡ answer_to report (Some (OfRun k))
  unfolding report_line
  run_line k line e = ap (λ n. answer.Invalid n reason.Run) e

  pub choice_line : (k n line next : ℕ) (c : Choice) (why : Reason) → line ≡ capped (line_at report.runs k) → next ≡ min (line + (n + 1)) 18446744073709551615 → why ≡ reason_of (OfChoice k n c)
      → answer.Invalid next why ≡ answer_to report (Some (OfChoice k n c))
  unfolding report_line
  choice_line k n line next c why e f g =
      let sum : line_at report.runs k + (n + 1) ≡ suc (line_at report.runs k + n) = omega arith in
      ap₂ answer.Invalid (f ∙ ap (λ m. min (m + (n + 1)) 18446744073709551615) e ∙ capped_sum (line_at report.runs k) (n + 1) ∙ ap capped sum) g

  pub stop_line : (line : ℕ) → line ≡ capped (line_at report.runs (length report.runs)) → answer.Invalid line reason.Stop ≡ answer_to report (Some OfStop)
  unfolding report_line
  stop_line line e = ap (λ n. answer.Invalid n reason.Stop) e

pub same_budget : (m n : ℕ) → m < 4294967296 → nat_eq m (capped n) ≡ nat_eq m n
same_budget m n l = by (nat_le n 18446744073709551615) refl
  where
    by : (b : Bool) → nat_le n 18446744073709551615 ≡ b → nat_eq m (cond b n 18446744073709551615) ≡ nat_eq m n
    by true e = refl
    by false e = let h : 18446744073709551615 < n = grind (arith, nat_tests) in grind (arith, nat_tests, l, h)
