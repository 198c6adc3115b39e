-- What holds of certificates, of answers of a check, and of values.
--     ReportOrNone, report_or_none    a certificate is a report, or none
--     if_ok                    what holds of a value, by what holds of it
--     checked_by, report_by    the reply to an answer, by the conditions of a certificate or of a report
--     same_answer              the answer of a check where there was memory
--     answer_same              the answer of the check of a report, by the first place that fails
--     checked_reply_of         the reply to a certificate
--     plan_written             a report that may be written has a plan that may
--     done_valid               a reply of status Done names a valid certificate
use Rattle.std.proofs.Common.{◌≡◌, ◌≢◌, ◌⊎◌, inl, inr, ℕ, ◌+◌, List, refl, sym, ap, ◌∙◌, subst}
use Rattle.std.specs.Prelude.{IfOk}
use Rattle.std.specs.declared.option.Option.{Option}
use Rattle.std.specs.declared.option.Option.TheVariants.{None, Some}
use Rattle.std.specs.declared.result.Result.{Result}
use Rattle.std.specs.declared.result.Result.TheVariants.{Ok, Err}
use Rattle.ore_algebra.specs.Limits as cause
use Rattle.ore_course.specs.Failing as course
use Rattle.ore_rows.specs.declared.choices.Choice.{Choice}
use Rattle.ore_problem.specs.Problems.{System}
use Rattle.ore_cert.specs.declared.certificate.Certificate.{Certificate}
use Rattle.ore_cert.specs.declared.certificate.Certificate.TheVariants.{Controllable, AutonomousElement, LeftInverse, RightInverse, NoLeftInverse, NoRightInverse, Kernel, Resolution, ExtZero, ExtNonzero, Halted}
use Rattle.ore_cert.specs.declared.report.Report.{Report}
use Rattle.ore_cert.specs.WholeText.{IsWrittenCertificate}
use Rattle.ore_monomial.specs.Signature.{Signature}
use Rattle.ore_cert.specs.KindWords.{kind_word}
use Rattle.ore_blocks.specs.declared.place.Place.{Place}
use Rattle.ore_blocks.specs.Conditions.{Trouble, Fails, Stops, Checked}
use Rattle.ore_check.specs.declared.answer.Checked.{Checked as Answer}
use Rattle.ore_check.specs.declared.answer.Checked.TheVariants as answer
use Rattle.ore_check.specs.Check.{capped, answer_at, answer_of, Answers, IsNoReport}
use Rattle.ore_check.specs.Layout.{line_in}
use Rattle.ore_check.specs.Reports.{line_of_place, reason_of, failing_place}
use Rattle.ore_reply.specs.Replies.{Reply, valid}
use Rattle.ore_reply.specs.declared.status.Status.TheVariants.{Done}
use Rattle.ore_commands.specs.CheckedReply.{IsAnswerReply}
use Rattle.ore_commands.specs.ReportAnswers.{answer_to}
use Rattle.ore_commands.specs.ReplyOfCheck.{trouble_reply, checked_reply, report_reply, matrix_of, HasWrittenPlan, IsCheckAnswer, IsCheckedReply}

abbrev pub ReportOrNone : Certificate → Type 0
ReportOrNone c = IsNoReport c ⊎ ((report : Report) × (c ≡ Halted report))

pub report_or_none : (c : Certificate) → ReportOrNone c
report_or_none (Controllable q block) = inl tt
report_or_none (AutonomousElement element operator cofactor block) = inl tt
report_or_none (LeftInverse m) = inl tt
report_or_none (RightInverse m) = inl tt
report_or_none (NoLeftInverse unit block) = inl tt
report_or_none (NoRightInverse unit block) = inl tt
report_or_none (Kernel side generators block) = inl tt
report_or_none (Resolution links) = inl tt
report_or_none (ExtZero links block) = inl tt
report_or_none (ExtNonzero links element block) = inl tt
report_or_none (Halted report) = inr (report, refl)

pub if_ok : {A E : Type 0} (r : Result A E) (P Q : A → Type 0) → IfOk r P → ((x : A) → P x → Q x) → IfOk r Q
if_ok (Ok x) P Q h so = so x h
if_ok (Err e) P Q h so = tt

module _ (lines : ℕ) (word : List ℕ) (reply : Reply) where
  trouble_by : (line : ℕ) (t : Trouble) → IsAnswerReply lines word (answer_at line t) reply → reply ≡ trouble_reply (lines + capped line) t
  trouble_by line (Fails why) h = h
  trouble_by line (Stops cause.Overflow) h = h
  trouble_by line (Stops cause.Degree) h = h

  checked_by : (line : Place → ℕ) (given : Checked (Unit {0})) → IsAnswerReply lines word (answer_of line given) reply → reply ≡ checked_reply line lines word given
  checked_by line (Ok x) h = h
  checked_by line (Err failing) h = trouble_by (line failing.place) failing.trouble h

  report_by : (report : Report) (place : Option (course.ReportPlace Choice)) → IsAnswerReply lines word (answer_to report place) reply → reply ≡ report_reply lines word report place
  report_by report None h = h
  report_by report (Some place) h = h

  some_memory : (given : Answer) → IsAnswerReply lines word given reply → given ≢ answer.Memory
  some_memory given h e = subst (λ a. IsAnswerReply lines word a reply) e h

  same_answer : (line : Place → ℕ) (given : Answer) (checked : Checked (Unit {0})) → Answers line given checked → IsAnswerReply lines word given reply → given ≡ answer_of line checked
  same_answer line answer.Valid checked h r = h
  same_answer line (answer.Invalid n why) checked h r = h
  same_answer line (answer.Overflow n) checked h r = h
  same_answer line (answer.Degree n) checked h r = h
  same_answer line answer.Memory checked h r = absurd r

  pub done_valid : (given : Answer) → IsAnswerReply lines word given reply → reply.status ≡ Done → (given ≡ answer.Valid) × (reply.text ≡ (valid word).text)
  done_valid answer.Valid h d = (refl, ap (λ r. r.text) h)
  done_valid (answer.Invalid n why) h d = absurd (let e = sym (ap (λ r. r.status) h) ∙ d in let z : ⊥ = cc in z)
  done_valid (answer.Overflow n) h d = absurd (let e = sym (ap (λ r. r.status) h) ∙ d in let z : ⊥ = cc in z)
  done_valid (answer.Degree n) h d = absurd (let e = sym (ap (λ r. r.status) h) ∙ d in let z : ⊥ = cc in z)
  done_valid answer.Memory h d = absurd h

pub answer_same : (report : Report) (place : Option (course.ReportPlace Choice)) → (elim place [ None ↦ answer.Valid | Some place ↦ answer.Invalid (capped (line_of_place report place)) (reason_of place) ]) ≡ answer_to report place
answer_same report None = refl
answer_same report (Some place) = refl

pub checked_reply_of : (p : System) (lines : ℕ) (c : Certificate) (given : Answer) (reply : Reply) → IsCheckAnswer p.signature (matrix_of p) c given → IsAnswerReply lines (kind_word c) given reply → IsCheckedReply p lines c reply
checked_reply_of p lines c given reply (inl h) r =
    let word = kind_word c in
    let same = same_answer lines word reply (line_in c) given _ h.1 r in
    inl (h.0, checked_by lines word reply (line_in c) _ (subst (λ a. IsAnswerReply lines word a reply) same r))
checked_reply_of p lines c given reply (inr h) r =
    let word = kind_word c in
    let same = h.2 (some_memory lines word reply given r) ∙ answer_same h.0 (failing_place p.signature (matrix_of p) h.0) in
    inr (h.0, h.1, report_by lines word reply h.0 _ (subst (λ a. IsAnswerReply lines word a reply) same r))

pub plan_written : (s : Signature) (names : List (List ℕ)) (c : Certificate) → IsWrittenCertificate s names c → HasWrittenPlan c
plan_written s names (Controllable q block) h = tt
plan_written s names (AutonomousElement element operator cofactor block) h = tt
plan_written s names (LeftInverse m) h = tt
plan_written s names (RightInverse m) h = tt
plan_written s names (NoLeftInverse unit block) h = tt
plan_written s names (NoRightInverse unit block) h = tt
plan_written s names (Kernel side generators block) h = tt
plan_written s names (Resolution links) h = tt
plan_written s names (ExtZero links block) h = tt
plan_written s names (ExtNonzero links element block) h = tt
plan_written s names (Halted report) h = h.plan
