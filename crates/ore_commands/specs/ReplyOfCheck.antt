-- The reply of `check` to the bytes of an input, and what it says.
--     trouble_reply, checked_reply   the reply to a line that isn't right; the reply to what a check gives
--     report_reply                   the reply to a report
--     matrix_of                      the matrix of a problem
--     HasWrittenPlan                 a report has a plan that may be written
--     IsCheckAnswer                  what a check answers
--     IsCheckedReply                 the reply to a certificate
--     IsCertificateReply             the reply to the text behind a problem
--     IsReplyOfCheck                 the reply to the bytes of an input
--     HasOneReplyOfCheck, LacksNoReplyOfCheck  each input has one reply alone; none lacks one
--     IsValidCertificate             a text is that of a certificate, and what it says of the matrix is true
--     SaysValid, HoldsCertificate    there is such a certificate, and a text names its kind
use Rattle.std.specs.Prelude.{◌≡◌, ◌≢◌, ◌⊎◌, ℕ, ◌+◌, List, drop, codes}
use Rattle.std.specs.declared.option.Option.{Option}
use Rattle.std.specs.declared.option.Option.TheVariants.{None, Some}
use Rattle.std.specs.declared.result.Result.TheVariants.{Ok, Err}
use Rattle.ore_algebra.specs.Limits.{program}
use Rattle.ore_course.specs.Failing as course
use Rattle.ore_monomial.specs.Signature.{Signature}
use Rattle.ore_rows.specs.declared.choices.Choice.{Choice}
use Rattle.ore_problem.specs.Accepted.{AcceptedFront}
use Rattle.ore_problem.specs.Problems.{System, prefix_sizes}
use Rattle.ore_cert.specs.declared.certificate.Certificate.{Certificate}
use Rattle.ore_cert.specs.declared.certificate.Certificate.TheVariants.{Halted}
use Rattle.ore_cert.specs.declared.report.Report.{Report}
use Rattle.ore_cert.specs.KindWords.{kind_word}
use Rattle.ore_cert.specs.WholeText.{certificate_text, IsWrittenCertificate, IsCertificate, IsWrittenPlan}
use Rattle.ore_parts.specs.FaultyLine.{IsFaultyLine}
use Rattle.ore_blocks.specs.declared.place.Place.{Place}
use Rattle.ore_blocks.specs.ReasonWords.{reason_word}
use Rattle.ore_blocks.specs.Conditions.{Trouble, Fails, Stops, Checked}
use Rattle.ore_blocks.specs.CheckBlock.{RowMatrix}
use Rattle.ore_check.specs.declared.answer.Checked.{Checked as Answer}
use Rattle.ore_check.specs.declared.answer.Checked.TheVariants.{Memory}
use Rattle.ore_check.specs.Check.{check, capped, Answers, IsNoReport}
use Rattle.ore_check.specs.Layout.{line_in}
use Rattle.ore_check.specs.Meaning.{Means}
use Rattle.ore_check.specs.Reports.{line_of_place, reason_of, failing_place, check_report}
use Rattle.ore_reply.specs.Replies.{Reply, valid, invalid_at, malformed_at, stopped_at}
use Rattle.ore_reply.specs.Answered.{IsReplyToRead}

-- a condition of the line fails, or an operation that it calls for stops
abbrev pub trouble_reply : ℕ → Trouble → Reply
trouble_reply line (Fails why) = invalid_at line (reason_word why)
trouble_reply line (Stops c) = stopped_at line c

-- the lines of the certificate count on from those of the problem; their own count rises to 2^64 - 1 and stays there
abbrev pub checked_reply : (Place → ℕ) → ℕ → List ℕ → Checked (Unit {0}) → Reply
checked_reply line lines word (Ok x) = valid word
checked_reply line lines word (Err failing) = trouble_reply (lines + capped (line failing.place)) failing.trouble

-- so do those of a report, of which no line stops
abbrev pub report_reply : ℕ → List ℕ → Report → Option (course.ReportPlace Choice) → Reply
report_reply lines word report None = valid word
report_reply lines word report (Some place) = invalid_at (lines + capped (line_of_place report place)) (reason_word (reason_of place))

-- as the check takes it: the number of columns, and the rows of plain operators
abbrev pub matrix_of : System → RowMatrix
matrix_of p = record { cols = p.cols; rows = p.rows }

-- a report has a plan that may be written
abbrev pub HasWrittenPlan : Certificate → Type 0
HasWrittenPlan (Halted report) = IsWrittenPlan report.plan
HasWrittenPlan certificate = Unit {0}

-- by the conditions of its kind, or by those of a report; of want of memory nothing is said
abbrev pub IsCheckAnswer : Signature → RowMatrix → Certificate → Answer → Type 0
IsCheckAnswer s r c answer =
    ((claims : IsNoReport c) × Answers (line_in c) answer (check program s r c claims))
    ⊎ ((report : Report) × (c ≡ Halted report) × (answer ≢ Memory → answer ≡ check_report s r report))

-- by the conditions of its kind, or by those of a report
abbrev pub IsCheckedReply : System → ℕ → Certificate → Reply → Type 0
IsCheckedReply p lines c reply =
    ((claims : IsNoReport c) × (reply ≡ checked_reply (line_in c) lines (kind_word c) (check program p.signature (matrix_of p) c claims)))
    ⊎ ((report : Report) × (c ≡ Halted report) × (reply ≡ report_reply lines (kind_word c) report (failing_place p.signature (matrix_of p) report)))

-- the text behind a problem of so many lines
abbrev pub IsCertificateReply : System → ℕ → List ℕ → Reply → Type 0
IsCertificateReply p lines bytes reply =
    ((c : Certificate) × IsWrittenCertificate p.signature p.names c × (bytes ≡ certificate_text p.names p.signature.order c) × IsCheckedReply p lines c reply)
    ⊎ ((line : ℕ) × IsFaultyLine (IsCertificate p.signature p.names) bytes line × (reply ≡ malformed_at (lines + line) (codes "certificate")))

-- to a problem and what stands behind it, or to the first faulty line of the problem
abbrev pub IsReplyOfCheck : List ℕ → Reply → Type 0
IsReplyOfCheck bytes reply = IsReplyToRead (λ x. IsCertificateReply x.0 x.1.1 (drop x.1.0 bytes)) (prefix_sizes bytes) reply

-- the reply is a function of the bytes
abbrev pub HasOneReplyOfCheck : Type 0
HasOneReplyOfCheck = (bytes : List ℕ) (a b : Reply) → IsReplyOfCheck bytes a → IsReplyOfCheck bytes b → a ≡ b

-- no bytes are without a reply; this is said twice negated, since no definition finds out whether a text is that of a certificate
abbrev pub LacksNoReplyOfCheck : Type 0
LacksNoReplyOfCheck = (bytes : List ℕ) → ¬ ((reply : Reply) → ¬ IsReplyOfCheck bytes reply)

-- The text is that of the certificate. What this says of the matrix is true, over numbers of any size.
pub record IsValidCertificate (p : System) (bytes : List ℕ) (c : Certificate) : Type 0 where
  pub written : IsWrittenCertificate p.signature p.names c
  pub certificate : bytes ≡ certificate_text p.names p.signature.order c
  pub means : Means p.signature (matrix_of p) c

-- such a text stands behind the problem, and what is said names its kind
abbrev pub SaysValid : System → List ℕ → List ℕ → Type 0
SaysValid p bytes said = (c : Certificate) × IsValidCertificate p bytes c × (said ≡ (valid (kind_word c)).text)

-- the bytes are those of an accepted problem, and then such a text
abbrev pub HoldsCertificate : List ℕ → List ℕ → Type 0
HoldsCertificate said bytes = (p : System) × (front : List ℕ) × (rest : List ℕ) × AcceptedFront bytes p front rest × SaysValid p rest said
