-- No bytes are without a reply.
--     report, report_written     a certificate that may be written with any names: a report without runs
--     certificate_replied        there is a reply to each certificate
--     lacks_no_reply             there is one to what stands behind a problem, said twice negated, and so to any bytes
use Rattle.std.proofs.Common.{inl, inr, ℕ, suc, ◌+◌, List, [], drop, Ok, Err, refl}
use Rattle.std.specs.Prelude.{codes}
use Rattle.std.proofs.lemmas.List.Elements.{All-nil}
use Rattle.ore_algebra.specs.Limits.{program}
use Rattle.ore_monomial.specs.Signature.{Signature}
use Rattle.ore_problem.specs.Problems.{System, Read, prefix_sizes}
use Rattle.ore_parts.proofs.FaultyLines.{Stray, stray_faulty}
use Rattle.ore_cert.specs.declared.certificate.Certificate.{Certificate}
use Rattle.ore_cert.specs.declared.certificate.Certificate.TheVariants.{Halted}
use Rattle.ore_cert.specs.declared.report.Cause.TheVariants as cause
use Rattle.ore_cert.specs.declared.report.Plan.TheVariants.{Analyse}
use Rattle.ore_cert.specs.declared.report.Stop.TheVariants.{Forced}
use Rattle.ore_cert.specs.KindWords.{kind_word}
use Rattle.ore_cert.specs.WholeText.{certificate_text, IsWrittenRun, IsWrittenCertificate, IsCertificate}
use Rattle.ore_check.specs.Check.{check}
use Rattle.ore_check.specs.Layout.{line_in}
use Rattle.ore_check.specs.Reports.{failing_place}
use Rattle.ore_reply.specs.Replies.{Reply, malformed_at}
use Rattle.ore_reply.specs.Answered.{IsReplyToRead}
use Rattle.ore_reply.specs.FaultReply.{fault_reply}
use Rattle.ore_commands.specs.ReplyOfCheck.{checked_reply, report_reply, matrix_of, IsCheckedReply, IsCertificateReply, LacksNoReplyOfCheck}
use Rattle.ore_commands.proofs.RepliesOfCheck.{ReportOrNone, report_or_none}
use Rattle.ore_commands.proofs.Faultless.{not_outside}

abbrev report : Certificate
report = Halted (record { cause = cause.Overflow; plan = Analyse; runs = []; stop = Forced })

report_written : (s : Signature) (names : List (List ℕ)) → IsWrittenCertificate s names report
report_written s names = record { cause = tt; plan = tt; runs = All-nil IsWrittenRun; stop = tt }

module _ (p : System) (lines : ℕ) where
  certificate_replied : (c : Certificate) → ReportOrNone c → (reply : Reply) × IsCheckedReply p lines c reply
  certificate_replied c (inl claims) = (checked_reply (line_in c) lines (kind_word c) (check program p.signature (matrix_of p) c claims), inl (claims, refl))
  certificate_replied c (inr h) = (report_reply lines (kind_word c) h.0 (failing_place p.signature (matrix_of p) h.0), inr (h.0, h.1, refl))

  text_lacks_no_reply : (text : List ℕ) → ¬ ((reply : Reply) → ¬ IsCertificateReply p lines text reply)
  text_lacks_no_reply text without =
      let T = IsCertificate p.signature p.names in
      let faultless : (n : ℕ) → ¬ Stray T text n = λ n s. without (malformed_at (lines + suc n) (codes "certificate")) (inr (suc n, stray_faulty T text n s, refl)) in
      let outside : ¬ T text = λ t.
      let r = certificate_replied t.0 (report_or_none t.0) in without r.0 (inl (t.0, t.1, t.2, r.1)) in
      not_outside T (certificate_text p.names p.signature.order report) (report, report_written p.signature p.names, refl) text faultless outside

read_lacks_no_reply : (bytes : List ℕ) (r : Read (System × (ℕ × ℕ))) → ¬ ((reply : Reply) → ¬ IsReplyToRead (λ x. IsCertificateReply x.0 x.1.1 (drop x.1.0 bytes)) r reply)
read_lacks_no_reply bytes (Ok x) without = text_lacks_no_reply x.0 x.1.1 (drop x.1.0 bytes) without
read_lacks_no_reply bytes (Err f) without = without (fault_reply f.line f.reason) refl

pub lacks_no_reply : LacksNoReplyOfCheck
lacks_no_reply bytes without = read_lacks_no_reply bytes (prefix_sizes bytes) without
