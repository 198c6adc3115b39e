-- Bytes have one verdict.
--     OneCertificate, OneFaultyLine      no text is that of two certificates; it has at most one faulty line, and none where it is one's
--     front_of             the problem of such an answer
--     AreRead, read_names  the names of a problem that was read
--     reports_same, no_report     the report of a certificate is one; one that is no report has none
--     checked_same, certificate_same, reply_same     two replies to a certificate, to the text behind a problem, to what was read
--     one_verdict          two verdicts on the same bytes are the same, where no text is that of two certificates
use Rattle.std.proofs.Common.{◌≡◌, ℕ, ◌+◌, List, [], length, drop, refl, sym, ap, ◌∙◌, subst, inl, inr}
use Rattle.std.specs.Prelude.{codes}
use Rattle.std.specs.declared.result.Result.TheVariants.{Ok, Err}
use Rattle.ore_algebra.specs.Limits.{program}
use Rattle.ore_monomial.specs.Signature.{Signature}
use Rattle.ore_text.specs.Names.{AreNames}
use Rattle.ore_problem.specs.Lines.{Cursor}
use Rattle.ore_problem.specs.Problems.{System, Read, prefix_of, with_sizes, prefix_sizes}
use Rattle.ore_algebra.specs.Results.{◌>>=◌}
use Rattle.ore_problem.proofs.AcceptedDeclarations.{declared_same}
use Rattle.ore_problem.proofs.AcceptedReads.{prefix_stands}
use Rattle.ore_cert.specs.declared.certificate.Certificate.{Certificate}
use Rattle.ore_cert.specs.declared.certificate.Certificate.TheVariants.{Halted}
use Rattle.ore_cert.specs.declared.report.Report.{Report}
use Rattle.ore_cert.specs.KindWords.{kind_word}
use Rattle.ore_cert.specs.WholeText.{certificate_text, IsWrittenCertificate, IsCertificate}
use Rattle.ore_parts.specs.FaultyLine.{HasOneFaultyLine}
use Rattle.ore_check.specs.Check.{check, IsNoReport}
use Rattle.ore_check.specs.Layout.{line_in}
use Rattle.ore_check.specs.Reports.{failing_place}
use Rattle.ore_check.proofs.CertificateKinds.{claims_same}
use Rattle.ore_reply.specs.Replies.{Reply, malformed_at}
use Rattle.ore_reply.specs.Answered.{IsReplyToRead}
use Rattle.ore_commands.specs.ReplyOfCheck.{checked_reply, report_reply, matrix_of, IsCertificateReply, IsCheckedReply, HasOneReplyOfCheck}

abbrev pub OneCertificate : Type 0
OneCertificate = (s : Signature) (names : List (List ℕ)) → AreNames names → length names ≡ length s.kinds → (a b : Certificate) → IsWrittenCertificate s names a → IsWrittenCertificate s names b
    → certificate_text names s.order a ≡ certificate_text names s.order b → a ≡ b

abbrev pub OneFaultyLine : Type 0
OneFaultyLine = (s : Signature) (names : List (List ℕ)) → HasOneFaultyLine (IsCertificate s names)

-- ---- problems

abbrev front_of : Read (System × (ℕ × ℕ)) → System → System
front_of (Ok x) p = x.0
front_of (Err f) p = p

record AreRead (p : System) : Type 0 where
  pub names : AreNames p.names
  pub count : length p.names ≡ length p.signature.kinds

read_names : (bytes : List ℕ) (x : System × (ℕ × ℕ)) → prefix_sizes bytes ≡ Ok x → AreRead x.0
read_names bytes x e = by (prefix_of bytes) refl e
  where
    same_system : (y : System × Cursor) → with_sizes y ≡ Ok x → y.0 ≡ x.0
    same_system y h = ap (λ r. front_of r y.0) h

    by : (r : Read (System × Cursor)) → prefix_of bytes ≡ r → (r >>= with_sizes) ≡ Ok x → AreRead x.0
    by (Ok y) r h =
        let stands = prefix_stands y.0 y.1 bytes r in
        subst AreRead (same_system y h) (record { names = stands.names; count = declared_same [] stands.declarations y.0.names y.0.signature.kinds stands.declared })
    by (Err f) r h = absurd (let z : ⊥ = cc in z)

-- ---- replies

-- the report of a certificate
reports_same : (c : Certificate) (r q : Report) → c ≡ Halted r → c ≡ Halted q → r ≡ q
reports_same c r q e f = by (sym e ∙ f)
  where
    by : ◌≡◌ {A = Certificate} (Halted r) (Halted q) → r ≡ q
    by h = cc

no_report : (c : Certificate) (r : Report) → IsNoReport c → c ≡ Halted r → ⊥
no_report c r h e = subst IsNoReport e h

checked_same : (p : System) (lines : ℕ) (c : Certificate) (a b : Reply) → IsCheckedReply p lines c a → IsCheckedReply p lines c b → a ≡ b
checked_same p lines c a b (inl h) (inl k) =
    h.1 ∙ ap (λ claims. checked_reply (line_in c) lines (kind_word c) (check program p.signature (matrix_of p) c claims)) (claims_same c h.0 k.0) ∙ sym k.1
checked_same p lines c a b (inl h) (inr k) = absurd (no_report c k.0 h.0 k.1)
checked_same p lines c a b (inr h) (inl k) = absurd (no_report c h.0 k.0 h.1)
checked_same p lines c a b (inr h) (inr k) =
    h.2 ∙ ap (λ report. report_reply lines (kind_word c) report (failing_place p.signature (matrix_of p) report)) (reports_same c h.0 k.0 h.1 k.1) ∙ sym k.2

module _ (unique : OneCertificate) (lines_one : OneFaultyLine) where
  certificate_same : (p : System) (lines : ℕ) (bytes : List ℕ) (a b : Reply) → AreRead p → IsCertificateReply p lines bytes a → IsCertificateReply p lines bytes b → a ≡ b
  certificate_same p lines bytes a b read (inl h) (inl k) =
      checked_same p lines k.0 a b (subst (λ c. IsCheckedReply p lines c a) (unique p.signature p.names read.names read.count h.0 k.0 h.1 k.1 (sym h.2 ∙ k.2)) h.3) k.3
  certificate_same p lines bytes a b read (inl h) (inr k) = absurd ((lines_one p.signature p.names).none bytes k.0 (h.0, h.1, h.2) k.1)
  certificate_same p lines bytes a b read (inr h) (inl k) = absurd ((lines_one p.signature p.names).none bytes h.0 (k.0, k.1, k.2) h.1)
  certificate_same p lines bytes a b read (inr h) (inr k) =
      h.2 ∙ ap (λ line. malformed_at (lines + line) (codes "certificate")) ((lines_one p.signature p.names).one bytes h.0 k.0 h.1 k.1) ∙ sym k.2

  abbrev own : List ℕ → System × (ℕ × ℕ) → Reply → Type 0
  own bytes x = IsCertificateReply x.0 x.1.1 (drop x.1.0 bytes)

  reply_same : (bytes : List ℕ) (r : Read (System × (ℕ × ℕ))) (a b : Reply) → prefix_sizes bytes ≡ r → IsReplyToRead (own bytes) r a → IsReplyToRead (own bytes) r b → a ≡ b
  reply_same bytes (Ok x) a b e h k = certificate_same x.0 x.1.1 (drop x.1.0 bytes) a b (read_names bytes x e) h k
  reply_same bytes (Err f) a b e h k = h ∙ sym k

  pub one_verdict : HasOneReplyOfCheck
  one_verdict bytes a b h k = reply_same bytes (prefix_sizes bytes) a b refl h k
