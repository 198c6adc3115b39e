use Rattle.std.proofs.Common.{◌≡◌, [], sym, ap, subst, ◌∙◌, append-nil}
use Rattle.ore_parts.specs.Lines.{Unread}
use Rattle.ore_parts.specs.Reading.{IsFaultOf}
use Rattle.ore_cert.specs.WholeFormats.{certificate_format}
use Rattle.ore_cert.specs.WholeText.{certificate_text, IsWrittenCertificate, IsCertificate}
use Rattle.ore_parts.proofs.Steps.{if_err}
use Rattle.ore_parts.proofs.FormatReads.{whole_fault, more_fault}
use Rattle.ore_cert.proofs.WholeLaws.{certificate_is}
use Rattle.ore_cert.proofs.WrittenCertificates.{certificate_of}
use Rattle.ore_cert.proofs.whole.read_certificate.Goals as goal

pub returns-in_err-cert-clause-faulty : goal.returns-in_err-cert-clause-faulty
returns-in_err-cert-clause-faulty c =
    let s = c.new.result.signature.now in
    let names = c.new.result.names.now in
    let e = c.in_err-cert.field-0.0 in
    rw (sym c.new.ensures.signature, sym c.new.ensures.names) (if_err c.from_residual.result e (IsFaultOf (IsCertificate s names) c.args.text.now) c.from_residual.ensures.1
    (subst (λ (u : Unread). IsFaultOf (IsCertificate s names) u.left e) c.new-lines.ensures
    (whole_fault (certificate_format s names) (certificate_is s names c.new.result.form c.new.result.count) c.new-lines.result e (ap (λ (u : Unread). u.at) c.new-lines.ensures) c.in_err-cert.ensures)))

pub returns-in_err-expect_end-clause-faulty : goal.returns-in_err-expect_end-clause-faulty
returns-in_err-expect_end-clause-faulty c =
    let s = c.new.result.signature.now in
    let names = c.new.result.names.now in
    let e = c.in_err-expect_end.field-0.0 in
    let more = more_fault (certificate_format s names) (certificate_is s names c.new.result.form c.new.result.count) c.new-lines.result c.read_headed.new.lines c.in_ok-cert.cert (ap (λ (u : Unread). u.at) c.new-lines.ensures) c.in_ok-cert.ensures c.in_err-expect_end.ensures.err.1 in
    rw (sym c.new.ensures.signature, sym c.new.ensures.names) (if_err c.from_residual-in_err-expect_end.result e (IsFaultOf (IsCertificate s names) c.args.text.now) c.from_residual-in_err-expect_end.ensures.1
    (subst (λ (u : Unread). IsFaultOf (IsCertificate s names) u.left e) c.new-lines.ensures
    (subst (IsFaultOf (IsCertificate s names) c.new-lines.result.left) (sym c.in_err-expect_end.ensures.err.0) more)))

pub returns-clause-only : goal.returns-clause-only
returns-clause-only c other h e =
    let s = c.new.result.signature.now in
    let names = c.new.result.names.now in
    let text = certificate_text names s.order other in
    let may : IsWrittenCertificate s names other = rw (c.new.ensures.signature, c.new.ensures.names) h in
    let whole : c.args.text.now ≡ text = rw (c.new.ensures.signature, c.new.ensures.names) e in
    c.in_ok-cert.ensures.only other [] may (ap (λ (u : Unread). u.left) c.new-lines.ensures ∙ whole ∙ sym (append-nil text))

pub returns-clause-of : goal.returns-clause-of
returns-clause-of c = rw (sym c.new.ensures.signature) (certificate_of c.new.result.signature.now c.new.result.names.now c.in_ok-cert.cert c.in_ok-cert.ensures.may)
