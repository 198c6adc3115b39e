-- The laws of reading certificates.
--     text_is_of_one       no text is that of two certificates
--     printed_is_read      the text of a certificate is read as that certificate
use Rattle.std.proofs.Common.{◌≡◌, [], ◌++◌, Result, Ok, Err, refl, sym, ap}
use Rattle.std.specs.Prelude.{IfOk, IfErr}
use Rattle.ore_cert.specs.declared.certificate.Certificate.{Certificate}
use Rattle.ore_parts.specs.declared.fault.CertFault.{CertFault}
use Rattle.ore_parts.specs.declared.fault.CertFault.TheVariants.{Malformed, Memory}
use Rattle.ore_cert.specs.CertificateLaws.{IsAnswer, PrintedCertificateIsRead, TextIsOfOne}
use Rattle.ore_cert.specs.WholeText.{certificate_text, IsCertificate}
use Rattle.ore_parts.proofs.FaultyLines.{one_faulty_line}
use Rattle.ore_cert.proofs.WholeLaws.{certificate_is}

pub text_is_of_one : TextIsOfOne
text_is_of_one s names are fit a b h k e = ((certificate_is s names are fit).cancel a b h k [] [] (ap (λ t. t ++ []) e)).0

pub printed_is_read : PrintedCertificateIsRead
printed_is_read s names are fit c answer h a = by answer a
  where
    by : (r : Result Certificate CertFault) → IsAnswer s names (certificate_text names s.order c) r → IfOk r (λ d. d ≡ c) × IfErr r (λ e. e ≡ Memory)
    by (Ok d) a = (text_is_of_one s names are fit d c a.found.0 h (sym a.found.1), tt)
    by (Err Memory) a = (tt, refl)
    by (Err (Malformed line)) a = absurd ((one_faulty_line (IsCertificate s names)).none (certificate_text names s.order c) line (c, h, refl) a.faulty)
