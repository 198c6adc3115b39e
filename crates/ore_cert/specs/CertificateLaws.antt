-- What reading a certificate answers, and what follows from it.
--     IsAnswer          the answer is a certificate whose text it is, or a fault that names the faulty line
--     PrintedCertificateIsRead  the text of a certificate is read as that certificate, where there is memory
--     TextIsOfOne       no text is that of two certificates
use Rattle.std.specs.Prelude.{◌≡◌, ℕ, List, length, IfOk, IfErr}
use Rattle.std.specs.declared.result.Result.{Result}
use Rattle.ore_monomial.specs.Signature.{Signature}
use Rattle.ore_text.specs.Names.{AreNames}
use Rattle.ore_cert.specs.declared.certificate.Certificate.{Certificate}
use Rattle.ore_parts.specs.declared.fault.CertFault.{CertFault}
use Rattle.ore_parts.specs.declared.fault.CertFault.TheVariants.{Memory}
use Rattle.ore_parts.specs.Reading.{IsFaultOf}
use Rattle.ore_cert.specs.WholeText.{certificate_text, IsWrittenCertificate, IsCertificate}

-- a certificate that is answered may be written, and has this text; a fault names the faulty line; of want of memory
-- nothing is said
pub record IsAnswer (s : Signature) (names : List (List ℕ)) (text : List ℕ) (answer : Result Certificate CertFault) : Type 0 where
  pub found : IfOk answer (λ c. IsWrittenCertificate s names c × (text ≡ certificate_text names s.order c))
  pub faulty : IfErr answer (IsFaultOf (IsCertificate s names) text)

-- what is answered of the text of a certificate that may be written is that certificate, or want of memory; there is a
-- name for each variable
abbrev pub PrintedCertificateIsRead : Type 0
PrintedCertificateIsRead = (s : Signature) (names : List (List ℕ)) → AreNames names → length names ≡ length s.kinds → (c : Certificate) (answer : Result Certificate CertFault) → IsWrittenCertificate s names c
    → IsAnswer s names (certificate_text names s.order c) answer → IfOk answer (λ d. d ≡ c) × IfErr answer (λ e. e ≡ Memory)

-- two certificates that may be written and have one text are the same, where there is a name for each variable
abbrev pub TextIsOfOne : Type 0
TextIsOfOne = (s : Signature) (names : List (List ℕ)) → AreNames names → length names ≡ length s.kinds → (a b : Certificate) → IsWrittenCertificate s names a → IsWrittenCertificate s names b
    → certificate_text names s.order a ≡ certificate_text names s.order b → a ≡ b
