-- Certificates of a signature: their operators belong to it, the rows of a matrix have one entry a column, and there are
-- from 1 to 12 links.
--     certificate_of_signature     these conditions, as those on parts; of a place and of a report nothing is asked
--     AreLinksOf                   the links of a resolution
--     IsCertificateOf              a certificate
use Rattle.std.specs.Prelude.{List}
use Rattle.ore_monomial.specs.Signature.{Signature}
use Rattle.ore_ring.specs.Belongs.{Belongs}
use Rattle.ore_parts.specs.declared.block.Link.{Link}
use Rattle.ore_parts.specs.OfSignature as parts
use Rattle.ore_cert.specs.declared.certificate.Certificate.{Certificate}
use Rattle.ore_cert.specs.EachKind.{Conditions, LinksMeet, CertificateMeets}

module _ (s : Signature) where
  -- the part is of the signature
  abbrev pub certificate_of_signature : Conditions
  certificate_of_signature = record { parts = parts.of_signature s; operator = Belongs s; unit = λ _. Unit {0}; report = λ _. Unit {0} }

  -- from 1 to 12 links of the signature
  abbrev pub AreLinksOf : List Link → Type 0
  AreLinksOf = LinksMeet certificate_of_signature

  -- each part of a certificate is of the signature
  abbrev pub IsCertificateOf : Certificate → Type 0
  IsCertificateOf = CertificateMeets certificate_of_signature
