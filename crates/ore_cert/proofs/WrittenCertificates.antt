-- Certificates that may be written belong to the signature.
--     links_weaker, certificate_weaker     links and certificates that meet conditions meet others that these give
--     certificate_of                       certificates that may be written are of the signature
use Rattle.std.specs.Prelude.{List, ℕ}
use Rattle.std.proofs.lemmas.List.Elements.{All-weaker}
use Rattle.ore_monomial.specs.Signature.{Signature}
use Rattle.ore_ring.specs.Ordered.{Ordered}
use Rattle.ore_parts.specs.declared.block.Link.{Link}
use Rattle.ore_parts.specs.EachPart.{LinkMeets}
use Rattle.ore_parts.proofs.WrittenOf.{Weaker, exact_weaker, outside_weaker, link_weaker, written_of}
use Rattle.ore_cert.specs.declared.certificate.Certificate.{Certificate}
use Rattle.ore_cert.specs.declared.certificate.Certificate.TheVariants.{Controllable, AutonomousElement, LeftInverse, RightInverse, NoLeftInverse, NoRightInverse, Kernel, Resolution, ExtZero, ExtNonzero, Halted}
use Rattle.ore_cert.specs.declared.report.Report.{Report}
use Rattle.ore_cert.specs.EachKind.{Conditions, LinksMeet, CertificateMeets}
use Rattle.ore_cert.specs.CertificateOf.{certificate_of_signature, IsCertificateOf}
use Rattle.ore_cert.specs.WholeText.{certificate_written, IsWrittenCertificate}

module _ (C D : Conditions) (parts : Weaker C.parts D.parts) (operator : (f : Ordered) → C.operator f → D.operator f) (unit : (k : ℕ) → C.unit k → D.unit k) (report : (r : Report) → C.report r → D.report r) where
  links_weaker : (links : List Link) → LinksMeet C links → LinksMeet D links
  links_weaker links h = record { count = h.count; all = All-weaker (LinkMeets C.parts) (LinkMeets D.parts) (link_weaker C.parts D.parts parts) links h.all }

  certificate_weaker : (c : Certificate) → CertificateMeets C c → CertificateMeets D c
  certificate_weaker (Controllable q block) h = (parts.matrix q h.0, exact_weaker C.parts D.parts parts block h.1)
  certificate_weaker (AutonomousElement element f cofactor block) h = (parts.row element h.0, operator f h.1, parts.row cofactor h.2, outside_weaker C.parts D.parts parts block h.3)
  certificate_weaker (LeftInverse m) h = parts.matrix m h
  certificate_weaker (RightInverse m) h = parts.matrix m h
  certificate_weaker (NoLeftInverse k block) h = (unit k h.0, outside_weaker C.parts D.parts parts block h.1)
  certificate_weaker (NoRightInverse k block) h = (unit k h.0, outside_weaker C.parts D.parts parts block h.1)
  certificate_weaker (Kernel side generators block) h = (parts.matrix generators h.0, exact_weaker C.parts D.parts parts block h.1)
  certificate_weaker (Resolution links) h = links_weaker links h
  certificate_weaker (ExtZero links block) h = (links_weaker links h.0, exact_weaker C.parts D.parts parts block h.1)
  certificate_weaker (ExtNonzero links element block) h = (links_weaker links h.0, parts.row element h.1, outside_weaker C.parts D.parts parts block h.2)
  certificate_weaker (Halted r) h = report r h

pub certificate_of : (s : Signature) (names : List (List ℕ)) (c : Certificate) → IsWrittenCertificate s names c → IsCertificateOf s c
certificate_of s names c h = certificate_weaker (certificate_written s names) (certificate_of_signature s) (written_of s names) (λ f g. g.of) (λ k g. tt) (λ r g. tt) c h
