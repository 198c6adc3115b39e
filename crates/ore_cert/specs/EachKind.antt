-- Conditions on the parts of certificates of every kind, each met by every part of its type.
--     IsLength              how many links there may be
--     Conditions            what is asked of the parts of blocks, of an operator, the place of a unit row and a report
--     LinksMeet             there are from 1 to 12 links, and each meets its conditions
--     CertificateMeets      each part of a certificate meets its condition
use Rattle.std.specs.Prelude.{ℕ, ◌≤◌, List, length}
use Rattle.std.specs.List.{All}
use Rattle.ore_ring.specs.Ordered.{Ordered}
use Rattle.ore_parts.specs.declared.block.Link.{Link}
use Rattle.ore_parts.specs.EachPart.{PartConditions, ExactMeets, OutsideMeets, LinkMeets}
use Rattle.ore_cert.specs.declared.certificate.Certificate.{Certificate}
use Rattle.ore_cert.specs.declared.certificate.Certificate.TheVariants.{Controllable, AutonomousElement, LeftInverse, RightInverse, NoLeftInverse, NoRightInverse, Kernel, Resolution, ExtZero, ExtNonzero, Halted}
use Rattle.ore_cert.specs.declared.report.Report.{Report}

-- from 1 to 12
abbrev pub IsLength : ℕ → Type 0
IsLength k = (1 ≤ k) × (k ≤ 12)

-- one condition for each type of parts
pub record Conditions : Type 1 where
  pub parts : PartConditions
  pub operator : Ordered → Type 0
  pub unit : ℕ → Type 0
  pub report : Report → Type 0

module _ (C : Conditions) where
  -- from 1 to 12 links, each of which meets its conditions
  pub record LinksMeet (links : List Link) : Type 0 where
    pub count : IsLength (length links)
    pub all : All (LinkMeets C.parts) links

  -- each part of the certificate meets its condition
  abbrev pub CertificateMeets : Certificate → Type 0
  CertificateMeets (Controllable q block) = C.parts.matrix q × ExactMeets C.parts block
  CertificateMeets (AutonomousElement element operator cofactor block) = C.parts.row element × C.operator operator × C.parts.row cofactor × OutsideMeets C.parts block
  CertificateMeets (LeftInverse m) = C.parts.matrix m
  CertificateMeets (RightInverse m) = C.parts.matrix m
  CertificateMeets (NoLeftInverse unit block) = C.unit unit × OutsideMeets C.parts block
  CertificateMeets (NoRightInverse unit block) = C.unit unit × OutsideMeets C.parts block
  CertificateMeets (Kernel side generators block) = C.parts.matrix generators × ExactMeets C.parts block
  CertificateMeets (Resolution links) = LinksMeet links
  CertificateMeets (ExtZero links block) = LinksMeet links × ExactMeets C.parts block
  CertificateMeets (ExtNonzero links element block) = LinksMeet links × C.parts.row element × OutsideMeets C.parts block
  CertificateMeets (Halted report) = C.report report
