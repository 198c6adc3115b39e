-- What is stored of a certificate is in the program's ranges.
--     IsStorableStep, AreStorableSteps     the term of a step; fewer than 2^63 steps, each in range
--     IsStorableEntry                      the steps of a treated pair
--     AreStorablePairs, IsStorableMatrix, IsStorableRow    numbers and degrees are in range, and lists are shorter than 2^63
--     storable                             these conditions, as those on parts
--     IsStorableExact, IsStorableOutside, IsStorableLink     blocks, and a matrix with its block
--     IsStorableCertificate                a certificate; of a report nothing is said
use Rattle.std.specs.Prelude.{◌<◌, List, length}
use Rattle.std.specs.List.{All}
use Rattle.ore_rational.specs.Field.{rationals}
use Rattle.ore_ring.specs.Ordered.{Ordered}
use Rattle.ore_text.specs.Printable.{IsStorableTerm, IsStorable}
use Rattle.ore_rows.specs.Reduction.{Step}
use Rattle.ore_rows.specs.Stored.{OperatorMatrix}
use Rattle.ore_parts.specs.CertificateText.{number_bound}
use Rattle.ore_parts.specs.EachPart.{PartConditions, ExactMeets, OutsideMeets, LinkMeets}
use Rattle.ore_parts.specs.declared.block.PairEntry.{PairEntry}
use Rattle.ore_parts.specs.declared.block.PairEntry.TheVariants.{Pair, Skip}
use Rattle.ore_parts.specs.declared.block.ExactBlock.{ExactBlock}
use Rattle.ore_parts.specs.declared.block.OutsideBlock.{OutsideBlock}
use Rattle.ore_parts.specs.declared.block.Link.{Link}
use Rattle.ore_cert.specs.declared.certificate.Certificate.{Certificate}
use Rattle.ore_cert.specs.declared.certificate.Certificate.TheVariants.{Controllable, AutonomousElement, LeftInverse, RightInverse, NoLeftInverse, NoRightInverse, Kernel, Resolution, ExtZero, ExtNonzero, Halted}

-- the fraction and the monomial of the step
abbrev pub IsStorableStep : Step rationals → Type 0
IsStorableStep t = IsStorableTerm (t.monomial, t.number)

-- fewer than 2^63 steps, each in range
pub record AreStorableSteps (steps : List (Step rationals)) : Type 0 where
  pub few : length steps < number_bound
  pub all : All IsStorableStep steps

-- the steps of a treated pair
abbrev pub IsStorableEntry : PairEntry → Type 0
IsStorableEntry (Pair i j steps) = AreStorableSteps steps
IsStorableEntry (Skip i j via) = Unit {0}

-- fewer than 2^63 pairs, each in range
pub record AreStorablePairs (pairs : List PairEntry) : Type 0 where
  pub few : length pairs < number_bound
  pub all : All IsStorableEntry pairs

-- fewer than 2^63 entries, each in range
pub record IsStorableRow (r : List Ordered) : Type 0 where
  pub few : length r < number_bound
  pub all : All (λ f. IsStorable f.sum) r

-- both sizes are below 2^63, and each row is in range
pub record IsStorableMatrix (m : OperatorMatrix) : Type 0 where
  pub few_rows : length m.rows < number_bound
  pub few_cols : m.cols < number_bound
  pub all : All IsStorableRow m.rows

-- the part is in range
abbrev pub storable : PartConditions
storable = record { matrix = IsStorableMatrix; pairs = AreStorablePairs; steps = AreStorableSteps; row = IsStorableRow }

-- each part of an exact block is in range
abbrev pub IsStorableExact : ExactBlock → Type 0
IsStorableExact = ExactMeets storable

-- each part of an outside block is in range
abbrev pub IsStorableOutside : OutsideBlock → Type 0
IsStorableOutside = OutsideMeets storable

-- the matrix and its block are in range
abbrev pub IsStorableLink : Link → Type 0
IsStorableLink = LinkMeets storable

-- each part of a certificate is in range
abbrev pub IsStorableCertificate : Certificate → Type 0
IsStorableCertificate (Controllable q block) = IsStorableMatrix q × IsStorableExact block
IsStorableCertificate (AutonomousElement element operator cofactor block) = IsStorableRow element × IsStorable operator.sum × IsStorableRow cofactor × IsStorableOutside block
IsStorableCertificate (LeftInverse m) = IsStorableMatrix m
IsStorableCertificate (RightInverse m) = IsStorableMatrix m
IsStorableCertificate (NoLeftInverse unit block) = IsStorableOutside block
IsStorableCertificate (NoRightInverse unit block) = IsStorableOutside block
IsStorableCertificate (Kernel side generators block) = IsStorableMatrix generators × IsStorableExact block
IsStorableCertificate (Resolution links) = All IsStorableLink links
IsStorableCertificate (ExtZero links block) = All IsStorableLink links × IsStorableExact block
IsStorableCertificate (ExtNonzero links element block) = All IsStorableLink links × IsStorableRow element × IsStorableOutside block
IsStorableCertificate (Halted report) = Unit {0}
