-- Certificates in which no step multiplies by zero.
--     IsNonZeroStep            the fraction of a step isn't zero
--     IsNonZeroEntry           so it is with each step of a treated pair
--     nonzero                  these conditions, as those on parts
--     HasNonZeroSteps          so it is with each step of a certificate
--     FormsNonZeroSteps        a plan forms such certificates alone
--     PlansFormNonZeroSteps    so does each plan of a search
use Rattle.std.specs.Prelude.{◌≢◌, ℕ, List}
use Rattle.std.specs.List.{AllByRecursion}
use Rattle.ore_algebra.specs.Limits.{program}
use Rattle.ore_course.specs.Leading.{IsFormedBy}
use Rattle.ore_rational.specs.Field.{rationals}
use Rattle.ore_monomial.specs.Signature.{Signature}
use Rattle.ore_rows.specs.Reduction.{Step}
use Rattle.ore_rows.specs.declared.choices.Choice.{Choice}
use Rattle.ore_parts.specs.EachPart.{PartConditions, ExactMeets, OutsideMeets, LinkMeets}
use Rattle.ore_parts.specs.declared.block.PairEntry.{PairEntry}
use Rattle.ore_parts.specs.declared.block.PairEntry.TheVariants.{Pair, Skip}
use Rattle.ore_cert.specs.declared.certificate.Certificate.{Certificate}
use Rattle.ore_cert.specs.declared.certificate.Certificate.TheVariants.{Controllable, AutonomousElement, LeftInverse, RightInverse, NoLeftInverse, NoRightInverse, Kernel, Resolution, ExtZero, ExtNonzero, Halted}
use Rattle.ore_blocks.specs.CheckBlock.{RowMatrix}
use Rattle.ore_blocks.specs.KernelCourse.{RunCourse}
use Rattle.ore_check.specs.Plans.{kernel_left, kernel_right, inverse_left, inverse_right, analyse, resolve, ext}
use Rattle.ore_check.specs.Reports.{program_runner}

-- it isn't zero
abbrev pub IsNonZeroStep : Step rationals → Type 0
IsNonZeroStep t = t.number ≢ rationals.zero

-- each step of a treated pair
abbrev pub IsNonZeroEntry : PairEntry → Type 0
IsNonZeroEntry (Pair i j steps) = AllByRecursion IsNonZeroStep steps
IsNonZeroEntry (Skip i j via) = Unit {0}

-- of matrices and rows nothing is asked
abbrev pub nonzero : PartConditions
nonzero = record { matrix = λ _. Unit {0}; pairs = AllByRecursion IsNonZeroEntry; steps = AllByRecursion IsNonZeroStep; row = λ _. Unit {0} }

-- no step of its blocks has the fraction zero
abbrev pub HasNonZeroSteps : Certificate → Type 0
HasNonZeroSteps (Controllable q block) = ExactMeets nonzero block
HasNonZeroSteps (AutonomousElement element operator cofactor block) = OutsideMeets nonzero block
HasNonZeroSteps (LeftInverse m) = Unit {0}
HasNonZeroSteps (RightInverse m) = Unit {0}
HasNonZeroSteps (NoLeftInverse unit block) = OutsideMeets nonzero block
HasNonZeroSteps (NoRightInverse unit block) = OutsideMeets nonzero block
HasNonZeroSteps (Kernel side generators block) = ExactMeets nonzero block
HasNonZeroSteps (Resolution links) = AllByRecursion (LinkMeets nonzero) links
HasNonZeroSteps (ExtZero links block) = AllByRecursion (LinkMeets nonzero) links × ExactMeets nonzero block
HasNonZeroSteps (ExtNonzero links element block) = AllByRecursion (LinkMeets nonzero) links × OutsideMeets nonzero block
HasNonZeroSteps (Halted report) = Unit {0}

module _ (s : Signature) where
  -- whatever the choices
  abbrev pub FormsNonZeroSteps : (RowMatrix → RunCourse Certificate) → Type 0
  FormsNonZeroSteps course = (r : RowMatrix) (runs : List (List Choice)) (c : Certificate) → IsFormedBy (program_runner s) (course r) runs c → HasNonZeroSteps c

  -- each plan that forms certificates
  pub record PlansFormNonZeroSteps : Type 0 where
    pub kernel_left : FormsNonZeroSteps (kernel_left program s)
    pub kernel_right : FormsNonZeroSteps (kernel_right program s)
    pub inverse_left : FormsNonZeroSteps (inverse_left program s)
    pub inverse_right : FormsNonZeroSteps (inverse_right program s)
    pub analyse : FormsNonZeroSteps (analyse program s)
    pub resolve : (k : ℕ) → FormsNonZeroSteps (resolve program s k)
    pub ext : (k : ℕ) → FormsNonZeroSteps (ext program s k)
