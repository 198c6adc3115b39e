-- What reading a certificate answers.
--     NamesLine        a fault names a line of which this holds; of want of memory nothing is said
--     IsStartFault     it names the faulty line of a text that should begin with one of a set
--     IsFaultOf        it names the faulty line of a text that should be one of a set
use Rattle.std.specs.Prelude.{◌≡◌, ℕ, ◌+◌, List}
use Rattle.ore_parts.specs.declared.fault.CertFault.{CertFault}
use Rattle.ore_parts.specs.declared.fault.CertFault.TheVariants.{Malformed, Memory}
use Rattle.ore_parts.specs.Lines.{Unread}
use Rattle.ore_parts.specs.FaultyLine.{IsFaultyLine, IsFaultyStart}

-- P holds of the line that the fault names, where it names one
abbrev pub NamesLine : CertFault → (ℕ → Type 0) → Type 0
NamesLine (Malformed line) P = P line
NamesLine Memory P = Unit {0}

-- the lines of the text count from the number of the first line that is left
abbrev pub IsStartFault : (List ℕ → Type 0) → Unread → CertFault → Type 0
IsStartFault T unread fault = NamesLine fault (λ line. (k : ℕ) × (line + 1 ≡ unread.at + k) × IsFaultyStart T unread.left k)

-- the lines of the text count from 1
abbrev pub IsFaultOf : (List ℕ → Type 0) → List ℕ → CertFault → Type 0
IsFaultOf T text fault = NamesLine fault (IsFaultyLine T text)
