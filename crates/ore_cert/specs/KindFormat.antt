-- The line with the kind of a certificate.
--     halted_words              what the line says of a stopped computation
--     IsWrittenKind             its numbers are in their ranges
--     kind_format               the line of a kind
--     IsNoUnnumberedKind, IsNoLinks  no kind without a number; none with the number of links
use Rattle.std.specs.Prelude.{◌≢◌, ℕ, List}
use Rattle.ore_cert.specs.declared.kind.Kind.{Kind}
use Rattle.ore_cert.specs.declared.kind.Kind.TheVariants.{Controllable, AutonomousElement, LeftInverse, RightInverse, NoLeftInverse, NoRightInverse, KernelLeft, KernelRight, Resolution, ExtZero, ExtNonzero, Halted}
use Rattle.ore_cert.specs.declared.report.Cause.{Cause}
use Rattle.ore_parts.specs.Formats.{Format, one_line}
use Rattle.ore_cert.specs.KindWords.{kind_words}
use Rattle.ore_cert.specs.WholeText.{IsWrittenCause, IsLength}

-- `halted`, and then the words of the cause
abbrev pub halted_words : Cause → List ℕ
halted_words c = kind_words (Halted c)

-- the number of links is from 1 to 12, and a budget is at most 1,000,000
abbrev pub IsWrittenKind : Kind → Type 0
IsWrittenKind (Resolution count) = IsLength count
IsWrittenKind (ExtZero count) = IsLength count
IsWrittenKind (ExtNonzero count) = IsLength count
IsWrittenKind (Halted cause) = IsWrittenCause cause
IsWrittenKind kind = Unit {0}

-- the words of a kind, and the line end
abbrev pub kind_format : Format Kind
kind_format = one_line kind_words IsWrittenKind

-- the text is the line of none of these kinds, which have no number and no cause
pub record IsNoUnnumberedKind (text : List ℕ) : Type 0 where
  pub controllable : text ≢ kind_words Controllable
  pub autonomous : text ≢ kind_words AutonomousElement
  pub left : text ≢ kind_words LeftInverse
  pub right : text ≢ kind_words RightInverse
  pub no_left : text ≢ kind_words NoLeftInverse
  pub no_right : text ≢ kind_words NoRightInverse
  pub kernel_left : text ≢ kind_words KernelLeft
  pub kernel_right : text ≢ kind_words KernelRight

-- the text is the line of no kind with links, whatever their number
pub record IsNoLinks (text : List ℕ) : Type 0 where
  pub resolution : (n : ℕ) → IsLength n → text ≢ kind_words (Resolution n)
  pub ext_zero : (n : ℕ) → IsLength n → text ≢ kind_words (ExtZero n)
  pub ext_nonzero : (n : ℕ) → IsLength n → text ≢ kind_words (ExtNonzero n)
