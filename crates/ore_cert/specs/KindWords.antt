-- The words of kinds of certificates, as a text and a reply name them.
--     cause_words       why a computation stopped
--     word_of           the word of a kind
--     kind_details      the words that the line of a kind has behind it
--     kind_words        that line, without its end
--     kind_of           the kind of a certificate
--     kind_word         the word of the kind of a certificate
use Rattle.std.specs.Prelude.{ℕ, List, [], ◌∷◌, length, codes, decimal}
use Rattle.std.specs.List.{join_with_byte}
use Rattle.ore_cert.specs.declared.certificate.Side.TheVariants.{Left, Right}
use Rattle.ore_cert.specs.declared.certificate.Certificate.{Certificate}
use Rattle.ore_cert.specs.declared.certificate.Certificate.TheVariants as certificate
use Rattle.ore_cert.specs.declared.kind.Kind.{Kind}
use Rattle.ore_cert.specs.declared.kind.Kind.TheVariants.{Controllable, AutonomousElement, LeftInverse, RightInverse, NoLeftInverse, NoRightInverse, KernelLeft, KernelRight, Resolution, ExtZero, ExtNonzero, Halted}
use Rattle.ore_cert.specs.declared.report.Cause.{Cause}
use Rattle.ore_cert.specs.declared.report.Cause.TheVariants as cause

-- a number left its range, a degree passed 32,767, or so many pairs were treated and a pair is left
abbrev pub cause_words : Cause → List (List ℕ)
cause_words cause.Overflow = codes "overflow" ∷ []
cause_words cause.Degree = codes "degree" ∷ []
cause_words (cause.Budget n) = codes "budget" ∷ decimal n ∷ []

-- the first word of the second line of a text, with which a reply names the certificate
abbrev pub word_of : Kind → List ℕ
word_of Controllable = codes "controllable"
word_of AutonomousElement = codes "autonomous-element"
word_of LeftInverse = codes "left-inverse"
word_of RightInverse = codes "right-inverse"
word_of NoLeftInverse = codes "no-left-inverse"
word_of NoRightInverse = codes "no-right-inverse"
word_of KernelLeft = codes "kernel"
word_of KernelRight = codes "kernel"
word_of (Resolution count) = codes "resolution"
word_of (ExtZero count) = codes "ext-zero"
word_of (ExtNonzero count) = codes "ext-nonzero"
word_of (Halted cause) = codes "halted"

-- the side, the number of links or the cause
abbrev pub kind_details : Kind → List (List ℕ)
kind_details KernelLeft = codes "left" ∷ []
kind_details KernelRight = codes "right" ∷ []
kind_details (Resolution count) = decimal count ∷ []
kind_details (ExtZero count) = decimal count ∷ []
kind_details (ExtNonzero count) = decimal count ∷ []
kind_details (Halted cause) = cause_words cause
kind_details kind = []

-- the word, and what is behind it
abbrev pub kind_words : Kind → List ℕ
kind_words k = join_with_byte 32 (word_of k ∷ kind_details k)

-- what the second line of the text of a certificate says
abbrev pub kind_of : Certificate → Kind
kind_of (certificate.Controllable q block) = Controllable
kind_of (certificate.AutonomousElement element operator cofactor block) = AutonomousElement
kind_of (certificate.LeftInverse s) = LeftInverse
kind_of (certificate.RightInverse s) = RightInverse
kind_of (certificate.NoLeftInverse unit block) = NoLeftInverse
kind_of (certificate.NoRightInverse unit block) = NoRightInverse
kind_of (certificate.Kernel Left generators block) = KernelLeft
kind_of (certificate.Kernel Right generators block) = KernelRight
kind_of (certificate.Resolution links) = Resolution (length links)
kind_of (certificate.ExtZero links block) = ExtZero (length links)
kind_of (certificate.ExtNonzero links element block) = ExtNonzero (length links)
kind_of (certificate.Halted report) = Halted report.cause

-- with which a reply names the certificate
abbrev pub kind_word : Certificate → List ℕ
kind_word c = word_of (kind_of c)
