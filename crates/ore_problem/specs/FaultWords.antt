-- The words of faults of problem texts, as a reply names them.
--     fault_word         the word of what is wrong with a line
use Rattle.std.specs.Prelude.{ℕ, List, [], codes}
use Rattle.ore_monomial.specs.FaultWords.{signature_word}
use Rattle.ore_expr.specs.FaultWords.{text_word}
use Rattle.ore_problem.specs.declared.fault.ProblemReason.{ProblemReason}
use Rattle.ore_problem.specs.declared.fault.ProblemReason.TheVariants as reason

-- a stop of an entry has no word, since its cause is answered, and neither has want of memory
abbrev pub fault_word : ProblemReason → List ℕ
fault_word reason.Header = codes "header"
fault_word reason.BadDeclaration = codes "bad-declaration"
fault_word reason.NameTwice = codes "name-twice"
fault_word (reason.Signature f) = signature_word f
fault_word reason.BadMatrix = codes "bad-matrix"
fault_word reason.TooManyRows = codes "too-many-rows"
fault_word reason.TooManyColumns = codes "too-many-columns"
fault_word reason.BadRow = codes "bad-row"
fault_word reason.WrongLength = codes "wrong-length"
fault_word (reason.Text f) = text_word f
fault_word reason.NoEnd = codes "no-end"
fault_word reason.AfterEnd = codes "after-end"
fault_word reason.Memory = []
