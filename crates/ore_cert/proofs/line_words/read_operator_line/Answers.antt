use Rattle.std.proofs.Common.{subst}
use Rattle.ore_parts.specs.Formats.{Spells}
use Rattle.ore_cert.specs.WholeFormats.{operator_words}
use Rattle.ore_cert.specs.WholeText.{IsWrittenOperator}
use Rattle.ore_parts.proofs.FormatReads.{finds_line, no_line_fault, other_line_fault}
use Rattle.ore_cert.proofs.WholeLaws.{operator_words_are}
use Rattle.ore_cert.proofs.line_words.read_operator_line.Goals as goal

pub returns-in_default : goal.returns-in_default
returns-in_default c = no_line_fault (operator_words c.args.algebra.now.signature.now c.args.algebra.now.names.now c.args.word.now) (IsWrittenOperator c.args.algebra.now.signature.now c.args.algebra.now.names.now) (operator_words_are c.args.algebra.now.signature.now c.args.algebra.now.names.now c.args.algebra.now.form c.args.algebra.now.count c.args.word.now c.requires) c.args.lines.now c.take.new.self c.at-line.result c.at-line.ensures c.in_default.ensures

pub returns-in-Some-2 : goal.returns-in-Some-2
returns-in-Some-2 c = finds_line (operator_words c.args.algebra.now.signature.now c.args.algebra.now.names.now c.args.word.now) (IsWrittenOperator c.args.algebra.now.signature.now c.args.algebra.now.names.now) (operator_words_are c.args.algebra.now.signature.now c.args.algebra.now.names.now c.args.algebra.now.form c.args.algebra.now.count c.args.word.now c.requires) c.args.lines.now c.take.new.self c.in-Some.words.now c.in-Some-2.operator c.in-Some.ensures (subst (Spells (operator_words c.args.algebra.now.signature.now c.args.algebra.now.names.now c.args.word.now) (IsWrittenOperator c.args.algebra.now.signature.now c.args.algebra.now.names.now) c.in-Some.words.now) c.in-Some-2.is (c.in_ok-operator.ensures {u = tt}))

pub returns-in-None : goal.returns-in-None
returns-in-None c = other_line_fault (operator_words c.args.algebra.now.signature.now c.args.algebra.now.names.now c.args.word.now) (IsWrittenOperator c.args.algebra.now.signature.now c.args.algebra.now.names.now) (operator_words_are c.args.algebra.now.signature.now c.args.algebra.now.names.now c.args.algebra.now.form c.args.algebra.now.count c.args.word.now c.requires) c.args.lines.now c.take.new.self c.at-line.result c.in-Some.words.now c.at-line.ensures c.in-Some.ensures (subst (Spells (operator_words c.args.algebra.now.signature.now c.args.algebra.now.names.now c.args.word.now) (IsWrittenOperator c.args.algebra.now.signature.now c.args.algebra.now.names.now) c.in-Some.words.now) c.in-None.is (c.in_ok-operator.ensures {u = tt}))
