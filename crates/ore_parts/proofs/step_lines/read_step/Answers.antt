use Rattle.std.proofs.Common.{subst}
use Rattle.ore_parts.specs.BlockText.{IsWrittenStep}
use Rattle.ore_parts.specs.Formats.{Spells}
use Rattle.ore_parts.specs.PartFormats.{step_words}
use Rattle.ore_parts.proofs.FormatReads.{finds_line, no_line_fault, other_line_fault}
use Rattle.ore_parts.proofs.PartLaws.{step_line}
use Rattle.ore_parts.proofs.step_lines.read_step.Goals as goal

pub returns-in_default : goal.returns-in_default
returns-in_default c =
    let s = c.args.algebra.now.signature.now in
    let names = c.args.algebra.now.names.now in
    no_line_fault (step_words names s.order) (IsWrittenStep s names) (step_line s names c.args.algebra.now.form c.args.algebra.now.count) c.args.lines.now c.take.new.self c.at-line.result c.at-line.ensures c.in_default.ensures

pub returns-in-Some-2 : goal.returns-in-Some-2
returns-in-Some-2 c =
    let s = c.args.algebra.now.signature.now in
    let names = c.args.algebra.now.names.now in
    finds_line (step_words names s.order) (IsWrittenStep s names) (step_line s names c.args.algebra.now.form c.args.algebra.now.count) c.args.lines.now c.take.new.self c.in-Some.words.now c.in-Some-2.step c.in-Some.ensures
    (subst (Spells (step_words names s.order) (IsWrittenStep s names) c.in-Some.words.now) c.in-Some-2.is c.in_ok-step.ensures)

pub returns-in-None : goal.returns-in-None
returns-in-None c =
    let s = c.args.algebra.now.signature.now in
    let names = c.args.algebra.now.names.now in
    other_line_fault (step_words names s.order) (IsWrittenStep s names) (step_line s names c.args.algebra.now.form c.args.algebra.now.count) c.args.lines.now c.take.new.self c.at-line.result c.in-Some.words.now c.at-line.ensures c.in-Some.ensures
    (subst (Spells (step_words names s.order) (IsWrittenStep s names) c.in-Some.words.now) c.in-None.is c.in_ok-step.ensures)
