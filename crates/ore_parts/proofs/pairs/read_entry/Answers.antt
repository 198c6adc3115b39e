use Rattle.std.proofs.Common.{[], subst}
use Rattle.ore_parts.specs.declared.pairs.EntryLine.TheVariants.{PairLine, SkipLine}
use Rattle.ore_parts.specs.Formats.{Finds}
use Rattle.ore_parts.specs.PartFormats.{step_format, entry_line_format}
use Rattle.ore_parts.proofs.FormatReads.{finds_none}
use Rattle.ore_parts.proofs.PartLaws.{step_is, entry_parts}
use Rattle.ore_parts.proofs.TwoParts.{both_found, first_fails, second_fails}
use Rattle.ore_parts.proofs.pairs.read_entry.Goals as goal

pub returns-in_err-i : goal.returns-in_err-i
returns-in_err-i c = first_fails (entry_parts c.args.algebra.now.signature.now c.args.algebra.now.names.now c.args.algebra.now.form c.args.algebra.now.count) c.args.lines.now c.read_entry_line.new.lines c.from_residual.result c.in_err-i.field-0.0 c.from_residual.ensures.1 c.in_err-i.ensures

pub returns-in_err-steps-in-PairLine : goal.returns-in_err-steps-in-PairLine
returns-in_err-steps-in-PairLine c =
    let line = subst (λ e. Finds entry_line_format c.args.lines.now e c.read_entry_line.new.lines) c.in-PairLine.is c.in_ok-i.ensures in
    second_fails (entry_parts c.args.algebra.now.signature.now c.args.algebra.now.names.now c.args.algebra.now.form c.args.algebra.now.count) c.args.lines.now c.read_entry_line.new.lines c.read_steps.new.lines (PairLine c.in-PairLine.i c.in-PairLine.j c.in-PairLine.count) c.from_residual-in_err-steps-in-PairLine.result c.in_err-steps-in-PairLine.field-0.0
    c.from_residual-in_err-steps-in-PairLine.ensures.1 line c.in_err-steps-in-PairLine.ensures

pub returns-in_ok-steps-in-PairLine : goal.returns-in_ok-steps-in-PairLine
returns-in_ok-steps-in-PairLine c =
    let line = subst (λ e. Finds entry_line_format c.args.lines.now e c.read_entry_line.new.lines) c.in-PairLine.is c.in_ok-i.ensures in
    both_found (entry_parts c.args.algebra.now.signature.now c.args.algebra.now.names.now c.args.algebra.now.form c.args.algebra.now.count) c.args.lines.now c.read_entry_line.new.lines c.read_steps.new.lines (PairLine c.in-PairLine.i c.in-PairLine.j c.in-PairLine.count) c.in_ok-steps-in-PairLine.steps line c.in_ok-steps-in-PairLine.ensures

pub returns-in-SkipLine : goal.returns-in-SkipLine
returns-in-SkipLine c =
    let line = subst (λ e. Finds entry_line_format c.args.lines.now e c.read_entry_line.new.lines) c.in-SkipLine.is c.in_ok-i.ensures in
    let none = finds_none (step_format c.args.algebra.now.signature.now c.args.algebra.now.names.now) (step_is c.args.algebra.now.signature.now c.args.algebra.now.names.now c.args.algebra.now.form c.args.algebra.now.count) c.read_entry_line.new.lines in
    both_found (entry_parts c.args.algebra.now.signature.now c.args.algebra.now.names.now c.args.algebra.now.form c.args.algebra.now.count) c.args.lines.now c.read_entry_line.new.lines c.read_entry_line.new.lines (SkipLine c.in-SkipLine.i c.in-SkipLine.j c.in-SkipLine.via) [] line none
