use Rattle.std.proofs.Common.{◌<◌, refl, sym, subst, arith}
use Rattle.ore_rows.specs.Stored.{OperatorMatrix}
use Rattle.ore_parts.specs.Formats.{Finds, items}
use Rattle.ore_parts.specs.PartFormats.{stored_row_format, rows_format}
use Rattle.ore_parts.proofs.FormatReads.{finds_more, none_read, finds_made, items_fault, made_fault, all_read, reads_err}
use Rattle.ore_parts.proofs.MatrixLaws.{stored_row_is, as_matrix, rows_make, rows_fit}
use Rattle.ore_parts.proofs.Steps.{widths}
use Rattle.ore_parts.proofs.matrix.read_rows.Goals as goal

pub returns-in_err-row : goal.returns-in_err-row
returns-in_err-row c =
    let s = c.args.algebra.now.signature.now in
    let names = c.args.algebra.now.names.now in
    let cols = c.args.cols in
    let few : c.loop.counter < c.args.count = omega arith in
    reads_err (rows_format s names c.args.count cols) c.args.lines.now c.read_one_row.new.lines c.from_residual.result c.in_err-row.field-0.0 c.from_residual.ensures.1
    (made_fault (items (stored_row_format s names cols) c.args.count) (rows_format s names c.args.count cols) (as_matrix s names c.args.algebra.now.form c.args.algebra.now.count cols) (rows_make s names c.args.algebra.now.form c.args.algebra.now.count c.args.count cols) c.args.lines.now c.in_err-row.field-0.0
    (items_fault (stored_row_format s names cols) (stored_row_is s names c.args.algebra.now.form c.args.algebra.now.count cols) c.args.lines.now c.loop.lines c.loop.rows.items c.loop.counter c.args.count c.in_err-row.field-0.0 c.loop.invariant few c.in_err-row.ensures))

pub loop-init : goal.loop-init
loop-init c = none_read (stored_row_format c.args.algebra.now.signature.now c.args.algebra.now.names.now c.args.cols) (stored_row_is c.args.algebra.now.signature.now c.args.algebra.now.names.now c.args.algebra.now.form c.args.algebra.now.count c.args.cols) c.args.lines.now c.new-rows.result.items c.new-rows.ensures.items

pub loop-preserved : goal.loop-preserved
loop-preserved c =
    let s = c.args.algebra.now.signature.now in
    let names = c.args.algebra.now.names.now in
    finds_more (stored_row_format s names c.args.cols) (stored_row_is s names c.args.algebra.now.form c.args.algebra.now.count c.args.cols) c.args.lines.now c.loop.lines c.read_one_row.new.lines c.loop.rows.items c.push.new.self.items c.in_ok-row.row c.loop.counter
    c.loop.invariant c.in_ok-row.ensures c.in_ok-push.ensures.items

pub from_rows-requires-clause-fits : goal.from_rows-requires-clause-fits
from_rows-requires-clause-fits c =
    let s = c.args.algebra.now.signature.now in
    let names = c.args.algebra.now.names.now in
    widths s names c.args.cols c.loop.rows.items (rows_fit s names c.args.algebra.now.form c.args.algebra.now.count c.args.cols c.loop.rows.items c.loop.invariant.may.1)

pub returns : goal.returns
returns c =
    let s = c.args.algebra.now.signature.now in
    let names = c.args.algebra.now.names.now in
    let cols = c.args.cols in
    let rows = all_read (stored_row_format s names cols) (stored_row_is c.args.algebra.now.signature.now c.args.algebra.now.names.now c.args.algebra.now.form c.args.algebra.now.count cols) c.args.lines.now c.loop.lines c.loop.rows.items c.loop.rows.items c.loop.counter c.args.count (omega (arith, c.loop.auto.counter-end)) refl c.loop.invariant in
    subst (λ (m : OperatorMatrix). Finds (rows_format s names c.args.count cols) c.args.lines.now m c.loop.lines) (sym c.from_rows.ensures)
    (finds_made (items (stored_row_format s names cols) c.args.count) (rows_format s names c.args.count cols) (as_matrix c.args.algebra.now.signature.now c.args.algebra.now.names.now c.args.algebra.now.form c.args.algebra.now.count cols) (rows_make c.args.algebra.now.signature.now c.args.algebra.now.names.now c.args.algebra.now.form c.args.algebra.now.count c.args.count cols) c.args.lines.now c.loop.rows.items c.loop.lines rows)
