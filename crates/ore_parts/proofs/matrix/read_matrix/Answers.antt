use Rattle.std.proofs.Common.{◌+◌, suc, length, sym, ap, subst, ◌∙◌}
use Rattle.ore_parts.specs.Formats.{IsTextOf, Finds}
use Rattle.ore_parts.specs.Lines.{Unread}
use Rattle.ore_parts.specs.PartFormats.{matrix_format}
use Rattle.ore_parts.specs.Reading.{IsStartFault}
use Rattle.ore_parts.proofs.FormatReads.{reads_err}
use Rattle.ore_parts.proofs.MatrixLaws.{matrix_passed}
use Rattle.ore_parts.proofs.matrix.read_matrix.Goals as goal

pub returns-in_err-matrix-clause-reads : goal.returns-in_err-matrix-clause-reads
returns-in_err-matrix-clause-reads c =
    let F = matrix_format c.new.result.signature.now c.new.result.names.now c.args.name.now in
    rw (sym c.new.ensures.signature, sym c.new.ensures.names) (reads_err F c.args.lines.now c.args.lines.now c.from_residual.result c.in_err-matrix.field-0.0 c.from_residual.ensures.1 (subst (λ u. IsStartFault (IsTextOf F) u c.in_err-matrix.field-0.0) c.again-ahead.ensures c.in_err-matrix.ensures))

pub returns-clause-reads : goal.returns-clause-reads
returns-clause-reads c = rw (sym c.new.ensures.signature, sym c.new.ensures.names) (subst (λ u. Finds (matrix_format c.new.result.signature.now c.new.result.names.now c.args.name.now) u c.in_ok-matrix.matrix c.read_matrix_part.new.lines) c.again-ahead.ensures c.in_ok-matrix.ensures)

pub returns-clause-passed : goal.returns-clause-passed
returns-clause-passed c =
    matrix_passed c.new.result.signature.now c.new.result.names.now c.new.result.form c.new.result.count c.args.name.now c.requires.name c.again-ahead.result c.read_matrix_part.new.lines c.in_ok-matrix.matrix c.in_ok-matrix.ensures
    ∙ ap (λ (u : Unread). u.at + suc (length c.in_ok-matrix.matrix.rows)) c.again-ahead.ensures
