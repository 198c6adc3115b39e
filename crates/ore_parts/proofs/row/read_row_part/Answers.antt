use Rattle.std.proofs.Common.{refl}
use Rattle.ore_parts.proofs.MatrixLaws.{row_parts}
use Rattle.ore_parts.proofs.TwoParts.{first_fails, last_found}
use Rattle.ore_parts.proofs.row.read_row_part.Goals as goal

pub returns-in_err-cols : goal.returns-in_err-cols
returns-in_err-cols c =
    let p = row_parts c.args.algebra.now.signature.now c.args.algebra.now.names.now c.args.algebra.now.form c.args.algebra.now.count c.args.name.now c.requires in
    first_fails p c.args.lines.now c.read_columns.new.lines c.from_residual.result c.in_err-cols.field-0.0 c.from_residual.ensures.1 c.in_err-cols.ensures

pub returns : goal.returns
returns c =
    let p = row_parts c.args.algebra.now.signature.now c.args.algebra.now.names.now c.args.algebra.now.form c.args.algebra.now.count c.args.name.now c.requires in
    last_found p (λ x y. refl) c.args.lines.now c.read_columns.new.lines c.read_one_row.new.lines c.in_ok-cols.cols c.read_one_row.result c.in_ok-cols.ensures c.read_one_row.ensures
