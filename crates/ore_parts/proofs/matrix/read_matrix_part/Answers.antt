use Rattle.std.proofs.Common.{refl}
use Rattle.ore_parts.proofs.MatrixLaws.{matrix_parts}
use Rattle.ore_parts.proofs.TwoParts.{first_fails, last_found}
use Rattle.ore_parts.proofs.matrix.read_matrix_part.Goals as goal

pub returns-in_err-count : goal.returns-in_err-count
returns-in_err-count c =
    let p = matrix_parts c.args.algebra.now.signature.now c.args.algebra.now.names.now c.args.algebra.now.form c.args.algebra.now.count c.args.name.now c.requires in
    first_fails p c.args.lines.now c.read_sizes.new.lines c.from_residual.result c.in_err-count.field-0.0 c.from_residual.ensures.1 c.in_err-count.ensures

pub returns : goal.returns
returns c =
    let p = matrix_parts c.args.algebra.now.signature.now c.args.algebra.now.names.now c.args.algebra.now.form c.args.algebra.now.count c.args.name.now c.requires in
    last_found p (λ x y. refl) c.args.lines.now c.read_sizes.new.lines c.read_rows.new.lines (c.in_ok-count.count, c.in_ok-count.cols) c.read_rows.result c.in_ok-count.ensures c.read_rows.ensures
