use Rattle.ore_parts.proofs.BlockLaws.{exact_line, exact_parts}
use Rattle.ore_parts.proofs.FiveParts.{head_fails, a_fails, b_fails, c_fails, d_fails, e_fails, five_found}
use Rattle.ore_parts.proofs.parts.read_exact_part.Goals as goal

pub expect-requires : goal.expect-requires
expect-requires c = exact_line

pub returns-in_err-expect : goal.returns-in_err-expect
returns-in_err-expect c =
    head_fails (exact_parts c.args.algebra.now.signature.now c.args.algebra.now.names.now c.args.algebra.now.form c.args.algebra.now.count) c.args.lines.now c.expect.new.self c.from_residual.result c.in_err-expect.field-0.0 c.from_residual.ensures.1
    c.in_err-expect.ensures.err

pub returns-in_err-basis : goal.returns-in_err-basis
returns-in_err-basis c =
    a_fails (exact_parts c.args.algebra.now.signature.now c.args.algebra.now.names.now c.args.algebra.now.form c.args.algebra.now.count) c.args.lines.now c.read_matrix_part.new.lines c.from_residual-in_err-basis.result c.in_err-basis.field-0.0 c.from_residual-in_err-basis.ensures.1
    c.expect.new.self c.in_ok-expect.ensures.ok c.in_err-basis.ensures

pub returns-in_err-from : goal.returns-in_err-from
returns-in_err-from c =
    b_fails (exact_parts c.args.algebra.now.signature.now c.args.algebra.now.names.now c.args.algebra.now.form c.args.algebra.now.count) c.args.lines.now c.read_matrix_part-2.new.lines c.from_residual-in_err-from.result c.in_err-from.field-0.0 c.from_residual-in_err-from.ensures.1
    c.expect.new.self c.in_ok-expect.ensures.ok
    c.read_matrix_part.new.lines c.in_ok-basis.basis c.in_ok-basis.ensures c.in_err-from.ensures

pub returns-in_err-to : goal.returns-in_err-to
returns-in_err-to c =
    c_fails (exact_parts c.args.algebra.now.signature.now c.args.algebra.now.names.now c.args.algebra.now.form c.args.algebra.now.count) c.args.lines.now c.read_matrix_part-3.new.lines c.from_residual-in_err-to.result c.in_err-to.field-0.0 c.from_residual-in_err-to.ensures.1
    c.expect.new.self c.in_ok-expect.ensures.ok
    c.read_matrix_part.new.lines c.in_ok-basis.basis c.in_ok-basis.ensures
    c.read_matrix_part-2.new.lines c.in_ok-from.from c.in_ok-from.ensures c.in_err-to.ensures

pub returns-in_err-pairs : goal.returns-in_err-pairs
returns-in_err-pairs c =
    d_fails (exact_parts c.args.algebra.now.signature.now c.args.algebra.now.names.now c.args.algebra.now.form c.args.algebra.now.count) c.args.lines.now c.read_pairs.new.lines c.from_residual-in_err-pairs.result c.in_err-pairs.field-0.0 c.from_residual-in_err-pairs.ensures.1
    c.expect.new.self c.in_ok-expect.ensures.ok
    c.read_matrix_part.new.lines c.in_ok-basis.basis c.in_ok-basis.ensures
    c.read_matrix_part-2.new.lines c.in_ok-from.from c.in_ok-from.ensures
    c.read_matrix_part-3.new.lines c.in_ok-to.to c.in_ok-to.ensures c.in_err-pairs.ensures

pub returns-in_err-inside : goal.returns-in_err-inside
returns-in_err-inside c =
    e_fails (exact_parts c.args.algebra.now.signature.now c.args.algebra.now.names.now c.args.algebra.now.form c.args.algebra.now.count) c.args.lines.now c.read_matrix_part-4.new.lines c.from_residual-in_err-inside.result c.in_err-inside.field-0.0 c.from_residual-in_err-inside.ensures.1
    c.expect.new.self c.in_ok-expect.ensures.ok
    c.read_matrix_part.new.lines c.in_ok-basis.basis c.in_ok-basis.ensures
    c.read_matrix_part-2.new.lines c.in_ok-from.from c.in_ok-from.ensures
    c.read_matrix_part-3.new.lines c.in_ok-to.to c.in_ok-to.ensures
    c.read_pairs.new.lines c.in_ok-pairs.pairs c.in_ok-pairs.ensures c.in_err-inside.ensures

pub returns : goal.returns
returns c =
    five_found (exact_parts c.args.algebra.now.signature.now c.args.algebra.now.names.now c.args.algebra.now.form c.args.algebra.now.count) c.args.lines.now c.expect.new.self c.read_matrix_part.new.lines c.read_matrix_part-2.new.lines c.read_matrix_part-3.new.lines c.read_pairs.new.lines c.read_matrix_part-4.new.lines c.in_ok-basis.basis c.in_ok-from.from c.in_ok-to.to c.in_ok-pairs.pairs c.in_ok-inside.inside
    c.in_ok-expect.ensures.ok c.in_ok-basis.ensures c.in_ok-from.ensures c.in_ok-to.ensures c.in_ok-pairs.ensures c.in_ok-inside.ensures
