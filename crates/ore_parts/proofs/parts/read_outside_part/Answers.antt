use Rattle.ore_parts.proofs.BlockLaws.{outside_line, outside_parts}
use Rattle.ore_parts.proofs.FiveParts.{head_fails, a_fails, b_fails, c_fails, d_fails, e_fails, five_found}
use Rattle.ore_parts.proofs.parts.read_outside_part.Goals as goal

pub expect-requires : goal.expect-requires
expect-requires c = outside_line

pub returns-in_err-expect : goal.returns-in_err-expect
returns-in_err-expect c =
    head_fails (outside_parts c.args.algebra.now.signature.now c.args.algebra.now.names.now c.args.algebra.now.form c.args.algebra.now.count) c.args.lines.now c.expect.new.self c.from_residual.result c.in_err-expect.field-0.0 c.from_residual.ensures.1
    c.in_err-expect.ensures.err

pub returns-in_err-basis : goal.returns-in_err-basis
returns-in_err-basis c =
    a_fails (outside_parts c.args.algebra.now.signature.now c.args.algebra.now.names.now c.args.algebra.now.form c.args.algebra.now.count) c.args.lines.now c.read_matrix_part.new.lines c.from_residual-in_err-basis.result c.in_err-basis.field-0.0 c.from_residual-in_err-basis.ensures.1
    c.expect.new.self c.in_ok-expect.ensures.ok c.in_err-basis.ensures

pub returns-in_err-from : goal.returns-in_err-from
returns-in_err-from c =
    b_fails (outside_parts c.args.algebra.now.signature.now c.args.algebra.now.names.now c.args.algebra.now.form c.args.algebra.now.count) c.args.lines.now c.read_matrix_part-2.new.lines c.from_residual-in_err-from.result c.in_err-from.field-0.0 c.from_residual-in_err-from.ensures.1
    c.expect.new.self c.in_ok-expect.ensures.ok
    c.read_matrix_part.new.lines c.in_ok-basis.basis c.in_ok-basis.ensures c.in_err-from.ensures

pub returns-in_err-pairs : goal.returns-in_err-pairs
returns-in_err-pairs c =
    c_fails (outside_parts c.args.algebra.now.signature.now c.args.algebra.now.names.now c.args.algebra.now.form c.args.algebra.now.count) c.args.lines.now c.read_pairs.new.lines c.from_residual-in_err-pairs.result c.in_err-pairs.field-0.0 c.from_residual-in_err-pairs.ensures.1
    c.expect.new.self c.in_ok-expect.ensures.ok
    c.read_matrix_part.new.lines c.in_ok-basis.basis c.in_ok-basis.ensures
    c.read_matrix_part-2.new.lines c.in_ok-from.from c.in_ok-from.ensures c.in_err-pairs.ensures

pub returns-in_err-quotients : goal.returns-in_err-quotients
returns-in_err-quotients c =
    d_fails (outside_parts c.args.algebra.now.signature.now c.args.algebra.now.names.now c.args.algebra.now.form c.args.algebra.now.count) c.args.lines.now c.read_quotients.new.lines c.from_residual-in_err-quotients.result c.in_err-quotients.field-0.0 c.from_residual-in_err-quotients.ensures.1
    c.expect.new.self c.in_ok-expect.ensures.ok
    c.read_matrix_part.new.lines c.in_ok-basis.basis c.in_ok-basis.ensures
    c.read_matrix_part-2.new.lines c.in_ok-from.from c.in_ok-from.ensures
    c.read_pairs.new.lines c.in_ok-pairs.pairs c.in_ok-pairs.ensures c.in_err-quotients.ensures

pub returns-in_err-rest : goal.returns-in_err-rest
returns-in_err-rest c =
    e_fails (outside_parts c.args.algebra.now.signature.now c.args.algebra.now.names.now c.args.algebra.now.form c.args.algebra.now.count) c.args.lines.now c.read_row_part.new.lines c.from_residual-in_err-rest.result c.in_err-rest.field-0.0 c.from_residual-in_err-rest.ensures.1
    c.expect.new.self c.in_ok-expect.ensures.ok
    c.read_matrix_part.new.lines c.in_ok-basis.basis c.in_ok-basis.ensures
    c.read_matrix_part-2.new.lines c.in_ok-from.from c.in_ok-from.ensures
    c.read_pairs.new.lines c.in_ok-pairs.pairs c.in_ok-pairs.ensures
    c.read_quotients.new.lines c.in_ok-quotients.quotients c.in_ok-quotients.ensures c.in_err-rest.ensures

pub returns : goal.returns
returns c =
    five_found (outside_parts c.args.algebra.now.signature.now c.args.algebra.now.names.now c.args.algebra.now.form c.args.algebra.now.count) c.args.lines.now c.expect.new.self c.read_matrix_part.new.lines c.read_matrix_part-2.new.lines c.read_pairs.new.lines c.read_quotients.new.lines c.read_row_part.new.lines c.in_ok-basis.basis c.in_ok-from.from c.in_ok-pairs.pairs c.in_ok-quotients.quotients c.in_ok-rest.rest
    c.in_ok-expect.ensures.ok c.in_ok-basis.ensures c.in_ok-from.ensures c.in_ok-pairs.ensures c.in_ok-quotients.ensures c.in_ok-rest.ensures
