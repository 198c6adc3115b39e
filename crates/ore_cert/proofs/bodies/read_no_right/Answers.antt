use Rattle.ore_cert.specs.declared.kind.Kind.TheVariants.{NoRightInverse}
use Rattle.ore_cert.proofs.WholeLaws.{body_found, body_fails}
use Rattle.ore_cert.proofs.bodies.read_no_right.Goals as goal

pub returns-in_err-unit : goal.returns-in_err-unit
returns-in_err-unit c = body_fails c.args.algebra.now.signature.now c.args.algebra.now.names.now c.args.algebra.now.form c.args.algebra.now.count NoRightInverse c.args.lines.now c.read_with_unit.new.lines c.from_residual.result c.in_err-unit.field-0.0 c.from_residual.ensures.1 c.in_err-unit.ensures

pub returns : goal.returns
returns c = body_found c.args.algebra.now.signature.now c.args.algebra.now.names.now c.args.algebra.now.form c.args.algebra.now.count NoRightInverse c.args.lines.now (c.in_ok-unit.unit, c.in_ok-unit.block) c.read_with_unit.new.lines c.in_ok-unit.ensures
