use Rattle.ore_cert.specs.declared.kind.Kind.TheVariants.{RightInverse}
use Rattle.ore_cert.proofs.WholeLaws.{body_found, body_fails}
use Rattle.ore_cert.proofs.bodies.read_right.Goals as goal

pub returns-in_err-s : goal.returns-in_err-s
returns-in_err-s c = body_fails c.args.algebra.now.signature.now c.args.algebra.now.names.now c.args.algebra.now.form c.args.algebra.now.count RightInverse c.args.lines.now c.read_matrix_part.new.lines c.from_residual.result c.in_err-s.field-0.0 c.from_residual.ensures.1 c.in_err-s.ensures

pub returns : goal.returns
returns c = body_found c.args.algebra.now.signature.now c.args.algebra.now.names.now c.args.algebra.now.form c.args.algebra.now.count RightInverse c.args.lines.now c.in_ok-s.s c.read_matrix_part.new.lines c.in_ok-s.ensures
