use Rattle.ore_cert.specs.declared.kind.Kind.TheVariants.{Controllable}
use Rattle.ore_cert.proofs.WholeLaws.{body_found, body_fails}
use Rattle.ore_cert.proofs.bodies.read_controllable.Goals as goal

pub returns-in_err-q : goal.returns-in_err-q
returns-in_err-q c = body_fails c.args.algebra.now.signature.now c.args.algebra.now.names.now c.args.algebra.now.form c.args.algebra.now.count Controllable c.args.lines.now c.read_with_exact.new.lines c.from_residual.result c.in_err-q.field-0.0 c.from_residual.ensures.1 c.in_err-q.ensures

pub returns : goal.returns
returns c = body_found c.args.algebra.now.signature.now c.args.algebra.now.names.now c.args.algebra.now.form c.args.algebra.now.count Controllable c.args.lines.now (c.in_ok-q.q, c.in_ok-q.block) c.read_with_exact.new.lines c.in_ok-q.ensures
