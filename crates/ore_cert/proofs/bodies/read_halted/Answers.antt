use Rattle.ore_cert.specs.declared.kind.Kind.TheVariants.{Halted}
use Rattle.ore_cert.proofs.WholeLaws.{body_found, body_fails}
use Rattle.ore_cert.proofs.bodies.read_halted.Goals as goal

pub returns-in_err-plan : goal.returns-in_err-plan
returns-in_err-plan c = body_fails c.args.algebra.now.signature.now c.args.algebra.now.names.now c.args.algebra.now.form c.args.algebra.now.count (Halted c.args.cause) c.args.lines.now c.read_report_rest.new.lines c.from_residual.result c.in_err-plan.field-0.0 c.from_residual.ensures.1 c.in_err-plan.ensures

pub returns : goal.returns
returns c = body_found c.args.algebra.now.signature.now c.args.algebra.now.names.now c.args.algebra.now.form c.args.algebra.now.count (Halted c.args.cause) c.args.lines.now (c.in_ok-plan.plan, (c.in_ok-plan.runs, c.in_ok-plan.stop)) c.read_report_rest.new.lines c.in_ok-plan.ensures
