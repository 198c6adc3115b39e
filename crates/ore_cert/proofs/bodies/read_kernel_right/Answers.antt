use Rattle.ore_cert.specs.declared.kind.Kind.TheVariants.{KernelRight}
use Rattle.ore_cert.proofs.WholeLaws.{body_found, body_fails}
use Rattle.ore_cert.proofs.bodies.read_kernel_right.Goals as goal

pub returns-in_err-generators : goal.returns-in_err-generators
returns-in_err-generators c = body_fails c.args.algebra.now.signature.now c.args.algebra.now.names.now c.args.algebra.now.form c.args.algebra.now.count KernelRight c.args.lines.now c.read_with_exact.new.lines c.from_residual.result c.in_err-generators.field-0.0 c.from_residual.ensures.1 c.in_err-generators.ensures

pub returns : goal.returns
returns c = body_found c.args.algebra.now.signature.now c.args.algebra.now.names.now c.args.algebra.now.form c.args.algebra.now.count KernelRight c.args.lines.now (c.in_ok-generators.generators, c.in_ok-generators.block) c.read_with_exact.new.lines c.in_ok-generators.ensures
