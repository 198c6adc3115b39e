use Rattle.ore_cert.specs.declared.certificate.Certificate.TheVariants.{Controllable, AutonomousElement, NoLeftInverse, NoRightInverse, Kernel, ExtZero, ExtNonzero}
use Rattle.ore_cert.proofs.PrintedKinds.{rest_of, rest_of_either}
use Rattle.ore_cert.proofs.print_whole.append_rest.Goals as goal

pub returns-in-Controllable : goal.returns-in-Controllable
returns-in-Controllable c = rest_of c.args.algebra.now.names.now c.args.algebra.now.signature.now.order c.append_with_exact.result c.append_with_exact.new.out.items c.args.out.now.items c.args.cert.now (Controllable c.in-Controllable.q c.in-Controllable.block) c.in-Controllable.is c.append_with_exact.ensures

pub returns-in-AutonomousElement : goal.returns-in-AutonomousElement
returns-in-AutonomousElement c = rest_of c.args.algebra.now.names.now c.args.algebra.now.signature.now.order c.append_autonomous.result c.append_autonomous.new.out.items c.args.out.now.items c.args.cert.now (AutonomousElement c.in-AutonomousElement.element c.in-AutonomousElement.operator c.in-AutonomousElement.cofactor c.in-AutonomousElement.block) c.in-AutonomousElement.is c.append_autonomous.ensures

pub returns-in-NoLeftInverse : goal.returns-in-NoLeftInverse
returns-in-NoLeftInverse c =
    let unit = c.in-NoLeftInverse.unit in
    let block = c.in-NoLeftInverse.block in
    rest_of_either c.args.algebra.now.names.now c.args.algebra.now.signature.now.order c.append_with_unit.result c.append_with_unit.new.out.items c.args.out.now.items c.args.cert.now (NoLeftInverse unit block) (NoRightInverse unit block) c.in-NoLeftInverse.is c.append_with_unit.ensures c.append_with_unit.ensures

pub returns-in-Kernel : goal.returns-in-Kernel
returns-in-Kernel c = rest_of c.args.algebra.now.names.now c.args.algebra.now.signature.now.order c.append_generators.result c.append_generators.new.out.items c.args.out.now.items c.args.cert.now (Kernel c.in-Kernel.side c.in-Kernel.generators c.in-Kernel.block) c.in-Kernel.is c.append_generators.ensures

pub returns-in-ExtZero : goal.returns-in-ExtZero
returns-in-ExtZero c = rest_of c.args.algebra.now.names.now c.args.algebra.now.signature.now.order c.append_ext_zero.result c.append_ext_zero.new.out.items c.args.out.now.items c.args.cert.now (ExtZero c.in-ExtZero.links c.in-ExtZero.block) c.in-ExtZero.is c.append_ext_zero.ensures

pub returns-in-ExtNonzero : goal.returns-in-ExtNonzero
returns-in-ExtNonzero c = rest_of c.args.algebra.now.names.now c.args.algebra.now.signature.now.order c.append_ext_nonzero.result c.append_ext_nonzero.new.out.items c.args.out.now.items c.args.cert.now (ExtNonzero c.in-ExtNonzero.links c.in-ExtNonzero.element c.in-ExtNonzero.block) c.in-ExtNonzero.is c.append_ext_nonzero.ensures
