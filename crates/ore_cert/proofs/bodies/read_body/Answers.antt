use Rattle.std.proofs.Common.{◌≡◌, Result, sym, subst}
use Rattle.ore_monomial.specs.Signature.{Signature}
use Rattle.std.proofs.Common.{List, ℕ}
use Rattle.ore_cert.specs.declared.certificate.Certificate.{Certificate}
use Rattle.ore_parts.specs.declared.fault.CertFault.{CertFault}
use Rattle.ore_cert.specs.declared.kind.Kind.{Kind}
use Rattle.ore_cert.specs.declared.kind.Kind.TheVariants.{Controllable, AutonomousElement, LeftInverse, RightInverse, NoLeftInverse, NoRightInverse, KernelLeft, KernelRight, Resolution, ExtZero, ExtNonzero, Halted}
use Rattle.ore_parts.specs.Formats.{ReadsOne}
use Rattle.ore_parts.specs.Lines.{Unread}
use Rattle.ore_cert.specs.WholeFormats.{body_format}
use Rattle.ore_cert.proofs.bodies.read_body.Goals as goal

-- the kind that was matched is the one that was asked for
of_kind : (s : Signature) (names : List (List ℕ)) (k l : Kind) (old new : Unread) (r : Result Certificate CertFault) → k ≡ l → ReadsOne (body_format s names l) old r new → ReadsOne (body_format s names k) old r new
of_kind s names k l old new r e h = subst (λ m. ReadsOne (body_format s names m) old r new) (sym e) h

pub returns-in-Controllable : goal.returns-in-Controllable
returns-in-Controllable c = of_kind c.args.algebra.now.signature.now c.args.algebra.now.names.now c.args.kind Controllable c.args.lines.now c.read_controllable.new.lines c.read_controllable.result c.in-Controllable.is c.read_controllable.ensures

pub returns-in-AutonomousElement : goal.returns-in-AutonomousElement
returns-in-AutonomousElement c = of_kind c.args.algebra.now.signature.now c.args.algebra.now.names.now c.args.kind AutonomousElement c.args.lines.now c.read_autonomous.new.lines c.read_autonomous.result c.in-AutonomousElement.is c.read_autonomous.ensures

pub returns-in-LeftInverse : goal.returns-in-LeftInverse
returns-in-LeftInverse c = of_kind c.args.algebra.now.signature.now c.args.algebra.now.names.now c.args.kind LeftInverse c.args.lines.now c.read_left_inverse.new.lines c.read_left_inverse.result c.in-LeftInverse.is c.read_left_inverse.ensures

pub returns-in-RightInverse : goal.returns-in-RightInverse
returns-in-RightInverse c = of_kind c.args.algebra.now.signature.now c.args.algebra.now.names.now c.args.kind RightInverse c.args.lines.now c.read_right.new.lines c.read_right.result c.in-RightInverse.is c.read_right.ensures

pub returns-in-NoLeftInverse : goal.returns-in-NoLeftInverse
returns-in-NoLeftInverse c = of_kind c.args.algebra.now.signature.now c.args.algebra.now.names.now c.args.kind NoLeftInverse c.args.lines.now c.read_no_left.new.lines c.read_no_left.result c.in-NoLeftInverse.is c.read_no_left.ensures

pub returns-in-NoRightInverse : goal.returns-in-NoRightInverse
returns-in-NoRightInverse c = of_kind c.args.algebra.now.signature.now c.args.algebra.now.names.now c.args.kind NoRightInverse c.args.lines.now c.read_no_right.new.lines c.read_no_right.result c.in-NoRightInverse.is c.read_no_right.ensures

pub returns-in-KernelLeft : goal.returns-in-KernelLeft
returns-in-KernelLeft c = of_kind c.args.algebra.now.signature.now c.args.algebra.now.names.now c.args.kind KernelLeft c.args.lines.now c.read_kernel_left.new.lines c.read_kernel_left.result c.in-KernelLeft.is c.read_kernel_left.ensures

pub returns-in-KernelRight : goal.returns-in-KernelRight
returns-in-KernelRight c = of_kind c.args.algebra.now.signature.now c.args.algebra.now.names.now c.args.kind KernelRight c.args.lines.now c.read_kernel_right.new.lines c.read_kernel_right.result c.in-KernelRight.is c.read_kernel_right.ensures

pub returns-in-Resolution : goal.returns-in-Resolution
returns-in-Resolution c = of_kind c.args.algebra.now.signature.now c.args.algebra.now.names.now c.args.kind (Resolution c.in-Resolution.count) c.args.lines.now c.read_resolution.new.lines c.read_resolution.result c.in-Resolution.is c.read_resolution.ensures

pub returns-in-ExtZero : goal.returns-in-ExtZero
returns-in-ExtZero c = of_kind c.args.algebra.now.signature.now c.args.algebra.now.names.now c.args.kind (ExtZero c.in-ExtZero.count) c.args.lines.now c.read_ext_zero.new.lines c.read_ext_zero.result c.in-ExtZero.is c.read_ext_zero.ensures

pub returns-in-ExtNonzero : goal.returns-in-ExtNonzero
returns-in-ExtNonzero c = of_kind c.args.algebra.now.signature.now c.args.algebra.now.names.now c.args.kind (ExtNonzero c.in-ExtNonzero.count) c.args.lines.now c.read_ext_nonzero.new.lines c.read_ext_nonzero.result c.in-ExtNonzero.is c.read_ext_nonzero.ensures

pub returns-in-Halted : goal.returns-in-Halted
returns-in-Halted c = of_kind c.args.algebra.now.signature.now c.args.algebra.now.names.now c.args.kind (Halted c.in-Halted.cause) c.args.lines.now c.read_halted.new.lines c.read_halted.result c.in-Halted.is c.read_halted.ensures
