use Rattle.ore_blocks.specs.CheckBlock.{row_matrix_of}
use Rattle.ore_check.proofs.CertificateKinds.{at_kind}
use Rattle.ore_check.proofs.certificate.whole.Goals as goal

pub returns-in-Controllable : goal.returns-in-Controllable
returns-in-Controllable g c = at_kind (g.R.OreRing.sig c.args.ring.now) (row_matrix_of c.args.r.now) c.args.cert.now _ c.controllable.result c.in-Controllable.is (λ claims. c.controllable.ensures)

pub returns-in-AutonomousElement : goal.returns-in-AutonomousElement
returns-in-AutonomousElement g c = at_kind (g.R.OreRing.sig c.args.ring.now) (row_matrix_of c.args.r.now) c.args.cert.now _ c.autonomous.result c.in-AutonomousElement.is (λ claims. c.autonomous.ensures)

pub returns-in-LeftInverse : goal.returns-in-LeftInverse
returns-in-LeftInverse g c = at_kind (g.R.OreRing.sig c.args.ring.now) (row_matrix_of c.args.r.now) c.args.cert.now _ c.left_inverse.result c.in-LeftInverse.is (λ claims. c.left_inverse.ensures)

pub returns-in-RightInverse : goal.returns-in-RightInverse
returns-in-RightInverse g c = at_kind (g.R.OreRing.sig c.args.ring.now) (row_matrix_of c.args.r.now) c.args.cert.now _ c.right_inverse.result c.in-RightInverse.is (λ claims. c.right_inverse.ensures)

pub returns-in-NoLeftInverse : goal.returns-in-NoLeftInverse
returns-in-NoLeftInverse g c = at_kind (g.R.OreRing.sig c.args.ring.now) (row_matrix_of c.args.r.now) c.args.cert.now _ c.no_left_inverse.result c.in-NoLeftInverse.is (λ claims. c.no_left_inverse.ensures)

pub returns-in-NoRightInverse : goal.returns-in-NoRightInverse
returns-in-NoRightInverse g c = at_kind (g.R.OreRing.sig c.args.ring.now) (row_matrix_of c.args.r.now) c.args.cert.now _ c.no_right_inverse.result c.in-NoRightInverse.is (λ claims. c.no_right_inverse.ensures)

pub returns-in-Kernel : goal.returns-in-Kernel
returns-in-Kernel g c = at_kind (g.R.OreRing.sig c.args.ring.now) (row_matrix_of c.args.r.now) c.args.cert.now _ c.kernel.result c.in-Kernel.is (λ claims. c.kernel.ensures)

pub returns-in-Resolution : goal.returns-in-Resolution
returns-in-Resolution g c = at_kind (g.R.OreRing.sig c.args.ring.now) (row_matrix_of c.args.r.now) c.args.cert.now _ c.resolution.result c.in-Resolution.is (λ claims. c.resolution.ensures)

pub returns-in-ExtZero : goal.returns-in-ExtZero
returns-in-ExtZero g c = at_kind (g.R.OreRing.sig c.args.ring.now) (row_matrix_of c.args.r.now) c.args.cert.now _ c.extension_zero.result c.in-ExtZero.is (λ claims. c.extension_zero.ensures)

pub returns-in-ExtNonzero : goal.returns-in-ExtNonzero
returns-in-ExtNonzero g c = at_kind (g.R.OreRing.sig c.args.ring.now) (row_matrix_of c.args.r.now) c.args.cert.now _ c.extension_nonzero.result c.in-ExtNonzero.is (λ claims. c.extension_nonzero.ensures)
