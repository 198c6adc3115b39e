use Rattle.std.proofs.lemmas.Result.{err_from_is_err_and}
use Rattle.ore_cert.specs.declared.certificate.Certificate.TheVariants.{Kernel}
use Rattle.ore_blocks.specs.CheckBlock.{row_matrix_of}
use Rattle.ore_check.proofs.LastWork.{memory_halts, certified_halts, certified_as}
use Rattle.ore_syzygy.proofs.RunKernels.{matrix_of}
use Rattle.ore_kernels.specs.KernelPlans.{kernel_course}
use Rattle.ore_kernels.proofs.FollowedPlans.{left_with, right_on}
use Rattle.ore_kernels.proofs.finding.kernel_certificate.Goals as goal

pub returns-in_err-block-clause-halts : goal.returns-in_err-block-clause-halts
returns-in_err-block-clause-halts g c =
    let s = g.R.OreRing.sig c.args.ring.now in
    let chooser = c.find_kernel.new.chooser in
    let e = err_from_is_err_and c.from_residual-in_err-block.result c.from_residual-in_err-block.ensures.1 in
    rw (e.1, e.2)
    (memory_halts s g.C.Rule.allows g.C.Rule.allows_spent (kernel_course c.args.side s (row_matrix_of c.args.r.now)) (g.C.Chooser.given c.args.chooser.now) (g.C.Chooser.given chooser) (g.C.Chooser.settings chooser) _ c.in_err-block.ensures.memory)

pub certify-requires-clause-cert_of : goal.certify-requires-clause-cert_of
certify-requires-clause-cert_of g c =
    (matrix_of (g.R.OreRing.sig c.args.ring.now) c.in_ok-kernel.kernel.generators c.cols-columns.result c.cols-columns.ensures.fits c.cols-columns.ensures.value c.in_ok-kernel.ensures.of, c.in_ok-block.ensures.of)

pub returns-in_err-certify-clause-halts : goal.returns-in_err-certify-clause-halts
returns-in_err-certify-clause-halts g c =
    let s = g.R.OreRing.sig c.args.ring.now in
    let r = row_matrix_of c.args.r.now in
    let before = g.C.Chooser.given c.args.chooser.now in
    let given = g.C.Chooser.given c.find_kernel.new.chooser in
    let kernel = c.in_ok-kernel.kernel in
    let block = c.in_ok-block.block in
    let left = left_with s g.C.Rule.allows g.C.Rule.allows_spent r c.args.side kernel before given c.in_ok-kernel.ensures.left block c.in_ok-block.ensures.value in
    let e = err_from_is_err_and c.from_residual-in_err-certify.result c.from_residual-in_err-certify.ensures.1 in
    rw (e.1, e.2)
    (certified_halts s g.C.Rule.allows g.C.Rule.allows_spent (kernel_course c.args.side s r) before given r (Kernel c.args.side kernel.generators block) tt left (g.C.Chooser.settings c.find_kernel.new.chooser) _ c.in_err-certify.ensures.formed)

pub returns-clause-answered : goal.returns-clause-answered
returns-clause-answered g c =
    let s = g.R.OreRing.sig c.args.ring.now in
    let r = row_matrix_of c.args.r.now in
    let before = g.C.Chooser.given c.args.chooser.now in
    let given = g.C.Chooser.given c.find_kernel.new.chooser in
    let kernel = c.in_ok-kernel.kernel in
    let block = c.in_ok-block.block in
    let left = left_with s g.C.Rule.allows g.C.Rule.allows_spent r c.args.side kernel before given c.in_ok-kernel.ensures.left block c.in_ok-block.ensures.value in
    certified_as s g.C.Rule.allows g.C.Rule.allows_spent (kernel_course c.args.side s r) before given r (Kernel c.args.side kernel.generators block) tt left _ c.in_ok-certify.ensures.formed

pub returns-clause-correct : goal.returns-clause-correct
returns-clause-correct g c =
    let s = g.R.OreRing.sig c.args.ring.now in
    let r = c.args.r.now in
    right_on s g.C.Rule.allows g.C.Rule.allows_spent c.args.side r (matrix_of s r c.cols-cols.result c.cols-cols.ensures.fits c.cols-cols.ensures.value c.requires) (g.C.Chooser.given c.args.chooser.now) (g.C.Chooser.given c.find_kernel.new.chooser) _ (returns-clause-answered g c)
