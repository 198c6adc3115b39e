use Rattle.std.proofs.Common.{◌≡◌, sym, subst}
use Rattle.std.proofs.lemmas.Result.{err_from_is_err_and, IfOk-weaker}
use Rattle.ore_cert.specs.declared.certificate.Certificate.TheVariants.{Controllable}
use Rattle.ore_blocks.specs.CheckBlock.{row_matrix_of}
use Rattle.ore_syzygy.proofs.RunKernels.{matrix_of}
use Rattle.ore_inverse.proofs.StoredRuns.{has_run}
use Rattle.ore_torsion.specs.Verdicts.{IsVerdict, controllable_of}
use Rattle.ore_torsion.proofs.FormedVerdicts.{same_formed, memory_formed, controllable_is}
use Rattle.ore_torsion.proofs.forming.form_controllable.Goals as goal

pub exact_block-requires-clause-run : goal.exact_block-requires-clause-run
exact_block-requires-clause-run g c = has_run (g.R.OreRing.sig c.args.ring.now) c.args.q c.args.run c.requires.run

pub certify-requires-clause-cert_of : goal.certify-requires-clause-cert_of
certify-requires-clause-cert_of g c = (matrix_of (g.R.OreRing.sig c.args.ring.now) c.args.q c.cols-columns.result c.cols-columns.ensures.fits c.cols-columns.ensures.value c.requires.q_of, c.in_ok-block.ensures.of)

pub returns-in_err-block-clause-formed : goal.returns-in_err-block-clause-formed
returns-in_err-block-clause-formed g c =
    let s = g.R.OreRing.sig c.args.ring.now in
    let e = err_from_is_err_and c.from_residual.result c.from_residual.ensures.1 in
    rw (e.1, e.2) (memory_formed s (row_matrix_of c.args.r.now) (controllable_of s c.args.q c.args.run (row_matrix_of c.args.combinations)) _ c.in_err-block.ensures.memory)

pub returns-clause-formed : goal.returns-clause-formed
returns-clause-formed g c =
    let s = g.R.OreRing.sig c.args.ring.now in
    let q = c.args.q in
    let f = c.args.run in
    let combinations = c.args.combinations in
    let block = c.in_ok-block.block in
    same_formed s (row_matrix_of c.args.r.now) (Controllable q block) (controllable_of s q f (row_matrix_of combinations)) (controllable_is s q f c.requires.run combinations block c.in_ok-block.ensures.value) c.certify.result c.certify.ensures.formed

pub returns-clause-verdict : goal.returns-clause-verdict
returns-clause-verdict g c = IfOk-weaker c.certify.result (λ d. d ≡ Controllable c.args.q c.in_ok-block.block) IsVerdict (λ d same. subst IsVerdict (sym same) tt) c.certify.ensures.same
