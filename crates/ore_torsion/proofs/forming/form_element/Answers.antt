use Rattle.std.proofs.Common.{◌≡◌, sym, subst}
use Rattle.std.proofs.lemmas.Result.{err_from_is_err_and, IfOk-weaker}
use Rattle.ore_ring.specs.Belongs.{AllBelong}
use Rattle.ore_cert.specs.declared.certificate.Certificate.TheVariants.{AutonomousElement}
use Rattle.ore_parts.specs.OfSignature.{IsOutsideOf}
use Rattle.ore_blocks.specs.CheckBlock.{row_matrix_of}
use Rattle.ore_inverse.proofs.StoredRuns.{has_run, unstepped_is}
use Rattle.ore_torsion.specs.Verdicts.{IsVerdict, element_of}
use Rattle.ore_torsion.proofs.FormedVerdicts.{same_formed, memory_formed, element_is}
use Rattle.ore_torsion.proofs.forming.form_element.Goals as goal

pub outside_block-requires-clause-run : goal.outside_block-requires-clause-run
outside_block-requires-clause-run g c = has_run (g.R.OreRing.sig c.args.ring.now) c.args.r.now c.args.run c.requires.run

pub outside_block-requires-clause-rest_of : goal.outside_block-requires-clause-rest_of
outside_block-requires-clause-rest_of g c = subst (AllBelong (g.R.OreRing.sig c.args.ring.now)) (sym c.without_steps-element.ensures.row) c.requires.rest_of

pub certify-requires-clause-cert_of : goal.certify-requires-clause-cert_of
certify-requires-clause-cert_of g c =
    let s = g.R.OreRing.sig c.args.ring.now in
    let w = c.without_steps-element in
    let block_is = unstepped_is s c.args.r.now c.args.run c.requires.run w.result c.args.rest.row w.ensures.row w.ensures.steps c.in_ok-block.block c.in_ok-block.ensures.value in
    (subst (AllBelong s) (sym w.ensures.row) c.requires.rest_of, c.in_ok-found.ensures.operator_of, c.in_ok-cofactor.ensures.of, subst (IsOutsideOf s) (sym block_is) c.requires.block_of)

pub returns-in_err-found-clause-formed : goal.returns-in_err-found-clause-formed
returns-in_err-found-clause-formed g c =
    let s = g.R.OreRing.sig c.args.ring.now in
    let e = err_from_is_err_and c.from_residual.result c.from_residual.ensures.1 in
    rw (e.1, e.2) (memory_formed s (row_matrix_of c.args.r.now) (element_of s (row_matrix_of c.args.r.now) c.args.run c.args.rest.row (row_matrix_of c.args.syzygies.now)) _ c.in_err-found.ensures.memory)

pub returns-in_err-cofactor-clause-formed : goal.returns-in_err-cofactor-clause-formed
returns-in_err-cofactor-clause-formed g c =
    let s = g.R.OreRing.sig c.args.ring.now in
    let e = err_from_is_err_and c.from_residual-in_err-cofactor.result c.from_residual-in_err-cofactor.ensures.1 in
    rw (e.1, e.2) (memory_formed s (row_matrix_of c.args.r.now) (element_of s (row_matrix_of c.args.r.now) c.args.run c.args.rest.row (row_matrix_of c.args.syzygies.now)) _ c.in_err-cofactor.ensures.memory)

pub returns-in_err-block-clause-formed : goal.returns-in_err-block-clause-formed
returns-in_err-block-clause-formed g c =
    let s = g.R.OreRing.sig c.args.ring.now in
    let e = err_from_is_err_and c.from_residual-in_err-block.result c.from_residual-in_err-block.ensures.1 in
    rw (e.1, e.2) (memory_formed s (row_matrix_of c.args.r.now) (element_of s (row_matrix_of c.args.r.now) c.args.run c.args.rest.row (row_matrix_of c.args.syzygies.now)) _ c.in_err-block.ensures.memory)

pub returns-clause-formed : goal.returns-clause-formed
returns-clause-formed g c =
    let s = g.R.OreRing.sig c.args.ring.now in
    let f = c.args.run in
    let r = c.args.r.now in
    let z = c.args.rest.row in
    let syzygies = c.args.syzygies.now in
    let found = c.in_ok-found.found in
    let cofactor = c.in_ok-cofactor.cofactor in
    let w = c.without_steps-element in
    let block = c.in_ok-block.block in
    let block_is = unstepped_is s r f c.requires.run w.result z w.ensures.row w.ensures.steps block c.in_ok-block.ensures.value in
    same_formed s (row_matrix_of r) (AutonomousElement w.result.row found.0 cofactor block) (element_of s (row_matrix_of r) f z (row_matrix_of syzygies))
    (element_is s r f z c.requires.rest_of w.result.row w.ensures.row syzygies c.rows.result c.rows.ensures.value found c.in_ok-found.ensures.value c.in_ok-found.ensures.operator_of cofactor c.in_ok-cofactor.ensures.value c.in_ok-cofactor.ensures.of block block_is)
    c.certify.result c.certify.ensures.formed

pub returns-clause-verdict : goal.returns-clause-verdict
returns-clause-verdict g c =
    IfOk-weaker c.certify.result (λ d. d ≡ AutonomousElement c.without_steps-element.result.row c.in_ok-found.found.0 c.in_ok-cofactor.cofactor c.in_ok-block.block) IsVerdict (λ d same. subst IsVerdict (sym same) tt) c.certify.ensures.same
