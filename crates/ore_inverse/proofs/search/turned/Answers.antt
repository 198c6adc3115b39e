use Rattle.std.proofs.Common.{subst}
use Rattle.std.proofs.lemmas.Result.{err_from_is_err_and}
use Rattle.ore_cert.specs.CertificateOf.{IsCertificateOf}
use Rattle.ore_syzygy.proofs.RunKernels.{matrix_of}
use Rattle.ore_inverse.specs.Inverses.{left_certificate_of}
use Rattle.ore_inverse.specs.declared.answer.InverseAnswer.{InverseAnswer}
use Rattle.ore_inverse.proofs.TurnedAnswers.{turned_found, turned_stops}
use Rattle.ore_inverse.proofs.search.turned.Goals as goal

pub transpose_adjoint-requires : goal.transpose_adjoint-requires
transpose_adjoint-requires g c =
    record { of = (subst (λ (x : InverseAnswer). IsCertificateOf (g.R.OreRing.sig c.args.ring.now) (left_certificate_of x)) c.in-Found.is c.requires).of }

pub returns-in_err-right-in-Found-clause-gives : goal.returns-in_err-right-in-Found-clause-gives
returns-in_err-right-in-Found-clause-gives g c =
    let e = err_from_is_err_and c.from_residual.result c.from_residual.ensures.1 in
    rw (e.1, e.2) (turned_stops (g.R.OreRing.sig c.args.ring.now) c.args.answer c.in-Found.left c.in-Found.is _ c.in_err-right-in-Found.ensures.gives)

pub returns-in_ok-right-in-Found-clause-gives : goal.returns-in_ok-right-in-Found-clause-gives
returns-in_ok-right-in-Found-clause-gives g c =
    let formed = c.in_ok-right-in-Found.ensures in
    turned_found (g.R.OreRing.sig c.args.ring.now) c.args.answer c.in-Found.left c.in-Found.is c.in_ok-right-in-Found.right formed.cols formed.of formed.gives

pub returns-in_ok-right-in-Found-clause-of : goal.returns-in_ok-right-in-Found-clause-of
returns-in_ok-right-in-Found-clause-of g c =
    matrix_of (g.R.OreRing.sig c.args.ring.now) c.in_ok-right-in-Found.right c.cols-fits.result c.cols-fits.ensures.fits c.cols-fits.ensures.value c.in_ok-right-in-Found.ensures.of
