use Rattle.std.proofs.Common.{sym, ◌∙◌, subst}
use Rattle.std.specs.declared.result.Result.TheVariants.{Ok, Err}
use Rattle.std.proofs.lemmas.Result.{err_from_is_err_and}
use Rattle.ore_algebra.specs.Limits.{program}
use Rattle.ore_cert.specs.CertificateOf.{IsCertificateOf}
use Rattle.ore_cert.specs.declared.certificate.Certificate.{Certificate}
use Rattle.ore_blocks.specs.CheckBlock.{RowMatrix, row_matrix_of}
use Rattle.ore_check.specs.Check.{IsNoReport}
use Rattle.ore_check.specs.Plans.{IsFormed, inverse_right}
use Rattle.ore_check.proofs.LastWork.{certified_halts, certified_as}
use Rattle.ore_syzygy.proofs.RunKernels.{matrix_of}
use Rattle.ore_inverse.specs.Inverses.{left_certificate_of, right_certificate_of, IsOfRightInverse, NamesFirstUnit}
use Rattle.ore_inverse.proofs.FollowedInverses.{adjoint_halts, right_halts, turning_halts, right_found, right_is_right}
use Rattle.ore_inverse.proofs.InverseAnswers.{right_kind, no_right_report}
use Rattle.ore_inverse.proofs.TurnedAnswers.{adjoint_is, first_turned}
use Rattle.ore_inverse.proofs.finding.right_certificate.Goals as goal

pub returns-in_err-adjoint-clause-halts : goal.returns-in_err-adjoint-clause-halts
returns-in_err-adjoint-clause-halts g c =
    let chooser = c.args.chooser.now in
    let e = err_from_is_err_and c.from_residual.result c.from_residual.ensures.1 in
    rw (e.1, e.2)
    (adjoint_halts (g.R.OreRing.sig c.args.ring.now) g.C.Rule.allows g.C.Rule.allows_spent c.args.r.now (g.C.Chooser.given chooser) (g.C.Chooser.settings chooser) _ c.in_err-adjoint.ensures.gives)

pub returns-in_err-found-clause-halts : goal.returns-in_err-found-clause-halts
returns-in_err-found-clause-halts g c =
    let chooser = c.find_left.new.chooser in
    let turned = c.in_ok-adjoint.ensures in
    let e = err_from_is_err_and c.from_residual-in_err-found.result c.from_residual-in_err-found.ensures.1 in
    rw (e.1, e.2)
    (right_halts (g.R.OreRing.sig c.args.ring.now) g.C.Rule.allows g.C.Rule.allows_spent c.args.r.now (g.C.Chooser.given c.args.chooser.now) c.in_ok-adjoint.adjoint turned.cols turned.count turned.gives
    (g.C.Chooser.given chooser) (g.C.Chooser.settings chooser) _ c.in_err-found.ensures.halts)

pub returns-in_err-answer-clause-halts : goal.returns-in_err-answer-clause-halts
returns-in_err-answer-clause-halts g c =
    let chooser = c.find_left.new.chooser in
    let turned = c.in_ok-adjoint.ensures in
    let e = err_from_is_err_and c.from_residual-in_err-answer.result c.from_residual-in_err-answer.ensures.1 in
    rw (e.1, e.2)
    (turning_halts (g.R.OreRing.sig c.args.ring.now) g.C.Rule.allows g.C.Rule.allows_spent c.args.r.now (g.C.Chooser.given c.args.chooser.now) c.in_ok-adjoint.adjoint turned.cols turned.count turned.gives
    (g.C.Chooser.given chooser) c.in_ok-found.found c.in_ok-found.ensures.answered (g.C.Chooser.settings chooser) _ c.in_err-answer.ensures.gives)

pub certify-requires-clause-cert_of : goal.certify-requires-clause-cert_of
certify-requires-clause-cert_of g c = subst (IsCertificateOf (g.R.OreRing.sig c.args.ring.now)) (sym c.right_certificate_of.ensures) c.in_ok-answer.ensures.of

pub certify-requires-clause-claims : goal.certify-requires-clause-claims
certify-requires-clause-claims g c = subst IsNoReport (sym c.right_certificate_of.ensures) (no_right_report c.in_ok-answer.answer)

pub returns-in_err-certify-clause-halts : goal.returns-in_err-certify-clause-halts
returns-in_err-certify-clause-halts g c =
    let s = g.R.OreRing.sig c.args.ring.now in
    let r = c.args.r.now in
    let before = g.C.Chooser.given c.args.chooser.now in
    let chooser = c.find_left.new.chooser in
    let given = g.C.Chooser.given chooser in
    let turned = c.in_ok-adjoint.ensures in
    let y = c.in_ok-answer.answer in
    let left = right_found s g.C.Rule.allows g.C.Rule.allows_spent r before c.in_ok-adjoint.adjoint turned.cols turned.count turned.gives given c.in_ok-found.found c.in_ok-found.ensures.answered y c.in_ok-answer.ensures.gives in
    let e = err_from_is_err_and c.from_residual-in_err-certify.result c.from_residual-in_err-certify.ensures.1 in
    rw (e.1, e.2)
    (certified_halts s g.C.Rule.allows g.C.Rule.allows_spent (inverse_right program s (row_matrix_of r)) before given (row_matrix_of r) (right_certificate_of y) (no_right_report y) left (g.C.Chooser.settings chooser) _
    (subst (λ (d : Certificate). IsFormed s (row_matrix_of r) d (Err c.in_err-certify.field-0.0)) c.right_certificate_of.ensures c.in_err-certify.ensures.formed))

pub returns-clause-answered : goal.returns-clause-answered
returns-clause-answered g c =
    let s = g.R.OreRing.sig c.args.ring.now in
    let r = c.args.r.now in
    let before = g.C.Chooser.given c.args.chooser.now in
    let given = g.C.Chooser.given c.find_left.new.chooser in
    let turned = c.in_ok-adjoint.ensures in
    let y = c.in_ok-answer.answer in
    let left = right_found s g.C.Rule.allows g.C.Rule.allows_spent r before c.in_ok-adjoint.adjoint turned.cols turned.count turned.gives given c.in_ok-found.found c.in_ok-found.ensures.answered y c.in_ok-answer.ensures.gives in
    certified_as s g.C.Rule.allows g.C.Rule.allows_spent (inverse_right program s (row_matrix_of r)) before given (row_matrix_of r) (right_certificate_of y) (no_right_report y) left _
    (subst (λ (d : Certificate). IsFormed s (row_matrix_of r) d (Ok c.in_ok-certify.field-0)) c.right_certificate_of.ensures c.in_ok-certify.ensures.formed)

pub returns-clause-correct : goal.returns-clause-correct
returns-clause-correct g c =
    let s = g.R.OreRing.sig c.args.ring.now in
    let r = c.args.r.now in
    let of = matrix_of s r c.cols-cols.result c.cols-cols.ensures.fits c.cols-cols.ensures.value c.requires in
    right_is_right s g.C.Rule.allows g.C.Rule.allows_spent r of (g.C.Chooser.given c.args.chooser.now) (g.C.Chooser.given c.find_left.new.chooser) _ (returns-clause-answered g c)

pub returns-clause-kind : goal.returns-clause-kind
returns-clause-kind g c = subst IsOfRightInverse (sym (c.in_ok-certify.ensures.same ∙ c.right_certificate_of.ensures)) (right_kind c.in_ok-answer.answer)

pub returns-clause-first : goal.returns-clause-first
returns-clause-first g c =
    let s = g.R.OreRing.sig c.args.ring.now in
    let r = c.args.r.now in
    let x = c.in_ok-found.found in
    let star = adjoint_is s r c.in_ok-adjoint.adjoint c.in_ok-adjoint.ensures.cols c.in_ok-adjoint.ensures.gives in
    let first = subst (λ (a : RowMatrix). NamesFirstUnit s a (left_certificate_of x)) star c.in_ok-found.ensures.first in
    subst (NamesFirstUnit s (row_matrix_of r)) (sym (c.in_ok-certify.ensures.same ∙ c.right_certificate_of.ensures)) (first_turned s (row_matrix_of r) x c.in_ok-answer.answer c.in_ok-answer.ensures.gives first)
