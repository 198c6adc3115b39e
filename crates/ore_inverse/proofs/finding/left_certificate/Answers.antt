use Rattle.std.proofs.Common.{sym, ◌∙◌, subst}
use Rattle.std.specs.declared.result.Result.TheVariants.{Ok, Err}
use Rattle.std.proofs.lemmas.Result.{err_from_is_err_and}
use Rattle.ore_algebra.specs.Limits.{program}
use Rattle.ore_cert.specs.CertificateOf.{IsCertificateOf}
use Rattle.ore_cert.specs.declared.certificate.Certificate.{Certificate}
use Rattle.ore_blocks.specs.CheckBlock.{row_matrix_of}
use Rattle.ore_check.specs.Check.{IsNoReport}
use Rattle.ore_check.specs.Plans.{IsFormed, inverse_left}
use Rattle.ore_check.proofs.LastWork.{certified_halts, certified_as}
use Rattle.ore_syzygy.proofs.RunKernels.{matrix_of}
use Rattle.ore_inverse.specs.Inverses.{left_certificate_of, IsOfLeftInverse, NamesFirstUnit}
use Rattle.ore_inverse.proofs.FollowedInverses.{left_halts, left_found, left_is_right}
use Rattle.ore_inverse.proofs.InverseAnswers.{left_kind, no_left_report}
use Rattle.ore_inverse.proofs.finding.left_certificate.Goals as goal

pub returns-in_err-answer-clause-halts : goal.returns-in_err-answer-clause-halts
returns-in_err-answer-clause-halts g c =
    let chooser = c.find_left.new.chooser in
    let e = err_from_is_err_and c.from_residual.result c.from_residual.ensures.1 in
    rw (e.1, e.2)
    (left_halts (g.R.OreRing.sig c.args.ring.now) g.C.Rule.allows g.C.Rule.allows_spent (row_matrix_of c.args.r.now) (g.C.Chooser.given c.args.chooser.now) (g.C.Chooser.given chooser) (g.C.Chooser.settings chooser) _ c.in_err-answer.ensures.halts)

pub certify-requires-clause-cert_of : goal.certify-requires-clause-cert_of
certify-requires-clause-cert_of g c = subst (IsCertificateOf (g.R.OreRing.sig c.args.ring.now)) (sym c.left_certificate_of.ensures) c.in_ok-answer.ensures.of

pub certify-requires-clause-claims : goal.certify-requires-clause-claims
certify-requires-clause-claims g c = subst IsNoReport (sym c.left_certificate_of.ensures) (no_left_report c.in_ok-answer.answer)

pub returns-in_err-certify-clause-halts : goal.returns-in_err-certify-clause-halts
returns-in_err-certify-clause-halts g c =
    let s = g.R.OreRing.sig c.args.ring.now in
    let r = row_matrix_of c.args.r.now in
    let before = g.C.Chooser.given c.args.chooser.now in
    let chooser = c.find_left.new.chooser in
    let given = g.C.Chooser.given chooser in
    let x = c.in_ok-answer.answer in
    let left = left_found s g.C.Rule.allows g.C.Rule.allows_spent r before given x c.in_ok-answer.ensures.answered in
    let e = err_from_is_err_and c.from_residual-in_err-certify.result c.from_residual-in_err-certify.ensures.1 in
    rw (e.1, e.2)
    (certified_halts s g.C.Rule.allows g.C.Rule.allows_spent (inverse_left program s r) before given r (left_certificate_of x) (no_left_report x) left (g.C.Chooser.settings chooser) _
    (subst (λ (d : Certificate). IsFormed s r d (Err c.in_err-certify.field-0.0)) c.left_certificate_of.ensures c.in_err-certify.ensures.formed))

pub returns-clause-answered : goal.returns-clause-answered
returns-clause-answered g c =
    let s = g.R.OreRing.sig c.args.ring.now in
    let r = row_matrix_of c.args.r.now in
    let before = g.C.Chooser.given c.args.chooser.now in
    let given = g.C.Chooser.given c.find_left.new.chooser in
    let x = c.in_ok-answer.answer in
    let left = left_found s g.C.Rule.allows g.C.Rule.allows_spent r before given x c.in_ok-answer.ensures.answered in
    certified_as s g.C.Rule.allows g.C.Rule.allows_spent (inverse_left program s r) before given r (left_certificate_of x) (no_left_report x) left _
    (subst (λ (d : Certificate). IsFormed s r d (Ok c.in_ok-certify.field-0)) c.left_certificate_of.ensures c.in_ok-certify.ensures.formed)

pub returns-clause-correct : goal.returns-clause-correct
returns-clause-correct g c =
    let s = g.R.OreRing.sig c.args.ring.now in
    let r = c.args.r.now in
    let of = matrix_of s r c.cols-cols.result c.cols-cols.ensures.fits c.cols-cols.ensures.value c.requires in
    left_is_right s g.C.Rule.allows g.C.Rule.allows_spent r of (g.C.Chooser.given c.args.chooser.now) (g.C.Chooser.given c.find_left.new.chooser) _ (returns-clause-answered g c)

pub returns-clause-kind : goal.returns-clause-kind
returns-clause-kind g c = subst IsOfLeftInverse (sym (c.in_ok-certify.ensures.same ∙ c.left_certificate_of.ensures)) (left_kind c.in_ok-answer.answer)

pub returns-clause-first : goal.returns-clause-first
returns-clause-first g c =
    subst (NamesFirstUnit (g.R.OreRing.sig c.args.ring.now) (row_matrix_of c.args.r.now)) (sym (c.in_ok-certify.ensures.same ∙ c.left_certificate_of.ensures)) c.in_ok-answer.ensures.first
