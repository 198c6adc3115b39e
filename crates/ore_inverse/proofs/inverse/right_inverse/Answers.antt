use Rattle.std.proofs.Common.{subst}
use Rattle.ore_algebra.specs.Limits.{program}
use Rattle.ore_blocks.specs.CheckBlock.{row_matrix_of}
use Rattle.ore_groebner.specs.Courses.{FollowsTo}
use Rattle.ore_check.specs.PlanLaws.{IsCorrect}
use Rattle.ore_check.specs.Plans.{inverse_right}
use Rattle.ore_inverse.specs.Inverses.{NamesFirstUnit}
use Rattle.ore_inverse.proofs.InverseAnswers.{right_answer}
use Rattle.ore_inverse.proofs.inverse.right_inverse.Goals as goal

pub returns-clause-inverse : goal.returns-clause-inverse
returns-clause-inverse g c =
    let s = g.R.OreRing.sig c.args.ring.now in
    let r = row_matrix_of c.args.r.now in
    let found = c.in_ok-cert.ensures in
    let same = c.answer_of.ensures.right found.kind in
    right_answer s r c.answer_of.result (subst (IsCorrect s r) same found.correct) (subst (NamesFirstUnit s r) same found.first)

pub returns-clause-answered : goal.returns-clause-answered
returns-clause-answered g c =
    let s = g.R.OreRing.sig c.args.ring.now in
    let r = row_matrix_of c.args.r.now in
    let found = c.in_ok-cert.ensures in
    let before = g.C.Chooser.given c.args.chooser.now in
    let given = g.C.Chooser.given c.right_certificate.new.chooser in
    subst (FollowsTo s g.C.Rule.allows g.C.Rule.allows_spent (inverse_right program s r) before given) (c.answer_of.ensures.right found.kind) found.answered
