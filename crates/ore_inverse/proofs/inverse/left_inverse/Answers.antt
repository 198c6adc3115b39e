use Rattle.std.proofs.Common.{subst}
use Rattle.ore_algebra.specs.Limits.{program}
use Rattle.ore_blocks.specs.CheckBlock.{row_matrix_of}
use Rattle.ore_check.specs.PlanLaws.{IsCorrect}
use Rattle.ore_check.specs.Plans.{inverse_left}
use Rattle.ore_groebner.specs.Courses.{FollowsTo}
use Rattle.ore_inverse.specs.Inverses.{NamesFirstUnit}
use Rattle.ore_inverse.proofs.InverseAnswers.{left_answer}
use Rattle.ore_inverse.proofs.inverse.left_inverse.Goals as goal

pub returns-clause-inverse : goal.returns-clause-inverse
returns-clause-inverse g c =
    let s = g.R.OreRing.sig c.args.ring.now in
    let r = row_matrix_of c.args.r.now in
    let found = c.in_ok-cert.ensures in
    let same = c.answer_of.ensures.left found.kind in
    left_answer s r c.answer_of.result (subst (IsCorrect s r) same found.correct) (subst (NamesFirstUnit s r) same found.first)

pub returns-clause-answered : goal.returns-clause-answered
returns-clause-answered g c =
    let s = g.R.OreRing.sig c.args.ring.now in
    let found = c.in_ok-cert.ensures in
    subst (FollowsTo s g.C.Rule.allows g.C.Rule.allows_spent (inverse_left program s (row_matrix_of c.args.r.now)) (g.C.Chooser.given c.args.chooser.now) (g.C.Chooser.given c.left_certificate.new.chooser)) (c.answer_of.ensures.left found.kind) found.answered
