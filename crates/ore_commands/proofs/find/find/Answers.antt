use Rattle.std.proofs.Common.{refl, subst}
use Rattle.ore_cert.specs.WholeText.{IsWrittenPlan}
use Rattle.ore_cert.specs.declared.report.Plan.{Plan}
use Rattle.ore_cert.specs.declared.report.Plan.TheVariants as plan
use Rattle.ore_blocks.specs.CheckBlock.{row_matrix_of}
use Rattle.ore_commands.proofs.FoundBy.{certified-any, certified-correct, certified-found, certified-halts, transposed-correct, transposed-found, transposed-halts, search-reported}
use Rattle.ore_commands.specs.Search.{IsOfPlan}
use Rattle.ore_commands.proofs.find.find.Goals as goal

pub returns-in-KernelLeft-clause-correct : goal.returns-in-KernelLeft-clause-correct
returns-in-KernelLeft-clause-correct g c =
    certified-correct c.kernel_certificate.result c.certified-in-KernelLeft.result c.certified-in-KernelLeft.ensures (g.R.OreRing.sig c.args.ring.now) (row_matrix_of c.args.r.now) c.args.plan plan.KernelLeft c.in-KernelLeft.is c.kernel_certificate.ensures.correct
    (certified-any c.kernel_certificate.result c.certified-in-KernelLeft.result c.certified-in-KernelLeft.ensures (IsOfPlan plan.KernelLeft) (λ x. tt))

pub returns-in-KernelLeft-clause-answered : goal.returns-in-KernelLeft-clause-answered
returns-in-KernelLeft-clause-answered g c =
    certified-found c.kernel_certificate.result c.certified-in-KernelLeft.result c.certified-in-KernelLeft.ensures (g.R.OreRing.sig c.args.ring.now) (row_matrix_of c.args.r.now) g.C.Rule.allows g.C.Rule.allows_spent
    (g.C.Chooser.given c.args.chooser.now) (g.C.Chooser.given c.kernel_certificate.new.chooser) c.args.plan plan.KernelLeft c.in-KernelLeft.is (λ found. found) (λ found. refl) c.kernel_certificate.ensures.answered

pub returns-in-KernelLeft-clause-halts : goal.returns-in-KernelLeft-clause-halts
returns-in-KernelLeft-clause-halts g c =
    certified-halts c.kernel_certificate.result c.certified-in-KernelLeft.result c.certified-in-KernelLeft.ensures (g.R.OreRing.sig c.args.ring.now) (row_matrix_of c.args.r.now) g.C.Rule.allows g.C.Rule.allows_spent
    (g.C.Chooser.given c.args.chooser.now) (g.C.Chooser.given c.kernel_certificate.new.chooser) c.args.plan plan.KernelLeft c.in-KernelLeft.is (g.C.Chooser.settings c.kernel_certificate.new.chooser) c.kernel_certificate.ensures.halts

pub returns-in-KernelRight-clause-correct : goal.returns-in-KernelRight-clause-correct
returns-in-KernelRight-clause-correct g c =
    certified-correct c.kernel_certificate-in-KernelRight.result c.certified-in-KernelRight.result c.certified-in-KernelRight.ensures (g.R.OreRing.sig c.args.ring.now) (row_matrix_of c.args.r.now) c.args.plan plan.KernelRight c.in-KernelRight.is c.kernel_certificate-in-KernelRight.ensures.correct
    (certified-any c.kernel_certificate-in-KernelRight.result c.certified-in-KernelRight.result c.certified-in-KernelRight.ensures (IsOfPlan plan.KernelRight) (λ x. tt))

pub returns-in-KernelRight-clause-answered : goal.returns-in-KernelRight-clause-answered
returns-in-KernelRight-clause-answered g c =
    certified-found c.kernel_certificate-in-KernelRight.result c.certified-in-KernelRight.result c.certified-in-KernelRight.ensures (g.R.OreRing.sig c.args.ring.now) (row_matrix_of c.args.r.now) g.C.Rule.allows g.C.Rule.allows_spent
    (g.C.Chooser.given c.args.chooser.now) (g.C.Chooser.given c.kernel_certificate-in-KernelRight.new.chooser) c.args.plan plan.KernelRight c.in-KernelRight.is (λ found. found) (λ found. refl) c.kernel_certificate-in-KernelRight.ensures.answered

pub returns-in-KernelRight-clause-halts : goal.returns-in-KernelRight-clause-halts
returns-in-KernelRight-clause-halts g c =
    certified-halts c.kernel_certificate-in-KernelRight.result c.certified-in-KernelRight.result c.certified-in-KernelRight.ensures (g.R.OreRing.sig c.args.ring.now) (row_matrix_of c.args.r.now) g.C.Rule.allows g.C.Rule.allows_spent
    (g.C.Chooser.given c.args.chooser.now) (g.C.Chooser.given c.kernel_certificate-in-KernelRight.new.chooser) c.args.plan plan.KernelRight c.in-KernelRight.is (g.C.Chooser.settings c.kernel_certificate-in-KernelRight.new.chooser) c.kernel_certificate-in-KernelRight.ensures.halts

pub returns-in-InverseLeft-clause-correct : goal.returns-in-InverseLeft-clause-correct
returns-in-InverseLeft-clause-correct g c =
    certified-correct c.left_certificate.result c.certified-in-InverseLeft.result c.certified-in-InverseLeft.ensures (g.R.OreRing.sig c.args.ring.now) (row_matrix_of c.args.r.now) c.args.plan plan.InverseLeft c.in-InverseLeft.is c.left_certificate.ensures.correct
    c.left_certificate.ensures.kind

pub returns-in-InverseLeft-clause-answered : goal.returns-in-InverseLeft-clause-answered
returns-in-InverseLeft-clause-answered g c =
    certified-found c.left_certificate.result c.certified-in-InverseLeft.result c.certified-in-InverseLeft.ensures (g.R.OreRing.sig c.args.ring.now) (row_matrix_of c.args.r.now) g.C.Rule.allows g.C.Rule.allows_spent
    (g.C.Chooser.given c.args.chooser.now) (g.C.Chooser.given c.left_certificate.new.chooser) c.args.plan plan.InverseLeft c.in-InverseLeft.is (λ found. found) (λ found. refl) c.left_certificate.ensures.answered

pub returns-in-InverseLeft-clause-halts : goal.returns-in-InverseLeft-clause-halts
returns-in-InverseLeft-clause-halts g c =
    certified-halts c.left_certificate.result c.certified-in-InverseLeft.result c.certified-in-InverseLeft.ensures (g.R.OreRing.sig c.args.ring.now) (row_matrix_of c.args.r.now) g.C.Rule.allows g.C.Rule.allows_spent
    (g.C.Chooser.given c.args.chooser.now) (g.C.Chooser.given c.left_certificate.new.chooser) c.args.plan plan.InverseLeft c.in-InverseLeft.is (g.C.Chooser.settings c.left_certificate.new.chooser) c.left_certificate.ensures.halts

pub returns-in-InverseRight-clause-correct : goal.returns-in-InverseRight-clause-correct
returns-in-InverseRight-clause-correct g c =
    certified-correct c.right_certificate.result c.certified-in-InverseRight.result c.certified-in-InverseRight.ensures (g.R.OreRing.sig c.args.ring.now) (row_matrix_of c.args.r.now) c.args.plan plan.InverseRight c.in-InverseRight.is c.right_certificate.ensures.correct
    c.right_certificate.ensures.kind

pub returns-in-InverseRight-clause-answered : goal.returns-in-InverseRight-clause-answered
returns-in-InverseRight-clause-answered g c =
    certified-found c.right_certificate.result c.certified-in-InverseRight.result c.certified-in-InverseRight.ensures (g.R.OreRing.sig c.args.ring.now) (row_matrix_of c.args.r.now) g.C.Rule.allows g.C.Rule.allows_spent
    (g.C.Chooser.given c.args.chooser.now) (g.C.Chooser.given c.right_certificate.new.chooser) c.args.plan plan.InverseRight c.in-InverseRight.is (λ found. found) (λ found. refl) c.right_certificate.ensures.answered

pub returns-in-InverseRight-clause-halts : goal.returns-in-InverseRight-clause-halts
returns-in-InverseRight-clause-halts g c =
    certified-halts c.right_certificate.result c.certified-in-InverseRight.result c.certified-in-InverseRight.ensures (g.R.OreRing.sig c.args.ring.now) (row_matrix_of c.args.r.now) g.C.Rule.allows g.C.Rule.allows_spent
    (g.C.Chooser.given c.args.chooser.now) (g.C.Chooser.given c.right_certificate.new.chooser) c.args.plan plan.InverseRight c.in-InverseRight.is (g.C.Chooser.settings c.right_certificate.new.chooser) c.right_certificate.ensures.halts

pub returns-in-Adjoint-clause-correct : goal.returns-in-Adjoint-clause-correct
returns-in-Adjoint-clause-correct g c = transposed-correct (g.R.OreRing.sig c.args.ring.now) g.C.Rule.allows g.C.Rule.allows_spent c.args.r.now (g.C.Chooser.given c.args.chooser.now) c.transpose_adjoint.result c.transposed.result c.transposed.ensures c.args.plan c.transpose_adjoint.ensures.of

pub returns-in-Adjoint-clause-answered : goal.returns-in-Adjoint-clause-answered
returns-in-Adjoint-clause-answered g c = transposed-found (g.R.OreRing.sig c.args.ring.now) g.C.Rule.allows g.C.Rule.allows_spent c.args.r.now (g.C.Chooser.given c.args.chooser.now) c.transpose_adjoint.result c.transposed.result c.transposed.ensures c.args.plan c.in-Adjoint.is c.transpose_adjoint.ensures.gives c.transpose_adjoint.ensures.cols

pub returns-in-Adjoint-clause-halts : goal.returns-in-Adjoint-clause-halts
returns-in-Adjoint-clause-halts g c = transposed-halts (g.R.OreRing.sig c.args.ring.now) g.C.Rule.allows g.C.Rule.allows_spent c.args.r.now (g.C.Chooser.given c.args.chooser.now) c.transpose_adjoint.result c.transposed.result c.transposed.ensures c.args.plan c.in-Adjoint.is c.transpose_adjoint.ensures.gives (g.C.Chooser.settings c.args.chooser.now)

pub returns-in-Analyse-clause-correct : goal.returns-in-Analyse-clause-correct
returns-in-Analyse-clause-correct g c =
    certified-correct c.analyse.result c.certified.result c.certified.ensures (g.R.OreRing.sig c.args.ring.now) (row_matrix_of c.args.r.now) c.args.plan plan.Analyse c.in-Analyse.is c.analyse.ensures.correct
    c.analyse.ensures.verdict

pub returns-in-Analyse-clause-answered : goal.returns-in-Analyse-clause-answered
returns-in-Analyse-clause-answered g c =
    certified-found c.analyse.result c.certified.result c.certified.ensures (g.R.OreRing.sig c.args.ring.now) (row_matrix_of c.args.r.now) g.C.Rule.allows g.C.Rule.allows_spent
    (g.C.Chooser.given c.args.chooser.now) (g.C.Chooser.given c.analyse.new.chooser) c.args.plan plan.Analyse c.in-Analyse.is (λ found. found) (λ found. refl) c.analyse.ensures.answered

pub returns-in-Analyse-clause-halts : goal.returns-in-Analyse-clause-halts
returns-in-Analyse-clause-halts g c =
    certified-halts c.analyse.result c.certified.result c.certified.ensures (g.R.OreRing.sig c.args.ring.now) (row_matrix_of c.args.r.now) g.C.Rule.allows g.C.Rule.allows_spent
    (g.C.Chooser.given c.args.chooser.now) (g.C.Chooser.given c.analyse.new.chooser) c.args.plan plan.Analyse c.in-Analyse.is (g.C.Chooser.settings c.analyse.new.chooser) c.analyse.ensures.halts

pub returns-in-Analyse-clause-reported : goal.returns-in-Analyse-clause-reported
returns-in-Analyse-clause-reported g c =
    search-reported (g.R.OreRing.sig c.args.ring.now) (row_matrix_of c.args.r.now) g.C.Rule.allows g.C.Rule.allows_spent c.args.plan (g.C.Chooser.given c.args.chooser.now) (g.C.Chooser.given c.analyse.new.chooser)
    (g.C.Chooser.settings c.args.chooser.now) (g.C.Chooser.settings c.analyse.new.chooser) c.certified.result (returns-in-Analyse-clause-halts g c) c.analyse.ensures.within_budget

pub returns-in-KernelLeft-clause-reported : goal.returns-in-KernelLeft-clause-reported
returns-in-KernelLeft-clause-reported g c =
    search-reported (g.R.OreRing.sig c.args.ring.now) (row_matrix_of c.args.r.now) g.C.Rule.allows g.C.Rule.allows_spent c.args.plan (g.C.Chooser.given c.args.chooser.now) (g.C.Chooser.given c.kernel_certificate.new.chooser)
    (g.C.Chooser.settings c.args.chooser.now) (g.C.Chooser.settings c.kernel_certificate.new.chooser) c.certified-in-KernelLeft.result (returns-in-KernelLeft-clause-halts g c) c.kernel_certificate.ensures.within_budget

pub returns-in-KernelRight-clause-reported : goal.returns-in-KernelRight-clause-reported
returns-in-KernelRight-clause-reported g c =
    search-reported (g.R.OreRing.sig c.args.ring.now) (row_matrix_of c.args.r.now) g.C.Rule.allows g.C.Rule.allows_spent c.args.plan (g.C.Chooser.given c.args.chooser.now) (g.C.Chooser.given c.kernel_certificate-in-KernelRight.new.chooser)
    (g.C.Chooser.settings c.args.chooser.now) (g.C.Chooser.settings c.kernel_certificate-in-KernelRight.new.chooser) c.certified-in-KernelRight.result (returns-in-KernelRight-clause-halts g c) c.kernel_certificate-in-KernelRight.ensures.within_budget

pub returns-in-InverseLeft-clause-reported : goal.returns-in-InverseLeft-clause-reported
returns-in-InverseLeft-clause-reported g c =
    search-reported (g.R.OreRing.sig c.args.ring.now) (row_matrix_of c.args.r.now) g.C.Rule.allows g.C.Rule.allows_spent c.args.plan (g.C.Chooser.given c.args.chooser.now) (g.C.Chooser.given c.left_certificate.new.chooser)
    (g.C.Chooser.settings c.args.chooser.now) (g.C.Chooser.settings c.left_certificate.new.chooser) c.certified-in-InverseLeft.result (returns-in-InverseLeft-clause-halts g c) c.left_certificate.ensures.within_budget

pub returns-in-InverseRight-clause-reported : goal.returns-in-InverseRight-clause-reported
returns-in-InverseRight-clause-reported g c =
    search-reported (g.R.OreRing.sig c.args.ring.now) (row_matrix_of c.args.r.now) g.C.Rule.allows g.C.Rule.allows_spent c.args.plan (g.C.Chooser.given c.args.chooser.now) (g.C.Chooser.given c.right_certificate.new.chooser)
    (g.C.Chooser.settings c.args.chooser.now) (g.C.Chooser.settings c.right_certificate.new.chooser) c.certified-in-InverseRight.result (returns-in-InverseRight-clause-halts g c) c.right_certificate.ensures.within_budget

pub returns-in-Adjoint-clause-reported : goal.returns-in-Adjoint-clause-reported
returns-in-Adjoint-clause-reported g c =
    search-reported (g.R.OreRing.sig c.args.ring.now) (row_matrix_of c.args.r.now) g.C.Rule.allows g.C.Rule.allows_spent c.args.plan (g.C.Chooser.given c.args.chooser.now) (g.C.Chooser.given c.args.chooser.now)
    (g.C.Chooser.settings c.args.chooser.now) (g.C.Chooser.settings c.args.chooser.now) c.transposed.result (returns-in-Adjoint-clause-halts g c) (λ within_budget. within_budget)

pub returns-in-Resolve-clause-correct : goal.returns-in-Resolve-clause-correct
returns-in-Resolve-clause-correct g c =
    certified-correct c.resolve.result c.certified-in-Resolve.result c.certified-in-Resolve.ensures (g.R.OreRing.sig c.args.ring.now) (row_matrix_of c.args.r.now) c.args.plan (plan.Resolve c.in-Resolve.count) c.in-Resolve.is c.resolve.ensures.correct
    c.resolve.ensures.kind

pub returns-in-Resolve-clause-answered : goal.returns-in-Resolve-clause-answered
returns-in-Resolve-clause-answered g c =
    certified-found c.resolve.result c.certified-in-Resolve.result c.certified-in-Resolve.ensures (g.R.OreRing.sig c.args.ring.now) (row_matrix_of c.args.r.now) g.C.Rule.allows g.C.Rule.allows_spent
    (g.C.Chooser.given c.args.chooser.now) (g.C.Chooser.given c.resolve.new.chooser) c.args.plan (plan.Resolve c.in-Resolve.count) c.in-Resolve.is (λ found. found) (λ found. refl) c.resolve.ensures.answered

pub returns-in-Resolve-clause-halts : goal.returns-in-Resolve-clause-halts
returns-in-Resolve-clause-halts g c =
    certified-halts c.resolve.result c.certified-in-Resolve.result c.certified-in-Resolve.ensures (g.R.OreRing.sig c.args.ring.now) (row_matrix_of c.args.r.now) g.C.Rule.allows g.C.Rule.allows_spent
    (g.C.Chooser.given c.args.chooser.now) (g.C.Chooser.given c.resolve.new.chooser) c.args.plan (plan.Resolve c.in-Resolve.count) c.in-Resolve.is (g.C.Chooser.settings c.resolve.new.chooser) c.resolve.ensures.halts

pub returns-in-Resolve-clause-reported : goal.returns-in-Resolve-clause-reported
returns-in-Resolve-clause-reported g c =
    search-reported (g.R.OreRing.sig c.args.ring.now) (row_matrix_of c.args.r.now) g.C.Rule.allows g.C.Rule.allows_spent c.args.plan (g.C.Chooser.given c.args.chooser.now) (g.C.Chooser.given c.resolve.new.chooser)
    (g.C.Chooser.settings c.args.chooser.now) (g.C.Chooser.settings c.resolve.new.chooser) c.certified-in-Resolve.result (returns-in-Resolve-clause-halts g c) c.resolve.ensures.within_budget

pub returns-in-Ext-clause-correct : goal.returns-in-Ext-clause-correct
returns-in-Ext-clause-correct g c =
    certified-correct c.ext.result c.certified-in-Ext.result c.certified-in-Ext.ensures (g.R.OreRing.sig c.args.ring.now) (row_matrix_of c.args.r.now) c.args.plan (plan.Ext c.in-Ext.place) c.in-Ext.is c.ext.ensures.correct
    c.ext.ensures.kind

pub returns-in-Ext-clause-answered : goal.returns-in-Ext-clause-answered
returns-in-Ext-clause-answered g c =
    certified-found c.ext.result c.certified-in-Ext.result c.certified-in-Ext.ensures (g.R.OreRing.sig c.args.ring.now) (row_matrix_of c.args.r.now) g.C.Rule.allows g.C.Rule.allows_spent
    (g.C.Chooser.given c.args.chooser.now) (g.C.Chooser.given c.ext.new.chooser) c.args.plan (plan.Ext c.in-Ext.place) c.in-Ext.is (λ found. found) (λ found. refl) c.ext.ensures.answered

pub returns-in-Ext-clause-halts : goal.returns-in-Ext-clause-halts
returns-in-Ext-clause-halts g c =
    certified-halts c.ext.result c.certified-in-Ext.result c.certified-in-Ext.ensures (g.R.OreRing.sig c.args.ring.now) (row_matrix_of c.args.r.now) g.C.Rule.allows g.C.Rule.allows_spent
    (g.C.Chooser.given c.args.chooser.now) (g.C.Chooser.given c.ext.new.chooser) c.args.plan (plan.Ext c.in-Ext.place) c.in-Ext.is (g.C.Chooser.settings c.ext.new.chooser) c.ext.ensures.halts

pub returns-in-Ext-clause-reported : goal.returns-in-Ext-clause-reported
returns-in-Ext-clause-reported g c =
    search-reported (g.R.OreRing.sig c.args.ring.now) (row_matrix_of c.args.r.now) g.C.Rule.allows g.C.Rule.allows_spent c.args.plan (g.C.Chooser.given c.args.chooser.now) (g.C.Chooser.given c.ext.new.chooser)
    (g.C.Chooser.settings c.args.chooser.now) (g.C.Chooser.settings c.ext.new.chooser) c.certified-in-Ext.result (returns-in-Ext-clause-halts g c) c.ext.ensures.within_budget

pub resolve-requires-clause-count : goal.resolve-requires-clause-count
resolve-requires-clause-count g c = subst (λ (p : Plan). IsWrittenPlan p) c.in-Resolve.is c.requires.plan

pub ext-requires-clause-place : goal.ext-requires-clause-place
ext-requires-clause-place g c = subst (λ (p : Plan). IsWrittenPlan p) c.in-Ext.is c.requires.plan
