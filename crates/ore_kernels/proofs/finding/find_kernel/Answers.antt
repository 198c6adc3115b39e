use Rattle.ore_blocks.specs.CheckBlock.{row_matrix_of}
use Rattle.ore_groebner.specs.Choosing.{present}
use Rattle.ore_kernels.proofs.FollowedPlans.{left_found, left_halted, right_found, right_halted}
use Rattle.ore_kernels.proofs.finding.find_kernel.Goals as goal

pub returns-in-Left-clause-left : goal.returns-in-Left-clause-left
returns-in-Left-clause-left g c =
    let given = g.C.Chooser.given c.left_kernel.new.chooser in
    let e = c.left_kernel.ensures in
    left_found (g.R.OreRing.sig c.args.ring.now) g.C.Rule.allows g.C.Rule.allows_spent c.args.r.now (g.C.Chooser.given c.args.chooser.now) given (present given) c.args.side c.left_kernel.result c.in-Left.is e.kernel e.honest e.answered

pub returns-in-Left-clause-halts : goal.returns-in-Left-clause-halts
returns-in-Left-clause-halts g c =
    let chooser = c.left_kernel.new.chooser in
    left_halted (g.R.OreRing.sig c.args.ring.now) g.C.Rule.allows g.C.Rule.allows_spent (row_matrix_of c.args.r.now) (g.C.Chooser.given c.args.chooser.now) c.args.side (g.C.Chooser.given chooser) (g.C.Chooser.settings chooser) c.left_kernel.result c.in-Left.is c.left_kernel.ensures.halts

pub returns-in-Right-clause-left : goal.returns-in-Right-clause-left
returns-in-Right-clause-left g c =
    let given = g.C.Chooser.given c.right_kernel.new.chooser in
    let e = c.right_kernel.ensures in
    right_found (g.R.OreRing.sig c.args.ring.now) g.C.Rule.allows g.C.Rule.allows_spent c.args.r.now (g.C.Chooser.given c.args.chooser.now) given (present given) c.args.side c.right_kernel.result c.in-Right.is e.of e.honest e.answered

pub returns-in-Right-clause-halts : goal.returns-in-Right-clause-halts
returns-in-Right-clause-halts g c =
    let chooser = c.right_kernel.new.chooser in
    right_halted (g.R.OreRing.sig c.args.ring.now) g.C.Rule.allows g.C.Rule.allows_spent (row_matrix_of c.args.r.now) (g.C.Chooser.given c.args.chooser.now) c.args.side (g.C.Chooser.given chooser) (g.C.Chooser.settings chooser) c.right_kernel.result c.in-Right.is c.right_kernel.ensures.halts
