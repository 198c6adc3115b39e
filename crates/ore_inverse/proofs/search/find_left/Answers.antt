use Rattle.std.proofs.Common.{subst}
use Rattle.std.proofs.lemmas.Result.{err_from_is_err_and}
use Rattle.ore_blocks.specs.CheckBlock.{row_matrix_of}
use Rattle.ore_check.proofs.LastWork.{memory_halts}
use Rattle.ore_syzygy.proofs.RunKernels.{matrix_of}
use Rattle.ore_inverse.specs.Search.{left_search}
use Rattle.ore_inverse.specs.StoredReductions.{AreReductionsOf}
use Rattle.ore_inverse.proofs.LeftSearch.{run_halts, reducing_halts, all_answered, rest_answered, rest_of_signature, rest_is_first}
use Rattle.ore_inverse.proofs.search.find_left.Goals as goal

pub returns-in_err-run-clause-halts : goal.returns-in_err-run-clause-halts
returns-in_err-run-clause-halts g c =
    let chooser = c.run_on.new.chooser in
    let e = err_from_is_err_and c.from_residual.result c.from_residual.ensures.1 in
    rw (e.1, e.2)
    (run_halts (g.R.OreRing.sig c.args.ring.now) g.C.Rule.allows g.C.Rule.allows_spent c.args.a.now (g.C.Chooser.given c.args.chooser.now) (g.C.Chooser.given chooser) (g.C.Chooser.settings chooser) _ c.in_err-run.ensures.halts)

pub returns-in_err-reductions-clause-halts : goal.returns-in_err-reductions-clause-halts
returns-in_err-reductions-clause-halts g c =
    let chooser = c.run_on.new.chooser in
    let given = g.C.Chooser.given chooser in
    let run = c.in_ok-run.ensures in
    let e = err_from_is_err_and c.from_residual-in_err-reductions.result c.from_residual-in_err-reductions.ensures.1 in
    rw (e.1, e.2)
    (reducing_halts (g.R.OreRing.sig c.args.ring.now) g.C.Rule.allows g.C.Rule.allows_spent c.args.a.now (g.C.Chooser.given c.args.chooser.now) given c.in_ok-run.run' run.run run.answered c.cols.result c.cols.ensures.value (g.C.Chooser.settings chooser) _ c.in_err-reductions.ensures.gives)

pub returns-in-AllReduce-clause-of : goal.returns-in-AllReduce-clause-of
returns-in-AllReduce-clause-of g c =
    let s = g.R.OreRing.sig c.args.ring.now in
    let of = subst (AreReductionsOf s c.in_ok-run.run'.basis.width) c.in-AllReduce.is c.in_ok-reductions.ensures.of in
    matrix_of s c.in-AllReduce.combinations c.cols-fits.result c.cols-fits.ensures.fits c.cols-fits.ensures.value of.1

pub returns-in-AllReduce-clause-answered : goal.returns-in-AllReduce-clause-answered
returns-in-AllReduce-clause-answered g c =
    let given = g.C.Chooser.given c.run_on.new.chooser in
    let run = c.in_ok-run.ensures in
    let reduced = c.in_ok-reductions.ensures in
    all_answered (g.R.OreRing.sig c.args.ring.now) g.C.Rule.allows g.C.Rule.allows_spent c.args.a.now (g.C.Chooser.given c.args.chooser.now) given c.in_ok-run.run' run.run run.answered c.cols.result c.cols.ensures.value c.in_ok-reductions.reductions reduced.gives reduced.of c.in-AllReduce.combinations c.in-AllReduce.is

pub returns-in_err-block-in-LeavesRest-clause-halts :
    goal.returns-in_err-block-in-LeavesRest-clause-halts
returns-in_err-block-in-LeavesRest-clause-halts g c =
    let s = g.R.OreRing.sig c.args.ring.now in
    let chooser = c.run_on.new.chooser in
    let e = err_from_is_err_and c.from_residual-in_err-block-in-LeavesRest.result c.from_residual-in_err-block-in-LeavesRest.ensures.1 in
    rw (e.1, e.2)
    (memory_halts s g.C.Rule.allows g.C.Rule.allows_spent (left_search s (row_matrix_of c.args.a.now)) (g.C.Chooser.given c.args.chooser.now) (g.C.Chooser.given chooser) (g.C.Chooser.settings chooser) _ c.in_err-block-in-LeavesRest.ensures.memory)

pub returns-in_ok-block-in-LeavesRest-clause-answered : goal.returns-in_ok-block-in-LeavesRest-clause-answered
returns-in_ok-block-in-LeavesRest-clause-answered g c =
    let given = g.C.Chooser.given c.run_on.new.chooser in
    let run = c.in_ok-run.ensures in
    let reduced = c.in_ok-reductions.ensures in
    rest_answered (g.R.OreRing.sig c.args.ring.now) g.C.Rule.allows g.C.Rule.allows_spent c.args.a.now (g.C.Chooser.given c.args.chooser.now) given c.in_ok-run.run' run.run run.answered c.cols.result c.cols.ensures.value c.in_ok-reductions.reductions reduced.gives reduced.of
    c.in-LeavesRest.unit c.in-LeavesRest.rest c.in-LeavesRest.is c.in_ok-block-in-LeavesRest.block c.in_ok-block-in-LeavesRest.ensures.value

pub returns-in_ok-block-in-LeavesRest-clause-of : goal.returns-in_ok-block-in-LeavesRest-clause-of
returns-in_ok-block-in-LeavesRest-clause-of g c =
    let s = g.R.OreRing.sig c.args.ring.now in
    let a = c.args.a.now in
    let given = g.C.Chooser.given c.run_on.new.chooser in
    let run = c.in_ok-run.ensures in
    let reduced = c.in_ok-reductions.ensures in (
      tt,
      rest_of_signature s g.C.Rule.allows g.C.Rule.allows_spent a (g.C.Chooser.given c.args.chooser.now) given c.in_ok-run.run' run.run run.answered c.cols.result c.cols.ensures.value c.in_ok-reductions.reductions reduced.gives reduced.of
          c.in-LeavesRest.unit c.in-LeavesRest.rest c.in-LeavesRest.is c.in_ok-block-in-LeavesRest.block c.in_ok-block-in-LeavesRest.ensures.value,
    )

pub returns-in_ok-block-in-LeavesRest-clause-first : goal.returns-in_ok-block-in-LeavesRest-clause-first
returns-in_ok-block-in-LeavesRest-clause-first g c =
    let s = g.R.OreRing.sig c.args.ring.now in
    let a = c.args.a.now in
    let given = g.C.Chooser.given c.run_on.new.chooser in
    let run = c.in_ok-run.ensures in
    let reduced = c.in_ok-reductions.ensures in
    rest_is_first s g.C.Rule.allows g.C.Rule.allows_spent a (g.C.Chooser.given c.args.chooser.now) given c.in_ok-run.run' run.run run.answered c.cols.result c.cols.ensures.value c.in_ok-reductions.reductions reduced.gives reduced.of
    c.in-LeavesRest.unit c.in-LeavesRest.rest c.in-LeavesRest.is
