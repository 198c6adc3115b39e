use Rattle.std.proofs.Common.{sym, ap, ◌∙◌, subst}
use Rattle.std.specs.List.{All}
use Rattle.ore_algebra.specs.Limits.{program}
use Rattle.ore_ring.specs.Belongs.{Belongs}
use Rattle.ore_rows.specs.Stored.{OperatorMatrix}
use Rattle.ore_blocks.specs.CheckBlock.{row_matrix_of}
use Rattle.ore_blocks.specs.KernelCourse.{run_on}
use Rattle.ore_groebner.specs.Courses.{last_of}
use Rattle.ore_syzygy.proofs.FollowedKernels.{memory_halts}
use Rattle.ore_syzygy.proofs.RunKernels.{matrix_of}
use Rattle.ore_inverse.proofs.StoredRuns.{has_run}
use Rattle.ore_resolution.proofs.FollowedLinks.{link_is}
use Rattle.ore_resolution.proofs.links.next_link.Goals as goal

pub kernel_block-requires : goal.kernel_block-requires
kernel_block-requires g c = record { run = has_run (g.R.OreRing.sig c.args.ring.now) c.args.last.now c.in_ok-run.run' c.in_ok-run.ensures.run }

pub returns-in_default-clause-halts : goal.returns-in_default-clause-halts
returns-in_default-clause-halts g c =
    let s = g.R.OreRing.sig c.args.ring.now in
    memory_halts s g.C.Rule.allows g.C.Rule.allows_spent (run_on program s (row_matrix_of c.args.last.now)) _ _ (g.C.Chooser.settings c.run_on.new.chooser)

pub returns-clause-of : goal.returns-clause-of
returns-clause-of g c =
    let s = g.R.OreRing.sig c.args.ring.now in
    let of = subst (λ (l : OperatorMatrix). All (All (Belongs s)) l.rows) (sym c.in-Ok.ensures.syzygies) c.in_ok-run.ensures.run.honest.syzygies_of in
    record { l = matrix_of s c.in-Ok.l c.cols-fits.result c.cols-fits.ensures.fits c.cols-fits.ensures.value of; block = c.in-Ok.ensures.of }

pub returns-clause-fits : goal.returns-clause-fits
returns-clause-fits g c = ap (λ (l : OperatorMatrix). l.cols) c.in-Ok.ensures.syzygies ∙ c.in_ok-run.ensures.run.honest.syzygy_cols

pub returns-clause-answered : goal.returns-clause-answered
returns-clause-answered g c =
    let run = c.in_ok-run.run' in
    let found = c.in_ok-run.ensures in
    (last_of run, found.answered, (λ i. record { l = c.in-Ok.ensures.syzygies i; block = c.in-Ok.block }) ∙ link_is (g.R.OreRing.sig c.args.ring.now) c.args.last.now run found.run.choices c.in-Ok.block found.run.honest c.in-Ok.ensures.value)
