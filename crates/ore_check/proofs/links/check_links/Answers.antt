use Rattle.std.proofs.Common.{◌≡◌, ◌+◌, ◌-◌, ◌≤◌, drop, length, refl, sym, ap, ◌∙◌, subst, arith}
use Rattle.std.specs.List.{All}
use Rattle.std.specs.declared.result.Result.TheVariants.{Ok}
use Rattle.std.proofs.lemmas.Result.{err_from_is_err_and}
use Rattle.ore_algebra.specs.Limits.{program}
use Rattle.ore_ring.specs.Belongs.{Belongs}
use Rattle.ore_rows.specs.Stored.{OperatorMatrix}
use Rattle.ore_rows.proofs.Dots.{all_at}
use Rattle.ore_parts.specs.OfSignature.{IsLinkOf}
use Rattle.ore_blocks.specs.CheckBlock.{row_matrix_of}
use Rattle.ore_blocks.proofs.Chains.{refuses_as, passed_as}
use Rattle.ore_check.specs.Check.{check_links}
use Rattle.ore_check.specs.InnerContracts.{matrix_before}
use Rattle.ore_check.proofs.LinkConditions.{before_next, before_of, links_next, links_end}
use Rattle.ore_check.proofs.links.check_links.Goals as goal

pub loop-i-init : goal.loop-i-init
unfolding matrix_before
loop-i-init g c = record { told = refl; fits = λ h. absurd (omega (arith, h)); few = omega arith }

pub check_link-requires-clause-of : goal.check_link-requires-clause-of
check_link-requires-clause-of g c =
    let s = g.R.OreRing.sig c.args.ring.now in
    subst (λ (m : OperatorMatrix). All (All (Belongs s)) m.rows) (sym c.matrix_before.ensures) (before_of s c.args.r.now c.args.links.now c.loop-i.i c.requires.of c.requires.links_of)

pub check_link-requires-clause-link_of : goal.check_link-requires-clause-link_of
check_link-requires-clause-link_of g c = all_at (IsLinkOf (g.R.OreRing.sig c.args.ring.now)) c.args.links.now c.loop-i.i c.get.result.now c.get.ensures c.requires.links_of

pub returns-in_err-check_link-clause-judges : goal.returns-in_err-check_link-clause-judges
returns-in_err-check_link-clause-judges g c =
    let s = g.R.OreRing.sig c.args.ring.now in
    let r = c.args.r.now in
    let links = c.args.links.now in
    let i = c.loop-i.i in
    let p = err_from_is_err_and c.from_residual.result c.from_residual.ensures.1 in
    rw (p.1, p.2) (refuses_as _ _ _ _
    (ap (λ (m : OperatorMatrix). check_links program s i (row_matrix_of (matrix_before r links (i - 1))) (row_matrix_of m) (drop i links)) (sym c.matrix_before.ensures)
    ∙ links_next program s (row_matrix_of (matrix_before r links (i - 1))) (row_matrix_of c.matrix_before.result.now) links i c.get.result.now c.get.ensures)
    c.loop-i.invariant.told _ c.in_err-check_link.ensures.judges)

pub loop-i-preserved : goal.loop-i-preserved
loop-i-preserved g c =
    let s = g.R.OreRing.sig c.args.ring.now in
    let r = c.args.r.now in
    let links = c.args.links.now in
    let i = c.loop-i.i in
    let back : i + 1 - 1 ≡ i = omega arith in
    let before : matrix_before r links (i + 1 - 1) ≡ c.matrix_before.result.now = ap (matrix_before r links) back ∙ sym c.matrix_before.ensures in
    let next = before_next r links i c.get.result.now c.get.ensures in
    record {
      told =
          (λ j. check_links program s (i + 1) (row_matrix_of (before j)) (row_matrix_of (next j)) (drop (i + 1) links))
          ∙ passed_as _ _ _ _
          (ap (λ (m : OperatorMatrix). check_links program s i (row_matrix_of (matrix_before r links (i - 1))) (row_matrix_of m) (drop i links)) (sym c.matrix_before.ensures)
          ∙ links_next program s (row_matrix_of (matrix_before r links (i - 1))) (row_matrix_of c.matrix_before.result.now) links i c.get.result.now c.get.ensures)
          c.loop-i.invariant.told tt c.in_ok-check_link.ensures.judges;
      fits = λ h. ap (λ (m : OperatorMatrix). m.cols) next ∙ c.in_ok-check_link.ensures.fits ∙ ap (λ (m : OperatorMatrix). length m.rows) (sym before);
      few = omega arith;
    }

pub returns-clause-judges : goal.returns-clause-judges
returns-clause-judges g c =
    let s = g.R.OreRing.sig c.args.ring.now in
    let r = c.args.r.now in
    let links = c.args.links.now in
    let i = c.loop-i.i in
    let past : length links ≤ i = omega arith in
    let all : i ≡ length links = omega (arith, c.loop-i.invariant.few) in
    sym c.loop-i.invariant.told ∙ links_end program s (row_matrix_of (matrix_before r links (i - 1))) (row_matrix_of (matrix_before r links i)) links i past
    ∙ (λ j. Ok (row_matrix_of (matrix_before r links (all j - 1)), row_matrix_of (matrix_before r links (all j))))

pub returns-clause-fits : goal.returns-clause-fits
returns-clause-fits g c = λ h.
    let links = c.args.links.now in
    let all : c.loop-i.i ≡ length links = omega (arith, c.loop-i.invariant.few) in
    subst (λ n. (matrix_before c.args.r.now links n).cols ≡ length (matrix_before c.args.r.now links (n - 1)).rows) all (c.loop-i.invariant.fits (omega (arith, h, all)))
