use Rattle.std.proofs.Common.{rules, ◌≤◌, drop, length, sym, ap, ◌∙◌, subst, arith}
use Rattle.std.proofs.lemmas.Result.{err_from_is_err_and}
use Rattle.std.specs.List.{All}
use Rattle.ore_algebra.specs.Limits.{program}
use Rattle.ore_rational.specs.Field.{rationals}
use Rattle.ore_monomial.specs.Signature.{MonomialOf}
use Rattle.ore_ring.specs.Belongs.{Belongs}
use Rattle.ore_rows.specs.Reduction.{Step}
use Rattle.ore_rows.specs.Stored.{rows_of, sums_of}
use Rattle.ore_rows.proofs.Dots.{all_at}
use Rattle.ore_blocks.specs.CheckBlock.{quotient_steps}
use Rattle.ore_blocks.specs.InnerContracts.{remainder_of}
use Rattle.ore_blocks.proofs.Chains.{refuses_as, passed_as}
use Rattle.ore_blocks.proofs.GivenRows.{quotients_next, quotients_end}
use Rattle.ore_blocks.proofs.ReadItems.{remainder_has}
use Rattle.ore_blocks.proofs.steps.quotient_steps.Goals as goal

pub quotient_step-requires-clause-row_of : goal.quotient_step-requires-clause-row_of
quotient_step-requires-clause-row_of g c =
    let s = g.R.OreRing.sig c.args.ring.now in
    subst (All (Belongs s)) (sym c.in_ok-row.ensures) (remainder_has (All (Belongs s)) c.loop-n.left c.args.w.now c.loop-n.invariant.belongs c.requires.w_of)

pub quotient_step-requires-clause-step_of : goal.quotient_step-requires-clause-step_of
quotient_step-requires-clause-step_of g c =
    let s = g.R.OreRing.sig c.args.ring.now in
    all_at (λ (t : Step rationals). MonomialOf s t.monomial) c.args.steps.now c.loop-n.n c.get-step.result.now c.get-step.ensures c.requires.steps_of

pub returns-in_err-next-clause-judges : goal.returns-in_err-next-clause-judges
returns-in_err-next-clause-judges g c =
    let s = g.R.OreRing.sig c.args.ring.now in
    let n = c.loop-n.n in
    let basis = rows_of c.args.basis.now in
    let p = err_from_is_err_and c.from_residual-in_err-next.result c.from_residual-in_err-next.ensures.1 in
    rw (p.1, p.2) (refuses_as _ _ _ _
    (ap (λ r. quotient_steps program s basis n (sums_of r) (drop n c.args.steps.now)) (sym c.in_ok-row.ensures)
    ∙ quotients_next program s basis (sums_of c.in_ok-row.row) c.args.steps.now n c.get-step.result.now c.get-step.ensures)
    c.loop-n.invariant.told _ c.in_err-next.ensures.judges)

pub loop-n-preserved : goal.loop-n-preserved
loop-n-preserved g c =
    let s = g.R.OreRing.sig c.args.ring.now in
    let n = c.loop-n.n in
    let basis = rows_of c.args.basis.now in
    record {
      told =
          passed_as _ _ _ _
          (ap (λ r. quotient_steps program s basis n (sums_of r) (drop n c.args.steps.now)) (sym c.in_ok-row.ensures)
          ∙ quotients_next program s basis (sums_of c.in_ok-row.row) c.args.steps.now n c.get-step.result.now c.get-step.ensures)
          c.loop-n.invariant.told (sums_of c.in_ok-next.next) c.in_ok-next.ensures.judges;
      width = search rules;
      belongs = search rules;
    }

pub returns-clause-judges : goal.returns-clause-judges
returns-clause-judges g c =
    let s = g.R.OreRing.sig c.args.ring.now in
    let past : length c.args.steps.now ≤ c.loop-n.n = omega arith in
    sym c.loop-n.invariant.told ∙ quotients_end program s (rows_of c.args.basis.now) (sums_of (remainder_of c.loop-n.left c.args.w.now)) c.args.steps.now c.loop-n.n past
