use Rattle.std.proofs.Common.{sym, ap, ◌∙◌, subst, List}
use Rattle.std.proofs.lemmas.Result.{err_from_is_err_and}
use Rattle.ore_algebra.specs.Limits.{program}
use Rattle.ore_rational.specs.Field.{rationals}
use Rattle.ore_monomial.specs.Gives.{Fails}
use Rattle.ore_monomial.specs.Signature.{Signature}
use Rattle.ore_rows.specs.Arithmetic.{within}
use Rattle.ore_rows.specs.Reduction as reduction
use Rattle.ore_rows.specs.Stored.{sums_of}
use Rattle.ore_rows.specs.StoredBasis.{monics}
use Rattle.ore_rows.proofs.StoredBases.{are_monic}
use Rattle.ore_division.specs.StoredWork.{work_of}
use Rattle.ore_division.proofs.StoredReductions.{long_row, loop_end, loop_next, loop_smaller, loop_stops}
use Rattle.ore_division.proofs.division.reduce.Goals as goal

pub returns-in_err-work-clause-gives : goal.returns-in_err-work-clause-gives
returns-in_err-work-clause-gives g c =
    let s : Signature = g.R.OreRing.sig c.args.ring.now in
    let b = c.args.basis.now in
    let due = ap (λ (v : Signature). reduction.next_step rationals v.order (monics b) (sums_of c.loop-step.work.row)) (sym c.signature.ensures) ∙ sym c.in-Some.ensures.value in
    let start = ap (λ (ts : List (reduction.Step rationals)). reduction.reduce rationals s.order (within program s) (monics b) (record { row = sums_of c.args.row; cofactor = sums_of c.args.cofactor; steps = ts })) (c.from_vec.ensures ∙ c.new.ensures.items) in
    let p = err_from_is_err_and c.from_residual.result c.from_residual.ensures.1 in
    rw (p.1, p.2) (subst (Fails _) (c.loop-step.invariant.told ∙ start)
    (loop_stops s b (are_monic s b c.requires.basis_of c.cols.ensures.leads) c.cols.ensures.widths (work_of c.loop-step.work) (long_row b.cols c.loop-step.work.row c.loop-step.invariant.row_width) c.in-Some.step due _ c.in_err-work.ensures.gives))

pub loop-step-smaller : goal.loop-step-smaller
loop-step-smaller g c =
    let s : Signature = g.R.OreRing.sig c.args.ring.now in
    let b = c.args.basis.now in
    let due = ap (λ (v : Signature). reduction.next_step rationals v.order (monics b) (sums_of c.loop-step.work.row)) (sym c.signature.ensures) ∙ sym c.in-Some.ensures.value in
    loop_smaller s b (are_monic s b c.requires.basis_of c.cols.ensures.leads) c.cols.ensures.widths (work_of c.loop-step.work) (long_row b.cols c.loop-step.work.row c.loop-step.invariant.row_width) c.in-Some.step due (work_of c.in_ok-work.work) c.in_ok-work.ensures.gives

pub loop-step-preserved : goal.loop-step-preserved
loop-step-preserved g c =
    let s : Signature = g.R.OreRing.sig c.args.ring.now in
    let b = c.args.basis.now in
    let due = ap (λ (v : Signature). reduction.next_step rationals v.order (monics b) (sums_of c.loop-step.work.row)) (sym c.signature.ensures) ∙ sym c.in-Some.ensures.value in
    record {
      told = sym (loop_next s b (are_monic s b c.requires.basis_of c.cols.ensures.leads) c.cols.ensures.widths (work_of c.loop-step.work) (long_row b.cols c.loop-step.work.row c.loop-step.invariant.row_width) c.in-Some.step due (work_of c.in_ok-work.work) c.in_ok-work.ensures.gives) ∙ c.loop-step.invariant.told;
      row_of = c.in_ok-work.ensures.row_of;
      cofactor_of = c.in_ok-work.ensures.cofactor_of;
      row_width = c.in_ok-work.ensures.row_width;
      cofactor_width = c.in_ok-work.ensures.cofactor_width;
    }

pub returns-clause-gives : goal.returns-clause-gives
returns-clause-gives g c =
    let s : Signature = g.R.OreRing.sig c.args.ring.now in
    let b = c.args.basis.now in
    let none = ap (λ (v : Signature). reduction.next_step rationals v.order (monics b) (sums_of c.loop-step.work.row)) (sym c.signature.ensures) ∙ sym c.in_default.ensures.value in
    let start = ap (λ (ts : List (reduction.Step rationals)). reduction.reduce rationals s.order (within program s) (monics b) (record { row = sums_of c.args.row; cofactor = sums_of c.args.cofactor; steps = ts })) (c.from_vec.ensures ∙ c.new.ensures.items) in
    sym start ∙ sym c.loop-step.invariant.told ∙ loop_end s b (are_monic s b c.requires.basis_of c.cols.ensures.leads) c.cols.ensures.widths (work_of c.loop-step.work) (long_row b.cols c.loop-step.work.row c.loop-step.invariant.row_width) none
