use Rattle.std.proofs.Common.{ap, ◌∙◌, [], ◌∷◌, ◌++◌}
use Rattle.std.proofs.lemmas.Result.{err_from_is_err_and}
use Rattle.ore_division.specs.StoredWork.{work_of}
use Rattle.ore_rows.proofs.BasisParts.{row_belongs, cofactor_belongs}
use Rattle.ore_division.proofs.StoredSteps.{stops_first, stops_second, step_taken}
use Rattle.ore_division.proofs.division.subtract.Goals as goal

pub row_less-requires-clause-other_of : goal.row_less-requires-clause-other_of
row_less-requires-clause-other_of g c = row_belongs _ c.args.basis.now _ _ c.requires.basis_of c.row-2.ensures.value

pub row_less-requires-2-clause-other_of : goal.row_less-requires-2-clause-other_of
row_less-requires-2-clause-other_of g c = cofactor_belongs _ c.args.basis.now _ _ c.requires.basis_of c.cofactor-2.ensures.value

pub returns-in_err-row-clause-gives : goal.returns-in_err-row-clause-gives
returns-in_err-row-clause-gives g c =
    let s = g.R.OreRing.sig c.args.ring.now in
    let p = err_from_is_err_and c.from_residual-in_err-row.result c.from_residual-in_err-row.ensures.1 in
    rw (p.1, p.2) (stops_first s c.args.basis.now c.args.step (work_of c.args.work) _ _ c.in_ok-term.ensures.value (ap (λ t. t.index) c.step.view_is) _ c.row-2.ensures.value _ c.in_err-row.ensures.gives)

pub returns-in_err-cofactor-clause-gives : goal.returns-in_err-cofactor-clause-gives
returns-in_err-cofactor-clause-gives g c =
    let s = g.R.OreRing.sig c.args.ring.now in
    let p = err_from_is_err_and c.from_residual-in_err-cofactor.result c.from_residual-in_err-cofactor.ensures.1 in
    rw (p.1, p.2) (stops_second s c.args.basis.now c.args.step (work_of c.args.work) _ _ c.in_ok-term.ensures.value (ap (λ t. t.index) c.step.view_is) _ c.row-2.ensures.value _ c.in_ok-row.ensures.gives _ c.cofactor-2.ensures.value _ c.in_err-cofactor.ensures.gives)

pub returns-clause-gives : goal.returns-clause-gives
returns-clause-gives g c =
    let s = g.R.OreRing.sig c.args.ring.now in
    let more = c.from_vec.ensures ∙ c.in_ok-push.ensures.items ∙ ap (λ ts. ts ++ c.args.step ∷ []) c.into_vec-taken.ensures in
    step_taken s c.args.basis.now c.args.step (work_of c.args.work) _ _ c.in_ok-term.ensures.value (ap (λ t. t.index) c.step.view_is) _ c.row-2.ensures.value _ c.in_ok-row.ensures.gives _ c.cofactor-2.ensures.value _ _ c.in_ok-cofactor.ensures.gives more
