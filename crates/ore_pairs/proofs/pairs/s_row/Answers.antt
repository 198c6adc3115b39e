use Rattle.std.proofs.Common.{sym, ◌∙◌, subst}
use Rattle.std.proofs.lemmas.Bool.{le-leb}
use Rattle.std.proofs.lemmas.Result.{err_from_is_err_and}
use Rattle.ore_algebra.specs.Limits.{program}
use Rattle.ore_monomial.specs.Signature.{MonomialOf}
use Rattle.ore_monomial.proofs.Declared.{MonomialOf-lcm}
use Rattle.ore_monomial.proofs.Stops.{fails_like}
use Rattle.ore_rational.specs.Field.{rationals}
use Rattle.ore_rows.specs.Arithmetic.{within}
use Rattle.ore_rows.specs.Reduction.{basis_rows, cofactors_of}
use Rattle.ore_rows.specs.Stored.{sums_of}
use Rattle.ore_rows.specs.StoredBasis.{monics}
use Rattle.ore_rows.proofs.BasisParts.{leads_monics, row_value, cofactor_value, row_belongs, cofactor_belongs}
use Rattle.ore_pairs.proofs.StoredPairs.{lead_of_row, passes_not, s_rows_degree, s_rows_first, s_rows_second, s_rows_give}
use Rattle.ore_pairs.proofs.pairs.s_row.Goals as goal

pub s_row-requires-clause-multiple_of : goal.s_row-requires-clause-multiple_of
s_row-requires-clause-multiple_of g c =
    let s = g.R.OreRing.sig c.args.ring.now in
    let b = c.args.basis.now in
    subst (MonomialOf s) (sym c.in_ok-multiple.ensures.1) (MonomialOf-lcm s _ _
    (lead_of_row s b c.leads-leads.result.now c.args.i c.leads-leads.ensures c.requires.basis_of c.row-first_row.result.now c.row-first_row.ensures.value c.row-first_row.ensures.lead)
    (lead_of_row s b c.leads-leads.result.now c.args.j c.leads-leads.ensures c.requires.basis_of c.row-second_row.result.now c.row-second_row.ensures.value c.row-second_row.ensures.lead))

pub s_row-requires-2-clause-multiple_of : goal.s_row-requires-2-clause-multiple_of
s_row-requires-2-clause-multiple_of g c =
    let s = g.R.OreRing.sig c.args.ring.now in
    let b = c.args.basis.now in
    subst (MonomialOf s) (sym c.in_ok-multiple.ensures.1) (MonomialOf-lcm s _ _
    (lead_of_row s b c.leads-leads.result.now c.args.i c.leads-leads.ensures c.requires.basis_of c.row-first_row.result.now c.row-first_row.ensures.value c.row-first_row.ensures.lead)
    (lead_of_row s b c.leads-leads.result.now c.args.j c.leads-leads.ensures c.requires.basis_of c.row-second_row.result.now c.row-second_row.ensures.value c.row-second_row.ensures.lead))

pub s_row-requires-clause-row_of : goal.s_row-requires-clause-row_of
s_row-requires-clause-row_of g c = row_belongs _ c.args.basis.now _ _ c.requires.basis_of c.row-first_row.ensures.value

pub s_row-requires-clause-other_of : goal.s_row-requires-clause-other_of
s_row-requires-clause-other_of g c = row_belongs _ c.args.basis.now _ _ c.requires.basis_of c.row-second_row.ensures.value

pub s_row-requires-2-clause-row_of : goal.s_row-requires-2-clause-row_of
s_row-requires-2-clause-row_of g c = cofactor_belongs _ c.args.basis.now _ _ c.requires.basis_of c.cofactor-first_cofactor.ensures.value

pub s_row-requires-2-clause-other_of : goal.s_row-requires-2-clause-other_of
s_row-requires-2-clause-other_of g c = cofactor_belongs _ c.args.basis.now _ _ c.requires.basis_of c.cofactor-second_cofactor.ensures.value

pub returns-in_err-multiple-clause-gives : goal.returns-in_err-multiple-clause-gives
returns-in_err-multiple-clause-gives g c =
    let A = within program (g.R.OreRing.sig c.args.ring.now) in
    let b = c.args.basis.now in
    let p = err_from_is_err_and c.from_residual.result c.from_residual.ensures.1 in
    rw (p.1, p.2) (s_rows_degree rationals A (monics b) c.leads-leads.result.now (c.leads-leads.ensures ∙ sym (leads_monics b.items)) c.args.i c.args.j (passes_not _ c.in_err-multiple.ensures))

pub returns-in_err-row-clause-gives : goal.returns-in_err-row-clause-gives
returns-in_err-row-clause-gives g c =
    let A = within program (g.R.OreRing.sig c.args.ring.now) in
    let b = c.args.basis.now in
    let p = err_from_is_err_and c.from_residual-in_err-row.result c.from_residual-in_err-row.ensures.1 in
    rw (p.1, p.2) (fails_like _ _ _
    (s_rows_first rationals A (monics b) c.leads-leads.result.now (c.leads-leads.ensures ∙ sym (leads_monics b.items)) c.args.i c.args.j (le-leb _ 32767 c.in_ok-multiple.ensures.0))
    (c.in_err-row.ensures.gives (basis_rows (monics b)) (row_value b _ _ c.row-first_row.ensures.value) (row_value b _ _ c.row-second_row.ensures.value)))

pub returns-in_err-cofactor-clause-gives : goal.returns-in_err-cofactor-clause-gives
returns-in_err-cofactor-clause-gives g c =
    let A = within program (g.R.OreRing.sig c.args.ring.now) in
    let b = c.args.basis.now in
    let p = err_from_is_err_and c.from_residual-in_err-cofactor.result c.from_residual-in_err-cofactor.ensures.1 in
    rw (p.1, p.2) (fails_like _ _ _
    (λ e. s_rows_second rationals A (monics b) c.leads-leads.result.now (c.leads-leads.ensures ∙ sym (leads_monics b.items)) c.args.i c.args.j (le-leb _ 32767 c.in_ok-multiple.ensures.0) (sums_of c.in_ok-row.row) e
    (c.in_ok-row.ensures.gives (basis_rows (monics b)) (row_value b _ _ c.row-first_row.ensures.value) (row_value b _ _ c.row-second_row.ensures.value)))
    (c.in_err-cofactor.ensures.gives (cofactors_of (monics b)) (cofactor_value b _ _ c.cofactor-first_cofactor.ensures.value) (cofactor_value b _ _ c.cofactor-second_cofactor.ensures.value)))

pub returns-clause-gives : goal.returns-clause-gives
returns-clause-gives g c =
    let A = within program (g.R.OreRing.sig c.args.ring.now) in
    let b = c.args.basis.now in
    s_rows_give rationals A (monics b) c.leads-leads.result.now (c.leads-leads.ensures ∙ sym (leads_monics b.items)) c.args.i c.args.j (le-leb _ 32767 c.in_ok-multiple.ensures.0) (sums_of c.in_ok-row.row) (sums_of c.in_ok-cofactor.cofactor)
    (c.in_ok-row.ensures.gives (basis_rows (monics b)) (row_value b _ _ c.row-first_row.ensures.value) (row_value b _ _ c.row-second_row.ensures.value))
    (c.in_ok-cofactor.ensures.gives (cofactors_of (monics b)) (cofactor_value b _ _ c.cofactor-first_cofactor.ensures.value) (cofactor_value b _ _ c.cofactor-second_cofactor.ensures.value))
