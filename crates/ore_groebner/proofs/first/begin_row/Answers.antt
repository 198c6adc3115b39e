use Rattle.std.proofs.Common.{[], ◌∷◌, ◌++◌, map, sym, ap, ◌∙◌, subst}
use Rattle.std.specs.declared.result.Result.TheVariants.{Ok}
use Rattle.ore_algebra.specs.Limits.{program}
use Rattle.ore_rational.specs.Field.{rationals, rational_inverses}
use Rattle.ore_monomial.specs.Gives.{Gives}
use Rattle.ore_monomial.specs.Signature.{Signature}
use Rattle.ore_monomial.specs.Term.{Term}
use Rattle.ore_rows.specs.Arithmetic.{within}
use Rattle.ore_rows.specs.RowLead.{IsRowLead}
use Rattle.ore_rows.specs.Rows.{unit_row}
use Rattle.ore_pairs.specs.Run as run
use Rattle.ore_rows.specs.declared.choices.Origin.TheVariants as origin
use Rattle.ore_rows.specs.Stored.{sums_of}
use Rattle.ore_rows.proofs.GreatestTerms.{row_lead_from}
use Rattle.ore_rows.proofs.StoredBases.{zeros_lead}
use Rattle.ore_groebner.specs.RunProgress.{run_state, with_basis_row, IsProgressOf}
use Rattle.ore_groebner.proofs.FirstBasis.{begin_none, begin_some}
use Rattle.ore_groebner.proofs.first.begin_row.Goals as goal

pub begin_zero-requires-clause-fits : goal.begin_zero-requires-clause-fits
begin_zero-requires-clause-fits g c = subst (λ (v : Signature). IsProgressOf v c.args.progress) (sym c.signature-in-None.ensures) c.requires.fits

pub begin_monic-requires-clause-lead : goal.begin_monic-requires-clause-lead
begin_monic-requires-clause-lead g c =
    let u : Term = record { monomial = c.in-Some.found.1; column = c.in-Some.found.0 } in
    (u, subst (λ (v : Signature). IsRowLead rationals v.order (sums_of c.args.row.now) u c.in-Some.found.2) c.signature-2.ensures c.in-Some.ensures)

pub returns-in_ok-begin_zero-in-None-clause-gives : goal.returns-in_ok-begin_zero-in-None-clause-gives
returns-in_ok-begin_zero-in-None-clause-gives g c =
    let s = g.R.OreRing.sig c.args.ring.now in
    let p = c.args.progress in
    let unit = c.in_ok-unit.ensures.value ∙ ap (λ n. unit_row rationals n c.args.k) c.width.ensures in
    begin_none s p.basis.width c.args.k (sums_of c.args.row.now) (run_state p) (zeros_lead s.order c.args.row.now c.in-None.ensures)
    ∙ (λ n. Ok (record (run_state p) { syzygies = map sums_of p.syzygies.items ++ sym unit n ∷ []; origins = p.origins.items ++ origin.ZeroRow c.args.k ∷ [] }))
    ∙ ap Ok (sym c.in_ok-begin_zero-in-None.ensures.state)

pub returns-in-Some-clause-gives : goal.returns-in-Some-clause-gives
returns-in-Some-clause-gives g c =
    let s = g.R.OreRing.sig c.args.ring.now in
    let p = c.args.progress in
    let u : Term = record { monomial = c.in-Some.found.1; column = c.in-Some.found.0 } in
    let lead = subst (λ (v : Signature). IsRowLead rationals v.order (sums_of c.args.row.now) u c.in-Some.found.2) c.signature-2.ensures c.in-Some.ensures in
    let unit = c.in_ok-unit.ensures.value ∙ ap (λ n. unit_row rationals n c.args.k) c.width.ensures in
    subst (Gives run_state c.begin_monic.result) (sym (begin_some s p.basis.width c.args.k (sums_of c.args.row.now) (run_state p) u (row_lead_from rationals s.order (sums_of c.args.row.now) u c.in-Some.found.2 lead) ∙ (λ n. with_basis_row (run_state p) (run.monic_multiple rationals rational_inverses (within program s) (sums_of c.args.row.now) (sym unit n) u)))) (c.begin_monic.ensures.gives u lead)
