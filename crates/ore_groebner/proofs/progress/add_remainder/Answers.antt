use Rattle.std.proofs.Common.{sym, ap, ◌∙◌, subst}
use Rattle.std.specs.declared.result.Result.TheVariants.{Ok}
use Rattle.ore_monomial.specs.Gives.{Gives}
use Rattle.ore_monomial.specs.Signature.{Signature}
use Rattle.ore_monomial.specs.Term.{Term}
use Rattle.ore_rational.specs.Field.{rationals}
use Rattle.ore_rows.specs.RowLead.{IsRowLead}
use Rattle.ore_pairs.specs.Run as run
use Rattle.ore_rows.specs.Stored.{sums_of}
use Rattle.ore_rows.proofs.GreatestTerms.{row_lead_from}
use Rattle.ore_rows.proofs.StoredBases.{zeros_lead}
use Rattle.ore_division.specs.StoredWork.{work_of}
use Rattle.ore_groebner.specs.RunProgress.{run_state}
use Rattle.ore_groebner.proofs.ProgressParts.{remainder_none, remainder_some}
use Rattle.ore_groebner.proofs.progress.add_remainder.Goals as goal

pub add_row-requires-clause-lead : goal.add_row-requires-clause-lead
add_row-requires-clause-lead g c =
    let u : Term = record { monomial = c.in-Some.found.1; column = c.in-Some.found.0 } in
    (u, subst (λ (v : Signature). IsRowLead rationals v.order (sums_of c.args.work.row) u c.in-Some.found.2) c.signature.ensures c.in-Some.ensures)

pub returns-in_ok-add_syzygy-in-None-clause-gives : goal.returns-in_ok-add_syzygy-in-None-clause-gives
returns-in_ok-add_syzygy-in-None-clause-gives g c =
    let s = g.R.OreRing.sig c.args.ring.now in
    remainder_none s (run_state c.args.progress) c.args.i c.args.j (work_of c.args.work) (zeros_lead s.order c.args.work.row c.in-None.ensures)
    ∙ ap (λ (v : Signature). Ok (run.with_syzygy rationals v.order (run_state c.args.progress) c.args.i c.args.j (work_of c.args.work))) (sym c.signature-in-None.ensures)
    ∙ ap Ok (sym c.in_ok-add_syzygy-in-None.ensures.state)

pub returns-in-Some-clause-gives : goal.returns-in-Some-clause-gives
returns-in-Some-clause-gives g c =
    let s = g.R.OreRing.sig c.args.ring.now in
    let u : Term = record { monomial = c.in-Some.found.1; column = c.in-Some.found.0 } in
    let lead = subst (λ (v : Signature). IsRowLead rationals v.order (sums_of c.args.work.row) u c.in-Some.found.2) c.signature.ensures c.in-Some.ensures in
    subst (Gives run_state c.add_row.result) (sym (remainder_some s (run_state c.args.progress) c.args.i c.args.j (work_of c.args.work) u (row_lead_from rationals s.order (sums_of c.args.work.row) u c.in-Some.found.2 lead))) (c.add_row.ensures.gives u lead)
