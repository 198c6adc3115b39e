use Rattle.std.proofs.Common.{◌∙◌, ap, ap₂, false}
use Rattle.ore_monomial.specs.Term.{Term}
use Rattle.ore_pairs.proofs.StoredPairs.{lead_read}
use Rattle.ore_monomial.specs.Monomial.{rank}
use Rattle.ore_report.proofs.Places.{within_is, past_is}
use Rattle.ore_report.proofs.queue.place_of.Goals as goal

pub returns-in-Ok : goal.returns-in-Ok
returns-in-Ok c =
    let leads = c.args.leads.now in
    let ok = c.in-Ok.ensures in
    let lead = lead_read leads c.args.i _ c.get.ensures in
    ap₂ (λ numbers column. record { past = false; rank = numbers; column = record { 0 = column }; first = c.args.i; second = c.args.j }) (c.rank.ensures ∙ ap (rank c.args.order) ok.1) (ap (λ (t : Term). t.column) lead)
    ∙ within_is c.args.order leads c.args.i c.args.j ok.0

pub returns-in-Err : goal.returns-in-Err
returns-in-Err c = past_is c.args.order c.args.leads.now c.args.i c.args.j c.in-Err.ensures
