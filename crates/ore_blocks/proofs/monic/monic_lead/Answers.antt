use Rattle.std.proofs.Common.{sym, ◌∙◌, true≢false}
use Rattle.ore_rational.proofs.Stored.{Decides-fraction_eq}
use Rattle.ore_rows.specs.Stored.{sums_of}
use Rattle.ore_rows.proofs.BasisParts.{lead_of_signature}
use Rattle.ore_blocks.proofs.MonicLeads.{monic_lead-none, monic_lead-one, monic_lead-other}
use Rattle.ore_blocks.proofs.monic.monic_lead.Goals as goal

pub returns-in_default-clause-lead : goal.returns-in_default-clause-lead
returns-in_default-clause-lead c = sym (monic_lead-none c.args.sig.now.order c.args.row.now c.in_default.ensures)

pub returns-then-eq-clause-lead : goal.returns-then-eq-clause-lead
returns-then-eq-clause-lead c = sym (monic_lead-one c.args.sig.now.order (sums_of c.args.row.now) (record { monomial = c.in-Some.found.1; column = c.in-Some.found.0 }) c.in-Some.found.2 c.in-Some.ensures ((Decides-fraction_eq c.in-Some.found.2 c.one.result).0 (sym (c.if-eq.ensures {u = tt})) ∙ c.one.ensures))

pub returns-then-eq-clause-of : goal.returns-then-eq-clause-of
returns-then-eq-clause-of c = lead_of_signature c.args.sig.now c.args.row.now (record { monomial = c.in-Some.found.1; column = c.in-Some.found.0 }) c.in-Some.found.2 c.requires c.in-Some.ensures

pub returns-else-eq-clause-lead : goal.returns-else-eq-clause-lead
returns-else-eq-clause-lead c = sym (monic_lead-other c.args.sig.now.order (sums_of c.args.row.now) (record { monomial = c.in-Some.found.1; column = c.in-Some.found.0 }) c.in-Some.found.2 c.in-Some.ensures (λ e. true≢false (sym ((Decides-fraction_eq c.in-Some.found.2 c.one.result).1 (e ∙ sym c.one.ensures)) ∙ sym (c.if-eq.ensures {u = tt}))))
