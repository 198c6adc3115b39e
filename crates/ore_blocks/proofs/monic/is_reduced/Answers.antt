use Rattle.std.proofs.Common.{sym, ap, ◌∙◌}
use Rattle.ore_algebra.specs.Limits.{program}
use Rattle.ore_rows.specs.Stored.{sums_of}
use Rattle.ore_blocks.specs.Conditions.{is_none}
use Rattle.ore_blocks.proofs.MonicLeads.{none_is, reduced_none, reduced_some}
use Rattle.ore_blocks.proofs.monic.is_reduced.Goals as goal

pub returns-in-Some : goal.returns-in-Some
returns-in-Some c =
    none_is c.first_divisor.result c.is_none.result c.is_none.ensures
    ∙ ap is_none c.first_divisor.ensures
    ∙ sym (reduced_some program c.args.sig.now c.args.leads.now (sums_of c.args.row.now) (record { monomial = c.in-Some.found.1; column = c.in-Some.found.0 }) c.in-Some.found.2 c.in-Some.ensures)

pub returns-in-None : goal.returns-in-None
returns-in-None c = sym (reduced_none program c.args.sig.now c.args.leads.now c.args.row.now c.in-None.ensures)
