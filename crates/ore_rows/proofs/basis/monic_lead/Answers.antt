use Rattle.std.proofs.Common.{subst}
use Rattle.ore_rational.specs.Field.{rationals}
use Rattle.ore_rows.specs.RowLead.{IsRowLead}
use Rattle.ore_rows.specs.Stored.{sums_of}
use Rattle.ore_rows.proofs.RowLeads.{one_row_lead}
use Rattle.ore_rows.proofs.StoredBases.{no_lead_of_zeros}
use Rattle.ore_rows.proofs.basis.monic_lead.Goals as goal

pub unreachable-requires : goal.unreachable-requires
unreachable-requires c = no_lead_of_zeros c.args.sig.now.order c.args.row.now c.requires.monic.0 _ c.in_default.ensures c.requires.monic.1

pub returns : goal.returns
returns c =
    let one = (one_row_lead rationals c.args.sig.now.order (sums_of c.args.row.now) _ _ _ _ c.in-Some.ensures c.requires.monic.1).1 in
    subst (IsRowLead rationals c.args.sig.now.order (sums_of c.args.row.now) _) one c.in-Some.ensures
