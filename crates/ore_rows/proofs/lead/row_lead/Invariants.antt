use Rattle.std.proofs.Common.{take}
use Rattle.ore_rows.specs.LeadFound.{IsLeadFound}
use Rattle.ore_rows.proofs.lead.row_lead.Given as goal

abbrev pub invariant-loop-k : goal.invariant-loop-k
invariant-loop-k l = IsLeadFound l.sig.order (take l.k l.row) l.found
