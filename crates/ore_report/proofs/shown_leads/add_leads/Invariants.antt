use Rattle.std.proofs.Common.{◌≡◌, take}
use Rattle.ore_algebra.specs.Lists.{BeginsWith}
use Rattle.ore_rows.specs.Reduction.{leads_of}
use Rattle.ore_report.proofs.shown_leads.add_leads.Given as goal

abbrev pub invariant-loop-k : goal.invariant-loop-k
invariant-loop-k l = record {
  taken : l.leads ≡ take l.k (leads_of l.basis.items);
  grown : BeginsWith l.leads l.initial.leads;
}
