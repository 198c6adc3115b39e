use Rattle.std.proofs.Common.{subst}
use Rattle.ore_rows.specs.StoredBasis.{HaveLeads, HaveWidths}
use Rattle.ore_rows.proofs.StoredBases.{widths-with_leads}
use Rattle.ore_rows.proofs.basis.Basis.cols.Goals as goal

pub returns-clause-widths : goal.returns-clause-widths
returns-clause-widths c = subst (λ b. HaveWidths b.cols b.width b.items) c.self.view_is (widths-with_leads c.self.inside.cols c.self.inside.width c.self.inside.items.items c.self.inside.leads c.self.invariant)

pub returns-clause-leads : goal.returns-clause-leads
returns-clause-leads c = subst (λ b. HaveLeads b.items) c.self.view_is c.self.invariant.monic
