use Rattle.std.proofs.Common.{sym, ap, ◌∙◌}
use Rattle.ore_rows.specs.Reduction.{leads_of}
use Rattle.ore_rows.proofs.StoredBases.{leads-with_leads}
use Rattle.ore_rows.proofs.basis.Basis.leads.Goals as goal

pub returns : goal.returns
returns c = sym (leads-with_leads c.self.inside.items.items c.self.inside.leads c.self.invariant.long) ∙ ap (λ b. leads_of b.items) c.self.view_is
