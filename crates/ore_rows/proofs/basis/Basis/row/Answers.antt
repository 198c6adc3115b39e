use Rattle.std.proofs.Common.{◌≡◌, length, refl, arith}
use Rattle.std.proofs.lemmas.Grind.{common_steps}
use Rattle.ore_rows.proofs.StoredBases.{stored_length, part_at, widths_at, lead_at_place}
use Rattle.ore_rows.proofs.basis.Basis.row.Goals as goal

pub index-entry-requires : goal.index-entry-requires
index-entry-requires c = let same : length c.args.self.now.items ≡ length c.self.inside.items.items = stored_length _ _ _ _ _ c.self.invariant c.self.view_is in grind (arith, common_steps)

pub returns-clause-value : goal.returns-clause-value
returns-clause-value c = part_at _ _ _ _ _ c.self.invariant c.self.view_is (λ b. b.row) (λ e. e.row) (λ e t. refl) c.args.k c.index-entry.result.now c.requires c.index-entry.ensures

pub returns-clause-width : goal.returns-clause-width
returns-clause-width c = (widths_at _ _ _ _ _ c.self.invariant c.self.view_is c.args.k c.index-entry.result.now c.requires c.index-entry.ensures).0

pub returns-clause-lead : goal.returns-clause-lead
returns-clause-lead c = lead_at_place _ _ _ _ _ c.self.invariant c.self.view_is c.args.k c.index-entry.result.now c.requires c.index-entry.ensures
