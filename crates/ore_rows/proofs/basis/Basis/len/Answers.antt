use Rattle.std.proofs.Common.{◌≡◌, length, arith}
use Rattle.std.proofs.lemmas.Grind.{common_steps}
use Rattle.ore_rows.proofs.StoredBases.{stored_length}
use Rattle.ore_rows.proofs.basis.Basis.len.Goals as goal

pub returns-clause-value : goal.returns-clause-value
returns-clause-value c = let same : length c.args.self.now.items ≡ length c.self.inside.items.items = stored_length _ _ _ _ _ c.self.invariant c.self.view_is in grind (arith, common_steps)
