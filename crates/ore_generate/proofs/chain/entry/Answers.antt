use Rattle.std.proofs.Common.{refl}
use Rattle.ore_rows.proofs.Dots.{zero_belongs}
use Rattle.ore_generate.specs.Chain.{signature}
use Rattle.ore_generate.proofs.chain.entry.Goals as goal

pub returns-clause-of : goal.returns-clause-of
returns-clause-of c = zero_belongs signature _ c.zero.result c.zero.ensures refl
