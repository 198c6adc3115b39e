use Rattle.std.proofs.Common.{ap, ◌∙◌}
use Rattle.ore_pairs.specs.PairRule.{is_listed}
use Rattle.ore_pairs.proofs.StoredPairs.{found_listed}
use Rattle.ore_pairs.proofs.listed.Listed.has.Goals as goal

pub returns : goal.returns
returns c = c.contains.ensures ∙ found_listed c.args.i c.args.j _ ∙ ap (is_listed c.args.i c.args.j) c.self.view_is
