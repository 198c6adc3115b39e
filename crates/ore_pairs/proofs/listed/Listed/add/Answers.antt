use Rattle.std.proofs.Common.{◌∷◌, subst}
use Rattle.ore_pairs.specs.PairRule.{HaveSamePairs}
use Rattle.ore_pairs.proofs.StoredPairs.{added_listed, one_ordered}
use Rattle.ore_pairs.proofs.listed.Listed.add.Goals as goal

pub returns-clause-added : goal.returns-clause-added
returns-clause-added c = subst (λ ps. HaveSamePairs c.insert.new.self.keys ((c.args.i, c.args.j) ∷ ps)) c.self.view_is (added_listed c.args.i c.args.j c.self.inside.pairs.keys c.insert.new.self.keys c.in_ok-insert.ensures.updates.0)

pub invariant_of-self-2 : goal.invariant_of-self-2
invariant_of-self-2 c =
    one_ordered c.args.i c.args.j c.self.inside.pairs.keys c.insert.new.self.keys c.requires (added_listed c.args.i c.args.j c.self.inside.pairs.keys c.insert.new.self.keys c.in_ok-insert.ensures.updates.0) c.self.invariant
