use Rattle.std.proofs.Common.{sym, subst}
use Rattle.ore_pairs.specs.Listed.{AreOrdered}
use Rattle.ore_pairs.proofs.StoredPairs.{none_ordered}
use Rattle.ore_pairs.proofs.listed.Listed.new.Goals as goal

pub invariant_of-result : goal.invariant_of-result
invariant_of-result c = subst AreOrdered (sym c.new.ensures.empty) none_ordered
