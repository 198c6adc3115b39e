use Rattle.std.proofs.Common.{sym, ◌∙◌, subst}
use Rattle.ore_pairs.specs.Listed.{AreOrdered}
use Rattle.ore_pairs.proofs.StoredPairs.{either_first, either_second}
use Rattle.ore_pairs.proofs.listed.Listed.has_either.Goals as goal

pub returns-then-i-j : goal.returns-then-i-j
returns-then-i-j c = c.has.ensures ∙ either_first c.args.self.now (subst AreOrdered c.self.view_is c.self.invariant) c.args.i c.args.j c.if-i-j.true

pub returns-else-i-j : goal.returns-else-i-j
returns-else-i-j c = c.has-else-i-j.ensures ∙ either_second c.args.self.now (subst AreOrdered c.self.view_is c.self.invariant) c.args.i c.args.j c.if-i-j.false
