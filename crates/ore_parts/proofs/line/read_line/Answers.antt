use Rattle.std.proofs.Common.{inl, inr}
use Rattle.std.proofs.lemmas.Fn.{gave_at}
use Rattle.ore_parts.specs.Formats.{FindsInLine}
use Rattle.ore_parts.proofs.line.read_line.Goals as goal

pub returns-in_default : goal.returns-in_default
unfolding FindsInLine
returns-in_default g c = (c.at-line.ensures, inl c.in_default.ensures.0)

pub returns-in-Some-find : goal.returns-in-Some-find
unfolding FindsInLine
returns-in-Some-find g c = (c.in-Some.words.now, c.in-Some.ensures, gave_at g.F.FnOnce c.find.ensures c.in-Some-find.is)

pub returns-in-None : goal.returns-in-None
unfolding FindsInLine
returns-in-None g c = (c.at-line.ensures, inr (c.in-Some.words.now, c.take.new.self, c.in-Some.ensures, gave_at g.F.FnOnce c.find.ensures c.in-None.is))
