use Rattle.std.proofs.Common.{sym, ◌∙◌}
use Rattle.std.specs.Prelude.{decimal}
use Rattle.ore_parts.proofs.Numbers.{behind_places}
use Rattle.ore_parts.proofs.pairs.pair_line_in.Goals as goal

pub returns-in_default-number_in : goal.returns-in_default-number_in
returns-in_default-number_in c i j count hi hj few e = c.in_default-number_in.ensures count few (behind_places c.in-Some.i c.in-Some.j i j c.in-Some.rest.now (decimal count) (sym c.in-Some.ensures.2 ∙ e))
