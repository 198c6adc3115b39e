use Rattle.std.proofs.Common.{sym, ◌∙◌}
use Rattle.ore_parts.specs.BlockText.{place}
use Rattle.ore_parts.proofs.Numbers.{behind_places}
use Rattle.ore_parts.proofs.pairs.skip_line_in.Goals as goal

pub returns-in_default-place_in : goal.returns-in_default-place_in
returns-in_default-place_in c i j via hi hj hv e = c.in_default-place_in.ensures via hv (behind_places c.in-Some.i c.in-Some.j i j c.in-Some.rest.now (place via) (sym c.in-Some.ensures.2 ∙ e))
