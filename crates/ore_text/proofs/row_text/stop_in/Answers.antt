use Rattle.ore_text.specs.RowParts.{is_stop}
use Rattle.ore_text.proofs.RowEntries.{place_past}
use Rattle.std.proofs.Common.{sym, ◌∙◌}
use Rattle.ore_text.proofs.row_text.stop_in.Goals as goal

pub returns-in-None : goal.returns-in-None
returns-in-None c = place_past is_stop c.args.text.now (sym c.place_of_stop.ensures ∙ c.in-None.is)
