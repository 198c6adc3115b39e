use Rattle.std.proofs.Common.{◌≤◌, ◌-◌, length}
use Rattle.ore_ring.specs.Place.{IsOver}
use Rattle.ore_ring.specs.Place.{IsNotOver}
use Rattle.ore_ring.proofs.place.place_among.Given as goal

abbrev pub invariant-loop-low : goal.invariant-loop-low
invariant-loop-low l = record {
  between : l.low ≤ l.high;
  within : l.high ≤ length l.terms;
  over : IsOver l.order l.exps l.terms l.low;
  rest : IsNotOver l.order l.exps l.terms l.high;
}

abbrev pub decreases-loop-low : goal.decreases-loop-low
decreases-loop-low l = l.high - l.low
