-- A stop of an operation, as the halt of a run.
--     halt_of     why a run halts where an operation stops
use Rattle.ore_monomial.specs.declared.stop.RingStop.{RingStop}
use Rattle.ore_monomial.specs.declared.stop.RingStop.TheVariants as stop
use Rattle.ore_groebner.specs.declared.outcome.Halt.{Halt}
use Rattle.ore_groebner.specs.declared.outcome.Halt.TheVariants as halt
use Rattle.ore_groebner.specs.declared.outcome.StopAt.{StopAt}

-- an overflow and a passed degree keep the place, and want of memory has none
abbrev pub halt_of : RingStop → StopAt → Halt
halt_of stop.Overflow place = halt.Overflow place
halt_of stop.Degree place = halt.Degree place
halt_of stop.Memory place = halt.Memory
