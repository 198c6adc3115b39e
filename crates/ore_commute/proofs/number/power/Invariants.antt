use Rattle.std.proofs.Common.{◌≡◌, ◌<◌, ◌^◌, nat_abs}
use Rattle.ore_algebra.specs.Ring.{power as power_of}
use Rattle.ore_algebra.proofs.Integers.{integers}
use Rattle.ore_commute.proofs.number.power.Given as goal

abbrev pub invariant-loop : goal.invariant-loop
invariant-loop l = (l.value ≡ power_of integers.ring l.fn.h l.counter) × (nat_abs l.value < 2 ^ 127)
