-- The exit of a `?` that hands a stop on.
--     fails_like       where one definition stops with the cause of another, a call that fails like the one fails like the other
use Rattle.std.proofs.Common.{◌≡◌}
use Rattle.std.specs.declared.result.Result.{Result}
use Rattle.std.specs.declared.result.Result.TheVariants.{Err}
use Rattle.ore_algebra.specs.Limits.{Cause}
use Rattle.ore_algebra.proofs.ResultLaws.{refused_like}
use Rattle.ore_monomial.specs.declared.stop.RingStop.{RingStop}
use Rattle.ore_monomial.specs.Gives.{cause_of, Fails}

pub fails_like : {X Y : Type 0} (e : RingStop) (r : Result X Cause) (s : Result Y Cause) → ((c : Cause) → r ≡ Err c → s ≡ Err c) → Fails e r → Fails e s
fails_like e = refused_like (Unit {0}) (cause_of e)
