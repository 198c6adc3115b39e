-- Refusals of operations that stop, and of the calls that hand them on.
--     stopped_refuses      an operation that stops refuses its place
--     judged_at, kept_at   what an operation gives is given at a place, and its value is the same
--     refuses_on           what refuses also refuses what goes on behind it
use Rattle.std.proofs.Common.{◌≡◌, sym, ap, subst}
use Rattle.std.specs.Prelude.{IfOk}
use Rattle.std.specs.declared.result.Result.{Result}
use Rattle.std.specs.declared.result.Result.TheVariants.{Ok, Err}
use Rattle.ore_algebra.specs.Limits.{Cause}
use Rattle.ore_algebra.proofs.ResultLaws.{refused_on}
use Rattle.ore_monomial.specs.Gives.{Fails, Gives}
use Rattle.ore_monomial.specs.declared.stop.RingStop.{RingStop}
use Rattle.ore_monomial.specs.declared.stop.RingStop.TheVariants as stop
use Rattle.ore_blocks.specs.Conditions.{Checked, formed}
use Rattle.ore_algebra.specs.Results.{◌>>=◌}
use Rattle.ore_blocks.specs.Judging.{failing_of, Refuses, Judges, at_place, stopped}
use Rattle.ore_blocks.specs.declared.place.Place.{Place}
use Rattle.ore_blocks.specs.declared.refusal.Refusal.{Refusal}

pub stopped_refuses : {Y : Type 0} (place : Place) (e : RingStop) (given : Result Y Cause) → Fails e given → Refuses (stopped place e) (formed place given)
stopped_refuses place stop.Overflow given h = ap (formed place) h
stopped_refuses place stop.Degree given h = ap (formed place) h
stopped_refuses place stop.Memory given h = tt

pub judged_at : {X Y : Type 0} (place : Place) (view : X → Y) (answer : Result X RingStop) (placed : Result X Refusal) (given : Result Y Cause) → placed ≡ at_place place answer → Gives view answer given → Judges view placed (formed place given)
judged_at place view (Ok x) placed given same h = subst (λ placed. Judges view placed (formed place given)) (sym same) (ap (formed place) h)
judged_at place view (Err e) placed given same h = subst (λ placed. Judges view placed (formed place given)) (sym same) (stopped_refuses place e given h)

pub kept_at : {X : Type 0} (place : Place) (P : X → Type 0) (answer : Result X RingStop) (placed : Result X Refusal) → placed ≡ at_place place answer → IfOk answer P → IfOk placed P
kept_at place P (Ok x) placed same h = subst (λ placed. IfOk placed P) (sym same) h
kept_at place P (Err e) placed same h = subst (λ placed. IfOk placed P) (sym same) tt

pub refuses_on : {X Y : Type 0} (e : Refusal) (given : Checked X) (k : X → Checked Y) → Refuses e given → Refuses e (given >>= k)
refuses_on e = refused_on (Unit {0}) (failing_of e)
