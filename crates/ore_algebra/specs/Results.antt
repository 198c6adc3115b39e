-- Values or refusals, and what a call answers where a definition gives one or the other.
--     ◌>>=◌         go on with the value, or keep the refusal
--     fronted       the items with a front before them
--     IsRefusal     a definition refuses by this; where a call names none, something else holds
--     RefusedBy     a call that refused did as the definition says, by what its refusal means
--     GivesBy       a call that returned a value or refused did as the definition says
use Rattle.std.specs.Prelude.{◌≡◌, List, ◌++◌}
use Rattle.std.specs.declared.option.Option.{Option}
use Rattle.std.specs.declared.option.Option.TheVariants.{None, Some}
use Rattle.std.specs.declared.result.Result.{Result}
use Rattle.std.specs.declared.result.Result.TheVariants.{Ok, Err}

infixl 10 ◌>>=◌
abbrev pub ◌>>=◌ : {E A B : Type 0} → Result A E → (A → Result B E) → Result B E
(Ok x) >>= f = f x
(Err e) >>= f = Err e

abbrev pub fronted : {E B : Type 0} → List B → Result (List B) E → Result (List B) E
fronted front r = r >>= λ ys. Ok (front ++ ys)

-- the definition has this refusal; where none is named, as for want of memory, nothing is said of the definition
abbrev pub IsRefusal : {E Y : Type 0} → Type 0 → Option E → Result Y E → Type 0
IsRefusal otherwise (Some e) given = given ≡ Err e
IsRefusal otherwise None given = otherwise

-- what the refusal of the call means is the refusal of the definition
abbrev pub RefusedBy : {C E Y : Type 0} → (C → Option E) → C → Result Y E → Type 0
RefusedBy meaning refusal given = IsRefusal (Unit {0}) (meaning refusal) given

-- the view of the value is what the definition gives, or the call refused as the definition allows
abbrev pub GivesBy : {C E X Y : Type 0} → (C → Result Y E → Type 0) → (X → Y) → Result X C → Result Y E → Type 0
GivesBy refuses view (Ok x) given = given ≡ Ok (view x)
GivesBy refuses view (Err c) given = refuses c given
