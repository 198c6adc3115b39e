-- Limits of an arithmetic, and operations that stop at them.
--     Cause                 why an operation stops
--     Limits                the greatest magnitude and the greatest degree, each where there is one
--     program, unlimited    the limits of the program; no limits
--     is_within             a number is no greater than a limit
--     guard            the value where a test passes, else the cause
--     fold_within           a list one after another, from a state, as far as each step goes on
--     map_within            each item of a list in order
--     IsAtMost              an operation under tighter limits: where it gives a value, the other gives the same
use Rattle.std.specs.Prelude.{◌≡◌, ℕ, Bool, true, cond, nat_le, List, [], ◌∷◌}
use Rattle.std.specs.declared.option.Option.{Option}
use Rattle.std.specs.declared.option.Option.TheVariants.{None, Some}
use Rattle.std.specs.declared.result.Result.{Result}
use Rattle.std.specs.declared.result.Result.TheVariants.{Ok, Err}
pub use Rattle.ore_algebra.specs.Results.{◌>>=◌, fronted}

pub data Cause : Type 0 where
  Overflow : Cause
  Degree : Cause

pub record Limits : Type 0 where
  pub magnitude : Option ℕ
  pub degree : Option ℕ

-- 2^127 - 1 and 32,767
abbrev pub program : Limits
program = record { magnitude = Some 170141183460469231731687303715884105727; degree = Some 32767 }

abbrev pub unlimited : Limits
unlimited = record { magnitude = None; degree = None }

abbrev pub is_within : Option ℕ → ℕ → Bool
is_within None n = true
is_within (Some most) n = nat_le n most

abbrev pub guard : {A : Type 0} → Bool → A → Cause → Result A Cause
guard b x e = cond b (Ok x) (Err e)

abbrev pub fold_within : {A S : Type 0} → (S → A → Result S Cause) → S → List A → Result S Cause
fold_within step s [] = Ok s
fold_within step s (x ∷ xs) = do
  t ← step s x
  fold_within step t xs

abbrev pub map_within : {A B : Type 0} → (A → Result B Cause) → List A → Result (List B) Cause
map_within f [] = Ok []
map_within f (x ∷ xs) = do
  y ← f x
  ys ← map_within f xs
  Ok (y ∷ ys)

-- the first goes as far as the second, and no further: a value of the first is the second's value
abbrev pub IsAtMost : {A : Type 0} → Result A Cause → Result A Cause → Type 0
IsAtMost (Ok x) r = r ≡ Ok x
IsAtMost (Err e) r = Unit {0}
