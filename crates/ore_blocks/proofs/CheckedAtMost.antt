-- Places within limits give what they give without, or an operation stops: for each way to put them together.
--     most_same                  what doesn't look at the limits
--     most_checked               an operation at a place
--     most_then, most_behind     two steps after each other; of which the first doesn't look at the limits
--     passes_or_stops            so what gives a value without limits gives it within, or stops
--     value_without              and a value within limits is the value without
use Rattle.std.proofs.Common.{◌≡◌, ◌⊎◌, inl, inr, refl, sym, ap, ◌∙◌}
use Rattle.std.specs.declared.result.Result.{Result}
use Rattle.std.specs.declared.result.Result.TheVariants.{Ok, Err}
use Rattle.ore_algebra.specs.Limits.{Cause, IsAtMost}
use Rattle.ore_blocks.specs.declared.place.Place.{Place}
use Rattle.ore_blocks.specs.Conditions.{Checked, Stops, formed}
use Rattle.ore_algebra.specs.Results.{◌>>=◌}
use Rattle.ore_blocks.specs.WithinLimits.{IsStopped, IsCheckedAtMost}

pub most_same : {A : Type 0} (given : Checked A) → IsCheckedAtMost given given
most_same given = inl refl

pub most_checked : {A : Type 0} (place : Place) (r t : Result A Cause) → IsAtMost r t → IsCheckedAtMost (formed place r) (formed place t)
most_checked place (Ok x) t h = inl (ap (formed place) (sym h))
most_checked place (Err cause) t h = inr (place, cause, refl)

module _ {A B : Type 0} where
  pub most_then : (given unlimited : Checked A) (f g : A → Checked B) → IsCheckedAtMost given unlimited → ((x : A) → IsCheckedAtMost (f x) (g x)) → IsCheckedAtMost (given >>= f) (unlimited >>= g)
  most_then (Ok x) unlimited f g (inl e) k = by (k x)
    where
      by : IsCheckedAtMost (f x) (g x) → IsCheckedAtMost (f x) (unlimited >>= g)
      by (inl same) = inl (same ∙ ap (λ t. t >>= g) e)
      by (inr stopped) = inr stopped
  most_then (Ok x) unlimited f g (inr (place, cause, e)) k = absurd cc
  most_then (Err failing) unlimited f g (inl e) k = inl (ap (λ t. t >>= g) e)
  most_then (Err failing) unlimited f g (inr (place, cause, e)) k = inr (place, cause, ap (λ t. t >>= f) e)

  pub most_behind : (given : Checked A) (f g : A → Checked B) → ((x : A) → IsCheckedAtMost (f x) (g x)) → IsCheckedAtMost (given >>= f) (given >>= g)
  most_behind given f g k = most_then given given f g (inl refl) k

pub passes_or_stops : {A : Type 0} (given unlimited : Checked A) (x : A) → IsCheckedAtMost given unlimited → unlimited ≡ Ok x → (given ≡ Ok x) ⊎ IsStopped given
passes_or_stops given unlimited x (inl same) e = inl (same ∙ e)
passes_or_stops given unlimited x (inr stopped) e = inr stopped

pub value_without : {A : Type 0} (given unlimited : Checked A) (x : A) → IsCheckedAtMost given unlimited → given ≡ Ok x → unlimited ≡ Ok x
value_without given unlimited x (inl same) e = sym same ∙ e
value_without given unlimited x (inr (place, cause, stopped)) e = let apart : ◌≡◌ {A = Checked _} (Err (record { place = place; trouble = Stops cause })) (Ok x) = sym stopped ∙ e in absurd cc
