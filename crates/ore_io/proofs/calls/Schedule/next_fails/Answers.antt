-- Where the count of calls stands at the greatest u64, no u64 is the number of the next call.
use Rattle.std.proofs.Common.{◌≡◌, ℕ, ◌+◌, ◌<◌, ◌^◌, List, subst}
use Rattle.std.specs.Prelude.{All, Contains}
use Rattle.std.proofs.lemmas.List.Elements.{All-contains}
use Rattle.ore_io.specs.Calls.{Calls, next_call}
use Rattle.ore_io.proofs.calls.Schedule.next_fails.Goals as goal

next_call-not_listed : (failing : List ℕ) (made : ℕ) (calls : Calls) → let inside : Calls = record { failing = failing; made = made } in
    inside ≡ calls → All (λ number. number < 2 ^ 64) failing → (made + 1 < 2 ^ 64 → ⊥) → Contains calls.failing (next_call calls) → ⊥
next_call-not_listed failing made calls same all_fit past_end =
    let IsUnlisted : Calls → Type 0 = λ c. Contains c.failing (next_call c) → ⊥ in
    subst IsUnlisted same (λ listed. past_end (All-contains (λ number. number < 2 ^ 64) failing (made + 1) all_fit listed))

pub returns-in-None-clause-fails : goal.returns-in-None-clause-fails
returns-in-None-clause-fails c =
    let unlisted = next_call-not_listed c.self.inside.failing.items c.self.inside.made c.args.self.now c.self.view_is c.self.invariant c.in-None.ensures in
    (λ never. cc, λ listed. absurd (unlisted listed))
