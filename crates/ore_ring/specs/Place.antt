-- Places among falling terms.
--     IsOver       each term before a place is above a monomial
--     IsNotOver    no term from a place on is
use Rattle.std.specs.Prelude.{◌≡◌, ◌≢◌, ℕ, ◌<◌, ◌≤◌, length, get_or}
use Rattle.std.specs.declared.cmp.Ordering.TheVariants.{Less}
use Rattle.ore_monomial.specs.Monomial.{Monomial, order_cmp}
use Rattle.ore_monomial.specs.declared.order.Order.{Order}
use Rattle.ore_ring.specs.Terms.{Summand, Terms}

-- every term before k is above m
abbrev pub IsOver : Order → Monomial → Terms → ℕ → Type 0
IsOver o m ts k = (i : ℕ) (d : Summand) → i < k → i < length ts → order_cmp o m (get_or ts i d).0 ≡ Less

-- no term from k on is above m
abbrev pub IsNotOver : Order → Monomial → Terms → ℕ → Type 0
IsNotOver o m ts k = (i : ℕ) (d : Summand) → k ≤ i → i < length ts → order_cmp o m (get_or ts i d).0 ≢ Less
