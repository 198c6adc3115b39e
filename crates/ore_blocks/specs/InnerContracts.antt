-- What the contracts of inner functions speak of, beside the conditions.
--     lead_of                a lead, where one was found, as a term
--     remainder_of           what is left of a row, which stands for itself before the first step
--     FitsLeads              the rows of a treated pair and of its steps are there, and its common multiple fits
--     count_at               how many leads a map counts in a column
use Rattle.std.specs.Prelude.{ℕ, ◌<◌, ◌≤◌, List, length}
use Rattle.std.specs.BTreeMap.{BTreeMap, get}
use Rattle.std.specs.Option.{unwrap_or}
use Rattle.std.specs.Ordering.{nat_cmp}
use Rattle.std.specs.List.{All}
use Rattle.std.specs.declared.option.Option.{Option}
use Rattle.std.specs.declared.option.Option.TheVariants.{None, Some}
use Rattle.ore_monomial.specs.Monomial.{Monomial, degree}
use Rattle.ore_monomial.specs.Term.{Term}
use Rattle.ore_ring.specs.Ordered.{Ordered}
use Rattle.ore_pairs.specs.Steps.{lcm_of_leads}
use Rattle.ore_parts.specs.declared.block.PairEntry.{PairEntry}
use Rattle.ore_parts.specs.declared.block.PairEntry.TheVariants.{Pair, Skip}

-- a column and a monomial as a term
abbrev pub lead_of : Option (ℕ × Monomial) → Option Term
lead_of None = None
lead_of (Some t) = Some (record { monomial = t.1; column = t.0 })

-- the row that steps left, or w where no step was taken
abbrev pub remainder_of : Option (List Ordered) → List Ordered → List Ordered
remainder_of None w = w
remainder_of (Some r) w = r

-- a pair of basis rows with these leads, whose common multiple may be formed, and whose steps name basis rows
abbrev pub FitsLeads : List Term → PairEntry → Type 0
FitsLeads leads (Pair i j steps) = (i < j) × (j < length leads) × (degree (lcm_of_leads leads i j).monomial ≤ 32767) × All (λ t. t.index < length leads) steps
FitsLeads leads (Skip i j via) = i < j

-- how many leads a map counts in a column
abbrev pub count_at : BTreeMap ℕ ℕ → ℕ → ℕ
count_at counts column = unwrap_or (get nat_cmp counts column) 0
