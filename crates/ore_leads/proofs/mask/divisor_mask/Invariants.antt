use Rattle.std.proofs.Common.{◌≡◌, ◌<◌, ◌↔◌, ℕ, slice_index_or}
use Rattle.std.specs.Int.{bit_at}
use Rattle.ore_monomial.specs.Monomial.{unit}
use Rattle.ore_leads.proofs.Masks.{AtMostBefore}
use Rattle.ore_leads.proofs.mask.divisor_mask.Given as goal

abbrev pub invariant-loop-variable : goal.invariant-loop-variable
invariant-loop-variable l = (k : ℕ) → k < 8 → (bit_at l.mask k ≡ 1) ↔ AtMostBefore l.variable (slice_index_or l.leads k unit) l.exps
