-- Leads of basis rows.
--     lead_declared      the lead at a place is of the signature
use Rattle.std.proofs.Common.{ℕ, ◌<◌, List, length}
use Rattle.std.specs.List.{All}
use Rattle.ore_monomial.specs.Monomial.{unit}
use Rattle.ore_monomial.specs.Signature.{Signature, MonomialOf}
use Rattle.ore_monomial.specs.Term.{Term}
use Rattle.ore_pairs.specs.Steps.{lead_at}

pub lead_declared : (s : Signature) (leads : List Term) (k : ℕ) → k < length leads → All (λ (t : Term). MonomialOf s t.monomial) leads → MonomialOf s (lead_at leads k).monomial
lead_declared s leads k h a = a k (record { monomial = unit; column = 0 }) h
