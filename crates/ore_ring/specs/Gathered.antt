-- Terms that are gathered in a map, whose keys are ordered as the monomials are.
--     keyed        the entries of rising terms
--     drained      the terms from the greatest down, without those whose number is none
use Rattle.std.specs.Prelude.{ℕ, List, [], ◌∷◌, ◌++◌, map}
use Rattle.ore_monomial.specs.declared.order.Order.{Order}
use Rattle.ore_monomial.specs.Monomial.{rank}
use Rattle.ore_ring.specs.Terms.{Summand, Terms}
use Rattle.ore_ring.specs.Merge.{kept}

abbrev pub keyed : Order → Terms → List (List ℕ × Summand)
keyed o ts = map (λ t. (rank o t.0, t)) ts

abbrev pub drained : Terms → Terms
drained [] = []
drained (t ∷ ts) = drained ts ++ kept t.0 t.1 []
