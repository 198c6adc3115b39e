-- What a chooser is shown of a basis.
--     BasisLeads            the order of monomials, where there is a row, and the leads in order
--     order_of              the order of the operators of a basis; none where it has no row
--     basis_leads           what is shown of a basis
--     no_leads              nothing, as before a run has asked
--     BeginsWithLeads       a basis begins with the leads that were shown, by the same order
--     order_in              the order of the first entry of the first row of a list
use Rattle.std.specs.Prelude.{◌≡◌, ◌≢◌, List, [], ◌∷◌}
use Rattle.std.specs.declared.option.Option.{Option}
use Rattle.std.specs.declared.option.Option.TheVariants.{None, Some}
use Rattle.ore_algebra.specs.Lists.{BeginsWith}
use Rattle.ore_monomial.specs.Term.{Term}
use Rattle.ore_monomial.specs.declared.order.Order.{Order}
use Rattle.ore_ring.specs.Ordered.{Ordered}
use Rattle.ore_rows.specs.Reduction.{BasisRow, leads_of}
use Rattle.ore_rows.specs.StoredBasis.{StoredBasis}

pub record BasisLeads : Type 0 where
  pub order : Option Order
  pub leads : List Term

-- that of the first entry of the first row
abbrev pub order_in : List (BasisRow (List Ordered)) → Option Order
order_in [] = None
order_in (b ∷ bs) = elim b.row [ [] ↦ None | f ∷ fs ↦ Some f.by ]

abbrev pub order_of : StoredBasis → Option Order
order_of basis = order_in basis.items

abbrev pub basis_leads : StoredBasis → BasisLeads
basis_leads basis = record { order = order_of basis; leads = leads_of basis.items }

abbrev pub no_leads : BasisLeads
no_leads = record { order = None; leads = [] }

abbrev pub BeginsWithLeads : BasisLeads → StoredBasis → Type 0
BeginsWithLeads shown basis = BeginsWith (leads_of basis.items) shown.leads × (shown.leads ≢ [] → order_of basis ≡ shown.order)
