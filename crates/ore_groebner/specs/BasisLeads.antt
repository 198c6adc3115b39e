-- What a chooser is shown of a basis: it stands where rules do.
--     BasisLeads, order_in, order_of, basis_leads, no_leads, BeginsWithLeads  the words of ore_rows
use Rattle.ore_algebra.specs.Lists.{BeginsWith}
pub use Rattle.ore_rows.specs.BasisLeads.{BasisLeads, order_in, order_of, basis_leads, no_leads, BeginsWithLeads}
