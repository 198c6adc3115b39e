-- What contracts see of a stored basis: rows and cofactor rows beside their leads.
--     StoredBasis             the numbers of columns and of cofactors, and the basis rows
--     monic_of, monics        a basis row, and all of them, of plain operators: what the definitions of reduction
--                             speak of
--     HaveWidths              each row has one entry a column, and each cofactor row its number of entries
--     BasisBelongs            each entry belongs to a signature
--     HasLead, HaveLeads      a term is the lead of a row by the order that its entries carry, with the coefficient 1;
--                             the noted lead of each row is
--     with_leads              rows and cofactor rows, each beside its lead
--     IsStoredBasis           there is a lead for each row, which is its lead, and the rows have their widths
--     monic_code, basis_code  codes of a basis row and of a basis as lists of numbers
use Rattle.std.specs.Prelude.{◌≡◌, ℕ, List, map, length, refl}
use Rattle.std.specs.List.{All, zip}
use Rattle.std.specs.Coded.{Coded, coded×, coded_list, coded_ℕ, code_by}
use Rattle.ore_rational.specs.Field.{rationals}
use Rattle.ore_monomial.specs.Monomial.{Monomial}
use Rattle.ore_monomial.specs.MonomialCode.{monomial_code}
use Rattle.ore_monomial.specs.declared.order.Order.{Order}
use Rattle.ore_monomial.specs.Signature.{Signature}
use Rattle.ore_monomial.specs.Term.{Term}
use Rattle.ore_ring.specs.Ordered.{Ordered}
use Rattle.ore_ring.specs.Belongs.{Belongs}
use Rattle.ore_rows.specs.Rows.{Row}
use Rattle.ore_rows.specs.Reduction.{BasisRow}
use Rattle.ore_rows.specs.RowLead.{IsRowLead}
use Rattle.ore_rows.specs.Stored.{sums_of, row_code}
use Rattle.ore_rows.specs.declared.basis.BasisEntry.{BasisEntry}

-- the numbers of entries of a row and of a cofactor row, and the basis rows in order
pub record StoredBasis : Type 0 where
  pub cols : ℕ
  pub width : ℕ
  pub items : List (BasisRow (List Ordered))

-- a basis row without the orders
abbrev pub monic_of : BasisRow (List Ordered) → BasisRow (Row rationals)
monic_of b = record { row = sums_of b.row; cofactor = sums_of b.cofactor; lead = b.lead }

-- the basis rows, without the orders
abbrev pub monics : StoredBasis → List (BasisRow (Row rationals))
monics b = map monic_of b.items

-- a row has n entries, and its cofactor row m
abbrev pub HaveWidths : ℕ → ℕ → List (BasisRow (List Ordered)) → Type 0
HaveWidths n m items = All (λ b. (length b.row ≡ n) × (length b.cofactor ≡ m)) items

-- each entry of a row and of a cofactor row belongs to the signature
abbrev pub BasisBelongs : Signature → List (BasisRow (List Ordered)) → Type 0
BasisBelongs s items = All (λ b. All (Belongs s) b.row × All (Belongs s) b.cofactor) items

-- each entry of the row carries one order, and by that order t is the lead of the row, with the coefficient 1
pub record HasLead (row : List Ordered) (t : Term) : Type 0 where
  pub order : Order
  pub carried : All (λ f. f.by ≡ order) row
  pub lead : IsRowLead rationals order (sums_of row) t rationals.one

-- the noted lead of each row is its lead
abbrev pub HaveLeads : List (BasisRow (List Ordered)) → Type 0
HaveLeads items = All (λ b. HasLead b.row b.lead) items

-- ---- how it is stored

-- each row and its cofactor row with the lead at their place
abbrev pub with_leads : List BasisEntry → List Term → List (BasisRow (List Ordered))
with_leads rows leads = map (λ p. record { row = p.0.row; cofactor = p.0.cofactor; lead = p.1 }) (zip rows leads)

-- there are as many leads as rows, each the lead of its row; rows have cols entries, cofactor rows width entries
pub record IsStoredBasis (cols width : ℕ) (rows : List BasisEntry) (leads : List Term) : Type 0 where
  pub long : length leads ≡ length rows
  pub widths : All (λ e. (length e.row ≡ cols) × (length e.cofactor ≡ width)) rows
  pub monic : HaveLeads (with_leads rows leads)

-- the codes of the row and of its cofactor row, beside the monomial and the column of the lead
abbrev pub monic_code : Coded (BasisRow (List Ordered))
monic_code = code_by ((List Ordered × List Ordered) × (Monomial × ℕ)) (coded× (coded× row_code row_code) (coded× monomial_code coded_ℕ)) (λ b. ((b.row, b.cofactor), (b.lead.monomial, b.lead.column))) (λ p. record { row = p.0.0; cofactor = p.0.1; lead = record { monomial = p.1.0; column = p.1.1 } }) (λ _. refl)

-- both numbers of entries, beside the codes of the basis rows in order
abbrev pub basis_code : Coded StoredBasis
basis_code = code_by ((ℕ × ℕ) × List (BasisRow (List Ordered))) (coded× (coded× coded_ℕ coded_ℕ) (coded_list monic_code)) (λ b. ((b.cols, b.width), b.items)) (λ p. record { cols = p.0.0; width = p.0.1; items = p.1 }) (λ _. refl)
