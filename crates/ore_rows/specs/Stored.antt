-- What contracts see of stored rows and matrices: their entries are operators beside the order of their terms.
--     OperatorMatrix        a number of columns, and rows
--     IsZeroRow             each entry is zero
--     HasColumns            each row has one entry a column
--     sums_of, rows_of      a row, and the rows of a matrix, of plain operators: what the laws speak of
--     places                the operators at one place of some rows
--     row_code, matrix_code     codes of these values as lists of numbers
use Rattle.std.specs.Prelude.{◌≡◌, ℕ, List, map, length, get_or, refl}
use Rattle.std.specs.List.{All}
use Rattle.std.specs.Coded.{Coded, coded×, coded_list, coded_ℕ, code_by}
use Rattle.ore_algebra.specs.Free.{empty_sum}
use Rattle.ore_rational.specs.Field.{rationals}
use Rattle.ore_monomial.specs.Monomial.{plain_cmp}
use Rattle.ore_ring.specs.Ordered.{Ordered, ordered_code}
use Rattle.ore_rows.specs.Rows.{Row}

-- the number of columns, also where there is no row, and the rows in order, each the list of its entries
pub record OperatorMatrix : Type 0 where
  pub cols : ℕ
  pub rows : List (List Ordered)

-- each entry is the operator zero
abbrev pub IsZeroRow : List Ordered → Type 0
IsZeroRow r = All (λ f. f.sum ≡ empty_sum rationals plain_cmp) r

-- each row has n entries
abbrev pub HasColumns : ℕ → List (List Ordered) → Type 0
HasColumns n rows = All (λ r. length r ≡ n) rows

-- the operators of a row, without their orders
abbrev pub sums_of : List Ordered → Row rationals
sums_of r = map (λ f. f.sum) r

-- the rows of a matrix, without the orders
abbrev pub rows_of : OperatorMatrix → List (Row rationals)
rows_of m = map sums_of m.rows

-- the operators at place j of some rows, zero where a row is too short
abbrev pub places : ℕ → List (List Ordered) → Row rationals
places j rows = map (λ r. get_or r j (empty_sum rationals plain_cmp)) (map sums_of rows)

-- ---- codes

-- the codes of the entries, in order
abbrev pub row_code : Coded (List Ordered)
row_code = coded_list ordered_code

-- the number of columns beside the codes of the rows, in order
abbrev pub matrix_code : Coded OperatorMatrix
matrix_code = code_by (ℕ × List (List Ordered)) (coded× coded_ℕ (coded_list row_code)) (λ m. (m.cols, m.rows)) (λ p. record { cols = p.0; rows = p.1 }) (λ _. refl)
