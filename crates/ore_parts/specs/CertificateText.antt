-- The texts of matrices: every line ends with the byte 10, words have one space between, and there are no comments.
--     number_bound           numbers are below this
--     matrix_words           the word `matrix`, a name and the sizes, rows before columns
--     named_matrix_text      a line of these, and a line for each row
--     IsRowOf                a row has so many entries, of the signature and in the program's ranges
--     IsWritten              a matrix of such rows, whose sizes are below the bound
use Rattle.std.specs.Prelude.{◌≡◌, ℕ, ◌<◌, ◌^◌, List, [], ◌∷◌, ◌++◌, length, codes, decimal}
use Rattle.std.specs.List.{flat_map, join_with_byte, AllByRecursion}
use Rattle.ore_rational.specs.Field.{rationals}
use Rattle.ore_monomial.specs.declared.order.Order.{Order}
use Rattle.ore_monomial.specs.Signature.{Signature}
use Rattle.ore_text.specs.RowText.{row_text}
use Rattle.ore_text.specs.Printable.{IsPrintable}
use Rattle.ore_rows.specs.Rows.{Row}

-- sizes and counts are below 2^63, and so are places as they are written
abbrev pub number_bound : ℕ
number_bound = 2 ^ 63

-- with one space between, and without the line end
abbrev pub matrix_words : List ℕ → ℕ → ℕ → List ℕ
matrix_words name rows cols = join_with_byte 32 (codes "matrix" ∷ name ∷ decimal rows ∷ decimal cols ∷ [])

-- the sizes on one line, and then each row; the number of columns is given, since there may be no row
abbrev pub named_matrix_text : List ℕ → List (List ℕ) → Order → ℕ → List (Row rationals) → List ℕ
named_matrix_text name names o cols rows = (matrix_words name (length rows) cols ++ 10 ∷ []) ++ flat_map (row_text names o) rows

-- an entry for each of so many columns, each of the signature, with numbers and degrees in the program's ranges
pub record IsRowOf (s : Signature) (names : List (List ℕ)) (cols : ℕ) (row : Row rationals) : Type 0 where
  pub width : length row ≡ cols
  pub entries : AllByRecursion (IsPrintable s names) row

-- both sizes are below 2^63, and each row has as many entries as there are columns
pub record IsWritten (s : Signature) (names : List (List ℕ)) (cols : ℕ) (rows : List (Row rationals)) : Type 0 where
  pub few_rows : length rows < number_bound
  pub few_cols : cols < number_bound
  pub fits : AllByRecursion (IsRowOf s names cols) rows
