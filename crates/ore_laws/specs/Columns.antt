-- Columns that tell a row from the rows of a matrix.
--     IsTakenToZeros     each row of a matrix times a column is zero
--     Separates          a column of the signature is taken to zeros by a matrix, and not by a row
--     HasNonzeroFirst    one of some rows has a first entry that isn't zero
use Rattle.std.specs.Prelude.{◌≡◌, ◌≢◌, ℕ, ◌<◌, List, [], length, get_or}
use Rattle.std.specs.List.{AllByRecursion}
use Rattle.ore_algebra.specs.Domain.{Domain}
use Rattle.ore_algebra.specs.Free.{empty_sum}
use Rattle.ore_monomial.specs.Monomial.{plain_cmp}
use Rattle.ore_monomial.specs.Signature.{Signature}
use Rattle.ore_rows.specs.Rows.{Row, RowOf, dot}

module _ (K : Domain) (s : Signature) where
  -- each row of a takes the column v to zero
  abbrev pub IsTakenToZeros : List (Row K) → Row K → Type 0
  IsTakenToZeros a v = AllByRecursion (λ r. dot K s r v ≡ empty_sum K plain_cmp) a

  -- the rows of a, of n entries, take the column v to zero, and the row z doesn't
  pub record Separates (n : ℕ) (a : List (Row K)) (z v : Row K) : Type 0 where
    pub long : length v ≡ n
    pub of : RowOf K s v
    pub zeros : IsTakenToZeros a v
    pub apart : dot K s z v ≢ empty_sum K plain_cmp

-- the row at some place, and its entry at the place 0
abbrev pub HasNonzeroFirst : (K : Domain) → List (Row K) → Type 0
HasNonzeroFirst K rows = (k : ℕ) × (k < length rows) × (get_or (get_or rows k []) 0 (empty_sum K plain_cmp) ≢ empty_sum K plain_cmp)
