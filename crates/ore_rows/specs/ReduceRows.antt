-- Lead reduction of rows in order, up to the first that leaves a rest.
--     negated             a row with each entry negated
--     Reductions          the rows as combinations, or the first rest that isn't zero
--     reduce_row          one row, from a zero cofactor row
--     reduce_rows_from    the rows from some place on
--     reduce_rows         all rows
use Rattle.std.specs.Prelude.{ℕ, suc, List, [], ◌∷◌, ◌++◌, map}
use Rattle.std.specs.declared.option.Option.TheVariants.{None, Some}
use Rattle.std.specs.declared.result.Result.{Result}
use Rattle.std.specs.declared.result.Result.TheVariants.{Ok}
use Rattle.ore_algebra.specs.Domain.{Domain}
use Rattle.ore_algebra.specs.Free.{scale}
use Rattle.ore_algebra.specs.Limits.{Cause, ◌>>=◌}
use Rattle.ore_monomial.specs.Monomial.{plain_cmp}
use Rattle.ore_monomial.specs.declared.order.Order.{Order}
use Rattle.ore_rows.specs.Rows.{Row, zero_row}
use Rattle.ore_rows.specs.RowLead.{row_lead}
use Rattle.ore_rows.specs.Arithmetic.{Arithmetic}
use Rattle.ore_rows.specs.Reduction.{BasisRow, ReductionState, reduce}

-- the opposite of each entry
abbrev pub negated : (K : Domain) → Row K → Row K
negated K r = map (scale K plain_cmp (K.minus K.one)) r

-- a row of coefficients for each row, which times the matrix of the basis give the row; or the place of the first row of
-- which something is left, and what that is
pub data Reductions (K : Domain) : Type 0 where
  AllReduce : List (Row K) → Reductions K
  LeavesRest : ℕ → ReductionState K → Reductions K

module _ (K : Domain) (o : Order) (A : Arithmetic K) (n : ℕ) (basis : List (BasisRow (Row K))) where
  -- by a basis whose cofactor rows have n entries
  abbrev pub reduce_row : Row K → Result (ReductionState K) Cause
  reduce_row r = reduce K o A basis (record { row = r; cofactor = zero_row K n; steps = [] })

  -- where all rows before place k reduce, and are these combinations
  unfoldable pub reduce_rows_from : ℕ → List (Row K) → List (Row K) → Result (Reductions K) Cause
  reduce_rows_from k combinations [] = Ok (AllReduce combinations)
  reduce_rows_from k combinations (r ∷ rs) = do
    w ← reduce_row r
    elim (row_lead K o w.row) [
      | None ↦ reduce_rows_from (suc k) (combinations ++ negated K w.cofactor ∷ []) rs
      | Some t ↦ Ok (LeavesRest k w)
    ]

  -- where zero remains of a row, its negated cofactor row times the matrix of the basis is the row
  abbrev pub reduce_rows : List (Row K) → Result (Reductions K) Cause
  reduce_rows rows = reduce_rows_from 0 [] rows
