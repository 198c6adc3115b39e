-- The blocks that a state of a run makes for the matrix of the run.
--     is_origin                       two origins are the same
--     row_from                        the row beside an origin
--     pair_origins, inside_origins    an origin for each treated pair; for each inside row of a block
--     placed                          rows at the places of their origins, and zeros elsewhere
--     exact_of_run, outside_of_run    the blocks
--     from_of                         the rows of the matrix as multiples of the basis rows
use Rattle.std.specs.Prelude.{ℕ, suc, Bool, false, cond, nat_eq, List, [], ◌∷◌, ◌++◌, length, map}
use Rattle.std.specs.List.{range_with_len}
use Rattle.ore_algebra.specs.Domain.{Domain}
use Rattle.ore_monomial.specs.declared.order.Order.{Order}
use Rattle.ore_rows.specs.Rows.{Row, zero_row}
use Rattle.ore_rows.specs.Reduction.{Step, basis_rows, cofactors_of}
use Rattle.ore_rows.specs.declared.choices.Origin.{Origin}
use Rattle.ore_rows.specs.declared.choices.Origin.TheVariants.{ZeroRow, Event}
use Rattle.ore_pairs.specs.PairList.{DealtPair, Pair, Skip}
use Rattle.ore_pairs.specs.Blocks.{ExactBlock, OutsideBlock}
use Rattle.ore_pairs.specs.Run.{RunState, from_rows}

-- the same zero row, or the same event
unfoldable pub is_origin : Origin → Origin → Bool
is_origin (ZeroRow i) (ZeroRow k) = nat_eq i k
is_origin (ZeroRow i) (Event k) = false
is_origin (Event i) (ZeroRow k) = false
is_origin (Event i) (Event k) = nat_eq i k

-- of rows beside their origins, the first that comes from this origin; another row where none does
unfoldable pub row_from : {R : Type 0} → List Origin → List R → R → Origin → R
row_from [] rows other o = other
row_from (x ∷ xs) [] other o = other
row_from (x ∷ xs) (r ∷ rows) other o = cond (is_origin x o) r (row_from xs rows other o)

-- what treated pairs leave comes from these origins, where the first entry has place k
unfoldable pub pair_origins : {K : Domain} → ℕ → List (DealtPair K) → List Origin
pair_origins k [] = []
pair_origins k (Pair i j steps ∷ es) = Event k ∷ pair_origins (suc k) es
pair_origins k (Skip i j via ∷ es) = pair_origins (suc k) es

-- the q rows of a matrix, and then the treated pairs
abbrev pub inside_origins : {K : Domain} → ℕ → List (DealtPair K) → List Origin
inside_origins q es = map (λ i. ZeroRow i) (range_with_len 0 q) ++ pair_origins 0 es

module _ (K : Domain) where
  -- an inside row of m entries for each of the q rows and each treated pair: the given row, where a syzygy of the state
  -- comes from it, and zeros elsewhere
  abbrev pub placed : ℕ → ℕ → RunState K → List (Row K) → List (Row K)
  placed q m st inside = map (row_from st.origins inside (zero_row K m)) (inside_origins q st.listed)

  module _ (o : Order) (a : List (Row K)) (st : RunState K) where
    -- the rows of a as multiples of the basis rows
    abbrev pub from_of : List (Row K)
    from_of = from_rows K o (length st.basis) 0 a

    -- for a matrix of m rows, by a row of m entries for each syzygy
    abbrev pub exact_of_run : ℕ → List (Row K) → ExactBlock K
    exact_of_run m inside = record { basis = basis_rows st.basis; from = from_of; to = cofactors_of st.basis; entries = st.listed; inside = placed (length a) m st inside }

    -- for a row, by the steps that were taken from it and what they leave
    abbrev pub outside_of_run : List (Step K) → Row K → OutsideBlock K
    outside_of_run steps rest = record { basis = basis_rows st.basis; from = from_of; entries = st.listed; steps = steps; rest = rest }
