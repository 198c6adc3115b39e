-- The conditions of a block, place by place: lists of the conditions of `PlaceConditions.antt`, and the blocks.
--     RowMatrix, row_matrix_of       a matrix as its columns and rows
--     rows_taken                 how many inside rows an entry takes
--     pair_of                    the pair of an entry
--     entry_of, dealt_pairs      an entry, and a list of them, as the laws on lists of pairs have them
--     are_zero                   some rows are zero
--     monic_leads                the leads of basis rows, from row k on
--     rows_give                  the rows of a matrix with a name times another are given rows, from row k on
--     check_steps                the steps of a pair, each below the common multiple, leave nothing
--     check_entry, check_entries, check_pairs     the pairs of a basis, each by those before it
--     rows_inside, pairs_inside  the inside rows, for each row of the matrix, and then for each treated pair
--     check_basis, check_to, check_inside     the matrices of a block
--     check_exact                an exact block for matrices a and m
--     quotient_steps             the steps of an outside block
--     check_rest                 what the steps left is the rest, which can't be reduced
--     check_outside              an outside block for a matrix a and a row w
use Rattle.std.specs.Prelude.{ℕ, suc, ◌+◌, Bool, true, ◌&&◌, nat_eq, List, [], ◌∷◌, length, map, drop}
use Rattle.std.specs.declared.result.Result.TheVariants.{Ok}
use Rattle.ore_algebra.specs.Limits.{Limits}
use Rattle.ore_rational.specs.Field.{rationals}
use Rattle.ore_monomial.specs.Signature.{Signature}
use Rattle.ore_monomial.specs.Term.{Term}
use Rattle.ore_monomial.specs.declared.order.Order.{Order}
use Rattle.ore_ring.specs.Ordered.{Ordered}
use Rattle.ore_rows.specs.Rows.{Row}
use Rattle.ore_rows.specs.RowLead.{row_lead}
use Rattle.ore_rows.specs.Arithmetic.{within}
use Rattle.ore_rows.specs.RowsWithin.{matrix_times_within}
use Rattle.ore_rows.specs.Reduction.{Step}
use Rattle.ore_rows.specs.Stored.{OperatorMatrix, sums_of, rows_of}
use Rattle.ore_pairs.specs.PairList.{DealtPair, pair_count, treated_count}
use Rattle.ore_pairs.specs.PairList as listed
use Rattle.ore_pairs.specs.PairRule.{may_treat, may_skip}
use Rattle.ore_pairs.specs.Steps.{lcm_of_leads, s_row_within, common_fits}
use Rattle.ore_parts.specs.declared.block.PairEntry.{PairEntry}
use Rattle.ore_parts.specs.declared.block.PairEntry.TheVariants.{Pair, Skip}
use Rattle.ore_parts.specs.declared.block.ExactBlock.{ExactBlock}
use Rattle.ore_parts.specs.declared.block.OutsideBlock.{OutsideBlock}
use Rattle.ore_blocks.specs.declared.place.Section.{Section}
use Rattle.ore_blocks.specs.declared.place.Section.TheVariants.{Body}
use Rattle.ore_blocks.specs.declared.place.Name.{Name}
use Rattle.ore_blocks.specs.declared.place.Name.TheVariants.{Basis, From, To, Inside, Rest}
use Rattle.ore_blocks.specs.declared.place.Place.TheVariants as place
use Rattle.ore_blocks.specs.declared.reason.Reason.{Reason}
use Rattle.ore_blocks.specs.declared.reason.Reason.TheVariants as reason
use Rattle.ore_blocks.specs.Conditions.{Checked, formed, required, found, is_none}
use Rattle.ore_algebra.specs.Results.{◌>>=◌}
use Rattle.ore_blocks.specs.PlaceConditions.{same_row, monic_lead, is_reduced, row_gives, check_step, quotient_step, row_inside, pair_inside}

-- a matrix, without the orders of its operators
pub record RowMatrix : Type 0 where
  pub cols : ℕ
  pub rows : List (Row rationals)

-- a stored matrix without these orders
abbrev pub row_matrix_of : OperatorMatrix → RowMatrix
row_matrix_of m = record { cols = m.cols; rows = rows_of m }

-- ---- entries of a list of pairs

-- one where the pair is treated
abbrev pub rows_taken : PairEntry → ℕ
rows_taken (Pair i j steps) = 1
rows_taken (Skip i j via) = 0

-- the places of the two rows
unfoldable pub pair_of : PairEntry → ℕ × ℕ
pair_of (Pair i j steps) = (i, j)
pair_of (Skip i j via) = (i, j)

-- an entry, as the laws on lists of pairs have it
abbrev pub entry_of : PairEntry → DealtPair rationals
entry_of (Pair i j steps) = listed.Pair i j steps
entry_of (Skip i j via) = listed.Skip i j via

-- a list of entries, as these laws have it
abbrev pub dealt_pairs : List PairEntry → List (DealtPair rationals)
dealt_pairs es = map entry_of es

-- ---- lists of places

-- each basis row has a lead with the coefficient 1
unfoldable pub monic_leads : Order → Section → ℕ → List (Row rationals) → Checked (List Term)
monic_leads o at k [] = Ok []
monic_leads o at k (r ∷ rs) = do
  t ← found (place.Row at Basis k) reason.NotMonic (monic_lead o r)
  ts ← monic_leads o at (suc k) rs
  Ok (t ∷ ts)

module _ (l : Limits) (s : Signature) where
  -- some rows have no lead
  unfoldable pub are_zero : List (Row rationals) → Bool
  are_zero [] = true
  are_zero (r ∷ rs) = is_none (row_lead rationals s.order r) && are_zero rs

  -- each row times m, which has n columns, is the row that is wanted
  unfoldable pub rows_give : Reason → ℕ → List (Row rationals) → Section → Name → ℕ → List (Row rationals) → List (Row rationals) → Checked (Unit {0})
  rows_give why n m at name k (r ∷ rs) (w ∷ ws) = do
    _ ← row_gives l s why n m (place.Row at name k) r w
    rows_give why n m at name (suc k) rs ws
  rows_give why n m at name k rs ws = Ok tt

  -- what the steps of pair k, of which n were taken, leave of a row is zero; that is said of the last step, or of the pair
  unfoldable pub check_steps : List (Row rationals) → List Term → Term → Section → ℕ → ℕ → Row rationals → List (Step rationals) → Checked (Unit {0})
  check_steps basis leads t at k n r [] = required (place.Pair at k n) reason.Remainder (is_none (row_lead rationals s.order r))
  check_steps basis leads t at k n r (step ∷ steps) = do
    next ← check_step l s basis leads t (place.Pair at k (suc n)) r step
    check_steps basis leads t at k (suc n) next steps

  -- pair k may be treated, and its steps are right; or it may be skipped
  unfoldable pub check_entry : List (Row rationals) → List Term → Section → ℕ → List (ℕ × ℕ) → PairEntry → Checked (Unit {0})
  check_entry basis leads at k before (Pair i j steps) = do
    _ ← required (place.Pair at k 0) reason.Pair (may_treat leads before i j)
    _ ← formed (place.Pair at k 0) (common_fits rationals (within l s) (lcm_of_leads leads i j))
    r ← formed (place.Pair at k 0) (s_row_within rationals (within l s) leads basis i j)
    check_steps basis leads (lcm_of_leads leads i j) at k 0 r steps
  check_entry basis leads at k before (Skip i j via) = required (place.Pair at k 0) reason.Skip (may_treat leads before i j && may_skip leads before i j via)

  -- each pair from k on, by those before it
  unfoldable pub check_entries : List (Row rationals) → List Term → Section → ℕ → List (ℕ × ℕ) → List PairEntry → Checked (Unit {0})
  check_entries basis leads at k before [] = Ok tt
  check_entries basis leads at k before (e ∷ es) = do
    _ ← check_entry basis leads at k before e
    check_entries basis leads at (suc k) (pair_of e ∷ before) es

  -- there are as many as the basis has
  unfoldable pub check_pairs : List (Row rationals) → List Term → Section → List PairEntry → Checked (Unit {0})
  check_pairs basis leads at pairs = do
    _ ← required (place.Pairs at) reason.Pairs (nat_eq (length pairs) (pair_count leads))
    check_entries basis leads at 0 [] pairs

  -- an inside row for each row of `from`, which belong to the rows of the matrix from i on
  unfoldable pub rows_inside : ℕ → List (Row rationals) → List (Row rationals) → Section → ℕ → List (Row rationals) → List (Row rationals) → Checked (Unit {0})
  rows_inside q to m at i (f ∷ fs) (r ∷ rs) = do
    _ ← row_inside l s q to m (place.Row at Inside i) i f r
    rows_inside q to m at (suc i) fs rs
  rows_inside q to m at i fs rs = Ok tt

  -- an inside row for each treated pair, from row i on
  unfoldable pub pairs_inside : ℕ → List Term → List (Row rationals) → List (Row rationals) → Section → ℕ → List PairEntry → List (Row rationals) → Checked (Unit {0})
  pairs_inside q leads to m at i (e ∷ es) (r ∷ rs) = do
    _ ← pair_inside l s q leads to m (place.Row at Inside i) e r
    pairs_inside q leads to m at (i + rows_taken e) es (drop (rows_taken e) (r ∷ rs))
  pairs_inside q leads to m at i es rs = Ok tt

  -- the steps behind the first n are taken from a row
  unfoldable pub quotient_steps : List (Row rationals) → ℕ → Row rationals → List (Step rationals) → Checked (Row rationals)
  quotient_steps basis n r [] = Ok r
  quotient_steps basis n r (step ∷ steps) = do
    next ← quotient_step l s basis (place.Step (suc n)) r step
    quotient_steps basis (suc n) next steps

  -- ---- parts of a block

  -- the basis, and then `from`; the leads of the basis
  unfoldable pub check_basis : RowMatrix → Section → RowMatrix → RowMatrix → Checked (List Term)
  check_basis a at basis from = do
    _ ← required (place.Header at Basis) reason.Shape (nat_eq basis.cols a.cols)
    leads ← monic_leads s.order at 0 basis.rows
    _ ← required (place.Header at From) reason.Shape (nat_eq (length from.rows) (length a.rows) && nat_eq from.cols (length basis.rows))
    _ ← rows_give reason.FromRow a.cols basis.rows at From 0 from.rows a.rows
    Ok leads

  -- the rows of `to`
  unfoldable pub check_to : RowMatrix → Section → RowMatrix → RowMatrix → Checked (Unit {0})
  check_to a at basis to = do
    _ ← required (place.Header at To) reason.Shape (nat_eq (length to.rows) (length basis.rows) && nat_eq to.cols (length a.rows))
    rows_give reason.ToRow a.cols a.rows at To 0 to.rows basis.rows

  -- the inside rows
  unfoldable pub check_inside : RowMatrix → RowMatrix → List Term → Section → RowMatrix → RowMatrix → List PairEntry → RowMatrix → Checked (Unit {0})
  check_inside a m leads at from to pairs inside = do
    _ ← required (place.Header at Inside) reason.Shape (nat_eq (length inside.rows) (length a.rows + treated_count (dealt_pairs pairs)) && nat_eq inside.cols (length m.rows))
    _ ← rows_inside (length a.rows) to.rows m.rows at 0 from.rows inside.rows
    pairs_inside (length a.rows) leads to.rows m.rows at (length a.rows) pairs (drop (length a.rows) inside.rows)

  -- the rest of an outside block is what the steps left, and no lead divides its lead
  unfoldable pub check_rest : List Term → ℕ → Row rationals → List Ordered → Checked (Unit {0})
  check_rest leads cols left rest = do
    _ ← required (place.Header Body Rest) reason.Shape (nat_eq (length rest) cols)
    _ ← required (place.Row Body Rest 0) reason.Rest (same_row left (sums_of rest))
    required (place.Row Body Rest 0) reason.Reducible (is_reduced l s leads (sums_of rest))

  -- ---- blocks

  -- an exact block: what takes a to zeros is the row module of m
  unfoldable pub check_exact : Section → RowMatrix → RowMatrix → ExactBlock → Checked (Unit {0})
  check_exact at a m b = do
    product ← formed (place.Block at) (matrix_times_within l s a.cols m.rows a.rows)
    _ ← required (place.Block at) reason.NotInKernel (are_zero product)
    leads ← check_basis a at (row_matrix_of b.basis) (row_matrix_of b.from)
    _ ← check_to a at (row_matrix_of b.basis) (row_matrix_of b.to)
    _ ← check_pairs (rows_of b.basis) leads at b.pairs
    check_inside a m leads at (row_matrix_of b.from) (row_matrix_of b.to) b.pairs (row_matrix_of b.inside)

  -- an outside block: w is not in the row module of a
  unfoldable pub check_outside : RowMatrix → Row rationals → OutsideBlock → Checked (Unit {0})
  check_outside a w b = do
    leads ← check_basis a Body (row_matrix_of b.basis) (row_matrix_of b.from)
    _ ← check_pairs (rows_of b.basis) leads Body b.pairs
    left ← quotient_steps (rows_of b.basis) 0 w b.quotients
    check_rest leads a.cols left b.rest
