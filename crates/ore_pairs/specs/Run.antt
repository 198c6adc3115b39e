-- A run on the rows of a matrix: the choices, and what each makes of the state. What a choice leads to is forced. A pair
-- is that of the basis rows at two places, where the first row has place 0.
-- (Buchberger 1965; skipped pairs: Buchberger 1979.)
--     RunState                  the basis, the listed pairs, the syzygies and their origins; each grows at its end
--     Refusal                   why a choice leads nowhere (Choices of ore_course)
--     entry_row                 zeros but for one entry
--     entries_with              the listed pairs with one more
--     IsComplete                each pair is listed
--     inverse_of, monic_multiple    the inverse of a fraction; a row and its cofactor row scaled by that of the lead coefficient
--     s_rows                    the S-row of a pair, beside that of the cofactor rows
--     unless_zero               a row, unless it is zero
--     with_syzygy, with_row     the state where nothing is left of the S-row, and where something is
--     with_remainder, treat     one of both; all that treating a pair does
--     as_refusal                a stop as a refusal
--     follow, step              what a lawful choice, and a choice, make of a state
--     begin_row, begin_rows, begin    what a row, some rows, and the rows of a matrix begin a run with
--     from_rows                 the rows of a matrix as multiples of the first basis rows
use Rattle.std.specs.Prelude.{ℕ, suc, cond, nat_eq, List, [], ◌∷◌, ◌++◌, length, map}
use Rattle.std.specs.List.{range_with_len}
use Rattle.std.specs.declared.option.Option.TheVariants.{None, Some}
use Rattle.std.specs.declared.result.Result.{Result}
use Rattle.std.specs.declared.result.Result.TheVariants.{Ok, Err}
use Rattle.ore_algebra.specs.Domain.{Domain, HasInverses}
use Rattle.ore_algebra.specs.Free.{empty_sum}
use Rattle.ore_algebra.specs.Limits.{Cause, ◌>>=◌}
use Rattle.ore_monomial.specs.Monomial.{unit, plain_cmp}
use Rattle.ore_monomial.specs.Term.{Term}
use Rattle.ore_monomial.specs.declared.order.Order.{Order}
use Rattle.ore_monomial.specs.LetterRule.{Operator, constant}
pub use Rattle.ore_course.specs.Choices.{Refusal, Unlawful, Stopped}
use Rattle.ore_rows.specs.Rows.{Row, zero_row, unit_row}
use Rattle.ore_rows.specs.RowLead.{coefficient_at, row_lead}
use Rattle.ore_rows.specs.Arithmetic.{Arithmetic, scaled}
use Rattle.ore_rows.specs.Reduction.{BasisRow, ReductionState, basis_rows, cofactors_of, leads_of, reduce}
use Rattle.ore_rows.specs.declared.choices.Choice.{Choice}
use Rattle.ore_rows.specs.declared.choices.Choice.TheVariants.{Treat, Skip}
use Rattle.ore_rows.specs.declared.choices.Origin.{Origin}
use Rattle.ore_rows.specs.declared.choices.Origin.TheVariants.{ZeroRow, Event}
use Rattle.ore_pairs.specs.PairList.{DealtPair, pairs_of}
use Rattle.ore_pairs.specs.PairList as pair
use Rattle.ore_pairs.specs.PairRule.{is_lawful, AreAllListed}
use Rattle.ore_pairs.specs.Steps.{lcm_of_leads, s_row_within, common_fits}

-- the basis so far, the pairs that were dealt with, the syzygies that were found (rows c with cA = 0, for the matrix A
-- of the run), and what each of these comes from: a zero row of A, or a listed pair, by its place
pub record RunState (K : Domain) : Type 0 where
  pub basis : List (BasisRow (Row K))
  pub listed : List (DealtPair K)
  pub syzygies : List (Row K)
  pub origins : List Origin

module _ (K : Domain) where
  -- n zeros but for f at place i
  unfoldable pub entry_row : ℕ → ℕ → Operator K → Row K
  entry_row n i f = map (λ j. cond (nat_eq j i) f (empty_sum K plain_cmp)) (range_with_len 0 n)

  -- a treated or skipped pair is listed last
  abbrev pub entries_with : RunState K → DealtPair K → List (DealtPair K)
  entries_with st e = st.listed ++ e ∷ []

  -- each pair of basis rows is listed
  abbrev pub IsComplete : RunState K → Type 0
  IsComplete st = AreAllListed (leads_of st.basis) (pairs_of st.listed)

-- a value stays; a cause becomes the refusal that has it
unfoldable pub as_refusal : {X : Type 0} → Result X Cause → Result X Refusal
as_refusal (Ok x) = Ok x
as_refusal (Err cause) = Err (Stopped cause)

-- the inverse, and zero for zero
unfoldable pub inverse_of : (K : Domain) → HasInverses K → K.Number → K.Number
inverse_of K inverses k = elim (K.discrete k K.zero) [ yes e ↦ K.zero | no n ↦ inverses.inverse k n ]

-- ---- treating a pair

-- the S-row of a pair, and then that of the cofactor rows, where the degree of the common multiple fits
unfoldable pub s_rows : (K : Domain) → Arithmetic K → List (BasisRow (Row K)) → ℕ → ℕ → Result (ReductionState K) Cause
s_rows K A basis i j = do
  _ ← common_fits K A (lcm_of_leads (leads_of basis) i j)
  row ← s_row_within K A (leads_of basis) (basis_rows basis) i j
  cofactor ← s_row_within K A (leads_of basis) (cofactors_of basis) i j
  Ok (record { row = row; cofactor = cofactor; steps = [] })

module _ (K : Domain) (o : Order) where
  -- the row, unless it is zero
  unfoldable pub unless_zero : Row K → List (Row K)
  unless_zero c = elim (row_lead K o c) [ None ↦ [] | Some t ↦ c ∷ [] ]

  -- nothing is left of the row: the cofactor row is a syzygy, unless it is zero, and comes from the pair that is now listed
  unfoldable pub with_syzygy : RunState K → ℕ → ℕ → ReductionState K → RunState K
  with_syzygy st i j w = record {
    basis = st.basis;
    listed = entries_with K st (pair.Pair i j w.steps);
    syzygies = st.syzygies ++ unless_zero w.cofactor;
    origins = st.origins ++ map (λ c. Event (length st.listed)) (unless_zero w.cofactor);
  }

  -- each row as its lead coefficient times its basis row, of n; that of the next row that isn't zero stands at place i
  unfoldable pub from_rows : ℕ → ℕ → List (Row K) → List (Row K)
  from_rows n i [] = []
  from_rows n i (r ∷ rs) = elim (row_lead K o r) [
    | None ↦ zero_row K n ∷ from_rows n i rs
    | Some t ↦ entry_row K n i (constant K (coefficient_at K r t)) ∷ from_rows n (suc i) rs
  ]

module _ (K : Domain) (inverses : HasInverses K) (A : Arithmetic K) where
  -- a row with the lead t, and then its cofactor row, scaled by the inverse of the lead coefficient
  unfoldable pub monic_multiple : Row K → Row K → Term → Result (BasisRow (Row K)) Cause
  monic_multiple row cofactor t = do
    monic ← scaled K A (constant K (inverse_of K inverses (coefficient_at K row t))) row
    scaled_cofactor ← scaled K A (constant K (inverse_of K inverses (coefficient_at K row t))) cofactor
    Ok (record { row = monic; cofactor = scaled_cofactor; lead = t })

  -- what is left, with the lead t, is made monic and is the next basis row; the last step has its lead coefficient
  unfoldable pub with_row : RunState K → ℕ → ℕ → ReductionState K → Term → Result (RunState K) Cause
  with_row st i j w t = do
    b ← monic_multiple w.row w.cofactor t
    Ok (record { basis = st.basis ++ b ∷ []; listed = entries_with K st (pair.Pair i j (w.steps ++ record { index = length st.basis; monomial = unit; number = coefficient_at K w.row t } ∷ [])); syzygies = st.syzygies; origins = st.origins })

module _ (K : Domain) (inverses : HasInverses K) (o : Order) (A : Arithmetic K) where
  -- what the reduction of a pair makes of the state
  unfoldable pub with_remainder : RunState K → ℕ → ℕ → ReductionState K → Result (RunState K) Cause
  with_remainder st i j w = elim (row_lead K o w.row) [ None ↦ Ok (with_syzygy K o st i j w) | Some t ↦ with_row K inverses A st i j w t ]

  -- the S-row of the pair i, j is reduced by the basis
  unfoldable pub treat : RunState K → ℕ → ℕ → Result (RunState K) Cause
  treat st i j = do
    start ← s_rows K A st.basis i j
    rest ← reduce K o A st.basis start
    with_remainder st i j rest

  -- ---- choices

  -- what a choice makes of a state in which it is lawful
  unfoldable pub follow : RunState K → Choice → Result (RunState K) Cause
  follow st (Treat i j) = treat st i j
  follow st (Skip i j via) = Ok (record st { listed = entries_with K st (pair.Skip i j via) })

  -- what a choice makes of a state
  unfoldable pub step : RunState K → Choice → Result (RunState K) Refusal
  step st c = cond (is_lawful (leads_of st.basis) (pairs_of st.listed) c) (as_refusal (follow st c)) (Err Unlawful)

  -- ---- the first basis

  -- the row at place i of q: made monic it is a basis row; where it is zero its unit row is a syzygy that comes from it
  unfoldable pub begin_row : ℕ → ℕ → Row K → RunState K → Result (RunState K) Cause
  begin_row q i r st = elim (row_lead K o r) [
    | None ↦ Ok (record st { syzygies = st.syzygies ++ unit_row K q i ∷ []; origins = st.origins ++ ZeroRow i ∷ [] })
    | Some t ↦ monic_multiple K inverses A r (unit_row K q i) t >>= (λ b. Ok (record st { basis = st.basis ++ b ∷ [] }))
  ]

  -- the rows from place i on, of q
  unfoldable pub begin_rows : ℕ → ℕ → List (Row K) → RunState K → Result (RunState K) Cause
  begin_rows q i [] st = Ok st
  begin_rows q i (r ∷ rs) st = do
    next ← begin_row q i r st
    begin_rows q (suc i) rs next

  -- the state before the first choice of a run on a
  unfoldable pub begin : List (Row K) → Result (RunState K) Cause
  begin a = begin_rows (length a) 0 a (record { basis = []; listed = []; syzygies = []; origins = [] })
