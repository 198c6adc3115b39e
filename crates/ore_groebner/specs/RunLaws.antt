-- What a run keeps, and what a complete run shows; the laws are over the fractions, for a signature and its order.
--     IsBasisRow             a row with lead coefficient 1, and a cofactor row that makes it of the rows of a
--     IsSyzygy               a row of cofactors that takes a to zeros
--     AreListedOnce          no pair is listed twice
--     IsStateOf              what each state of a run on a has to do with a
--     IsNone, IsFrom         no syzygy comes from an origin; a row is the syzygy that does, or zeros
--     IsPlaceIn              an origin is a row of a, or a listed pair
--     HasItsSyzygy, HaveTheirSyzygies    what the steps of a treated pair leave over the cofactor rows comes from it
--     EntriesHold            each listed pair was treated or skipped lawfully, and has its syzygy
--     WithinIsExact          a state that is reached within limits is reached without them
--     OnlyUnlawful           without limits each run begins, and nothing but an unlawful choice ends it
--     RunKeeps               what each state that is reached keeps
--     RunsEnd                no run has so many choices as some number
--     ExactExtends           runs without limits go as far as those within, and further where these stop
--     CompleteIsExact        the syzygies of a complete state generate all of the signature
use Rattle.std.specs.Prelude.{◌≡◌, ◌≢◌, ℕ, suc, ◌<◌, false, List, [], ◌∷◌, length, slice_get}
use Rattle.std.specs.List.{AllByRecursion}
use Rattle.std.specs.declared.option.Option.TheVariants.{Some}
use Rattle.std.specs.declared.result.Result.TheVariants.{Ok, Err}
use Rattle.ore_algebra.specs.Domain.{Domain}
use Rattle.ore_algebra.specs.Limits.{Limits, Cause, unlimited}
use Rattle.ore_course.specs.Bounded.{IsShort, Extends}
use Rattle.ore_rational.specs.Field.{rationals, rational_inverses}
use Rattle.ore_monomial.specs.declared.order.Order.{Order}
use Rattle.ore_monomial.specs.Signature.{Signature}
use Rattle.ore_monomial.specs.Term.{Term}
use Rattle.ore_rows.specs.Rows.{Row, RowOf, AreLong, zero_row, unit_row, row_minus, combine, matrix_times, IsExact}
use Rattle.ore_rows.specs.Reduction.{BasisRow, IsMonic, basis_rows, cofactors_of, leads_of, row_at, remainder_after}
use Rattle.ore_rows.specs.Arithmetic.{exact, within}
use Rattle.ore_pairs.specs.Run.{RunState, Stopped, IsComplete, from_rows, begin}
use Rattle.ore_pairs.specs.Runner.{run, runner_within}
use Rattle.ore_rows.specs.declared.choices.Choice.{Choice}
use Rattle.ore_rows.specs.declared.choices.Origin.{Origin}
use Rattle.ore_rows.specs.declared.choices.Origin.TheVariants.{ZeroRow, Event}
use Rattle.ore_pairs.specs.Reached.{IsReachable}
use Rattle.ore_pairs.specs.Steps.{s_row}
use Rattle.ore_pairs.specs.PairList.{DealtPair, Pair, Skip, first, second, pairs_of, AreLawful, AreEntriesOf}
use Rattle.ore_pairs.specs.PairRule.{is_listed}

module _ (K : Domain) (s : Signature) (o : Order) (n : ℕ) (a : List (Row K)) where
  -- n entries and the lead coefficient 1; the cofactor row times a is the row; both are of the signature where a is
  pub record IsBasisRow (b : BasisRow (Row K)) : Type 0 where
    pub monic : IsMonic K o b
    pub long : length b.row ≡ n
    pub wide : length b.cofactor ≡ length a
    pub made : combine K s n b.cofactor a ≡ b.row
    pub of_row : AllByRecursion (RowOf K s) a → RowOf K s b.row
    pub of_cofactor : AllByRecursion (RowOf K s) a → RowOf K s b.cofactor

  -- an entry for each row of a, and times a it is zeros; it is of the signature where a is
  pub record IsSyzygy (c : Row K) : Type 0 where
    pub wide : length c ≡ length a
    pub vanishes : combine K s n c a ≡ zero_row K n
    pub of_row : AllByRecursion (RowOf K s) a → RowOf K s c

-- the pair of each entry isn't that of one before, of which the latest stands first
abbrev pub AreListedOnce : {K : Domain} → List (DealtPair K) → List (DealtPair K) → Type 0
AreListedOnce before [] = Unit {0}
AreListedOnce before (e ∷ es) = (is_listed (first e) (second e) (pairs_of before) ≡ false) × AreListedOnce (e ∷ before) es

-- ---- what syzygies come from

abbrev pub IsNone : List Origin → Origin → Type 0
IsNone origins o = (m : ℕ) → slice_get origins m ≢ Some o

-- the row is the syzygy that comes from the origin; where none does, it is q zeros
pub record IsFrom (K : Domain) (q : ℕ) (origins : List Origin) (syzygies : List (Row K)) (o : Origin) (c : Row K) : Type 0 where
  pub there : (m : ℕ) → slice_get origins m ≡ Some o → slice_get syzygies m ≡ Some c
  pub absent : IsNone origins o → c ≡ zero_row K q

-- one of q rows, or of n listed pairs
abbrev pub IsPlaceIn : ℕ → ℕ → Origin → Type 0
IsPlaceIn q n (ZeroRow i) = i < q
IsPlaceIn q n (Event k) = k < n

-- the cofactor rows times a are the basis, and some rows times the basis are a; what is left of a unit row by way of
-- the basis and back is the syzygy that comes from this row of a, or zeros
pub record IsStateOf (K : Domain) (s : Signature) (o : Order) (n : ℕ) (a : List (Row K)) (st : RunState K) : Type 0 where
  pub basis : AllByRecursion (IsBasisRow K s o n a) st.basis
  pub syzygies : AllByRecursion (IsSyzygy K s o n a) st.syzygies
  pub to_is : matrix_times K s n (cofactors_of st.basis) a ≡ basis_rows st.basis
  pub from_is : matrix_times K s n (from_rows K o (length st.basis) 0 a) (basis_rows st.basis) ≡ a
  pub remainders : (k : ℕ) → k < length a → IsFrom K (length a) st.origins st.syzygies (ZeroRow k) (row_minus K (unit_row K (length a) k) (combine K s (length a) (row_at (from_rows K o (length st.basis) 0 a) k) (cofactors_of st.basis)))
  pub many : length st.origins ≡ length st.syzygies
  pub places : AllByRecursion (IsPlaceIn (length a) (length st.listed)) st.origins
  pub once : AreListedOnce [] st.listed

-- ---- the listed pairs

module _ (K : Domain) (s : Signature) (q : ℕ) (leads : List Term) (cofactors : List (Row K)) (origins : List Origin) (syzygies : List (Row K)) where
  -- what the steps leave of the pair's row, over the cofactor rows, is the syzygy that comes from this pair, at place k
  -- of those that are listed, or zeros; from a skipped pair none comes
  abbrev pub HasItsSyzygy : ℕ → DealtPair K → Type 0
  HasItsSyzygy k (Pair i j steps) = IsFrom K q origins syzygies (Event k) (remainder_after K s cofactors steps (s_row K s leads cofactors i j))
  HasItsSyzygy k (Skip i j via) = IsNone origins (Event k)

  -- so does each entry from place k on
  abbrev pub HaveTheirSyzygies : ℕ → List (DealtPair K) → Type 0
  HaveTheirSyzygies k [] = Unit {0}
  HaveTheirSyzygies k (e ∷ es) = HasItsSyzygy k e × HaveTheirSyzygies (suc k) es

-- the listed entries are a lawful list for the basis; each treated pair has the syzygy that comes from it, or zeros; the
-- steps are of the signature where a is
pub record EntriesHold (K : Domain) (s : Signature) (o : Order) (n : ℕ) (a : List (Row K)) (st : RunState K) : Type 0 where
  pub lawful : AreLawful K s o n (basis_rows st.basis) (leads_of st.basis) [] st.listed
  pub entries : AllByRecursion (RowOf K s) a → AreEntriesOf K s st.listed
  pub syzygies : HaveTheirSyzygies K s (length a) (leads_of st.basis) (cofactors_of st.basis) st.origins st.syzygies 0 st.listed

-- ---- the laws

module _ (s : Signature) where
  -- the same choices lead to the same states
  abbrev pub WithinIsExact : Type 0
  WithinIsExact = (l : Limits) (a : List (Row rationals)) (first st : RunState rationals) (choices : List Choice)
      → begin rationals rational_inverses s.order (within l s) a ≡ Ok first → run rationals rational_inverses s.order (within l s) first choices ≡ Ok st
      → (begin rationals rational_inverses s.order (exact rationals s) a ≡ Ok first) × (run rationals rational_inverses s.order (exact rationals s) first choices ≡ Ok st)

  -- no run stops
  abbrev pub OnlyUnlawful : Type 0
  OnlyUnlawful = (a : List (Row rationals)) → (first : RunState rationals) × (begin rationals rational_inverses s.order (exact rationals s) a ≡ Ok first)
      × ((choices : List Choice) (cause : Cause) → run rationals rational_inverses s.order (exact rationals s) first choices ≢ Err (Stopped cause))

  -- each state that a run within limits reaches is a state of a run on a, and its entries hold
  abbrev pub RunKeeps : Type 0
  RunKeeps = (l : Limits) (n : ℕ) (a : List (Row rationals)) (st : RunState rationals) → AreLong rationals n a
      → IsReachable rationals rational_inverses s.order (within l s) a st → IsStateOf rationals s s.order n a st × EntriesHold rationals s s.order n a st

  -- the syzygies of a complete state are exact
  abbrev pub CompleteIsExact : Type 0
  CompleteIsExact = (l : Limits) (n : ℕ) (a : List (Row rationals)) (st : RunState rationals) → AreLong rationals n a → AllByRecursion (RowOf rationals s) a
      → IsReachable rationals rational_inverses s.order (within l s) a st → IsComplete rationals st → IsExact rationals s n a st.syzygies

  -- of each run some number is greater than the number of choices that lead on, whatever they are
  abbrev pub RunsEnd : Type 0
  RunsEnd = (l : Limits) (n : ℕ) (a : List (Row rationals)) (first : RunState rationals) → AreLong rationals n a
      → begin rationals rational_inverses s.order (within l s) a ≡ Ok first → (m : ℕ) × IsShort (runner_within l s) m first

  -- each choice that leads on within limits leads to the same state without
  abbrev pub ExactExtends : Type 0
  ExactExtends = (l : Limits) → Extends (runner_within l s) (runner_within unlimited s)
