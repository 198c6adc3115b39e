-- What a run answers, beside the definition of a run and of the states that choices lead to (ore_pairs).
--     IsHonestRun             a complete run
--     IsStoppedAt             the first basis, or the last of some choices, stops
--     IsAnswered              some choices lead to a state at which a chooser may so answer
--     IsHalted                why a run stopped
--     HasOneMoreRun           one more run is given than before
--     HasRunsAt, HasRunsAfter    which runs are given after a halt
use Rattle.std.specs.Prelude.{◌≡◌, ◌⊎◌, ◌+◌, List, [], ◌∷◌, ◌++◌, length}
use Rattle.std.specs.List.{All}
use Rattle.std.specs.declared.result.Result.TheVariants.{Ok, Err}
use Rattle.ore_algebra.specs.Limits.{Cause}
use Rattle.ore_algebra.specs.Limits as cause
use Rattle.ore_rational.specs.Field.{rationals}
use Rattle.ore_monomial.specs.Signature.{Signature}
use Rattle.ore_ring.specs.Belongs.{Belongs}
use Rattle.ore_rows.specs.Stored.{OperatorMatrix, rows_of}
use Rattle.ore_rows.specs.Reduction.{leads_of}
use Rattle.ore_rows.specs.StoredBasis.{BasisBelongs, monics}
use Rattle.ore_rows.specs.declared.choices.Choice.{Choice}
use Rattle.ore_pairs.specs.PairList.{pairs_of}
use Rattle.ore_pairs.specs.Run.{RunState, IsComplete, from_rows}
pub use Rattle.ore_pairs.specs.Reached.{first_state, state_after, IsReached, TreatmentStops, state_leads, IsAllowedAt, RuleAllowsEach, MayBeSpent}
use Rattle.ore_groebner.specs.Choosing.{present, Settings, IsChooserAnswer}
use Rattle.ore_groebner.specs.RunProgress.{entries_from, new_rows, choices_of}
use Rattle.ore_groebner.specs.declared.chooser.Next.{Next}
use Rattle.ore_groebner.specs.declared.chooser.Next.TheVariants as next
use Rattle.ore_groebner.specs.declared.outcome.Finished.{Finished}
use Rattle.ore_groebner.specs.declared.outcome.Halt.{Halt}
use Rattle.ore_groebner.specs.declared.outcome.Halt.TheVariants as halt
use Rattle.ore_groebner.specs.declared.outcome.StopAt.{StopAt}
use Rattle.ore_groebner.specs.declared.outcome.StopAt.TheVariants as at

module _ (s : Signature) (a : OperatorMatrix) where
  -- the choices lead to a complete state, whose parts are those of the answer; its events follow the choices in order, and
  -- some of them made the basis rows behind the first
  pub record IsHonestRun (choices : List Choice) (f : Finished) : Type 0 where
    pub start : RunState rationals
    pub last : RunState rationals
    pub begun : first_state s a ≡ Ok start
    pub led : state_after s a start choices ≡ Ok last
    pub complete : IsComplete rationals last
    pub basis : last.basis ≡ monics f.basis
    pub listed : last.listed ≡ entries_from (length start.basis) f.events
    pub syzygies : last.syzygies ≡ rows_of f.syzygies
    pub origins : last.origins ≡ f.origins
    pub events : choices_of f.events ≡ choices
    pub counted : length last.basis ≡ length start.basis + new_rows f.events
    pub from : rows_of f.from ≡ from_rows rationals s.order (length last.basis) 0 (rows_of a)
    pub from_cols : f.from.cols ≡ length last.basis
    pub syzygy_cols : f.syzygies.cols ≡ length a.rows
    pub cols : f.basis.cols ≡ a.cols
    pub width : f.basis.width ≡ length a.rows
    pub basis_of : BasisBelongs s f.basis.items
    pub from_of : All (All (Belongs s)) f.from.rows
    pub syzygies_of : All (All (Belongs s)) f.syzygies.rows

  -- in making the first basis, or inside the treatment of the pair of the last choice
  abbrev pub IsStoppedAt : List Choice → Cause → StopAt → Type 0
  IsStoppedAt choices c at.Forced = first_state s a ≡ Err c
  IsStoppedAt choices c (at.Treat i j) = TreatmentStops s a choices i j c

  -- the choices lead to a state at which the chooser may so answer
  pub record IsAnswered (given : List (List Choice)) (settings : Settings) (answer : Next) : Type 0 where
    pub last : RunState rationals
    pub reached : IsReached s a (present given) last
    pub answered : IsChooserAnswer (leads_of last.basis) (pairs_of last.listed) given settings answer

  abbrev pub IsHalted : List (List Choice) → Settings → Halt → Type 0
  IsHalted given settings (halt.Overflow where_at) = IsStoppedAt (present given) cause.Overflow where_at
  IsHalted given settings (halt.Degree where_at) = IsStoppedAt (present given) cause.Degree where_at
  IsHalted given settings halt.Spent = IsAnswered given settings next.Spent
  IsHalted given settings halt.NoLawful = IsAnswered given settings next.NoLawful
  IsHalted given settings halt.Memory = Unit {0}

-- ---- the runs that are given

-- the runs before and one more, the present one
abbrev pub HasOneMoreRun : List (List Choice) → List (List Choice) → Type 0
HasOneMoreRun before given = given ≡ before ++ present given ∷ []

-- where the first basis stops no run is given, and where a pair stops one more is
abbrev pub HasRunsAt : List (List Choice) → List (List Choice) → StopAt → Type 0
HasRunsAt before given at.Forced = given ≡ before
HasRunsAt before given (at.Treat i j) = HasOneMoreRun before given

-- a stop has the runs of its place, and a refusal one more run; want of memory has no more, or one
abbrev pub HasRunsAfter : List (List Choice) → List (List Choice) → Halt → Type 0
HasRunsAfter before given (halt.Overflow place) = HasRunsAt before given place
HasRunsAfter before given (halt.Degree place) = HasRunsAt before given place
HasRunsAfter before given halt.Spent = HasOneMoreRun before given
HasRunsAfter before given halt.NoLawful = HasOneMoreRun before given
HasRunsAfter before given halt.Memory = (given ≡ before) ⊎ HasOneMoreRun before given
