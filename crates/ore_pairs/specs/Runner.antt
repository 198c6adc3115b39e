-- Runs on the rows of a matrix as courses (Course of ore_course): what a choice makes of a state, which states are
-- complete, and the course that is one run. A state, its basis and its listed pairs are those of Run.
--     treats_pair        a choice treats a pair
--     is_complete        no pair of basis rows may be treated
--     runner             what courses know of such runs
--     run                what choices in order make of a state
--     run_on_rows        the course that is a run on the rows of a matrix; its answer is the last state
--     runner_within, run_within    both over the fractions, for a signature and within limits
use Rattle.std.specs.Prelude.{Bool, true, false, List}
use Rattle.std.specs.declared.result.Result.{Result}
use Rattle.ore_algebra.specs.Domain.{Domain, HasInverses}
use Rattle.ore_algebra.specs.Limits.{Limits}
use Rattle.ore_course.specs.Choices.{Refusal, Runner}
use Rattle.ore_course.specs.Course.{Course, run_from}
use Rattle.ore_course.specs.Leading as course
use Rattle.ore_rational.specs.Field.{rationals, rational_inverses}
use Rattle.ore_monomial.specs.Signature.{Signature}
use Rattle.ore_monomial.specs.declared.order.Order.{Order}
use Rattle.ore_rows.specs.Arithmetic.{Arithmetic, within}
use Rattle.ore_rows.specs.Reduction.{leads_of}
use Rattle.ore_rows.specs.Rows.{Row}
use Rattle.ore_rows.specs.declared.choices.Choice.{Choice}
use Rattle.ore_rows.specs.declared.choices.Choice.TheVariants.{Treat, Skip}
use Rattle.ore_pairs.specs.PairList.{pairs_of}
use Rattle.ore_pairs.specs.PairRule.{none_treatable}
use Rattle.ore_pairs.specs.Run.{RunState, step, begin}

-- a treatment costs one of the budget, and a skipped pair nothing
abbrev pub treats_pair : Choice → Bool
treats_pair (Treat i j) = true
treats_pair (Skip i j via) = false

-- no pair may be treated, by the leads of the basis and the listed pairs
abbrev pub is_complete : (K : Domain) → RunState K → Bool
is_complete K st = none_treatable (leads_of st.basis) (pairs_of st.listed)

module _ (K : Domain) (inverses : HasInverses K) (o : Order) (A : Arithmetic K) where
  -- states and choices of runs, for courses
  abbrev pub runner : Runner (RunState K) Choice
  runner = record { step = step K inverses o A; is_complete = is_complete K; is_treatment = treats_pair }

  -- what choices make of a state, in order
  abbrev pub run : RunState K → List Choice → Result (RunState K) Refusal
  run st choices = course.run runner st choices

  -- the first basis is forced work; then come the choices
  abbrev pub run_on_rows : List (Row K) → Course (RunState K) (RunState K)
  run_on_rows a = run_from (begin K inverses o A a)

module _ (l : Limits) (s : Signature) where
  -- the runner over the fractions, by the order of the signature
  abbrev pub runner_within : Runner (RunState rationals) Choice
  runner_within = runner rationals rational_inverses s.order (within l s)

  -- the course that is one run, over the fractions and by the order of the signature
  abbrev pub run_within : List (Row rationals) → Course (RunState rationals) (RunState rationals)
  run_within a = run_on_rows rationals rational_inverses s.order (within l s) a
