-- What choices lead to; and of runs over the fractions, at the limits of the program, where they stop and which
-- choices a rule allows.
--     RunLeadsTo, IsReachable  these choices, and some choices, lead to a state
--     state_leads             what is shown of a state
--     IsAllowedAt             a rule allows something at a state
--     rule_of                     a rule of choosers as one of courses
--     first_state, state_after    the state before the first choice; what choices make of a state
--     IsReached               these choices lead to a state, at the limits of the program
--     TreatmentStops          the last of some choices treats a pair, which stops
--     RuleAllowsEach          a rule allows each choice at its place
--     MayBeSpent              a rule allows that the budget is spent
use Rattle.std.specs.Prelude.{◌≡◌, ℕ, Bool, true, List, [], ◌∷◌, ◌++◌, take}
use Rattle.std.specs.List.{slice_get}
use Rattle.std.specs.declared.option.Option.TheVariants.{None, Some}
use Rattle.std.specs.declared.result.Result.{Result}
use Rattle.std.specs.declared.result.Result.TheVariants.{Ok, Err}
use Rattle.ore_algebra.specs.Domain.{Domain, HasInverses}
use Rattle.ore_algebra.specs.Limits.{Cause, program}
use Rattle.ore_course.specs.Leading.{Rule}
use Rattle.ore_rational.specs.Field.{rationals, rational_inverses}
use Rattle.ore_monomial.specs.Signature.{Signature}
use Rattle.ore_monomial.specs.declared.order.Order.{Order}
use Rattle.ore_rows.specs.Arithmetic.{Arithmetic, within}
use Rattle.ore_rows.specs.Reduction.{leads_of}
use Rattle.ore_rows.specs.Rows.{Row}
use Rattle.ore_rows.specs.BasisLeads.{BasisLeads}
use Rattle.ore_rows.specs.Stored.{OperatorMatrix, rows_of}
use Rattle.ore_rows.specs.declared.choices.Choice.{Choice}
use Rattle.ore_rows.specs.declared.choices.Choice.TheVariants as choice
use Rattle.ore_pairs.specs.PairList.{pairs_of}
use Rattle.ore_pairs.specs.Run.{RunState, Refusal, Stopped}
use Rattle.ore_pairs.specs.Run as run
use Rattle.ore_pairs.specs.Runner as runner

-- ---- over any field

module _ (K : Domain) (inverses : HasInverses K) (o : Order) (A : Arithmetic K) (a : List (Row K)) where
  -- the choices lead from the beginning of a run on a to the state
  pub record RunLeadsTo (choices : List Choice) (last : RunState K) : Type 0 where
    pub start : RunState K
    pub begun : run.begin K inverses o A a ≡ Ok start
    pub led : runner.run K inverses o A start choices ≡ Ok last

  abbrev pub IsReachable : RunState K → Type 0
  IsReachable last = (choices : List Choice) × RunLeadsTo choices last

-- ---- over the fractions

-- the order, where there is a basis row, and the leads
abbrev pub state_leads : Signature → RunState rationals → BasisLeads
state_leads s st = record { order = elim st.basis [ [] ↦ None | b ∷ bs ↦ Some s.order ]; leads = leads_of st.basis }

-- the rule answers true to what is shown of the state and to its listed pairs
abbrev pub IsAllowedAt : Signature → (BasisLeads → List (ℕ × ℕ) → Bool) → RunState rationals → Type 0
IsAllowedAt s allowed st = allowed (state_leads s st) (pairs_of st.listed) ≡ true

-- the same of choices and of a spent budget, as a rule of courses
abbrev pub rule_of : Signature → (BasisLeads → List (ℕ × ℕ) → Choice → Bool) → (BasisLeads → List (ℕ × ℕ) → Bool) → Rule (RunState rationals) Choice
rule_of s allows allows_spent = record { allows = λ st c. allows (state_leads s st) (pairs_of st.listed) c; allows_spent = λ st. allows_spent (state_leads s st) (pairs_of st.listed) }

module _ (s : Signature) (a : OperatorMatrix) where
  abbrev pub first_state : Result (RunState rationals) Cause
  first_state = run.begin rationals rational_inverses s.order (within program s) (rows_of a)

  abbrev pub state_after : RunState rationals → List Choice → Result (RunState rationals) Refusal
  state_after st cs = runner.run rationals rational_inverses s.order (within program s) st cs

  abbrev pub IsReached : List Choice → RunState rationals → Type 0
  IsReached choices last = RunLeadsTo rationals rational_inverses s.order (within program s) (rows_of a) choices last

  -- the choices before the last lead to a state where treating the pair stops
  pub record TreatmentStops (choices : List Choice) (i j : ℕ) (c : Cause) : Type 0 where
    pub before : List Choice
    pub choices_are : choices ≡ before ++ choice.Treat i j ∷ []
    pub state : RunState rationals
    pub reached : IsReached before state
    pub stopped : run.step rationals rational_inverses s.order (within program s) state (choice.Treat i j) ≡ Err (Stopped c)

  -- the rule allows each of the choices at the state before it
  abbrev pub RuleAllowsEach : (BasisLeads → List (ℕ × ℕ) → Choice → Bool) → List Choice → Type 0
  RuleAllowsEach allows choices = (k : ℕ) (c : Choice) (st : RunState rationals) → slice_get choices k ≡ Some c → IsReached (take k choices) st → IsAllowedAt s (λ shown ps. allows shown ps c) st

  -- the rule allows that the budget is spent, at the state to which the choices lead
  abbrev pub MayBeSpent : (BasisLeads → List (ℕ × ℕ) → Bool) → List Choice → Type 0
  MayBeSpent allows_spent choices = (st : RunState rationals) → IsReached choices st → IsAllowedAt s allows_spent st
