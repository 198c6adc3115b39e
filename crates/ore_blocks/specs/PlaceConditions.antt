-- What one place of a certificate asks: tests of rows and terms, operations on rows, and the conditions of a place.
--     same_row, same_rows        two rows, and two lists of rows, are the same
--     monic_lead                 the lead of a row whose lead coefficient is 1
--     is_below                   a term is below another
--     is_reduced                 a row has a lead, which no basis lead divides
--     less_step, less_steps      a row less a step, and less steps, times their rows
--     shifted                    a term times a monomial
--     row_gives                  a row times a matrix is the row that is wanted
--     check_step                 a step of a pair is below the common multiple; what it leaves of a row
--     quotient_step              what a step of an outside block leaves of a row
--     row_inside                 the inside row for a row of the matrix
--     pair_inside                the inside row for a treated pair
use Rattle.std.specs.Prelude.{ℕ, ◌+◌, Bool, true, false, cond, nat_lt, List, length}
use Rattle.std.specs.declared.cmp.Ordering.TheVariants.{Less, Equal, Greater}
use Rattle.std.specs.declared.option.Option.{Option}
use Rattle.std.specs.declared.option.Option.TheVariants.{None, Some}
use Rattle.std.specs.declared.result.Result.{Result}
use Rattle.std.specs.declared.result.Result.TheVariants.{Ok}
use Rattle.ore_algebra.specs.Limits.{Limits, Cause, Degree, is_within, guard, fold_within}
use Rattle.ore_rational.specs.Field.{rationals}
use Rattle.ore_monomial.specs.Monomial.{Monomial, degree}
use Rattle.ore_monomial.specs.Signature.{Signature}
use Rattle.ore_monomial.specs.Term.{Term, term_cmp, shift}
use Rattle.ore_monomial.specs.declared.order.Order.{Order}
use Rattle.ore_leads.specs.FirstDivisor.{first_divisor}
use Rattle.ore_rows.specs.Rows.{Row, unit_row}
use Rattle.ore_rows.specs.RowLead.{coefficient_at, row_lead}
use Rattle.ore_rows.specs.RowsWithin.{row_difference_within, combine_within}
use Rattle.ore_rows.specs.Arithmetic.{within}
use Rattle.ore_rows.specs.Reduction.{Step, step_operator, row_at, less_multiple}
use Rattle.ore_pairs.specs.Steps.{lead_at, s_row_within}
use Rattle.ore_parts.specs.declared.block.PairEntry.{PairEntry}
use Rattle.ore_parts.specs.declared.block.PairEntry.TheVariants.{Pair, Skip}
use Rattle.ore_blocks.specs.declared.place.Place.{Place}
use Rattle.ore_blocks.specs.declared.reason.Reason.{Reason}
use Rattle.ore_blocks.specs.declared.reason.Reason.TheVariants as reason
use Rattle.ore_blocks.specs.Conditions.{Checked, formed, required, is_same, is_none}
use Rattle.ore_algebra.specs.Results.{◌>>=◌}
use Rattle.ore_blocks.specs.Same.{row_discrete, rows_discrete}

-- ---- tests

-- two rows are the same
abbrev pub same_row : Row rationals → Row rationals → Bool
same_row r q = is_same row_discrete r q

-- two lists of rows are the same
abbrev pub same_rows : List (Row rationals) → List (Row rationals) → Bool
same_rows rows others = is_same rows_discrete rows others

-- the lead of a row, where its coefficient is 1
unfoldable pub monic_lead : Order → Row rationals → Option Term
monic_lead o r = elim (row_lead rationals o r) [
  | None ↦ None
  | Some t ↦ cond (is_same rationals.discrete (coefficient_at rationals r t) rationals.one) (Some t) None
]

-- the first term is less than the second
unfoldable pub is_below : Order → Term → Term → Bool
is_below o u t = elim (term_cmp o u t) [ Less ↦ true | Equal ↦ false | Greater ↦ false ]

module _ (l : Limits) (s : Signature) where
  -- a row has a lead that no lead divides
  unfoldable pub is_reduced : List Term → Row rationals → Bool
  is_reduced leads r = elim (row_lead rationals s.order r) [ None ↦ false | Some t ↦ is_none (first_divisor leads t) ]

  -- ---- operations

  -- the step times its row is taken away
  abbrev pub less_step : List (Row rationals) → Step rationals → Row rationals → Result (Row rationals) Cause
  less_step m t r = less_multiple rationals (within l s) (step_operator rationals t) (row_at m t.index) r

  -- each step in order
  abbrev pub less_steps : List (Row rationals) → List (Step rationals) → Row rationals → Result (Row rationals) Cause
  less_steps m ts r = fold_within (λ q t. less_step m t q) r ts

  -- the term times the monomial m
  abbrev pub shifted : Monomial → Term → Result Term Cause
  shifted m t = guard (is_within l.degree (degree m + degree t.monomial)) (shift m t) Degree

  -- ---- conditions

  -- r times m, which has n columns, is w
  unfoldable pub row_gives : Reason → ℕ → List (Row rationals) → Place → Row rationals → Row rationals → Checked (Unit {0})
  row_gives why n m place r w = do
    product ← formed place (combine_within l s n r m)
    required place why (same_row product w)

  -- the step names a basis row, whose lead times the monomial of the step is below t; r less the step
  unfoldable pub check_step : List (Row rationals) → List Term → Term → Place → Row rationals → Step rationals → Checked (Row rationals)
  check_step basis leads t place r step = do
    _ ← required place reason.Step (nat_lt step.index (length leads))
    lead ← formed place (shifted step.monomial (lead_at leads step.index))
    _ ← required place reason.StepTooHigh (is_below s.order lead t)
    formed place (less_step basis step r)

  -- the step names a basis row; r less the step
  unfoldable pub quotient_step : List (Row rationals) → Place → Row rationals → Step rationals → Checked (Row rationals)
  quotient_step basis place r step = do
    _ ← required place reason.Step (nat_lt step.index (length basis))
    formed place (less_step basis step r)

  -- the unit row i, of q, less f times `to` is the inside row r times m
  unfoldable pub row_inside : ℕ → List (Row rationals) → List (Row rationals) → Place → ℕ → Row rationals → Row rationals → Checked (Unit {0})
  row_inside q to m place i f r = do
    product ← formed place (combine_within l s q f to)
    left ← formed place (row_difference_within l (unit_row rationals q i) product)
    right ← formed place (combine_within l s q r m)
    required place reason.Inside (same_row left right)

  -- what its steps leave of the S-row of a treated pair, of the rows of `to`, is the inside row r times m; a skipped pair asks nothing
  unfoldable pub pair_inside : ℕ → List Term → List (Row rationals) → List (Row rationals) → Place → PairEntry → Row rationals → Checked (Unit {0})
  pair_inside q leads to m place (Pair i j steps) r = do
    start ← formed place (s_row_within rationals (within l s) leads to i j)
    left ← formed place (less_steps to steps start)
    right ← formed place (combine_within l s q r m)
    required place reason.Inside (same_row left right)
  pair_inside q leads to m place (Skip i j via) r = Ok tt
