-- Lead reduction of a row by rows with lead coefficient 1: always by the least index whose lead divides.
-- (Buchberger 1965; in algebras of this kind Kandri-Rody and Weispfenning 1990.)
--     BasisRow                     a row of a basis, its cofactor row and its lead; R is what its rows are
--     IsMonic, AreMonic            the lead has the coefficient 1
--     basis_rows, cofactors_of, leads_of    the parts of some such rows
--     origin, row_at, lead_at      a term; the row, and the lead, at a place
--     basis_lead                   the noted lead of a row
--     Step                         a fraction times a monomial times the row at an index
--     step_operator                the fraction times the monomial
--     ReductionState               a row, its cofactor row, and the steps that made them
--     remainder_after              what is left of a row when steps are taken from it
--     step_by                      the step by a basis row that takes a term of a row away
--     next_step                    the step that a row calls for, if a lead divides its lead
--     less_multiple                a row less a multiple of another
--     subtract                     a row and its cofactor row, less a step
--     reduce_once                  the step that the row calls for, if there is one
--     reduce_in                    so many times
--     room                         more steps than a row can call for
--     reduce                       until the row calls for none
use Rattle.std.specs.Prelude.{ℕ, zero, suc, ◌+◌, ◌^◌, List, [], ◌∷◌, ◌++◌, length, map, get_or}
use Rattle.std.specs.List.{All}
use Rattle.std.specs.Option.{option_map}
use Rattle.std.specs.declared.option.Option.{Option}
use Rattle.std.specs.declared.option.Option.TheVariants.{None, Some}
use Rattle.std.specs.declared.result.Result.{Result}
use Rattle.std.specs.declared.result.Result.TheVariants.{Ok}
use Rattle.ore_algebra.specs.Domain.{Domain}
use Rattle.ore_algebra.specs.Free.{single}
use Rattle.ore_algebra.specs.Limits.{Cause, ◌>>=◌}
use Rattle.ore_monomial.specs.Monomial.{Monomial, degree, unit, quotient, plain_cmp}
use Rattle.ore_monomial.specs.Signature.{Signature}
use Rattle.ore_monomial.specs.Term.{Term}
use Rattle.ore_monomial.specs.declared.order.Order.{Order}
use Rattle.ore_monomial.specs.LetterRule.{Operator}
use Rattle.ore_leads.specs.FirstDivisor.{first_divisor}
use Rattle.ore_rows.specs.Rows.{Row, row_minus, row_scale}
use Rattle.ore_rows.specs.RowLead.{coefficient_at, IsRowLead, row_lead}
use Rattle.ore_rows.specs.Arithmetic.{Arithmetic, scaled, less}

-- ---- rows with lead coefficient 1

-- a basis row, its cofactor row and its lead; that the coefficient is 1 is said by `IsMonic`
pub record BasisRow (R : Type 0) : Type 0 where
  pub row : R
  pub cofactor : R
  pub lead : Term

-- the lead of the row is the one that is noted, and its coefficient is 1
abbrev pub IsMonic : (K : Domain) → Order → BasisRow (Row K) → Type 0
IsMonic K o b = IsRowLead K o b.row b.lead K.one

-- the noted lead of each basis row is its lead, with the coefficient 1
abbrev pub AreMonic : (K : Domain) → Order → List (BasisRow (Row K)) → Type 0
AreMonic K o basis = All (IsMonic K o) basis

-- the rows of a basis alone, in order
abbrev pub basis_rows : {R : Type 0} → List (BasisRow R) → List R
basis_rows basis = map (λ b. b.row) basis

-- the cofactor rows alone, in order
abbrev pub cofactors_of : {R : Type 0} → List (BasisRow R) → List R
cofactors_of basis = map (λ b. b.cofactor) basis

-- the noted leads alone, in order
abbrev pub leads_of : {R : Type 0} → List (BasisRow R) → List Term
leads_of basis = map (λ b. b.lead) basis

-- the monomial 1 in the first column
abbrev pub origin : Term
origin = record { monomial = unit; column = 0 }

-- the row at place i, and the empty row past the last
abbrev pub row_at : {K : Domain} → List (Row K) → ℕ → Row K
row_at rows i = get_or rows i []

-- the lead at place i, and 1 in the first column past the last
abbrev pub lead_at : List Term → ℕ → Term
lead_at leads i = get_or leads i origin

-- the noted lead of the row at place i
abbrev pub basis_lead : {R : Type 0} → List (BasisRow R) → ℕ → Term
basis_lead basis i = lead_at (leads_of basis) i

-- ---- steps

-- the number times the monomial, from the left, times the basis row at the place index, where the first has place 0
pub record Step (K : Domain) : Type 0 where
  pub index : ℕ
  pub monomial : Monomial
  pub number : K.Number

-- what is left of a row and of its cofactor row, and the steps that were taken from them, in order
pub record ReductionState (K : Domain) : Type 0 where
  pub row : Row K
  pub cofactor : Row K
  pub steps : List (Step K)

-- the operator that a step multiplies with
abbrev pub step_operator : (K : Domain) → Step K → Operator K
step_operator K t = single K plain_cmp t.monomial t.number

-- z less each step times its row, in order
unfoldable pub remainder_after : (K : Domain) → Signature → List (Row K) → List (Step K) → Row K → Row K
remainder_after K s rows [] z = z
remainder_after K s rows (t ∷ ts) z = remainder_after K s rows ts (row_minus K z (row_scale K s (step_operator K t) (row_at rows t.index)))

module _ (K : Domain) (o : Order) where
  -- the step that takes the term u of the row r away, by the basis row at place i
  abbrev pub step_by : List (BasisRow (Row K)) → Row K → Term → ℕ → Step K
  step_by basis r u i = record { index = i; monomial = quotient u.monomial (basis_lead basis i).monomial; number = coefficient_at K r u }

  -- the step that takes the lead away, by the first basis row whose lead divides it
  unfoldable pub next_step : List (BasisRow (Row K)) → Row K → Option (Step K)
  next_step basis r = elim (row_lead K o r) [ None ↦ None | Some u ↦ option_map (step_by basis r u) (first_divisor (leads_of basis) u) ]

  -- how many terms there may be that are not above the lead of a row
  unfoldable pub room : Row K → ℕ
  room r = elim (row_lead K o r) [ None ↦ 0 | Some u ↦ (degree u.monomial + length r + 1) ^ 14 ]

module _ (K : Domain) (A : Arithmetic K) where
  -- d times the row b is taken from the row r
  unfoldable pub less_multiple : Operator K → Row K → Row K → Result (Row K) Cause
  less_multiple d b r = do
    multiple ← scaled K A d b
    less K A r multiple

  -- the step times the basis row is taken from the row, and then the step times its cofactor row from the cofactor row
  unfoldable pub subtract : List (BasisRow (Row K)) → Step K → ReductionState K → Result (ReductionState K) Cause
  subtract basis t w = do
    row ← less_multiple (step_operator K t) (row_at (basis_rows basis) t.index) w.row
    cofactor ← less_multiple (step_operator K t) (row_at (cofactors_of basis) t.index) w.cofactor
    Ok (record { row = row; cofactor = cofactor; steps = w.steps ++ t ∷ [] })

module _ (K : Domain) (o : Order) (A : Arithmetic K) where
  -- the step that the row calls for; nothing where it calls for none
  unfoldable pub reduce_once : List (BasisRow (Row K)) → ReductionState K → Result (ReductionState K) Cause
  reduce_once basis w = elim (next_step K o basis w.row) [ None ↦ Ok w | Some t ↦ subtract K A basis t w ]

  -- n such steps
  unfoldable pub reduce_in : ℕ → List (BasisRow (Row K)) → ReductionState K → Result (ReductionState K) Cause
  reduce_in zero basis w = Ok w
  reduce_in (suc n) basis w = do
    next ← reduce_once basis w
    reduce_in n basis next

  -- each step makes the lead smaller, so in that many steps the row comes to call for none
  unfoldable pub reduce : List (BasisRow (Row K)) → ReductionState K → Result (ReductionState K) Cause
  reduce basis w = reduce_in (room K o w.row) basis w
