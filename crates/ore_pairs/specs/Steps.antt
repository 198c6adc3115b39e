-- A monic basis beside its leads, the steps of a reduction by it, and the row of a pair of its rows. Each is said of
-- any matrix m that has a row for each basis row: at m = basis it is a row of the module, at unit rows it is the row
-- of cofactors of that.
-- (S-polynomials and syzygies from them: Buchberger 1965, Schreyer 1980; for modules Kreuzer and Robbiano 2000.)
--     row_at, lead_at            row i of a matrix (of ore_rows), and the lead of basis row i
--     AreLeads                   terms that are the leads of a basis, row by row, each with coefficient 1
--     Step, remainder_after      a term by which a basis row is multiplied and then taken away, and what such steps
--                                leave of a row (of ore_rows)
--     step_row                   what one step takes away
--     lcm_of_leads               the common multiple of a pair: the least of its two leads, in their column
--     multiplier                 the operator that takes the lead of a basis row to a multiple of it
--     s_row                      the S-row of a pair: a row less another, both multiplied to the pair's common multiple
--     multiples_less             a multiple of a row less a multiple of another, by an arithmetic
--     s_row_within               the S-row by an arithmetic
--     common_fits                the degree of a common multiple fits an arithmetic
--     syzygy                     what steps leave of the pair's row of cofactors
--     AreStepsOf                 the monomials of steps are of a signature
use Rattle.std.specs.Prelude.{◌≡◌, ℕ, ◌<◌, List, length}
use Rattle.std.specs.List.{AllByRecursion}
use Rattle.std.specs.declared.result.Result.{Result}
use Rattle.ore_algebra.specs.Domain.{Domain}
use Rattle.ore_algebra.specs.Free.{single}
use Rattle.ore_algebra.specs.Limits.{Cause, Degree, ◌>>=◌, guard}
use Rattle.ore_monomial.specs.LetterRule.{Operator}
use Rattle.ore_monomial.specs.Monomial.{Monomial, degree, plain_cmp, lcm, quotient}
use Rattle.ore_monomial.specs.Term.{Term}
use Rattle.ore_monomial.specs.declared.order.Order.{Order}
use Rattle.ore_monomial.specs.Signature.{Signature, MonomialOf}
use Rattle.ore_rows.specs.Rows.{Row, row_minus, row_scale, identity_rows}
use Rattle.ore_rows.specs.RowLead.{IsRowLead}
use Rattle.ore_rows.specs.Arithmetic.{Arithmetic, scaled, less}
pub use Rattle.ore_rows.specs.Reduction.{Step, row_at, lead_at}
unfoldable pub use Rattle.ore_rows.specs.Reduction.{remainder_after}

-- there is one lead for each row, and the lead of a row has the coefficient 1
pub record AreLeads (K : Domain) (o : Order) (basis : List (Row K)) (leads : List Term) : Type 0 where
  pub long : length leads ≡ length basis
  pub monic : (i : ℕ) → i < length basis → IsRowLead K o (row_at basis i) (lead_at leads i) K.one

-- each step's monomial is of the signature
abbrev pub AreStepsOf : (K : Domain) → Signature → List (Step K) → Type 0
AreStepsOf K s steps = AllByRecursion (λ (t : Step K). MonomialOf s t.monomial) steps

-- the least common multiple of the leads of rows i and j, in the column of the first
abbrev pub lcm_of_leads : List Term → ℕ → ℕ → Term
lcm_of_leads leads i j = record { monomial = lcm (lead_at leads i).monomial (lead_at leads j).monomial; column = (lead_at leads i).column }

-- the operator that takes the lead of basis row i to the monomial m
abbrev pub multiplier : (K : Domain) → List Term → Monomial → ℕ → Operator K
multiplier K leads m i = single K plain_cmp (quotient m (lead_at leads i).monomial) K.one

module _ (K : Domain) (s : Signature) where
  -- the step's term times the row of m at its index: what the step takes away
  abbrev pub step_row : List (Row K) → Step K → Row K
  step_row m t = row_scale K s (single K plain_cmp t.monomial t.number) (row_at m t.index)

  -- row i less row j of m, each times the operator that takes its lead to the pair's common multiple
  unfoldable pub s_row : List Term → List (Row K) → ℕ → ℕ → Row K
  s_row leads m i j = row_minus K (row_scale K s (multiplier K leads (lcm_of_leads leads i j).monomial i) (row_at m i)) (row_scale K s (multiplier K leads (lcm_of_leads leads i j).monomial j) (row_at m j))

  -- what the steps leave of the pair's row, at the n unit rows
  abbrev pub syzygy : ℕ → List Term → ℕ → ℕ → List (Step K) → Row K
  syzygy n leads i j steps = remainder_after K s (identity_rows K n) steps (s_row leads (identity_rows K n) i j)

-- ---- by an arithmetic

module _ (K : Domain) (A : Arithmetic K) where
  -- d times the row a, less e times the row b
  unfoldable pub multiples_less : Operator K → Row K → Operator K → Row K → Result (Row K) Cause
  multiples_less d a e b = do
    first ← scaled K A d a
    second ← scaled K A e b
    less K A first second

  -- row i of m less row j, each times the operator that takes its lead to the pair's common multiple
  unfoldable pub s_row_within : List Term → List (Row K) → ℕ → ℕ → Result (Row K) Cause
  s_row_within leads m i j = multiples_less (multiplier K leads (lcm_of_leads leads i j).monomial i) (row_at m i) (multiplier K leads (lcm_of_leads leads i j).monomial j) (row_at m j)

  -- nothing where the degree of the common multiple fits, else a stop
  abbrev pub common_fits : Term → Result (Unit {0}) Cause
  common_fits t = guard (A.degree_fits (degree t.monomial)) tt Degree
