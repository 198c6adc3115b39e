-- The laws of lead reduction, over the fractions: under any limits, for the rows of a signature.
-- (Buchberger 1965; in algebras of this kind Kandri-Rody and Weispfenning 1990.)
--     step_multiple        a step times its row
--     steps_sum            the sum of steps, each times its row
--     IsMonicBasis         rows of n entries with lead coefficient 1, with cofactor rows of m entries
--     IsReduced            no lead of the basis divides the lead of a row
--     AreTaken             some steps, each by a row of the basis, together with the rest are the row; likewise the cofactor row
--     AreBelow             the steps, each times its row, have only terms below t
--     ReductionEnds        what reduction gives is reduced
--     ReductionTakes       the row and the cofactor row are the sums of the steps, and the rests
--     ReductionStaysBelow  where all of the row is below a term, so is all that reduction brings
--     ReductionValue       what reduction gives within limits is what it gives without
--     ReductionComes       without limits it stops nowhere
use Rattle.std.specs.Prelude.{◌≡◌, ℕ, ◌<◌, false, List, [], ◌∷◌, ◌++◌, length}
use Rattle.std.specs.List.{All}
use Rattle.std.specs.declared.result.Result.TheVariants.{Ok}
use Rattle.ore_algebra.specs.Domain.{Domain}
use Rattle.ore_algebra.specs.Limits.{Limits}
use Rattle.ore_rational.specs.Field.{rationals}
use Rattle.ore_monomial.specs.Signature.{Signature}
use Rattle.ore_monomial.specs.Term.{Term}
use Rattle.ore_monomial.specs.declared.order.Order.{Order}
use Rattle.ore_leads.specs.FirstDivisor.{divides_term}
use Rattle.ore_rows.specs.Rows.{Row, zero_row, row_plus, row_scale}
use Rattle.ore_rows.specs.RowLead.{IsRowLead, IsRowBelow}
use Rattle.ore_rows.specs.Arithmetic.{exact, within}
use Rattle.ore_rows.specs.Reduction.{BasisRow, AreMonic, Step, ReductionState, basis_rows, cofactors_of, row_at, basis_lead, step_operator, reduce}

module _ (K : Domain) (s : Signature) where
  -- a step times its row
  abbrev pub step_multiple : List (Row K) → Step K → Row K
  step_multiple rows t = row_scale K s (step_operator K t) (row_at rows t.index)

  -- the sum of steps, each times its row, which has n entries
  unfoldable pub steps_sum : ℕ → List (Row K) → List (Step K) → Row K
  steps_sum n rows [] = zero_row K n
  steps_sum n rows (t ∷ ts) = row_plus K (steps_sum n rows ts) (step_multiple rows t)

  -- each basis row has n entries, its noted lead and the lead coefficient 1, and each cofactor row has m entries
  pub record IsMonicBasis (n m : ℕ) (basis : List (BasisRow (Row K))) : Type 0 where
    pub monic : AreMonic K s.order basis
    pub rows : All (λ b. length b.row ≡ n) basis
    pub cofactors : All (λ b. length b.cofactor ≡ m) basis

  -- a lead of the row is divided by no lead of the basis
  abbrev pub IsReduced : List (BasisRow (Row K)) → Row K → Type 0
  IsReduced basis r = (t : Term) (k : K.Number) → IsRowLead K s.order r t k → (i : ℕ) → i < length basis → divides_term (basis_lead basis i) t ≡ false

  -- the steps and the rest make up what was there
  pub record AreTaken (n m : ℕ) (basis : List (BasisRow (Row K))) (w : ReductionState K) (steps : List (Step K)) (rest : ReductionState K) : Type 0 where
    pub listed : rest.steps ≡ w.steps ++ steps
    pub inside : All (λ t. t.index < length basis) steps
    pub row : row_plus K (steps_sum n (basis_rows basis) steps) rest.row ≡ w.row
    pub cofactor : row_plus K (steps_sum m (cofactors_of basis) steps) rest.cofactor ≡ w.cofactor

  -- the steps, each times its row, and the rest have only terms below t
  pub record AreBelow (t : Term) (basis : List (BasisRow (Row K))) (w : ReductionState K) (steps : List (Step K)) (rest : ReductionState K) : Type 0 where
    pub listed : rest.steps ≡ w.steps ++ steps
    pub multiples : All (λ u. IsRowBelow K s.order t (step_multiple (basis_rows basis) u)) steps
    pub rest_below : IsRowBelow K s.order t rest.row

module _ (s : Signature) where
  -- no lead of the basis divides the lead of the rest
  abbrev pub ReductionEnds : Type 0
  ReductionEnds = (l : Limits) (n m : ℕ) (basis : List (BasisRow (Row rationals))) (w rest : ReductionState rationals) → IsMonicBasis rationals s n m basis → length w.row ≡ n
      → reduce rationals s.order (within l s) basis w ≡ Ok rest → IsReduced rationals s basis rest.row

  -- the row is the sum of the steps and the rest, and so is the cofactor row
  abbrev pub ReductionTakes : Type 0
  ReductionTakes = (l : Limits) (n m : ℕ) (basis : List (BasisRow (Row rationals))) (w rest : ReductionState rationals) → IsMonicBasis rationals s n m basis → length w.row ≡ n → length w.cofactor ≡ m
      → reduce rationals s.order (within l s) basis w ≡ Ok rest → (steps : List (Step rationals)) × AreTaken rationals s n m basis w steps rest

  -- where the row has only terms below t, so have the steps and the rest
  abbrev pub ReductionStaysBelow : Type 0
  ReductionStaysBelow = (l : Limits) (n m : ℕ) (basis : List (BasisRow (Row rationals))) (w rest : ReductionState rationals) (t : Term) → IsMonicBasis rationals s n m basis → length w.row ≡ n → IsRowBelow rationals s.order t w.row
      → reduce rationals s.order (within l s) basis w ≡ Ok rest → (steps : List (Step rationals)) × AreBelow rationals s t basis w steps rest

  -- a value within limits is the exact value
  abbrev pub ReductionValue : Type 0
  ReductionValue = (l : Limits) (o : Order) (basis : List (BasisRow (Row rationals))) (w rest : ReductionState rationals) → reduce rationals o (within l s) basis w ≡ Ok rest → reduce rationals o (exact rationals s) basis w ≡ Ok rest

  -- without limits there is a value
  abbrev pub ReductionComes : Type 0
  ReductionComes = (o : Order) (basis : List (BasisRow (Row rationals))) (w : ReductionState rationals) → (rest : ReductionState rationals) × (reduce rationals o (exact rationals s) basis w ≡ Ok rest)
