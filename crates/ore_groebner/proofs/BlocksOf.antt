-- The blocks of a state are of the signature where the matrix of its run is.
--     of_placed                   rows at the places of their origins
--     of_exact_of_run, of_outside_of_run    blocks
use Rattle.std.proofs.Common.{ℕ, Bool, true, false, cond, List, [], ◌∷◌, length, map}
use Rattle.std.specs.List.{AllByRecursion}
use Rattle.ore_algebra.specs.Domain.{Domain}
use Rattle.ore_monomial.specs.Signature.{Signature, IsLawful}
use Rattle.ore_monomial.specs.declared.order.Order.{Order}
use Rattle.ore_rows.specs.Rows.{Row, RowOf, zero_row}
use Rattle.ore_rows.specs.Reduction.{Step}
use Rattle.ore_rows.specs.declared.choices.Origin.{Origin}
use Rattle.ore_rows.proofs.RowLaws as Rows
use Rattle.ore_pairs.specs.Blocks.{IsExactBlockOfSignature, IsOutsideBlockOfSignature}
use Rattle.ore_pairs.specs.Run.{RunState}
use Rattle.ore_pairs.specs.RunBlocks.{is_origin, row_from, inside_origins, placed, exact_of_run, outside_of_run}
use Rattle.ore_pairs.specs.Steps.{AreStepsOf}
use Rattle.ore_groebner.proofs.Holding.{Holds, of_rows, of_cofactors}
use Rattle.ore_groebner.proofs.Returning.{of_from_rows}

module _ (K : Domain) (s : Signature) where
  of_row_from : (origins : List Origin) (rows : List (Row K)) (other : Row K) (x : Origin) → AllByRecursion (RowOf K s) rows → RowOf K s other → RowOf K s (row_from origins rows other x)
  unfolding row_from
  of_row_from [] rows other x d h = h
  of_row_from (y ∷ origins) [] other x d h = h
  of_row_from (y ∷ origins) (r ∷ rows) other x d h = by (is_origin y x) (of_row_from origins rows other x d.1 h)
    where
      by : (b : Bool) → RowOf K s (row_from origins rows other x) → RowOf K s (cond b r (row_from origins rows other x))
      by true more = d.0
      by false more = more

  pub of_placed : (q m : ℕ) (st : RunState K) (inside : List (Row K)) → AllByRecursion (RowOf K s) inside → AllByRecursion (RowOf K s) (placed K q m st inside)
  of_placed q m st inside d = each (inside_origins q st.listed)
    where
      each : (xs : List Origin) → AllByRecursion (RowOf K s) (map (row_from st.origins inside (zero_row K m)) xs)
      each [] = tt
      each (x ∷ xs) = (of_row_from st.origins inside (zero_row K m) x d (Rows.of_zero_row K s m), each xs)

module _ (K : Domain) (s : Signature) (lawful : IsLawful s) (o : Order) (n : ℕ) (a : List (Row K)) (of_a : AllByRecursion (RowOf K s) a) (st : RunState K) (h : Holds K s o n a st) where
  pub of_exact_of_run : (m : ℕ) (inside : List (Row K)) → AllByRecursion (RowOf K s) inside → IsExactBlockOfSignature K s (exact_of_run K o a st m inside)
  of_exact_of_run m inside d = record {
    basis = of_rows K s o n a st.basis h.basis of_a;
    from = of_from_rows K s lawful o (length st.basis) 0 a;
    to = of_cofactors K s o n a st.basis h.basis of_a;
    entries = h.entries.entries of_a;
    inside = of_placed K s (length a) m st inside d;
  }

  pub of_outside_of_run : (steps : List (Step K)) (rest : Row K) → AreStepsOf K s steps → IsOutsideBlockOfSignature K s (outside_of_run K o a st steps rest)
  of_outside_of_run steps rest d = record {
    basis = of_rows K s o n a st.basis h.basis of_a;
    from = of_from_rows K s lawful o (length st.basis) 0 a;
    entries = h.entries.entries of_a;
    steps = d;
  }
