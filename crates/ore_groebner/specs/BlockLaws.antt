-- The blocks that a complete state makes are valid, without limits; over the fractions, for a signature and its order.
--     CompleteIsValid     where rows times a matrix are the syzygies, they make an exact block for it
--     KernelIsValid       unit rows do so for the matrix of the syzygies
--     RestIsOutside       a row of which a reduction by the basis leaves something has an outside block
--     IsEnd               a complete state that a run from the rows a reaches
--     AreInsideRows       rows m that take a to zeros, and rows whose products with m are the syzygies
use Rattle.std.specs.Prelude.{◌≡◌, ◌≢◌, ℕ, List, [], length}
use Rattle.std.specs.List.{AllByRecursion}
use Rattle.std.specs.declared.result.Result.TheVariants.{Ok}
use Rattle.ore_algebra.specs.Limits.{Limits}
use Rattle.ore_rational.specs.Field.{rationals, rational_inverses}
use Rattle.ore_monomial.specs.Signature.{Signature}
use Rattle.ore_rows.specs.Rows.{Row, AreLong, zero_row, identity_rows, combine, matrix_times}
use Rattle.ore_rows.specs.Arithmetic.{within}
use Rattle.ore_rows.specs.Reduction.{ReductionState, reduce}
use Rattle.ore_pairs.specs.Blocks.{IsValidExact, IsValidOutside}
use Rattle.ore_pairs.specs.Run.{RunState, IsComplete}
use Rattle.ore_pairs.specs.RunBlocks.{exact_of_run, outside_of_run}
use Rattle.ore_pairs.specs.Reached.{IsReachable}

module _ (s : Signature) where
  -- some choices lead to the state, which is complete, within the limits; a has n columns
  pub record IsEnd (limits : Limits) (n : ℕ) (a : List (Row rationals)) (st : RunState rationals) : Type 0 where
    pub long : AreLong rationals n a
    pub reached : IsReachable rationals rational_inverses s.order (within limits s) a st
    pub complete : IsComplete rationals st

  -- m has a column for each row of a, and takes a to zeros; `inside` has a column for each row of m, and times m it is
  -- the syzygies
  pub record AreInsideRows (n : ℕ) (a m inside syzygies : List (Row rationals)) : Type 0 where
    pub wide : AreLong rationals (length a) m
    pub annihilates : AllByRecursion (λ r. combine rationals s n r a ≡ zero_row rationals n) m
    pub long : AreLong rationals (length m) inside
    pub product : matrix_times rationals s (length a) inside m ≡ syzygies

  -- the block that these rows make is valid for a and m
  abbrev pub CompleteIsValid : Type 0
  CompleteIsValid = (limits : Limits) (n : ℕ) (a m inside : List (Row rationals)) (st : RunState rationals) → IsEnd limits n a st → AreInsideRows n a m inside st.syzygies
      → IsValidExact rationals s s.order n a m (exact_of_run rationals s.order a st (length m) inside)

  -- so is the one that unit rows make, for a and the syzygies
  abbrev pub KernelIsValid : Type 0
  KernelIsValid = (limits : Limits) (n : ℕ) (a : List (Row rationals)) (st : RunState rationals) → IsEnd limits n a st
      → IsValidExact rationals s s.order n a st.syzygies (exact_of_run rationals s.order a st (length st.syzygies) (identity_rows rationals (length st.syzygies)))

  -- where reducing the row w, of n entries, leaves more than zeros, its steps and its rest make a valid block for a and w
  abbrev pub RestIsOutside : Type 0
  RestIsOutside = (limits : Limits) (n : ℕ) (a : List (Row rationals)) (st : RunState rationals) (w cofactor : Row rationals) (rest : ReductionState rationals) → IsEnd limits n a st → length w ≡ n
      → reduce rationals s.order (within limits s) st.basis (record { row = w; cofactor = cofactor; steps = [] }) ≡ Ok rest → rest.row ≢ zero_row rationals n
      → IsValidOutside rationals s s.order n a w (outside_of_run rationals s.order a st rest.steps rest.row)
