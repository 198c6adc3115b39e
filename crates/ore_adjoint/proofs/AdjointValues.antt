-- What the transposed adjoint within limits gives.
--     column_unlimited      without limits: the adjoints of a column
--     columns_are           those of the columns from one place on are the rows of the transposed adjoint from there on
--     matrix_unlimited      without limits it is the transposed adjoint
--     matrix_at_most        within limits it is what it is without, or stops
--     matrix_value          so an Ok is the transposed adjoint
use Rattle.std.proofs.Common.{◌≡◌, ℕ, zero, suc, ◌+◌, List, ◌∷◌, map, refl, ap, ◌∙◌, arith}
use Rattle.std.specs.List.{range_with_len}
use Rattle.std.specs.declared.result.Result.TheVariants.{Ok}
use Rattle.ore_algebra.specs.Limits.{Limits, unlimited, IsAtMost}
use Rattle.ore_algebra.proofs.LimitLaws.{most_map, value_from}
use Rattle.ore_rational.specs.Field.{rationals}
use Rattle.ore_monomial.specs.Signature.{Signature}
use Rattle.ore_ring.specs.Adjoint.{adjoint}
use Rattle.ore_ring.specs.AdjointWithin.{adjoint_within}
use Rattle.ore_ring.proofs.AdjointLaws.{adjoint_unlimited, adjoint_at_most}
use Rattle.ore_rows.specs.Rows.{Row, column, adjoint_columns, transpose_adjoint}
use Rattle.ore_rows.proofs.WithinValues.{map_unlimited}
use Rattle.ore_adjoint.specs.AdjointMatrix.{adjoint_column_within, transpose_adjoint_within}

module _ (s : Signature) where
  column_unlimited : (j : ℕ) (a : List (Row rationals)) → adjoint_column_within unlimited s j a ≡ Ok (map (adjoint rationals s) (column rationals s j a))
  column_unlimited j a = map_unlimited (adjoint_within unlimited s) (adjoint rationals s) (adjoint_unlimited s) (column rationals s j a)

  -- n of them
  columns_are : (j n : ℕ) (a : List (Row rationals)) → map (λ k. map (adjoint rationals s) (column rationals s k a)) (range_with_len j n) ≡ adjoint_columns rationals s j n a
  unfolding adjoint_columns
  columns_are j zero a = refl
  columns_are j (suc n) a =
      ap (λ rs. map (adjoint rationals s) (column rationals s j a) ∷ rs)
      (columns_are (j + 1) n a ∙ ap (λ k. adjoint_columns rationals s k n a) (let e : j + 1 ≡ suc j = omega arith in e))

  pub matrix_unlimited : (n : ℕ) (a : List (Row rationals)) → transpose_adjoint_within unlimited s n a ≡ Ok (transpose_adjoint rationals s n a)
  unfolding transpose_adjoint
  matrix_unlimited n a =
      map_unlimited (λ j. adjoint_column_within unlimited s j a) (λ j. map (adjoint rationals s) (column rationals s j a)) (λ j. column_unlimited j a) (range_with_len 0 n)
      ∙ ap Ok (columns_are 0 n a)

module _ (l : Limits) (s : Signature) where
  pub matrix_at_most : (n : ℕ) (a : List (Row rationals)) → IsAtMost (transpose_adjoint_within l s n a) (transpose_adjoint_within unlimited s n a)
  matrix_at_most n a = most_map _ _ (λ j. most_map _ _ (adjoint_at_most l s) (column rationals s j a)) (range_with_len 0 n)

  pub matrix_value : (n : ℕ) (a x : List (Row rationals)) → transpose_adjoint_within l s n a ≡ Ok x → x ≡ transpose_adjoint rationals s n a
  matrix_value n a x e =
      value_from (transpose_adjoint_within l s n a) _ x (transpose_adjoint rationals s n a) (matrix_at_most n a) (matrix_unlimited s n a) e
