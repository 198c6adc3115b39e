-- What operations on rows give without limits, and when the places of rows that are given are right.
--     s_row_exact           the row of a pair
--     stepped, step_exact   a row less a step
--     steps_exact           a row less some steps
--     row_gives_iff         a row times a matrix is the row that is wanted
--     rows_give_iff         each row times a matrix is the row that is wanted
use Rattle.std.proofs.Common.{◌≡◌, ◌↔◌, ℕ, suc, pred, List, [], ◌∷◌, length, refl, ap, ◌∙◌, get_or, drop, arith}
use Rattle.std.specs.declared.result.Result.{Result}
use Rattle.std.specs.declared.result.Result.TheVariants.{Ok}
use Rattle.ore_algebra.specs.Limits.{Cause, unlimited, ◌>>=◌}
use Rattle.ore_rational.specs.Field.{rationals}
use Rattle.ore_monomial.specs.Signature.{Signature}
use Rattle.ore_monomial.specs.Term.{Term}
use Rattle.ore_rows.specs.Rows.{Row, AreLong, row_minus, row_scale, combine, matrix_times}
use Rattle.ore_rows.specs.RowsWithin.{combine_within}
use Rattle.ore_rows.specs.Arithmetic.{within, scaled}
use Rattle.ore_rows.specs.Reduction.{Step, step_operator, row_at, less_multiple, remainder_after}
use Rattle.ore_rows.proofs.SoundArithmetic.{within_unlimited}
use Rattle.ore_rows.proofs.WithinValues.{combine_unlimited, scale_unlimited, difference_unlimited}
use Rattle.ore_pairs.specs.Steps.{s_row, s_row_within}
use Rattle.ore_pairs.proofs.SRows as SRows
use Rattle.ore_blocks.specs.declared.place.Section.{Section}
use Rattle.ore_blocks.specs.declared.place.Name.{Name}
use Rattle.ore_blocks.specs.declared.place.Place.{Place}
use Rattle.ore_blocks.specs.declared.place.Place.TheVariants as place
use Rattle.ore_blocks.specs.declared.reason.Reason.{Reason}
use Rattle.ore_blocks.specs.CheckBlock.{rows_give}
use Rattle.ore_blocks.specs.PlaceConditions.{same_row, less_step, less_steps, row_gives}
use Rattle.ore_blocks.specs.Same.{row_discrete}
use Rattle.ore_blocks.proofs.Equivalences.{map_iff, goes_iff, formed_iff, passes_iff, same_iff}

module _ {A B : Type 0} where
  limits_on : (r : Result A Cause) (f : A → Result B Cause) (x : A) (y : Result B Cause) → r ≡ Ok x → f x ≡ y → (r >>= f) ≡ y
  limits_on r f x y e h = ap (λ t. t >>= f) e ∙ h

module _ (s : Signature) where
  pub s_row_exact : (leads : List Term) (m : List (Row rationals)) (i j : ℕ) → s_row_within rationals (within unlimited s) leads m i j ≡ Ok (s_row rationals s leads m i j)
  s_row_exact leads m i j = ap (λ A. s_row_within rationals A leads m i j) (within_unlimited s) ∙ SRows.s_row_exact rationals s leads m i j

  abbrev pub stepped : List (Row rationals) → Step rationals → Row rationals → Row rationals
  stepped m t r = row_minus rationals r (row_scale rationals s (step_operator rationals t) (row_at m t.index))

  pub step_exact : (m : List (Row rationals)) (t : Step rationals) (r : Row rationals) → less_step unlimited s m t r ≡ Ok (stepped m t r)
  unfolding less_multiple
  step_exact m t r =
      limits_on (scaled rationals (within unlimited s) (step_operator rationals t) (row_at m t.index)) _ (row_scale rationals s (step_operator rationals t) (row_at m t.index)) _
      (scale_unlimited s (step_operator rationals t) (row_at m t.index))
      (difference_unlimited r (row_scale rationals s (step_operator rationals t) (row_at m t.index)))

  pub steps_exact : (m : List (Row rationals)) (ts : List (Step rationals)) (r : Row rationals) → less_steps unlimited s m ts r ≡ Ok (remainder_after rationals s m ts r)
  unfolding remainder_after
  steps_exact m [] r = refl
  steps_exact m (t ∷ ts) r = limits_on (less_step unlimited s m t r) _ (stepped m t r) _ (step_exact m t r) (steps_exact m ts (stepped m t r))

  row_gives_iff : (why : Reason) (n : ℕ) (m : List (Row rationals)) → AreLong rationals n m → (place : Place) (r w : Row rationals) → (row_gives unlimited s why n m place r w ≡ Ok tt) ↔ (combine rationals s n r m ≡ w)
  unfolding row_gives
  row_gives_iff why n m long place r w =
      formed_iff place (combine_within unlimited s n r m) _ (combine rationals s n r m) tt (combine_unlimited s n r m long)
      (passes_iff place why (same_row (combine rationals s n r m) w) (same_iff row_discrete (combine rationals s n r m) w))

  pub rows_give_iff : (why : Reason) (n : ℕ) (m : List (Row rationals)) → AreLong rationals n m → (at : Section) (name : Name) (k : ℕ) (rs ws : List (Row rationals)) → length rs ≡ length ws
      → (rows_give unlimited s why n m at name k rs ws ≡ Ok tt) ↔ (matrix_times rationals s n rs m ≡ ws)
  unfolding rows_give matrix_times
  rows_give_iff why n m long at name k [] [] e = (λ h. refl, λ h. refl)
  rows_give_iff why n m long at name k [] (w ∷ ws) e = absurd (omega arith)
  rows_give_iff why n m long at name k (r ∷ rs) [] e = absurd (omega arith)
  rows_give_iff why n m long at name k (r ∷ rs) (w ∷ ws) e = map_iff
      (goes_iff (row_gives unlimited s why n m (place.Row at name k) r w) _ tt (row_gives_iff why n m long (place.Row at name k) r w) (λ here.
      rows_give_iff why n m long at name (suc k) rs ws (ap pred e)))
      (λ h. (λ i. h.0 i ∷ h.1 i), λ h. (ap (λ rows. get_or rows 0 []) h, ap (drop 1) h))
