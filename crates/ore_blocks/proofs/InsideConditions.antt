-- The places of the inside rows are right where they are as the laws want them.
--     row_inside_iff, rows_inside_iff        that for a row of the matrix, and those for all
--     pair_inside_iff, pairs_inside_iff      that for a treated pair, and those for all
use Rattle.std.proofs.Common.{◌≡◌, ◌↔◌, ℕ, zero, suc, pred, ◌+◌, ◌<◌, ◌≤◌, List, [], ◌∷◌, length, refl, ap, ◌∙◌, arith}
use Rattle.std.specs.declared.result.Result.TheVariants.{Ok}
use Rattle.ore_algebra.specs.Limits.{unlimited}
use Rattle.ore_rational.specs.Field.{rationals}
use Rattle.ore_monomial.specs.Signature.{Signature}
use Rattle.ore_monomial.specs.Term.{Term}
use Rattle.ore_rows.specs.Arithmetic.{within}
use Rattle.ore_rows.specs.Rows.{Row, AreLong, unit_row, row_minus, combine}
use Rattle.ore_rows.specs.RowsWithin.{row_difference_within, combine_within}
use Rattle.ore_rows.specs.Reduction.{Step, row_at, remainder_after}
use Rattle.ore_rows.proofs.WithinValues.{combine_unlimited, difference_unlimited}
use Rattle.ore_pairs.specs.Blocks.{AreInside}
use Rattle.ore_pairs.specs.PairList.{treated_count}
use Rattle.ore_pairs.specs.Steps.{s_row, s_row_within}
use Rattle.ore_parts.specs.declared.block.PairEntry.{PairEntry}
use Rattle.ore_parts.specs.declared.block.PairEntry.TheVariants.{Pair, Skip}
use Rattle.ore_blocks.specs.declared.place.Section.{Section}
use Rattle.ore_blocks.specs.declared.place.Name.TheVariants.{Inside}
use Rattle.ore_blocks.specs.declared.place.Place.{Place}
use Rattle.ore_blocks.specs.declared.place.Place.TheVariants as place
use Rattle.ore_blocks.specs.declared.reason.Reason.TheVariants as reason
use Rattle.ore_blocks.specs.CheckBlock.{dealt_pairs, rows_inside, pairs_inside}
use Rattle.ore_blocks.specs.PlaceConditions.{same_row, less_steps, row_inside, pair_inside}
use Rattle.ore_blocks.specs.Same.{row_discrete}
use Rattle.ore_blocks.proofs.Equivalences.{map_iff, goes_iff, formed_iff, passes_iff, same_iff}
use Rattle.ore_blocks.proofs.InsideRows.{no_pairs}
use Rattle.ore_blocks.proofs.RowConditions.{s_row_exact, steps_exact}

module _ (s : Signature) (q : ℕ) (to m : List (Row rationals)) (long : AreLong rationals q to) (wide : AreLong rationals q m) where
  -- inside row r belongs to row f of `from`, which has place i
  abbrev IsRowInside : ℕ → Row rationals → Row rationals → Type 0
  IsRowInside i f r = row_minus rationals (unit_row rationals q i) (combine rationals s q f to) ≡ combine rationals s q r m

  row_inside_iff : (place : Place) (i : ℕ) (f r : Row rationals) → (row_inside unlimited s q to m place i f r ≡ Ok tt) ↔ IsRowInside i f r
  unfolding row_inside
  row_inside_iff place i f r =
      formed_iff place (combine_within unlimited s q f to) _ (combine rationals s q f to) tt (combine_unlimited s q f to long)
      (formed_iff place (row_difference_within unlimited (unit_row rationals q i) (combine rationals s q f to)) _ (row_minus rationals (unit_row rationals q i) (combine rationals s q f to)) tt
      (difference_unlimited (unit_row rationals q i) (combine rationals s q f to))
      (formed_iff place (combine_within unlimited s q r m) _ (combine rationals s q r m) tt (combine_unlimited s q r m wide)
      (passes_iff place reason.Inside (same_row (row_minus rationals (unit_row rationals q i) (combine rationals s q f to)) (combine rationals s q r m)) (same_iff row_discrete _ _))))

  -- from row i on
  abbrev AreRowsInside : ℕ → List (Row rationals) → List (Row rationals) → Type 0
  AreRowsInside i fs rs = (k : ℕ) → k < length fs → IsRowInside (i + k) (row_at fs k) (row_at rs k)

  first_and_rest : (i : ℕ) (f r : Row rationals) (fs rs : List (Row rationals)) → (IsRowInside i f r × AreRowsInside (suc i) fs rs) ↔ AreRowsInside i (f ∷ fs) (r ∷ rs)
  first_and_rest i f r fs rs = (
    λ h. joined h.0 h.1,
    λ h. (
      ap (λ n. row_minus rationals (unit_row rationals q n) (combine rationals s q f to)) (let e : i ≡ i + 0 = omega arith in e) ∙ h 0 (omega arith),
      λ k kl. ap (λ n. row_minus rationals (unit_row rationals q n) (combine rationals s q (row_at fs k) to)) (let e : suc i + k ≡ i + suc k = omega arith in e) ∙ h (suc k) (omega arith),
    ),
  )
    where
      joined : IsRowInside i f r → AreRowsInside (suc i) fs rs → AreRowsInside i (f ∷ fs) (r ∷ rs)
      joined here more zero kl = ap (λ n. row_minus rationals (unit_row rationals q n) (combine rationals s q f to)) (let e : i + 0 ≡ i = omega arith in e) ∙ here
      joined here more (suc k) kl = ap (λ n. row_minus rationals (unit_row rationals q n) (combine rationals s q (row_at fs k) to)) (let e : i + suc k ≡ suc i + k = omega arith in e) ∙ more k (omega arith)

  pub rows_inside_iff : (at : Section) (i : ℕ) (fs rs : List (Row rationals)) → length fs ≤ length rs → (rows_inside unlimited s q to m at i fs rs ≡ Ok tt) ↔ AreRowsInside i fs rs
  unfolding rows_inside
  rows_inside_iff at i [] rs enough = (λ h k kl. absurd (omega arith), λ h. refl)
  rows_inside_iff at i (f ∷ fs) [] enough = absurd (omega arith)
  rows_inside_iff at i (f ∷ fs) (r ∷ rs) enough = map_iff
      (goes_iff (row_inside unlimited s q to m (place.Row at Inside i) i f r) _ tt (row_inside_iff (place.Row at Inside i) i f r) (λ here. rows_inside_iff at (suc i) fs rs (omega arith)))
      (first_and_rest i f r fs rs)

  pair_inside_iff : (leads : List Term) (place : Place) (i j : ℕ) (steps : List (Step rationals)) (r : Row rationals)
      → (pair_inside unlimited s q leads to m place (Pair i j steps) r ≡ Ok tt) ↔ (remainder_after rationals s to steps (s_row rationals s leads to i j) ≡ combine rationals s q r m)
  unfolding pair_inside
  pair_inside_iff leads place i j steps r =
      formed_iff place (s_row_within rationals (within unlimited s) leads to i j) _ (s_row rationals s leads to i j) tt (s_row_exact s leads to i j)
      (formed_iff place (less_steps unlimited s to steps (s_row rationals s leads to i j)) _ (remainder_after rationals s to steps (s_row rationals s leads to i j)) tt (steps_exact s to steps (s_row rationals s leads to i j))
      (formed_iff place (combine_within unlimited s q r m) _ (combine rationals s q r m) tt (combine_unlimited s q r m wide)
      (passes_iff place reason.Inside (same_row (remainder_after rationals s to steps (s_row rationals s leads to i j)) (combine rationals s q r m)) (same_iff row_discrete _ _))))

  pub pairs_inside_iff : (leads : List Term) (at : Section) (n : ℕ) (es : List PairEntry) (rs : List (Row rationals)) → length rs ≡ treated_count (dealt_pairs es)
      → (pairs_inside unlimited s q leads to m at n es rs ≡ Ok tt) ↔ AreInside rationals s q leads to m (dealt_pairs es) rs
  unfolding pairs_inside pair_inside treated_count
  pairs_inside_iff leads at n [] [] e = (λ h. tt, λ h. refl)
  pairs_inside_iff leads at n [] (r ∷ rs) e = absurd (omega arith)
  pairs_inside_iff leads at n (Skip i j via ∷ es) [] e = (λ h. (pairs_inside_iff leads at n es [] e).0 (no_pairs unlimited s q leads to m at n es), λ h. refl)
  pairs_inside_iff leads at n (Skip i j via ∷ es) (r ∷ rs) e = pairs_inside_iff leads at (n + 0) es (r ∷ rs) e
  pairs_inside_iff leads at n (Pair i j steps ∷ es) [] e = absurd (omega arith)
  pairs_inside_iff leads at n (Pair i j steps ∷ es) (r ∷ rs) e =
      goes_iff (pair_inside unlimited s q leads to m (place.Row at Inside n) (Pair i j steps) r) _ tt (pair_inside_iff leads (place.Row at Inside n) i j steps r) (λ here.
      pairs_inside_iff leads at (n + 1) es rs (ap pred e))
