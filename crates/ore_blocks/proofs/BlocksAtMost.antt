-- The places of a block within limits give what they give without, or an operation stops.
--     s_row_most, less_step_most, less_steps_most, shifted_most, common_most       operations on rows and terms
--     zeros_same                              what doesn't look at limits
--     row_gives_most, rows_give_most          rows that are given
--     check_step_most, check_steps_most, check_entry_most, check_entries_most, check_pairs_most        pairs
--     row_inside_most, rows_inside_most, pair_inside_most, pairs_inside_most, check_inside_most        inside rows
--     check_basis_most, check_to_most, quotient_step_most, quotient_steps_most, check_rest_most        other parts
--     check_exact_most, check_outside_most    blocks
use Rattle.std.proofs.Common.{◌≡◌, ℕ, suc, ◌+◌, ◌&&◌, List, [], ◌∷◌, drop, length, nat_eq, nat_lt, inl, refl, sym, ap, subst}
use Rattle.std.specs.declared.result.Result.TheVariants.{Ok}
use Rattle.ore_algebra.specs.Limits.{Limits, Degree, unlimited, is_within, IsAtMost}
use Rattle.ore_algebra.proofs.LimitLaws.{most_bind, most_fold, most_test}
use Rattle.ore_rational.specs.Field.{rationals}
use Rattle.ore_monomial.specs.Monomial.{Monomial, degree}
use Rattle.ore_monomial.specs.Signature.{Signature}
use Rattle.ore_monomial.specs.Term.{Term, shift}
use Rattle.ore_ring.specs.Ordered.{Ordered}
use Rattle.ore_rows.specs.Arithmetic.{within}
use Rattle.ore_rows.specs.Reduction.{Step, step_operator, row_at, less_multiple}
use Rattle.ore_rows.specs.RowLead.{row_lead}
use Rattle.ore_rows.specs.Rows.{Row, unit_row}
use Rattle.ore_rows.specs.Stored.{rows_of}
use Rattle.ore_rows.proofs.WithinValues.{combine_at_most, difference_at_most, product_at_most, scale_at_most}
use Rattle.ore_pairs.specs.Steps.{lead_at, lcm_of_leads, s_row_within, common_fits}
use Rattle.ore_pairs.proofs.SRows as SRows
use Rattle.ore_rows.proofs.SoundArithmetic.{within_sound, within_unlimited}
use Rattle.ore_parts.specs.declared.block.PairEntry.{PairEntry}
use Rattle.ore_parts.specs.declared.block.PairEntry.TheVariants.{Pair, Skip}
use Rattle.ore_parts.specs.declared.block.ExactBlock.{ExactBlock}
use Rattle.ore_parts.specs.declared.block.OutsideBlock.{OutsideBlock}
use Rattle.ore_blocks.specs.declared.place.Section.{Section}
use Rattle.ore_blocks.specs.declared.place.Section.TheVariants.{Body}
use Rattle.ore_blocks.specs.declared.place.Name.{Name}
use Rattle.ore_blocks.specs.declared.place.Name.TheVariants.{Basis, From, To, Inside}
use Rattle.ore_blocks.specs.declared.place.Place.{Place}
use Rattle.ore_blocks.specs.declared.place.Place.TheVariants as place
use Rattle.ore_blocks.specs.declared.reason.Reason.{Reason}
use Rattle.ore_blocks.specs.declared.reason.Reason.TheVariants as reason
use Rattle.ore_blocks.specs.Conditions.{is_none, required}
use Rattle.ore_blocks.specs.CheckBlock.{RowMatrix, row_matrix_of, pair_of, monic_leads, are_zero, rows_give, check_steps, check_entry, check_entries, check_pairs, rows_inside, pairs_inside, quotient_steps, check_basis, check_to, check_inside, check_rest, check_exact, check_outside}
use Rattle.ore_blocks.specs.PlaceConditions.{is_reduced, less_step, less_steps, shifted, row_gives, check_step, quotient_step, row_inside, pair_inside}
use Rattle.ore_blocks.specs.WithinLimits.{IsCheckedAtMost}
use Rattle.ore_blocks.proofs.CheckedAtMost.{most_same, most_checked, most_then, most_behind}

module _ (l : Limits) (s : Signature) where
  -- ---- operations

  s_row_most : (leads : List Term) (m : List (Row rationals)) (i j : ℕ) → IsAtMost (s_row_within rationals (within l s) leads m i j) (s_row_within rationals (within unlimited s) leads m i j)
  s_row_most leads m i j =
      subst (λ A. IsAtMost (s_row_within rationals (within l s) leads m i j) (s_row_within rationals A leads m i j)) (sym (within_unlimited s)) (SRows.s_row_most rationals s (within l s) (within_sound l s) leads m i j)

  less_step_most : (m : List (Row rationals)) (t : Step rationals) (r : Row rationals) → IsAtMost (less_step l s m t r) (less_step unlimited s m t r)
  unfolding less_multiple
  less_step_most m t r = most_bind _ _ _ _ (scale_at_most l s (step_operator rationals t) (row_at m t.index)) (λ x. difference_at_most l r x)

  less_steps_most : (m : List (Row rationals)) (ts : List (Step rationals)) (r : Row rationals) → IsAtMost (less_steps l s m ts r) (less_steps unlimited s m ts r)
  less_steps_most m ts r = most_fold _ _ (λ q t. less_step_most m t q) r ts

  shifted_most : (m : Monomial) (t : Term) → IsAtMost (shifted l s m t) (shifted unlimited s m t)
  shifted_most m t = most_test (is_within l.degree (degree m + degree t.monomial)) (shift m t) Degree

  common_most : (t : Term) → IsAtMost (common_fits rationals (within l s) t) (common_fits rationals (within unlimited s) t)
  common_most t = most_test (is_within l.degree (degree t.monomial)) tt Degree

  zeros_same : (rows : List (Row rationals)) → are_zero l s rows ≡ are_zero unlimited s rows
  unfolding are_zero
  zeros_same [] = refl
  zeros_same (r ∷ rows) = ap (λ t. is_none (row_lead rationals s.order r) && t) (zeros_same rows)

  -- ---- rows that are given

  row_gives_most : (why : Reason) (n : ℕ) (m : List (Row rationals)) (place : Place) (r w : Row rationals) → IsCheckedAtMost (row_gives l s why n m place r w) (row_gives unlimited s why n m place r w)
  unfolding row_gives
  row_gives_most why n m place r w = most_then _ _ _ _ (most_checked place _ _ (combine_at_most l s n r m)) (λ product. most_same _)

  pub rows_give_most : (why : Reason) (n : ℕ) (m : List (Row rationals)) (at : Section) (name : Name) (k : ℕ) (rs ws : List (Row rationals))
      → IsCheckedAtMost (rows_give l s why n m at name k rs ws) (rows_give unlimited s why n m at name k rs ws)
  unfolding rows_give
  rows_give_most why n m at name k [] ws = most_same _
  rows_give_most why n m at name k (r ∷ rs) [] = most_same _
  rows_give_most why n m at name k (r ∷ rs) (w ∷ ws) = most_then _ _ _ _ (row_gives_most why n m (place.Row at name k) r w) (λ u. rows_give_most why n m at name (suc k) rs ws)

  -- ---- pairs

  check_step_most : (basis : List (Row rationals)) (leads : List Term) (t : Term) (place : Place) (r : Row rationals) (step : Step rationals)
      → IsCheckedAtMost (check_step l s basis leads t place r step) (check_step unlimited s basis leads t place r step)
  unfolding check_step
  check_step_most basis leads t place r step =
      most_then _ _ _ _ (most_same (required place reason.Step (nat_lt step.index (length leads)))) (λ u.
      most_then _ _ _ _ (most_checked place _ _ (shifted_most step.monomial (lead_at leads step.index))) (λ lead.
      most_then _ _ _ _ (most_same _) (λ u.
      most_checked place _ _ (less_step_most basis step r))))

  check_steps_most : (basis : List (Row rationals)) (leads : List Term) (t : Term) (at : Section) (k n : ℕ) (r : Row rationals) (steps : List (Step rationals))
      → IsCheckedAtMost (check_steps l s basis leads t at k n r steps) (check_steps unlimited s basis leads t at k n r steps)
  unfolding check_steps
  check_steps_most basis leads t at k n r [] = most_same _
  check_steps_most basis leads t at k n r (step ∷ steps) = most_then _ _ _ _ (check_step_most basis leads t (place.Pair at k (suc n)) r step) (λ next. check_steps_most basis leads t at k (suc n) next steps)

  check_entry_most : (basis : List (Row rationals)) (leads : List Term) (at : Section) (k : ℕ) (before : List (ℕ × ℕ)) (e : PairEntry)
      → IsCheckedAtMost (check_entry l s basis leads at k before e) (check_entry unlimited s basis leads at k before e)
  unfolding check_entry
  check_entry_most basis leads at k before (Pair i j steps) =
      most_then _ _ _ _ (most_same _) (λ u.
      most_then _ _ _ _ (most_checked (place.Pair at k 0) _ _ (common_most (lcm_of_leads leads i j))) (λ u.
      most_then _ _ _ _ (most_checked (place.Pair at k 0) _ _ (s_row_most leads basis i j)) (λ r.
      check_steps_most basis leads (lcm_of_leads leads i j) at k 0 r steps)))
  check_entry_most basis leads at k before (Skip i j via) = most_same _

  check_entries_most : (basis : List (Row rationals)) (leads : List Term) (at : Section) (k : ℕ) (before : List (ℕ × ℕ)) (es : List PairEntry)
      → IsCheckedAtMost (check_entries l s basis leads at k before es) (check_entries unlimited s basis leads at k before es)
  unfolding check_entries
  check_entries_most basis leads at k before [] = most_same _
  check_entries_most basis leads at k before (e ∷ es) = most_then _ _ _ _ (check_entry_most basis leads at k before e) (λ u. check_entries_most basis leads at (suc k) (pair_of e ∷ before) es)

  check_pairs_most : (basis : List (Row rationals)) (leads : List Term) (at : Section) (es : List PairEntry) → IsCheckedAtMost (check_pairs l s basis leads at es) (check_pairs unlimited s basis leads at es)
  unfolding check_pairs
  check_pairs_most basis leads at es = most_then _ _ _ _ (most_same _) (λ u. check_entries_most basis leads at 0 [] es)

  -- ---- inside rows

  row_inside_most : (q : ℕ) (to m : List (Row rationals)) (place : Place) (i : ℕ) (f r : Row rationals) → IsCheckedAtMost (row_inside l s q to m place i f r) (row_inside unlimited s q to m place i f r)
  unfolding row_inside
  row_inside_most q to m place i f r =
      most_then _ _ _ _ (most_checked place _ _ (combine_at_most l s q f to)) (λ product.
      most_then _ _ _ _ (most_checked place _ _ (difference_at_most l (unit_row rationals q i) product)) (λ left.
      most_then _ _ _ _ (most_checked place _ _ (combine_at_most l s q r m)) (λ right. most_same _)))

  rows_inside_most : (q : ℕ) (to m : List (Row rationals)) (at : Section) (i : ℕ) (fs rs : List (Row rationals)) → IsCheckedAtMost (rows_inside l s q to m at i fs rs) (rows_inside unlimited s q to m at i fs rs)
  unfolding rows_inside
  rows_inside_most q to m at i [] rs = most_same _
  rows_inside_most q to m at i (f ∷ fs) [] = most_same _
  rows_inside_most q to m at i (f ∷ fs) (r ∷ rs) = most_then _ _ _ _ (row_inside_most q to m (place.Row at Inside i) i f r) (λ u. rows_inside_most q to m at (suc i) fs rs)

  pair_inside_most : (q : ℕ) (leads : List Term) (to m : List (Row rationals)) (place : Place) (e : PairEntry) (r : Row rationals) → IsCheckedAtMost (pair_inside l s q leads to m place e r) (pair_inside unlimited s q leads to m place e r)
  unfolding pair_inside
  pair_inside_most q leads to m place (Pair i j steps) r =
      most_then _ _ _ _ (most_checked place _ _ (s_row_most leads to i j)) (λ start.
      most_then _ _ _ _ (most_checked place _ _ (less_steps_most to steps start)) (λ left.
      most_then _ _ _ _ (most_checked place _ _ (combine_at_most l s q r m)) (λ right. most_same _)))
  pair_inside_most q leads to m place (Skip i j via) r = most_same _

  pairs_inside_most : (q : ℕ) (leads : List Term) (to m : List (Row rationals)) (at : Section) (i : ℕ) (es : List PairEntry) (rs : List (Row rationals))
      → IsCheckedAtMost (pairs_inside l s q leads to m at i es rs) (pairs_inside unlimited s q leads to m at i es rs)
  unfolding pairs_inside
  pairs_inside_most q leads to m at i [] rs = most_same _
  pairs_inside_most q leads to m at i (e ∷ es) [] = most_same _
  pairs_inside_most q leads to m at i (Pair x y steps ∷ es) (r ∷ rs) = most_then _ _ _ _ (pair_inside_most q leads to m (place.Row at Inside i) (Pair x y steps) r) (λ u. pairs_inside_most q leads to m at (i + 1) es rs)
  pairs_inside_most q leads to m at i (Skip x y via ∷ es) (r ∷ rs) = most_then _ _ _ _ (pair_inside_most q leads to m (place.Row at Inside i) (Skip x y via) r) (λ u. pairs_inside_most q leads to m at (i + 0) es (r ∷ rs))

  -- ---- parts of a block

  check_basis_most : (a : RowMatrix) (at : Section) (basis from : RowMatrix) → IsCheckedAtMost (check_basis l s a at basis from) (check_basis unlimited s a at basis from)
  unfolding check_basis
  check_basis_most a at basis from =
      most_behind (required (place.Header at Basis) reason.Shape (nat_eq basis.cols a.cols)) _ _ (λ u.
      most_behind (monic_leads s.order at 0 basis.rows) _ _ (λ leads.
      most_behind (required (place.Header at From) reason.Shape (nat_eq (length from.rows) (length a.rows) && nat_eq from.cols (length basis.rows))) _ _ (λ u.
      most_then _ _ _ _ (rows_give_most reason.FromRow a.cols basis.rows at From 0 from.rows a.rows) (λ u. most_same (Ok leads)))))

  check_to_most : (a : RowMatrix) (at : Section) (basis to : RowMatrix) → IsCheckedAtMost (check_to l s a at basis to) (check_to unlimited s a at basis to)
  unfolding check_to
  check_to_most a at basis to = most_then _ _ _ _ (most_same _) (λ u. rows_give_most reason.ToRow a.cols a.rows at To 0 to.rows basis.rows)

  check_inside_most : (a m : RowMatrix) (leads : List Term) (at : Section) (from to : RowMatrix) (es : List PairEntry) (inside : RowMatrix)
      → IsCheckedAtMost (check_inside l s a m leads at from to es inside) (check_inside unlimited s a m leads at from to es inside)
  unfolding check_inside
  check_inside_most a m leads at from to es inside =
      most_then _ _ _ _ (most_same _) (λ u.
      most_then _ _ _ _ (rows_inside_most (length a.rows) to.rows m.rows at 0 from.rows inside.rows) (λ u.
      pairs_inside_most (length a.rows) leads to.rows m.rows at (length a.rows) es (drop (length a.rows) inside.rows)))

  quotient_step_most : (basis : List (Row rationals)) (place : Place) (r : Row rationals) (step : Step rationals) → IsCheckedAtMost (quotient_step l s basis place r step) (quotient_step unlimited s basis place r step)
  unfolding quotient_step
  quotient_step_most basis place r step = most_then _ _ _ _ (most_same _) (λ u. most_checked place _ _ (less_step_most basis step r))

  quotient_steps_most : (basis : List (Row rationals)) (n : ℕ) (r : Row rationals) (steps : List (Step rationals)) → IsCheckedAtMost (quotient_steps l s basis n r steps) (quotient_steps unlimited s basis n r steps)
  unfolding quotient_steps
  quotient_steps_most basis n r [] = most_same _
  quotient_steps_most basis n r (step ∷ steps) = most_then _ _ _ _ (quotient_step_most basis (place.Step (suc n)) r step) (λ next. quotient_steps_most basis (suc n) next steps)

  check_rest_most : (leads : List Term) (cols : ℕ) (left : Row rationals) (rest : List Ordered) → IsCheckedAtMost (check_rest l s leads cols left rest) (check_rest unlimited s leads cols left rest)
  unfolding check_rest is_reduced
  check_rest_most leads cols left rest = most_same _

  -- ---- blocks

  pub check_exact_most : (at : Section) (a m : RowMatrix) (b : ExactBlock) → IsCheckedAtMost (check_exact l s at a m b) (check_exact unlimited s at a m b)
  unfolding check_exact
  check_exact_most at a m b =
      most_then _ _ _ _ (most_checked (place.Block at) _ _ (product_at_most l s a.cols m.rows a.rows)) (λ product.
      most_then _ _ _ _ (zeros_most at product) (λ u.
      most_then _ _ _ _ (check_basis_most a at (row_matrix_of b.basis) (row_matrix_of b.from)) (λ leads.
      most_then _ _ _ _ (check_to_most a at (row_matrix_of b.basis) (row_matrix_of b.to)) (λ u.
      most_then _ _ _ _ (check_pairs_most (rows_of b.basis) leads at b.pairs) (λ u.
      check_inside_most a m leads at (row_matrix_of b.from) (row_matrix_of b.to) b.pairs (row_matrix_of b.inside))))))
    where
      zeros_most : (at : Section) (product : List (Row rationals)) → IsCheckedAtMost (required (place.Block at) reason.NotInKernel (are_zero l s product)) (required (place.Block at) reason.NotInKernel (are_zero unlimited s product))
      zeros_most at product = inl (ap (required (place.Block at) reason.NotInKernel) (zeros_same product))

  pub check_outside_most : (a : RowMatrix) (w : Row rationals) (b : OutsideBlock) → IsCheckedAtMost (check_outside l s a w b) (check_outside unlimited s a w b)
  unfolding check_outside
  check_outside_most a w b =
      most_then _ _ _ _ (check_basis_most a Body (row_matrix_of b.basis) (row_matrix_of b.from)) (λ leads.
      most_then _ _ _ _ (check_pairs_most (rows_of b.basis) leads Body b.pairs) (λ u.
      most_then _ _ _ _ (quotient_steps_most (rows_of b.basis) 0 w b.quotients) (λ left.
      check_rest_most leads a.cols left b.rest)))
