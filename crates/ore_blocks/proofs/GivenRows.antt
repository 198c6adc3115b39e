-- Lists of conditions, from a place on: the condition there and those behind it.
--     rows_next                    rows that are given
--     past_rows, no_rows, rows_end past the last row
--     zeros_next, zeros_end        rows that are zero
--     steps_next, steps_end        steps of a pair
--     quotients_next, quotients_end            steps of an outside block
use Rattle.std.proofs.Common.{◌≡◌, ℕ, suc, ◌+◌, ◌≤◌, ◌&&◌, true, List, [], ◌∷◌, drop, length, refl, ap, ◌∙◌, Some, arith}
use Rattle.std.specs.List.{slice_get}
use Rattle.std.proofs.lemmas.List.{at_drop_all, drop-map}
use Rattle.std.specs.declared.result.Result.TheVariants.{Ok}
use Rattle.ore_algebra.specs.Limits.{Limits}
use Rattle.ore_rational.specs.Field.{rationals}
use Rattle.ore_monomial.specs.Signature.{Signature}
use Rattle.ore_monomial.specs.Term.{Term}
use Rattle.ore_ring.specs.Ordered.{Ordered}
use Rattle.ore_rows.specs.Reduction.{Step}
use Rattle.ore_rows.specs.RowLead.{row_lead}
use Rattle.ore_rows.specs.Rows.{Row}
use Rattle.ore_rows.specs.Stored.{OperatorMatrix, rows_of, sums_of}
use Rattle.ore_blocks.specs.CheckBlock.{are_zero, check_steps, quotient_steps, rows_give}
use Rattle.ore_blocks.specs.Conditions.{is_none, required}
use Rattle.ore_algebra.specs.Results.{◌>>=◌}
use Rattle.ore_algebra.proofs.ListLaws.{drop_read}
use Rattle.ore_blocks.specs.PlaceConditions.{check_step, quotient_step, row_gives}
use Rattle.ore_blocks.specs.declared.place.Section.{Section}
use Rattle.ore_blocks.specs.declared.place.Place.TheVariants as place
use Rattle.ore_blocks.specs.declared.place.Name.{Name}
use Rattle.ore_blocks.specs.declared.reason.Reason.{Reason}
use Rattle.ore_blocks.specs.declared.reason.Reason.TheVariants as reason
use Rattle.ore_blocks.proofs.ReadItems.{drop_mapped}

module _ (l : Limits) (s : Signature) where
  pub rows_next : (why : Reason) (n : ℕ) (m : List (Row rationals)) (at : Section) (name : Name) (a b : OperatorMatrix) (k : ℕ) (r w : List Ordered) → slice_get a.rows k ≡ Some r → slice_get b.rows k ≡ Some w
      → rows_give l s why n m at name k (drop k (rows_of a)) (drop k (rows_of b)) ≡ (row_gives l s why n m (place.Row at name k) (sums_of r) (sums_of w) >>= λ u. rows_give l s why n m at name (k + 1) (drop (k + 1) (rows_of a)) (drop (k + 1) (rows_of b)))
  unfolding rows_give
  rows_next why n m at name a b k r w at_a at_b =
      (λ i. rows_give l s why n m at name k (drop_mapped sums_of a.rows k r at_a i) (drop_mapped sums_of b.rows k w at_b i))
      ∙ ap (λ x. row_gives l s why n m (place.Row at name k) (sums_of r) (sums_of w) >>= λ u. rows_give l s why n m at name x (drop (k + 1) (rows_of a)) (drop (k + 1) (rows_of b))) (let e : suc k ≡ k + 1 = omega arith in e)

  past_rows : (a : OperatorMatrix) (k : ℕ) → length a.rows ≤ k → drop k (rows_of a) ≡ []
  past_rows a k h = drop-map sums_of k a.rows ∙ at_drop_all (λ rs. rows_of (record { cols = 0; rows = rs })) a.rows k h

  no_rows : (why : Reason) (n : ℕ) (m : List (Row rationals)) (at : Section) (name : Name) (k : ℕ) (ws : List (Row rationals)) → rows_give l s why n m at name k [] ws ≡ Ok tt
  unfolding rows_give
  no_rows why n m at name k [] = refl
  no_rows why n m at name k (w ∷ ws) = refl

  pub rows_end : (why : Reason) (n : ℕ) (m : List (Row rationals)) (at : Section) (name : Name) (a b : OperatorMatrix) (k : ℕ) → length a.rows ≤ k → rows_give l s why n m at name k (drop k (rows_of a)) (drop k (rows_of b)) ≡ Ok tt
  rows_end why n m at name a b k h = ap (λ rs. rows_give l s why n m at name k rs (drop k (rows_of b))) (past_rows a k h) ∙ no_rows why n m at name k (drop k (rows_of b))

  pub zeros_next : (a : OperatorMatrix) (k : ℕ) (r : List Ordered) → slice_get a.rows k ≡ Some r → are_zero l s (drop k (rows_of a)) ≡ (is_none (row_lead rationals s.order (sums_of r)) && are_zero l s (drop (k + 1) (rows_of a)))
  unfolding are_zero
  zeros_next a k r at = ap (are_zero l s) (drop_mapped sums_of a.rows k r at)

  pub zeros_end : (a : OperatorMatrix) (k : ℕ) → length a.rows ≤ k → are_zero l s (drop k (rows_of a)) ≡ true
  unfolding are_zero
  zeros_end a k h = ap (are_zero l s) (past_rows a k h)

  module _ (basis : List (Row rationals)) where
    pub steps_next : (leads : List Term) (t : Term) (at : Section) (k : ℕ) (r : Row rationals) (steps : List (Step rationals)) (n : ℕ) (step : Step rationals) → slice_get steps n ≡ Some step
        → check_steps l s basis leads t at k n r (drop n steps) ≡ (check_step l s basis leads t (place.Pair at k (n + 1)) r step >>= λ q. check_steps l s basis leads t at k (n + 1) q (drop (n + 1) steps))
    unfolding check_steps
    steps_next leads t at k r steps n step here =
        ap (check_steps l s basis leads t at k n r) (drop_read steps n step here)
        ∙ ap (λ m. check_step l s basis leads t (place.Pair at k m) r step >>= λ q. check_steps l s basis leads t at k m q (drop (n + 1) steps)) (let e : suc n ≡ n + 1 = omega arith in e)

    pub steps_end : (leads : List Term) (t : Term) (at : Section) (k : ℕ) (r : Row rationals) (steps : List (Step rationals)) (n : ℕ) → length steps ≤ n → check_steps l s basis leads t at k n r (drop n steps) ≡ required (place.Pair at k n) reason.Remainder (is_none (row_lead rationals s.order r))
    unfolding check_steps
    steps_end leads t at k r steps n h = at_drop_all (check_steps l s basis leads t at k n r) steps n h

    pub quotients_next : (r : Row rationals) (steps : List (Step rationals)) (n : ℕ) (step : Step rationals) → slice_get steps n ≡ Some step
        → quotient_steps l s basis n r (drop n steps) ≡ (quotient_step l s basis (place.Step (n + 1)) r step >>= λ q. quotient_steps l s basis (n + 1) q (drop (n + 1) steps))
    unfolding quotient_steps
    quotients_next r steps n step here =
        ap (quotient_steps l s basis n r) (drop_read steps n step here)
        ∙ ap (λ m. quotient_step l s basis (place.Step m) r step >>= λ q. quotient_steps l s basis m q (drop (n + 1) steps)) (let e : suc n ≡ n + 1 = omega arith in e)

    pub quotients_end : (r : Row rationals) (steps : List (Step rationals)) (n : ℕ) → length steps ≤ n → quotient_steps l s basis n r (drop n steps) ≡ Ok r
    unfolding quotient_steps
    quotients_end r steps n h = at_drop_all (quotient_steps l s basis n r) steps n h
