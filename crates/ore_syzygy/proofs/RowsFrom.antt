-- A row is looked for beside an origin.
--     row_from-same, row_from-other     at a place where the origin stands; where another does
--     row_from-end                      past the last place
--     zeros_more                        one more zero
use Rattle.std.proofs.Common.{◌≡◌, ℕ, ◌+◌, ◌<◌, ◌≤◌, true, false, cond, List, [], ◌∷◌, ◌++◌, length, drop, get_or, refl, sym, ap, ◌∙◌}
use Rattle.std.specs.List.{slice_get}
use Rattle.std.specs.declared.option.Option.TheVariants.{Some}
use Rattle.std.proofs.lemmas.List.{drop_more, drop_all, map-append, replicate_more}
use Rattle.ore_algebra.specs.Free.{empty_sum}
use Rattle.ore_algebra.proofs.ListLaws.{drop_read}
use Rattle.ore_rational.specs.Field.{rationals}
use Rattle.ore_monomial.specs.Monomial.{plain_cmp}
use Rattle.ore_monomial.specs.declared.order.Order.{Order}
use Rattle.ore_ring.specs.Ordered.{Ordered}
use Rattle.ore_rows.specs.Rows.{zero_row}
use Rattle.ore_rows.specs.declared.choices.Origin.{Origin}
use Rattle.ore_pairs.specs.RunBlocks.{is_origin, row_from}
use Rattle.ore_blocks.specs.BlockOfRun.{ordered_row}

module _ {R : Type 0} (other : R) (o : Origin) where
  row_from-cons : (x : Origin) (xs : List Origin) (r : R) (rows : List R) → row_from (x ∷ xs) (r ∷ rows) other o ≡ cond (is_origin x o) r (row_from xs rows other o)
  unfolding row_from
  row_from-cons x xs r rows = refl

  module _ (xs : List Origin) (rows : List R) (k : ℕ) (x : Origin) (at : slice_get xs k ≡ Some x) where
    pub row_from-same : (r : R) → slice_get rows k ≡ Some r → true ≡ is_origin x o → row_from (drop k xs) (drop k rows) other o ≡ r
    row_from-same r e same =
        (λ i. row_from (drop_read xs k x at i) (drop_read rows k r e i) other o) ∙ row_from-cons x (drop (k + 1) xs) r (drop (k + 1) rows)
        ∙ ap (λ b. cond b r (row_from (drop (k + 1) xs) (drop (k + 1) rows) other o)) (sym same)

    pub row_from-other : k < length rows → false ≡ is_origin x o → row_from (drop k xs) (drop k rows) other o ≡ row_from (drop (k + 1) xs) (drop (k + 1) rows) other o
    row_from-other h same =
        let r = get_or rows k other in
        (λ i. row_from (drop_read xs k x at i) (drop_more rows k other h i) other o) ∙ row_from-cons x (drop (k + 1) xs) r (drop (k + 1) rows)
        ∙ ap (λ b. cond b r (row_from (drop (k + 1) xs) (drop (k + 1) rows) other o)) (sym same)

  row_from-none : (rows : List R) → row_from [] rows other o ≡ other
  unfolding row_from
  row_from-none rows = refl

  pub row_from-end : (xs : List Origin) (rows : List R) (k : ℕ) → length xs ≤ k → row_from (drop k xs) (drop k rows) other o ≡ other
  row_from-end xs rows k h = ap (λ ys. row_from ys (drop k rows) other o) (drop_all k xs h) ∙ row_from-none (drop k rows)

pub zeros_none : (o : Order) → [] ≡ ordered_row o (zero_row rationals 0)
unfolding zero_row
zeros_none o = refl

pub zeros_more : (o : Order) (k : ℕ) (out more : List Ordered) (z : Ordered) → out ≡ ordered_row o (zero_row rationals k) → z ≡ record { by = o; sum = empty_sum rationals plain_cmp } → more ≡ out ++ z ∷ [] → more ≡ ordered_row o (zero_row rationals (k + 1))
unfolding zero_row
zeros_more o k out more z so_far same pushed =
    pushed ∙ (λ i. so_far i ++ same i ∷ []) ∙ sym (map-append (λ f. record { by = o; sum = f }) (zero_row rationals k) (empty_sum rationals plain_cmp ∷ []))
    ∙ ap (ordered_row o) (replicate_more k (empty_sum rationals plain_cmp))
