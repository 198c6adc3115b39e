-- The inside rows, from a place on.
--     rows_next, no_rows, rows_end   those for the rows of the matrix: that at a place; past the last row
--     pairs_next, pairs_end          those for the pairs: that at a place; past the last pair
--     no_pairs, pairs_none           where no inside row is left
use Rattle.std.proofs.Common.{◌≡◌, ℕ, suc, ◌+◌, ◌≤◌, List, [], ◌∷◌, drop, length, refl, sym, ap, ◌∙◌, Some, arith}
use Rattle.std.specs.List.{slice_get}
use Rattle.std.specs.declared.result.Result.TheVariants.{Ok}
use Rattle.std.proofs.lemmas.List.{at_drop_all, drop-drop, drop-map}
use Rattle.ore_algebra.specs.Limits.{Limits}
use Rattle.ore_rational.specs.Field.{rationals}
use Rattle.ore_monomial.specs.Signature.{Signature}
use Rattle.ore_monomial.specs.Term.{Term}
use Rattle.ore_ring.specs.Ordered.{Ordered}
use Rattle.ore_rows.specs.Rows.{Row}
use Rattle.ore_rows.specs.Stored.{OperatorMatrix, rows_of, sums_of}
use Rattle.ore_parts.specs.declared.block.PairEntry.{PairEntry}
use Rattle.ore_blocks.specs.declared.place.Section.{Section}
use Rattle.ore_blocks.specs.declared.place.Place.TheVariants as place
use Rattle.ore_blocks.specs.declared.place.Name.TheVariants.{Inside}
use Rattle.ore_algebra.specs.Results.{◌>>=◌}
use Rattle.ore_algebra.proofs.ListLaws.{drop_read}
use Rattle.ore_blocks.specs.CheckBlock.{rows_inside, rows_taken, pairs_inside}
use Rattle.ore_blocks.specs.PlaceConditions.{row_inside, pair_inside}
use Rattle.ore_blocks.proofs.ReadItems.{drop_mapped}

module _ (l : Limits) (s : Signature) (q : ℕ) where
  module _ (to m : List (Row rationals)) where
    pub rows_next : (at : Section) (a b : OperatorMatrix) (k : ℕ) (f r : List Ordered) → slice_get a.rows k ≡ Some f → slice_get b.rows k ≡ Some r
        → rows_inside l s q to m at k (drop k (rows_of a)) (drop k (rows_of b)) ≡ (row_inside l s q to m (place.Row at Inside k) k (sums_of f) (sums_of r) >>= λ u. rows_inside l s q to m at (k + 1) (drop (k + 1) (rows_of a)) (drop (k + 1) (rows_of b)))
    unfolding rows_inside
    rows_next at a b k f r at_a at_b =
        (λ i. rows_inside l s q to m at k (drop_mapped sums_of a.rows k f at_a i) (drop_mapped sums_of b.rows k r at_b i))
        ∙ (λ n. row_inside l s q to m (place.Row at Inside k) k (sums_of f) (sums_of r) >>= λ u. rows_inside l s q to m at (one_more n) (drop (k + 1) (rows_of a)) (drop (k + 1) (rows_of b)))
      where
        one_more : suc k ≡ k + 1
        one_more = omega arith

    no_rows : (at : Section) (i : ℕ) (rs : List (Row rationals)) → rows_inside l s q to m at i [] rs ≡ Ok tt
    unfolding rows_inside
    no_rows at i [] = refl
    no_rows at i (r ∷ rs) = refl

    pub rows_end : (at : Section) (a b : OperatorMatrix) (k : ℕ) → length a.rows ≤ k → rows_inside l s q to m at k (drop k (rows_of a)) (drop k (rows_of b)) ≡ Ok tt
    rows_end at a b k h =
        ap (λ rs. rows_inside l s q to m at k rs (drop k (rows_of b))) (drop-map sums_of k a.rows ∙ at_drop_all (λ rs. rows_of (record { cols = 0; rows = rs })) a.rows k h)
        ∙ no_rows at k (drop k (rows_of b))

  module _ (leads : List Term) (to m : List (Row rationals)) where
    pub pairs_next : (at : Section) (es : List PairEntry) (k : ℕ) (e : PairEntry) (b : OperatorMatrix) (next : ℕ) (r : List Ordered) → slice_get es k ≡ Some e → slice_get b.rows next ≡ Some r
        → pairs_inside l s q leads to m at next (drop k es) (drop next (rows_of b))
        ≡ (pair_inside l s q leads to m (place.Row at Inside next) e (sums_of r) >>= λ u. pairs_inside l s q leads to m at (next + rows_taken e) (drop (k + 1) es) (drop (next + rows_taken e) (rows_of b)))
    unfolding pairs_inside
    pairs_next at es k e b next r at_e at_r =
        (λ i. pairs_inside l s q leads to m at next (drop_read es k e at_e i) (here i))
        ∙ ap (λ rs. pair_inside l s q leads to m (place.Row at Inside next) e (sums_of r) >>= λ u. pairs_inside l s q leads to m at (next + rows_taken e) (drop (k + 1) es) rs) (ap (drop (rows_taken e)) (sym here) ∙ drop-drop (rows_taken e) next (rows_of b))
      where
        here : drop next (rows_of b) ≡ sums_of r ∷ drop (next + 1) (rows_of b)
        here = drop_mapped sums_of b.rows next r at_r

    pub no_pairs : (at : Section) (i : ℕ) (es : List PairEntry) → pairs_inside l s q leads to m at i es [] ≡ Ok tt
    unfolding pairs_inside
    no_pairs at i [] = refl
    no_pairs at i (e ∷ es) = refl

    pub pairs_none : (at : Section) (es : List PairEntry) (b : OperatorMatrix) (next : ℕ) → length b.rows ≤ next → pairs_inside l s q leads to m at next es (drop next (rows_of b)) ≡ Ok tt
    pairs_none at es b next h = ap (pairs_inside l s q leads to m at next es) (drop-map sums_of next b.rows ∙ at_drop_all (λ rs. rows_of (record { cols = 0; rows = rs })) b.rows next h) ∙ no_pairs at next es

    pub pairs_end : (at : Section) (i : ℕ) (es : List PairEntry) (k : ℕ) (rs : List (Row rationals)) → length es ≤ k → pairs_inside l s q leads to m at i (drop k es) rs ≡ Ok tt
    unfolding pairs_inside
    pairs_end at i es k rs h = at_drop_all (λ es. pairs_inside l s q leads to m at i es rs) es k h
