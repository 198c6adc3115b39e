-- The loops that form a transposed adjoint.
--     item_next, item_stops         of a list that is mapped within limits, the first item: it gives a value; it stops
--     item_end                      no item is left
--     entries_next, entries_end     the entries of a column from row i on: that of row i and those behind it; past the last row none
--     columns_next, columns_end     the places of the columns from j on: j and those behind it; past the last column none
use Rattle.std.proofs.Common.{◌≡◌, ℕ, suc, ◌+◌, ◌-◌, ◌<◌, ◌≤◌, List, [], ◌∷◌, ◌++◌, map, drop, length, get_or, Some, ap, ◌∙◌, append-nil, arith}
use Rattle.std.specs.List.{range_with_len, slice_get}
use Rattle.std.specs.declared.result.Result.{Result}
use Rattle.std.specs.declared.result.Result.TheVariants.{Ok, Err}
use Rattle.std.proofs.lemmas.List.{drop_more, at_drop_all}
use Rattle.std.proofs.lemmas.Option.{slice_get_within, get_or_from_slice_get}
use Rattle.ore_algebra.specs.Free.{empty_sum}
use Rattle.ore_algebra.specs.Limits.{Cause, map_within}
use Rattle.ore_algebra.specs.Results.{◌>>=◌, fronted}
use Rattle.ore_algebra.proofs.ResultLaws.{front_more}
use Rattle.ore_rational.specs.Field.{rationals}
use Rattle.ore_monomial.specs.Monomial.{plain_cmp}
use Rattle.ore_monomial.specs.Signature.{Signature}
use Rattle.ore_ring.specs.Ordered.{Ordered}
use Rattle.ore_rows.specs.Rows.{column}
use Rattle.ore_rows.specs.Stored.{sums_of}
use Rattle.ore_rows.proofs.Dots.{entry_place}

-- ---- lists

pub item_next : {A B : Type 0} (f : A → Result B Cause) (front : List B) (x : A) (xs : List A) (y : B) → f x ≡ Ok y → fronted front (map_within f (x ∷ xs)) ≡ fronted (front ++ y ∷ []) (map_within f xs)
item_next f front x xs y e = ap (λ r. fronted front (r >>= λ y. map_within f xs >>= λ ys. Ok (y ∷ ys))) e ∙ front_more front y (map_within f xs)

pub item_stops : {A B : Type 0} (f : A → Result B Cause) (front : List B) (x : A) (xs : List A) (e : Cause) → f x ≡ Err e → fronted front (map_within f (x ∷ xs)) ≡ Err e
item_stops f front x xs e h = ap (λ r. fronted front (r >>= λ y. map_within f xs >>= λ ys. Ok (y ∷ ys))) h

pub item_end : {A B : Type 0} (f : A → Result B Cause) (front : List B) → fronted front (map_within f []) ≡ Ok front
item_end f front = ap Ok (append-nil front)

-- ---- the entries of a column

module _ (s : Signature) (j : ℕ) (rows : List (List Ordered)) where
  pub entries_next : (i : ℕ) (row : List Ordered) (entry : Ordered) → slice_get rows i ≡ Some row → slice_get row j ≡ Some entry
      → column rationals s j (map sums_of (drop i rows)) ≡ entry.sum ∷ column rationals s j (map sums_of (drop (i + 1) rows))
  unfolding column
  entries_next i row entry h k =
      ap (λ rs. column rationals s j (map sums_of rs)) (drop_more rows i row (slice_get_within rows i row h))
      ∙ ap (λ r. get_or (sums_of r) j (empty_sum rationals plain_cmp) ∷ column rationals s j (map sums_of (drop (i + 1) rows))) (get_or_from_slice_get rows i row row h)
      ∙ ap (λ f. f ∷ column rationals s j (map sums_of (drop (i + 1) rows))) (entry_place row j entry k)

  pub entries_end : (i : ℕ) → length rows ≤ i → column rationals s j (map sums_of (drop i rows)) ≡ []
  unfolding column
  entries_end i h = at_drop_all (λ rs. column rationals s j (map sums_of rs)) rows i h

-- ---- the columns

pub columns_next : (j n : ℕ) → j < n → range_with_len j (n - j) ≡ j ∷ range_with_len (j + 1) (n - (j + 1))
columns_next j n h = ap (range_with_len j) (let e : n - j ≡ suc (n - (j + 1)) = omega arith in e)

pub columns_end : (j n : ℕ) → n ≤ j → range_with_len j (n - j) ≡ []
columns_end j n h = ap (range_with_len j) (let e : n - j ≡ 0 = omega arith in e)
