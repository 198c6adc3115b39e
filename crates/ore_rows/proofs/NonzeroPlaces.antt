-- A row times a column, by the entries of the row that aren't zero.
--     passed, taken, ended     in a fold by places: a place at which nothing changes; any place; the last one
--     SoFar                    the entries at some places, and all from a place on, make the product with each column
--     none_seen, zero_seen, other_seen, all_seen     at the start; past a zero entry, past any entry; at the end
--     placed, added_there      the operator at a place of a column; the product with that of the row, added
--     none_there               nothing changes where the operator of the column is zero
--     place_next, place_stops, places_end     one turn of the fold by places, and its end
use Rattle.std.proofs.Common.{◌≡◌, ℕ, ◌+◌, ◌<◌, ◌≤◌, List, [], ◌∷◌, ◌++◌, length, map, drop, get_or, Some, refl, sym, ap, ◌∙◌, subst}
use Rattle.std.proofs.lemmas.List.{length-map, drop_more, drop_all, get_or-map}
use Rattle.std.proofs.lemmas.Option.{slice_get_within, get_or_from_slice_get}
use Rattle.std.specs.List.{slice_get, zip}
use Rattle.std.specs.declared.result.Result.{Result}
use Rattle.std.specs.declared.result.Result.TheVariants.{Ok, Err}
use Rattle.ore_algebra.specs.Free.{empty_sum}
use Rattle.ore_algebra.specs.Limits.{Limits, Cause, ◌>>=◌, fold_within}
use Rattle.ore_algebra.proofs.ResultLaws.{bind_assoc, bind_like, bind_ok}
use Rattle.ore_rational.specs.Field.{rationals}
use Rattle.ore_monomial.specs.Monomial.{plain_cmp}
use Rattle.ore_monomial.specs.Signature.{Signature}
use Rattle.ore_monomial.specs.LetterRule.{Operator}
use Rattle.ore_ring.specs.Ordered.{Ordered}
use Rattle.ore_rows.specs.Rows.{Row}
use Rattle.ore_rows.specs.RowsWithin.{product_added, dot_within, added_at, AreEnough}
use Rattle.ore_rows.specs.Stored.{sums_of, places}
use Rattle.ore_rows.proofs.Dots.{entry_place}
use Rattle.ore_rows.proofs.ZeroOperands.{added_none, added_zero}

-- a fold by the places ks of what stands there, and then by a list
module _ {A S : Type 0} (step : S → A → Result S Cause) (at : ℕ → A) where
  abbrev by_place : S → List ℕ → Result S Cause
  by_place s ks = fold_within (λ t k. step t (at k)) s ks

  abbrev then_all : S → List ℕ → List A → Result S Cause
  then_all s ks xs = by_place s ks >>= λ t. fold_within step t xs

  passed : (s : S) (ks : List ℕ) (k : ℕ) (xs : List A) → ((t : S) → step t (at k) ≡ Ok t) → then_all s ks (at k ∷ xs) ≡ then_all s ks xs
  passed s ks k xs h = bind_like (by_place s ks) _ _ (λ t. ap (λ r. r >>= λ u. fold_within step u xs) (h t))

  taken : (s : S) (ks : List ℕ) (k : ℕ) (xs : List A) → then_all s ks (at k ∷ xs) ≡ then_all s (ks ++ k ∷ []) xs
  taken s [] k xs = sym (bind_assoc (step s (at k)) (λ t. Ok t) (λ t. fold_within step t xs))
  taken s (i ∷ ks) k xs =
      bind_assoc (step s (at i)) (λ t. by_place t ks) (λ t. fold_within step t (at k ∷ xs))
      ∙ bind_like (step s (at i)) _ _ (λ t. taken t ks k xs)
      ∙ sym (bind_assoc (step s (at i)) (λ t. by_place t (ks ++ k ∷ [])) (λ t. fold_within step t xs))

  ended : (s : S) (ks : List ℕ) → then_all s ks [] ≡ by_place s ks
  ended s ks = bind_ok (by_place s ks)

-- pairs of items at one place of two lists
module _ {X Y S : Type 0} (step : S → X × Y → Result S Cause) (d : X) (e : Y) (s : S) (xs : List X) (ys : List Y) where
  abbrev pair_at : ℕ → X × Y
  pair_at k = (get_or xs k d, get_or ys k e)

  abbrev pairs_from : ℕ → List (X × Y)
  pairs_from n = zip (drop n xs) (drop n ys)

  abbrev seen : List ℕ → ℕ → Result S Cause
  seen ks n = then_all step pair_at s ks (pairs_from n)

  pairs_more : (n : ℕ) → n < length xs → n < length ys → pairs_from n ≡ pair_at n ∷ pairs_from (n + 1)
  pairs_more n h k = ap (λ us. zip us (drop n ys)) (drop_more xs n d h) ∙ ap (λ vs. zip (get_or xs n d ∷ drop (n + 1) xs) vs) (drop_more ys n e k)

  pairs_past : (n : ℕ) → length xs ≤ n → pairs_from n ≡ []
  pairs_past n h = ap (λ us. zip us (drop n ys)) (drop_all n xs h)

  seen_passed : (ks : List ℕ) (n : ℕ) → n < length xs → n < length ys → ((t : S) → step t (pair_at n) ≡ Ok t) → seen ks n ≡ seen ks (n + 1)
  seen_passed ks n h k z = ap (then_all step pair_at s ks) (pairs_more n h k) ∙ passed step pair_at s ks n (pairs_from (n + 1)) z

  seen_taken : (ks : List ℕ) (n : ℕ) → n < length xs → n < length ys → seen ks n ≡ seen (ks ++ n ∷ []) (n + 1)
  seen_taken ks n h k = ap (then_all step pair_at s ks) (pairs_more n h k) ∙ taken step pair_at s ks n (pairs_from (n + 1))

  seen_all : (ks : List ℕ) (n : ℕ) → length xs ≤ n → seen ks n ≡ by_place step pair_at s ks
  seen_all ks n h = ap (then_all step pair_at s ks) (pairs_past n h) ∙ ended step pair_at s ks

abbrev none : Operator rationals
none = empty_sum rationals plain_cmp

-- under any limits, the product with each column comes from the entries of c at the places ks, and then all from place n on
unfoldable pub SoFar : List ℕ → ℕ → Row rationals → Type 0
SoFar ks n c = (l : Limits) (s : Signature) (r : Row rationals) → length r ≡ length c → seen (product_added l s) none none none c r ks n ≡ dot_within l s c r

pub none_seen : (c : Row rationals) → SoFar [] 0 c
unfolding SoFar
none_seen c l s r w = refl

pub zero_seen : (ks : List ℕ) (n : ℕ) (c : Row rationals) → n < length c → get_or c n none ≡ none → SoFar ks n c → SoFar ks (n + 1) c
unfolding SoFar
zero_seen ks n c h z so l s r w =
    sym (seen_passed (product_added l s) none none none c r ks n h (subst (λ m. n < m) (sym w) h)
    (λ t. ap (λ f. product_added l s t (f, get_or r n none)) z ∙ added_none l s t (get_or r n none)))
    ∙ so l s r w

pub other_seen : (ks : List ℕ) (n : ℕ) (c : Row rationals) → n < length c → SoFar ks n c → SoFar (ks ++ n ∷ []) (n + 1) c
unfolding SoFar
other_seen ks n c h so l s r w = sym (seen_taken (product_added l s) none none none c r ks n h (subst (λ m. n < m) (sym w) h)) ∙ so l s r w

pub all_seen : (ks : List ℕ) (n : ℕ) (c : Row rationals) → length c ≤ n → SoFar ks n c → AreEnough ks c
unfolding SoFar
all_seen ks n c h so l s r w = sym (seen_all (product_added l s) none none none c r ks n h) ∙ so l s r w

-- the operator at place j of row k
placed : (rows : List (List Ordered)) (k j : ℕ) (r : List Ordered) (f : Ordered) → slice_get rows k ≡ Some r → slice_get r j ≡ Some f → get_or (places j rows) k none ≡ f.sum
placed rows k j r f h e =
    let inside = slice_get_within rows k r h in
    get_or-map (λ (q : Row rationals). get_or q j none) (map sums_of rows) k (sums_of r) none (subst (λ n. k < n) (sym (length-map rows sums_of)) inside)
    ∙ ap (λ (q : Row rationals). get_or q j none) (get_or-map sums_of rows k r (sums_of r) inside)
    ∙ ap (λ (q : List Ordered). get_or (sums_of q) j none) (get_or_from_slice_get rows k r r h)
    ∙ entry_place r j f e

pub added_there : (l : Limits) (s : Signature) (row : List Ordered) (rows : List (List Ordered)) (k j : ℕ) (f : Ordered) (r : List Ordered) (g : Ordered) (acc : Operator rationals)
    → slice_get row k ≡ Some f → slice_get rows k ≡ Some r → slice_get r j ≡ Some g → added_at l s (sums_of row) (places j rows) acc k ≡ product_added l s acc (f.sum, g.sum)
added_there l s row rows k j f r g acc a b e = ap (λ x. product_added l s acc (x, get_or (places j rows) k none)) (entry_place row k f a) ∙ ap (λ y. product_added l s acc (f.sum, y)) (placed rows k j r g b e)

pub none_there : (l : Limits) (s : Signature) (c : Row rationals) (rows : List (List Ordered)) (k j : ℕ) (r : List Ordered) (g : Ordered) (acc : Operator rationals)
    → slice_get rows k ≡ Some r → slice_get r j ≡ Some g → g.sum ≡ none → added_at l s c (places j rows) acc k ≡ Ok acc
none_there l s c rows k j r g acc b e z = ap (λ y. product_added l s acc (get_or c k none, y)) (placed rows k j r g b e ∙ z) ∙ added_zero l s acc (get_or c k none)

-- a fold by places, from one of them on
module _ {S : Type 0} (step : S → ℕ → Result S Cause) (ks : List ℕ) (n : ℕ) where
  pub place_next : (s t : S) → n < length ks → step s (get_or ks n 0) ≡ Ok t → fold_within step s (drop n ks) ≡ fold_within step t (drop (n + 1) ks)
  place_next s t h e = ap (fold_within step s) (drop_more ks n 0 h) ∙ ap (λ r. r >>= λ u. fold_within step u (drop (n + 1) ks)) e

  pub place_stops : (s : S) (c : Cause) → n < length ks → step s (get_or ks n 0) ≡ Err c → fold_within step s (drop n ks) ≡ Err c
  place_stops s c h e = ap (fold_within step s) (drop_more ks n 0 h) ∙ ap (λ r. r >>= λ u. fold_within step u (drop (n + 1) ks)) e

  pub places_end : (s : S) → length ks ≤ n → fold_within step s (drop n ks) ≡ Ok s
  places_end s h = ap (fold_within step s) (drop_all n ks h)
