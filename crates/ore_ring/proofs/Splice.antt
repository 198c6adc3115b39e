-- One term added to falling terms, at its place.
--     splice_end, splice_before    it is inserted, at the end or before a lesser term
--     splice_at, splice_stops      its monomial is there: the sum, or the sum stops
--     later_less                   a later term is less
--     over_to, not_over_from       what one comparison says of the terms before and after
use Rattle.std.proofs.Common.{◌≡◌, ◌≢◌, ℕ, zero, suc, ◌+◌, ◌<◌, ◌≤◌, List, [], ◌∷◌, ◌++◌, take, drop, set, length, get_or, refl, sym, ap, ◌∙◌, arith, add-one, T, ◌⊎◌, ⊎_elim}
use Rattle.std.specs.declared.cmp.Ordering.{Ordering}
use Rattle.std.specs.declared.cmp.Ordering.TheVariants.{Less, Equal, Greater}
use Rattle.std.specs.Ordering.{ordering_reverse}
use Rattle.std.specs.declared.result.Result.{Result}
use Rattle.std.specs.declared.result.Result.TheVariants.{Ok, Err}
use Rattle.ore_rational.specs.Fraction.{Fraction}
use Rattle.ore_monomial.specs.Monomial.{Monomial, order_cmp}
use Rattle.ore_monomial.specs.declared.order.Order.{Order}
use Rattle.ore_monomial.proofs.Monomials.{order_total}
use Rattle.ore_algebra.specs.Limits.{Limits, Cause}
use Rattle.ore_algebra.specs.Results.{◌>>=◌, fronted}
use Rattle.ore_algebra.proofs.ListLaws.{drop_item}
use Rattle.ore_rational.specs.Within.{sum_within}
use Rattle.std.specs.FinMap.{is_sorted}
use Rattle.std.specs.FinMap.Entries.{below_all}
use Rattle.std.proofs.lemmas.List.{get_or_default}
use Rattle.ore_ring.specs.Terms.{Summand, Terms}
use Rattle.ore_monomial.specs.Numbers.{back}
use Rattle.ore_ring.proofs.Falls.{first, second, less_of}
use Rattle.ore_ring.specs.Place.{IsOver}
use Rattle.ore_ring.specs.Merge.{kept, step_within, merge_within}
use Rattle.ore_ring.proofs.MergeSteps.{heads, merge_nil, nil_merge}

set_split : {A : Type 0} (xs : List A) (i : ℕ) (y : A) → i < length xs → set xs i y ≡ take i xs ++ y ∷ drop (suc i) xs
set_split [] i y h = absurd (omega arith)
set_split (x ∷ xs) zero y h = refl
set_split (x ∷ xs) (suc i) y h = ap (λ ys. x ∷ ys) (set_split xs i y (omega arith))

pub set-split : {A : Type 0} (xs : List A) (i : ℕ) (y : A) → i < length xs → set xs i y ≡ take i xs ++ y ∷ drop (i + 1) xs
set-split xs i y h = set_split xs i y h ∙ ap (λ n. take i xs ++ y ∷ drop n xs) (sym (add-one i))

module _ (l : Limits) (o : Order) (u : Summand) where
  one_more : (t : Summand) (r : Result Terms Cause) (xs : Terms) → (fronted xs r >>= λ ts. Ok (t ∷ ts)) ≡ fronted (t ∷ xs) r
  one_more t (Ok ys) xs = refl
  one_more t (Err e) xs = refl

  none_before : (r : Result Terms Cause) → r ≡ fronted [] r
  none_before (Ok ys) = refl
  none_before (Err e) = refl

  -- the walk goes past the terms above
  pub merge_past : (ts : Terms) (k : ℕ) → IsOver o u.0 ts k → merge_within l o ts (u ∷ []) ≡ fronted (take k ts) (merge_within l o (drop k ts) (u ∷ []))
  merge_past ts zero h = none_before _
  merge_past [] (suc k) h = none_before _
  merge_past (t ∷ ts) (suc k) h =
      heads l o t u ts []
      ∙ ap (λ r. step_within l r t u (merge_within l o ts (u ∷ [])) (merge_within l o ts []) (merge_within l o (t ∷ ts) []))
      ((order_total o).antisymm t.0 u.0 ∙ ap ordering_reverse (h 0 t (omega arith) (omega arith)))
      ∙ ap (λ r. r >>= λ rs. Ok (t ∷ rs)) (merge_past ts k (λ i d a b. h (suc i) d (omega arith) (omega arith)))
      ∙ one_more t (merge_within l o (drop k ts) (u ∷ [])) (take k ts)

  module _ (ts : Terms) (k : ℕ) (over : IsOver o u.0 ts k) where
    -- at the end
    pub splice_end : length ts ≤ k → merge_within l o ts (u ∷ []) ≡ Ok (take k ts ++ u ∷ drop k ts)
    splice_end h =
        let e : drop k ts ≡ [] = Rattle.std.proofs.Math.ListN.drop_of_length-le ts h in
        merge_past ts k over ∙ ap (λ ys. fronted (take k ts) (merge_within l o ys (u ∷ []))) e ∙ ap (fronted (take k ts)) (nil_merge l o (u ∷ []))
        ∙ ap (λ ys. Ok (take k ts ++ u ∷ ys)) (sym e)

    at_term : (t : Summand) (r : Ordering) → k < length ts → t ≡ get_or ts k t → r ≡ order_cmp o u.0 t.0
        → merge_within l o ts (u ∷ []) ≡ fronted (take k ts) (step_within l (ordering_reverse r) t u (merge_within l o (drop (k + 1) ts) (u ∷ [])) (merge_within l o (drop (k + 1) ts) []) (merge_within l o (t ∷ drop (k + 1) ts) []))
    at_term t r h e f =
        merge_past ts k over ∙ ap (λ ys. fronted (take k ts) (merge_within l o ys (u ∷ []))) (drop_item ts k t h e)
        ∙ ap (fronted (take k ts)) (heads l o t u (drop (k + 1) ts) [] ∙ ap (λ q. step_within l q t u (merge_within l o (drop (k + 1) ts) (u ∷ [])) (merge_within l o (drop (k + 1) ts) []) (merge_within l o (t ∷ drop (k + 1) ts) [])) ((order_total o).antisymm t.0 u.0 ∙ ap ordering_reverse (sym f)))

    -- before a smaller term
    pub splice_before : (t : Summand) → k < length ts → t ≡ get_or ts k t → Greater ≡ order_cmp o u.0 t.0 → merge_within l o ts (u ∷ []) ≡ Ok (take k ts ++ u ∷ drop k ts)
    splice_before t h e f =
        at_term t Greater h e f
        ∙ ap (λ r. fronted (take k ts) (r >>= λ ys. Ok (u ∷ ys))) (merge_nil l o (t ∷ drop (k + 1) ts))
        ∙ ap (λ ys. Ok (take k ts ++ u ∷ ys)) (sym (drop_item ts k t h e))

    -- at an equal one
    pub splice_at : (t : Summand) (s : Fraction) → k < length ts → t ≡ get_or ts k t → Equal ≡ order_cmp o u.0 t.0 → sum_within l t.1 u.1 ≡ Ok s → merge_within l o ts (u ∷ []) ≡ Ok (take k ts ++ kept t.0 s (drop (k + 1) ts))
    splice_at t s h e f g =
        at_term t Equal h e f
        ∙ (λ i. fronted (take k ts) (g i >>= λ s. merge_nil l o (drop (k + 1) ts) i >>= λ ys. Ok (kept t.0 s ys)))

    pub splice_stops : (t : Summand) (c : Cause) → k < length ts → t ≡ get_or ts k t → Equal ≡ order_cmp o u.0 t.0 → sum_within l t.1 u.1 ≡ Err c → merge_within l o ts (u ∷ []) ≡ Err c
    splice_stops t c h e f g =
        at_term t Equal h e f ∙ ap (λ r. fronted (take k ts) (r >>= λ s. merge_within l o (drop (k + 1) ts) [] >>= λ ys. Ok (kept t.0 s ys))) g

-- ---- places, by index

below_at : (o : Order) (m : Monomial) (ts : Terms) (j : ℕ) (e : Summand) → T (below_all (back o) m ts) → j < length ts → order_cmp o (get_or ts j e).0 m ≡ Less
below_at o m [] j e h l = absurd (omega arith)
below_at o m (t ∷ ts) zero e h l = less_of _ (first _ _ h)
below_at o m (t ∷ ts) (suc j) e h l = below_at o m ts j e (second _ _ h) (omega arith)

pub later_less : (o : Order) (ts : Terms) → T (is_sorted (back o) ts) → (i j : ℕ) (d e : Summand) → i < j → j < length ts → order_cmp o (get_or ts j e).0 (get_or ts i d).0 ≡ Less
later_less o [] h i j d e k l = absurd (omega arith)
later_less o (t ∷ ts) h i zero d e k l = absurd (omega arith)
later_less o (t ∷ ts) h zero (suc j) d e k l = below_at o t.0 ts j e (first _ _ h) (omega arith)
later_less o (t ∷ ts) h (suc i) (suc j) d e k l = later_less o ts (second _ _ h) i j d e (omega arith) (omega arith)

at_or_before : (i n : ℕ) → i < n + 1 → (i < n) ⊎ (i ≡ n)
at_or_before i n h = grind arith

at_or_after : (i n : ℕ) → n ≤ i → (n < i) ⊎ (n ≡ i)
at_or_after i n h = grind arith

pub over_to : (o : Order) (m : Monomial) (ts : Terms) (n : ℕ) (t : Summand) → T (is_sorted (back o) ts) → n < length ts → t ≡ get_or ts n t → Less ≡ order_cmp o m t.0 → IsOver o m ts (n + 1)
over_to o m ts n t h l e f i d a b =
    ⊎_elim
    (λ k. (order_total o).trans m t.0 (get_or ts i d).0 (sym f) (ap (λ u. order_cmp o u.0 (get_or ts i d).0) e ∙ later_less o ts h i n d t k l))
    (λ k. ap (λ u. order_cmp o m u.0) (get_or_default ts i d t b ∙ ap (λ j. get_or ts j t) k ∙ sym e) ∙ sym f)
    (at_or_before i n a)

pub not_over_from : (o : Order) (m : Monomial) (ts : Terms) (n : ℕ) (t : Summand) → T (is_sorted (back o) ts) → n < length ts → t ≡ get_or ts n t → order_cmp o m t.0 ≢ Less
    → (i : ℕ) (d : Summand) → n ≤ i → i < length ts → order_cmp o m (get_or ts i d).0 ≢ Less
not_over_from o m ts n t h l e f i d a b g =
    ⊎_elim
    (λ k. f ((order_total o).trans m (get_or ts i d).0 t.0 g (ap (λ u. order_cmp o (get_or ts i d).0 u.0) e ∙ later_less o ts h n i t d k b)))
    (λ k. f (ap (λ u. order_cmp o m u.0) (e ∙ ap (λ j. get_or ts j t) k ∙ get_or_default ts i t d b) ∙ g))
    (at_or_after i n a)
