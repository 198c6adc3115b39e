-- What operations on rows and matrices within limits give.
--     map_unlimited                    of each item of a list: the values without limits
--     scale_unlimited, sum_unlimited, difference_unlimited, dot_unlimited, combine_unlimited, product_unlimited
--                                      without limits they give the values of `specs/Rows.antt`
--     scale_at_most, sum_at_most, difference_at_most, dot_at_most, combine_at_most, product_at_most
--                                      within limits they give what they give without, or stop
--     scale_value, sum_value, difference_value, dot_value, combine_value, product_value
--                                      so an Ok is the value
use Rattle.std.proofs.Common.{◌≡◌, ℕ, zero, suc, ◌+◌, ◌<◌, List, [], ◌∷◌, map, length, get_or, refl, sym, ap, ◌∙◌, subst, arith}
use Rattle.std.specs.declared.result.Result.{Result}
use Rattle.std.specs.declared.result.Result.TheVariants.{Ok}
use Rattle.std.specs.List.{zip}
use Rattle.std.proofs.lemmas.List.{ext_get_or}
use Rattle.ore_algebra.specs.Free.{empty_sum, plus}
use Rattle.ore_algebra.specs.Limits.{Limits, Cause, unlimited, ◌>>=◌, fold_within, map_within, IsAtMost}
use Rattle.ore_algebra.proofs.LimitLaws.{most_bind, most_fold, most_map, value_from}
use Rattle.ore_rational.specs.Field.{rationals}
use Rattle.ore_monomial.specs.Monomial.{plain_cmp}
use Rattle.ore_monomial.specs.Signature.{Signature}
use Rattle.ore_monomial.specs.LetterRule.{Operator}
use Rattle.ore_monomial.proofs.Operators
use Rattle.ore_monomial.proofs.Signatures.{lawful}
use Rattle.ore_ring.specs.Product.{times}
use Rattle.ore_ring.specs.Within.{plus_within, times_within, opposite}
use Rattle.ore_ring.proofs.WithinLaws as Ring
use Rattle.ore_rows.specs.Rows.{Row, AreLong, row_plus, row_minus, row_scale, dot, combine, matrix_times, column}
use Rattle.ore_rows.specs.RowsWithin.{row_sum_within, row_difference_within, scale_within, product_added, dot_within, combine_from, combine_within, matrix_times_within}
use Rattle.ore_rows.proofs.RowLaws.{length-combine, entry-combine}

-- ---- lists

pub map_unlimited : {A B : Type 0} (f : A → Result B Cause) (g : A → B) → ((x : A) → f x ≡ Ok (g x)) → (xs : List A) → map_within f xs ≡ Ok (map g xs)
map_unlimited f g h [] = refl
map_unlimited f g h (x ∷ xs) = (λ i. h x i >>= λ y. map_unlimited f g h xs i >>= λ ys. Ok (y ∷ ys))

-- ---- sums and differences

pub sum_unlimited : (r q : Row rationals) → row_sum_within unlimited r q ≡ Ok (row_plus rationals r q)
unfolding row_plus
sum_unlimited [] q = refl
sum_unlimited (a ∷ r) [] = refl
sum_unlimited (a ∷ r) (b ∷ q) = λ i. Ring.plus_unlimited a b i >>= λ y. sum_unlimited r q i >>= λ ys. Ok (y ∷ ys)

pub difference_unlimited : (r q : Row rationals) → row_difference_within unlimited r q ≡ Ok (row_minus rationals r q)
unfolding row_minus row_plus opposite
difference_unlimited [] q = refl
difference_unlimited (a ∷ r) [] = refl
difference_unlimited (a ∷ r) (b ∷ q) = λ i. Ring.plus_unlimited a (opposite b) i >>= λ y. difference_unlimited r q i >>= λ ys. Ok (y ∷ ys)

module _ (l : Limits) where
  pub sum_at_most : (r q : Row rationals) → IsAtMost (row_sum_within l r q) (row_sum_within unlimited r q)
  sum_at_most r q = most_map _ _ (λ p. Ring.plus_at_most l p.0 p.1) (zip r q)

  pub sum_value : (r q x : Row rationals) → row_sum_within l r q ≡ Ok x → x ≡ row_plus rationals r q
  sum_value r q x = value_from (row_sum_within l r q) (row_sum_within unlimited r q) x (row_plus rationals r q) (sum_at_most r q) (sum_unlimited r q)

  pub difference_at_most : (r q : Row rationals) → IsAtMost (row_difference_within l r q) (row_difference_within unlimited r q)
  difference_at_most r q = most_map _ _ (λ p. Ring.plus_at_most l p.0 (opposite p.1)) (zip r q)

  pub difference_value : (r q x : Row rationals) → row_difference_within l r q ≡ Ok x → x ≡ row_minus rationals r q
  difference_value r q x = value_from (row_difference_within l r q) (row_difference_within unlimited r q) x (row_minus rationals r q) (difference_at_most r q) (difference_unlimited r q)

-- ---- products, without limits

module _ (s : Signature) where
  pub scale_unlimited : (f : Operator rationals) (r : Row rationals) → scale_within unlimited s f r ≡ Ok (row_scale rationals s f r)
  unfolding row_scale
  scale_unlimited f r = map_unlimited (times_within unlimited s f) (times rationals s f) (Ring.times_unlimited s f) r

  added_unlimited : (acc a b : Operator rationals) → product_added unlimited s acc (a, b) ≡ Ok (plus rationals plain_cmp acc (times rationals s a b))
  unfolding product_added
  added_unlimited acc a b = ap (λ r. r >>= λ m. plus_within unlimited acc m) (Ring.times_unlimited s a b) ∙ Ring.plus_unlimited acc (times rationals s a b)

  dot_from : (acc : Operator rationals) (c r : Row rationals) → fold_within (product_added unlimited s) acc (zip c r) ≡ Ok (plus rationals plain_cmp acc (dot rationals s c r))
  unfolding dot
  dot_from acc [] r = ap Ok (sym (Operators.plus_zero rationals acc))
  dot_from acc (a ∷ c) [] = ap Ok (sym (Operators.plus_zero rationals acc))
  dot_from acc (a ∷ c) (b ∷ r) =
      ap (λ t. t >>= λ u. fold_within (product_added unlimited s) u (zip c r)) (added_unlimited acc a b)
      ∙ dot_from (plus rationals plain_cmp acc (times rationals s a b)) c r
      ∙ ap Ok (Operators.plus_assoc rationals acc (times rationals s a b) (dot rationals s c r))

  pub dot_unlimited : (c r : Row rationals) → dot_within unlimited s c r ≡ Ok (dot rationals s c r)
  dot_unlimited c r = dot_from (empty_sum rationals plain_cmp) c r ∙ ap Ok (Operators.zero-plus rationals (dot rationals s c r))

  -- a row times the columns from j on, n of them
  dots : ℕ → ℕ → Row rationals → List (Row rationals) → Row rationals
  dots j zero c m = []
  dots j (suc n) c m = dot rationals s c (column rationals s j m) ∷ dots (suc j) n c m

  from_unlimited : (j n : ℕ) (c : Row rationals) (m : List (Row rationals)) → combine_from unlimited s j n c m ≡ Ok (dots j n c m)
  unfolding combine_from dots
  from_unlimited j zero c m = refl
  from_unlimited j (suc n) c m = λ i. dot_unlimited c (column rationals s j m) i >>= λ f. from_unlimited (suc j) n c m i >>= λ fs. Ok (f ∷ fs)

  length-dots : (j n : ℕ) (c : Row rationals) (m : List (Row rationals)) → length (dots j n c m) ≡ n
  unfolding dots
  length-dots j zero c m = refl
  length-dots j (suc n) c m = ap suc (length-dots (suc j) n c m)

  entry-dots : (j n : ℕ) (c : Row rationals) (m : List (Row rationals)) (i : ℕ) → i < n → get_or (dots j n c m) i (empty_sum rationals plain_cmp) ≡ dot rationals s c (column rationals s (j + i) m)
  unfolding dots
  entry-dots j zero c m i h = absurd (omega arith)
  entry-dots j (suc n) c m zero h = ap (λ k. dot rationals s c (column rationals s k m)) (let e : j ≡ j + 0 = omega arith in e)
  entry-dots j (suc n) c m (suc i) h = entry-dots (suc j) n c m i (omega arith) ∙ ap (λ k. dot rationals s c (column rationals s k m)) (let e : suc j + i ≡ j + suc i = omega arith in e)

  -- the entries of a combination are the products with the columns
  dots_combine : (n : ℕ) (c : Row rationals) (m : List (Row rationals)) → AreLong rationals n m → dots 0 n c m ≡ combine rationals s n c m
  dots_combine n c m h =
      ext_get_or (empty_sum rationals plain_cmp) _ _ (length-dots 0 n c m ∙ sym (length-combine rationals s (lawful s) n c m h))
      (λ i k. entry-dots 0 n c m i (subst (λ p. i < p) (length-dots 0 n c m) k)
      ∙ ap (λ p. dot rationals s c (column rationals s p m)) (let e : 0 + i ≡ i = omega arith in e)
      ∙ sym (entry-combine rationals s (lawful s) n c m i h))

  pub combine_unlimited : (n : ℕ) (c : Row rationals) (m : List (Row rationals)) → AreLong rationals n m → combine_within unlimited s n c m ≡ Ok (combine rationals s n c m)
  combine_unlimited n c m h = from_unlimited 0 n c m ∙ ap Ok (dots_combine n c m h)

  pub product_unlimited : (n : ℕ) (a b : List (Row rationals)) → AreLong rationals n b → matrix_times_within unlimited s n a b ≡ Ok (matrix_times rationals s n a b)
  unfolding matrix_times
  product_unlimited n a b h = map_unlimited (λ r. combine_within unlimited s n r b) (λ r. combine rationals s n r b) (λ r. combine_unlimited n r b h) a

-- ---- products, within limits

module _ (l : Limits) (s : Signature) where
  pub scale_at_most : (f : Operator rationals) (r : Row rationals) → IsAtMost (scale_within l s f r) (scale_within unlimited s f r)
  scale_at_most f r = most_map _ _ (Ring.times_at_most l s f) r

  pub scale_value : (f : Operator rationals) (r x : Row rationals) → scale_within l s f r ≡ Ok x → x ≡ row_scale rationals s f r
  scale_value f r x = value_from (scale_within l s f r) (scale_within unlimited s f r) x (row_scale rationals s f r) (scale_at_most f r) (scale_unlimited s f r)

  added_most : (acc : Operator rationals) (p : Operator rationals × Operator rationals) → IsAtMost (product_added l s acc p) (product_added unlimited s acc p)
  unfolding product_added
  added_most acc p = most_bind (times_within l s p.0 p.1) (times_within unlimited s p.0 p.1) _ _ (Ring.times_at_most l s p.0 p.1) (λ m. Ring.plus_at_most l acc m)

  pub dot_at_most : (c r : Row rationals) → IsAtMost (dot_within l s c r) (dot_within unlimited s c r)
  dot_at_most c r = most_fold _ _ added_most (empty_sum rationals plain_cmp) (zip c r)

  pub dot_value : (c r : Row rationals) (x : Operator rationals) → dot_within l s c r ≡ Ok x → x ≡ dot rationals s c r
  dot_value c r x = value_from (dot_within l s c r) (dot_within unlimited s c r) x (dot rationals s c r) (dot_at_most c r) (dot_unlimited s c r)

  from_most : (j n : ℕ) (c : Row rationals) (m : List (Row rationals)) → IsAtMost (combine_from l s j n c m) (combine_from unlimited s j n c m)
  unfolding combine_from
  from_most j zero c m = refl
  from_most j (suc n) c m =
      most_bind (dot_within l s c (column rationals s j m)) (dot_within unlimited s c (column rationals s j m)) _ _ (dot_at_most c (column rationals s j m))
      (λ f. most_bind (combine_from l s (suc j) n c m) (combine_from unlimited s (suc j) n c m) _ _ (from_most (suc j) n c m) (λ fs. refl))

  pub combine_at_most : (n : ℕ) (c : Row rationals) (m : List (Row rationals)) → IsAtMost (combine_within l s n c m) (combine_within unlimited s n c m)
  combine_at_most n c m = from_most 0 n c m

  pub combine_value : (n : ℕ) (c : Row rationals) (m : List (Row rationals)) (x : Row rationals) → AreLong rationals n m → combine_within l s n c m ≡ Ok x → x ≡ combine rationals s n c m
  combine_value n c m x h = value_from (combine_within l s n c m) (combine_within unlimited s n c m) x (combine rationals s n c m) (combine_at_most n c m) (combine_unlimited s n c m h)

  pub product_at_most : (n : ℕ) (a b : List (Row rationals)) → IsAtMost (matrix_times_within l s n a b) (matrix_times_within unlimited s n a b)
  product_at_most n a b = most_map _ _ (λ r. combine_at_most n r b) a

  pub product_value : (n : ℕ) (a b x : List (Row rationals)) → AreLong rationals n b → matrix_times_within l s n a b ≡ Ok x → x ≡ matrix_times rationals s n a b
  product_value n a b x h = value_from (matrix_times_within l s n a b) (matrix_times_within unlimited s n a b) x (matrix_times rationals s n a b) (product_at_most n a b) (product_unlimited s n a b h)
