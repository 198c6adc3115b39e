-- Unit rows and the identity, over any domain.
--     length-unit_row, entry-unit_row, of_unit_row     the length and the entries of a unit row, which is of each signature
--     unit_row_first, unit_row_later     a unit row, entry by entry
--     combine-unit_row                   a unit row times rows is one of them
--     dot-unit_row                       a row times a unit row is one of its entries
--     column-identity_rows               the columns of the identity are the unit rows
--     length-identity_rows, row-identity_rows, long_identity     the shape of the identity, and its rows
--     combine-identity_rows              a row times the identity is the row
--     matrix_times-identity_rows         rows times the identity are the rows
--     identity_rows-matrix_times         the identity times rows is the rows
use Rattle.std.proofs.Common.{◌≡◌, ℕ, zero, suc, pred, ◌+◌, ◌<◌, Bool, true, false, cond, nat_eq, List, [], ◌∷◌, length, map, get_or, refl, sym, ap, ◌∙◌, subst, arith}
use Rattle.std.specs.List.{range_with_len}
use Rattle.std.proofs.lemmas.Bool.Decides.{nat_tests}
use Rattle.std.proofs.lemmas.List.{ext_get_or, get_or-map, length-map}
use Rattle.std.proofs.lemmas.List.FromFn.{length-map-range_with_len, get_or-map-range_with_len}
use Rattle.ore_algebra.specs.Domain.{Domain}
use Rattle.ore_algebra.specs.Free.{empty_sum, single, plus}
use Rattle.ore_monomial.specs.Monomial.{unit, plain_cmp}
use Rattle.ore_monomial.specs.Signature.{Signature, IsLawful}
use Rattle.ore_monomial.specs.LetterRule.{Operator}
use Rattle.ore_monomial.proofs.Declared.{MonomialOf-unit}
use Rattle.ore_monomial.proofs.Operators
use Rattle.ore_ring.specs.Belongs.{OperatorOf}
use Rattle.ore_ring.proofs.Belonging.{of_none, of_single}
use Rattle.ore_ring.proofs.Product.{times-linear_right, one-times, times-one}
use Rattle.ore_rows.specs.Rows.{Row, RowOf, AreLong, zero_row, unit_entry, unit_row, identity_rows, row_plus, row_scale, combine, dot, column, matrix_times}
use Rattle.ore_rows.proofs.RowLaws as Rows

module _ (K : Domain) where
  abbrev one_operator : Operator K
  one_operator = single K plain_cmp unit K.one

  pub length-unit_row : (n i : ℕ) → length (unit_row K n i) ≡ n
  unfolding unit_row
  length-unit_row n i = length-map-range_with_len (unit_entry K i) 0 n

  pub entry-unit_row : (n i j : ℕ) → j < n → get_or (unit_row K n i) j (empty_sum K plain_cmp) ≡ unit_entry K i j
  unfolding unit_row
  entry-unit_row n i j h = get_or-map-range_with_len (unit_entry K i) 0 n j j (empty_sum K plain_cmp) h (omega arith)

  -- the entries from j on, where none of them is the one at i
  zeros_from : (i j n : ℕ) → i < j → map (unit_entry K i) (range_with_len j n) ≡ zero_row K n
  unfolding zero_row
  zeros_from i j zero h = refl
  zeros_from i j (suc n) h = λ k. cond ((let e : nat_eq j i ≡ false = grind (arith, nat_tests) in e) k) one_operator (empty_sum K plain_cmp) ∷ zeros_from i (j + 1) n (omega arith) k

  -- the entries are shifted with the one
  shifted : (i j n : ℕ) → map (unit_entry K (suc i)) (range_with_len (suc j) n) ≡ map (unit_entry K i) (range_with_len j n)
  shifted i j zero = refl
  shifted i j (suc n) =
      (λ k. cond ((let e : nat_eq (suc j) (suc i) ≡ nat_eq j i = grind (arith, nat_tests) in e) k) one_operator (empty_sum K plain_cmp) ∷ map (unit_entry K (suc i)) (range_with_len ((let e : suc j + 1 ≡ suc (j + 1) = omega arith in e) k) n))
      ∙ ap (λ r. unit_entry K i j ∷ r) (shifted i (j + 1) n)

  pub unit_row_first : (n : ℕ) → unit_row K (suc n) 0 ≡ one_operator ∷ zero_row K n
  unfolding unit_row
  unit_row_first n = ap (λ r. one_operator ∷ r) (zeros_from 0 1 n (omega arith))

  pub unit_row_later : (n i : ℕ) → unit_row K (suc n) (suc i) ≡ empty_sum K plain_cmp ∷ unit_row K n i
  unfolding unit_row
  unit_row_later n i =
      (λ k. cond ((let e : nat_eq 0 (suc i) ≡ false = grind (arith, nat_tests) in e) k) one_operator (empty_sum K plain_cmp) ∷ map (unit_entry K (suc i)) (range_with_len 1 n))
      ∙ ap (λ r. empty_sum K plain_cmp ∷ r) (shifted i 0 n)

  pub length-identity_rows : (n : ℕ) → length (identity_rows K n) ≡ n
  unfolding identity_rows
  length-identity_rows n = length-map-range_with_len (unit_row K n) 0 n

  pub row-identity_rows : (n i : ℕ) → i < n → get_or (identity_rows K n) i [] ≡ unit_row K n i
  unfolding identity_rows
  row-identity_rows n i h = get_or-map-range_with_len (unit_row K n) 0 n i i [] h (omega arith)

  long_from : (n j k : ℕ) → AreLong K n (map (unit_row K n) (range_with_len j k))
  long_from n j zero = tt
  long_from n j (suc k) = (length-unit_row n j, long_from n (j + 1) k)

  pub long_identity : (n : ℕ) → AreLong K n (identity_rows K n)
  unfolding identity_rows
  long_identity n = long_from n 0 n

module _ (K : Domain) (s : Signature) where
  of_entry : (b : Bool) → OperatorOf K s (cond b (one_operator K) (empty_sum K plain_cmp))
  of_entry true = of_single K s unit K.one (MonomialOf-unit s)
  of_entry false = of_none K s

  of_entries : (i j n : ℕ) → RowOf K s (map (unit_entry K i) (range_with_len j n))
  of_entries i j zero = tt
  of_entries i j (suc n) = (of_entry (nat_eq j i), of_entries i (j + 1) n)

  pub of_unit_row : (n i : ℕ) → RowOf K s (unit_row K n i)
  unfolding unit_row
  of_unit_row n i = of_entries i 0 n

module _ (K : Domain) (s : Signature) (lawful : IsLawful s) where
  one_scale : (r : Row K) → row_scale K s (one_operator K) r ≡ r
  unfolding row_scale
  one_scale [] = refl
  one_scale (f ∷ r) = λ i. one-times K s lawful f i ∷ one_scale r i

  first_of : (n : ℕ) (r : Row K) (rows : List (Row K)) → AreLong K n (r ∷ rows) → combine K s n (one_operator K ∷ zero_row K (length rows)) (r ∷ rows) ≡ r
  unfolding combine
  first_of n r rows long = (λ i. row_plus K (one_scale r i) (Rows.combine-zero K s (length rows) n rows long.1 i)) ∙ Rows.plus-zero_row K n r long.0

  later_of : (n : ℕ) (c : Row K) (r : Row K) (rows : List (Row K)) → AreLong K n (r ∷ rows) → combine K s n (empty_sum K plain_cmp ∷ c) (r ∷ rows) ≡ combine K s n c rows
  unfolding combine
  later_of n c r rows long = ap (λ q. row_plus K q (combine K s n c rows)) (Rows.zero_scale_row K s n r long.0) ∙ Rows.zero_row_plus K n _ (Rows.length-combine K s lawful n c rows long.1)

  pub combine-unit_row : (n i : ℕ) (rows : List (Row K)) → i < length rows → AreLong K n rows → combine K s n (unit_row K (length rows) i) rows ≡ get_or rows i []
  combine-unit_row n i [] h long = absurd (omega arith)
  combine-unit_row n zero (r ∷ rows) h long = ap (λ c. combine K s n c (r ∷ rows)) (unit_row_first K (length rows)) ∙ first_of n r rows long
  combine-unit_row n (suc i) (r ∷ rows) h long = ap (λ c. combine K s n c (r ∷ rows)) (unit_row_later K (length rows) i) ∙ later_of n _ r rows long ∙ combine-unit_row n i rows (omega arith) long.1

  -- the identity times rows is the rows
  pub identity_rows-matrix_times : (n : ℕ) (rows : List (Row K)) → AreLong K n rows → matrix_times K s n (identity_rows K (length rows)) rows ≡ rows
  unfolding matrix_times
  identity_rows-matrix_times n rows long =
      let lm = length-map (identity_rows K (length rows)) (λ c. combine K s n c rows) ∙ length-identity_rows K (length rows) in
      ext_get_or [] _ rows lm
      (λ i h. let il : i < length rows = subst (λ m. i < m) lm h in
      get_or-map (λ c. combine K s n c rows) (identity_rows K (length rows)) i [] [] (subst (λ m. i < m) (sym (length-identity_rows K (length rows))) il)
      ∙ ap (λ c. combine K s n c rows) (row-identity_rows K (length rows) i il)
      ∙ combine-unit_row n i rows il long)

  dot_first : (f : Operator K) (c : Row K) (n : ℕ) → dot K s (f ∷ c) (one_operator K ∷ zero_row K n) ≡ f
  unfolding dot
  dot_first f c n = (λ i. plus K plain_cmp (times-one K s lawful f i) (Rows.dot-zero_column K s c n i)) ∙ Operators.plus_zero K f

  dot_later : (f : Operator K) (c q : Row K) → dot K s (f ∷ c) (empty_sum K plain_cmp ∷ q) ≡ dot K s c q
  unfolding dot
  dot_later f c q = ap (λ g. plus K plain_cmp g (dot K s c q)) (Operators.linear-empty_sum K (times-linear_right K s f)) ∙ Operators.zero-plus K (dot K s c q)

  dot_nothing : (q : Row K) → dot K s [] q ≡ empty_sum K plain_cmp
  unfolding dot
  dot_nothing q = refl

  -- a row times a unit row is its entry there
  pub dot-unit_row : (c : Row K) (n i : ℕ) → length c ≡ n → dot K s c (unit_row K n i) ≡ get_or c i (empty_sum K plain_cmp)
  dot-unit_row [] n i e = dot_nothing (unit_row K n i)
  dot-unit_row (f ∷ c) zero i e = absurd (omega arith)
  dot-unit_row (f ∷ c) (suc n) zero e = ap (dot K s (f ∷ c)) (unit_row_first K n) ∙ dot_first f c n
  dot-unit_row (f ∷ c) (suc n) (suc i) e = ap (dot K s (f ∷ c)) (unit_row_later K n i) ∙ dot_later f c (unit_row K n i) ∙ dot-unit_row c n i (ap pred e)

  same_test : (a j : ℕ) → nat_eq j a ≡ nat_eq a j
  same_test a j = grind (arith, nat_tests)

  column_from : (n j a k : ℕ) → j < n → column K s j (map (unit_row K n) (range_with_len a k)) ≡ map (unit_entry K j) (range_with_len a k)
  unfolding column
  column_from n j a zero h = refl
  column_from n j a (suc k) h = λ i. (entry-unit_row K n a j h ∙ ap (λ b. cond b (one_operator K) (empty_sum K plain_cmp)) (same_test a j)) i ∷ column_from n j (a + 1) k h i

  -- the columns of the identity are unit rows too
  pub column-identity_rows : (n j : ℕ) → j < n → column K s j (identity_rows K n) ≡ unit_row K n j
  unfolding identity_rows unit_row
  column-identity_rows n j h = column_from n j 0 n h

  -- a row times the identity is the row
  pub combine-identity_rows : (n : ℕ) (c : Row K) → length c ≡ n → combine K s n c (identity_rows K n) ≡ c
  combine-identity_rows n c e =
      let lc = Rows.length-combine K s lawful n c (identity_rows K n) (long_identity K n) in
      ext_get_or (empty_sum K plain_cmp) _ c (lc ∙ sym e)
      (λ i h. Rows.entry-combine K s lawful n c (identity_rows K n) i (long_identity K n)
      ∙ ap (dot K s c) (column-identity_rows n i (subst (λ m. i < m) lc h))
      ∙ dot-unit_row c n i e)

  -- rows times the identity are the rows
  pub matrix_times-identity_rows : (n : ℕ) (a : List (Row K)) → AreLong K n a → matrix_times K s n a (identity_rows K n) ≡ a
  unfolding matrix_times
  matrix_times-identity_rows n [] h = refl
  matrix_times-identity_rows n (r ∷ a) h = λ i. combine-identity_rows n r h.0 i ∷ matrix_times-identity_rows n a h.1 i
