-- The laws of rows and matrices, over any domain.
--     scale-zero_row, scale-row_plus, scale-scale    multiples of zeros, of sums and of multiples of rows
--     of_zero_row, of_row_plus, of_row_scale, of_combine
--                                       zeros, sums, multiples and combinations of rows of a signature are of it
--     scale-combine                     a multiple of a combination of rows is a combination of them
--     scale-reflects                    where a nonzero operator takes a row to zeros, the row is zeros
--     length-row_scale, length-row_plus, length-zero_row, length-combine
--                                       the lengths of multiples, sums, zeros and combinations
--     torsion_free                      exactness leaves no torsion
--     nil, entry                        the empty row; the entry of a row at a place, zero past the last
--     entry-zero_row, entry-row_plus, entry-row_scale    an entry of zeros, of a sum and of a multiple
--     adjoint-dot                       the adjoint of a row times a column, as the adjoints of the column times those
--                                       of the row
--     row_at                            a row of a matrix of n columns has n entries
--     length-adjoint_columns            each of the columns gives one row of adjoints
--     row_of_columns                    the row at a place has the adjoints of the column at that place
--     column_row, length-column         a column has one entry from each row
--     column-adjoint                    the columns of the transposed adjoint are the adjoints of the rows
--     entry-combine                     an entry of a combination is the coefficients times a column
--     long_columns                      a row of adjoints has as many entries as the matrix has rows
--     adjoint-product, adjoint_twice    the transposed adjoint of a product, and of a transposed adjoint
--     row_swap, row_comm                sums of rows in another order
--     zero_row_twice, zero_row_plus, plus-zero_row    sums with zeros
--     scale_sum, zero_scale_row         multiples of a row by a sum, and by zero
--     dot-zero_column                   a row times a column of zeros
--     combine-plus, combine-zero        combinations with the sums of coefficients, and with zeros
--     combine-combine, matrix_assoc     combinations of combinations; products of matrices are associative
--     length-product                    a product has as many rows as the first matrix
--     module_plus, module_scale         row modules are closed under sums and multiples by operators of the signature
--     long_adjoint, length-adjoint      the shape of the transposed adjoint: its columns are as many as the rows, and
--                                       its rows as the columns
--     row_of_adjoint                    a row of it has the adjoints of a column
use Rattle.std.proofs.Common.{◌≡◌, ◌≢◌, ⊎_elim, ℕ, zero, suc, pred, ◌+◌, ◌<◌, List, [], ◌∷◌, length, map, replicate, get_or, refl, sym, ap, ◌∙◌, subst, arith}
use Rattle.std.specs.List.{AllByRecursion}
use Rattle.std.proofs.lemmas.List.{get_or-map, length-map, ext_get_or}
use Rattle.ore_algebra.specs.Domain.{Domain}
use Rattle.ore_algebra.specs.Free.{empty_sum, plus}
use Rattle.ore_monomial.specs.Monomial.{plain_cmp}
use Rattle.ore_monomial.specs.declared.order.Order.TheVariants.{DegLex}
use Rattle.ore_monomial.specs.Signature.{Signature, IsLawful}
use Rattle.ore_monomial.specs.LetterRule.{Operator}
use Rattle.ore_ring.specs.Product.{times}
use Rattle.ore_ring.specs.Adjoint.{adjoint}
use Rattle.ore_rows.specs.Rows.{Row, RowOf, AreLong, zero_row, row_plus, dot, row_scale, combine, InRowModule, IsExact, IsTorsion, IsTorsionFree, matrix_times, column, adjoint_columns, transpose_adjoint}
use Rattle.ore_ring.specs.Belongs.{OperatorOf}
use Rattle.ore_ring.proofs.Belonging.{of_none, of_plus, of_times}
use Rattle.ore_ring.proofs.Product.{times-linear_left, times-linear_right, times_assoc}
use Rattle.ore_ring.proofs.NoZeroDivisor.{no_zero_divisor}
use Rattle.ore_ring.proofs.Adjoints.{adjoint-linear, adjoint-times, adjoint-adjoint}
use Rattle.ore_monomial.proofs.Operators

module _ (K : Domain) (s : Signature) where
  pub scale-zero_row : (d : Operator K) (n : ℕ) → row_scale K s d (zero_row K n) ≡ zero_row K n
  unfolding row_scale zero_row
  scale-zero_row d zero = refl
  scale-zero_row d (suc n) = λ i. Operators.linear-empty_sum K (times-linear_right K s d) i ∷ scale-zero_row d n i

  pub scale-row_plus : (d : Operator K) (r q : Row K) → row_scale K s d (row_plus K r q) ≡ row_plus K (row_scale K s d r) (row_scale K s d q)
  unfolding row_scale row_plus
  scale-row_plus d [] q = refl
  scale-row_plus d (a ∷ r) [] = refl
  scale-row_plus d (a ∷ r) (b ∷ q) = λ i. (times-linear_right K s d).plus a b i ∷ scale-row_plus d r q i

-- ---- rows of a signature

module _ (K : Domain) (s : Signature) where
  pub of_zero_row : (n : ℕ) → RowOf K s (zero_row K n)
  unfolding zero_row
  of_zero_row zero = tt
  of_zero_row (suc n) = (of_none K s, of_zero_row n)

  pub of_row_plus : (r q : Row K) → RowOf K s r → RowOf K s q → RowOf K s (row_plus K r q)
  unfolding row_plus
  of_row_plus [] q h k = tt
  of_row_plus (a ∷ r) [] h k = tt
  of_row_plus (a ∷ r) (b ∷ q) h k = (of_plus K s a b h.0 k.0, of_row_plus r q h.1 k.1)

  pub of_row_scale : (d : Operator K) (r : Row K) → OperatorOf K s d → RowOf K s r → RowOf K s (row_scale K s d r)
  unfolding row_scale
  of_row_scale d [] o h = tt
  of_row_scale d (a ∷ r) o h = (of_times K s d a o h.0, of_row_scale d r o h.1)

  pub of_combine : (n : ℕ) (c : Row K) (rows : List (Row K)) → RowOf K s c → AllByRecursion (RowOf K s) rows → RowOf K s (combine K s n c rows)
  unfolding combine
  of_combine n [] rows h k = of_zero_row n
  of_combine n (c ∷ cs) [] h k = of_zero_row n
  of_combine n (c ∷ cs) (r ∷ rs) h k = of_row_plus _ _ (of_row_scale c r h.0 k.0) (of_combine n cs rs h.1 k.1)

module _ (K : Domain) (s : Signature) (lawful : IsLawful s) where
  pub scale-scale : (d e : Operator K) (r : Row K) → row_scale K s d (row_scale K s e r) ≡ row_scale K s (times K s d e) r
  unfolding row_scale
  scale-scale d e [] = refl
  scale-scale d e (a ∷ r) = λ i. sym (times_assoc K s lawful d e a) i ∷ scale-scale d e r i

  -- d (c A) = (d c) A
  pub scale-combine : (d : Operator K) (n : ℕ) (c : Row K) (rows : List (Row K)) → row_scale K s d (combine K s n c rows) ≡ combine K s n (row_scale K s d c) rows
  unfolding combine row_scale
  scale-combine d n [] rows = scale-zero_row K s d n
  scale-combine d n (c ∷ cs) [] = scale-zero_row K s d n
  scale-combine d n (c ∷ cs) (r ∷ rs) = scale-row_plus K s d _ _ ∙ (λ i. row_plus K (scale-scale d c r i) (scale-combine d n cs rs i))

  -- a row that a nonzero operator takes to zeros is zeros
  pub scale-reflects : (d : Operator K) → d ≢ empty_sum K plain_cmp → (n : ℕ) (r : Row K) → length r ≡ n → row_scale K s d r ≡ zero_row K n → r ≡ zero_row K n
  unfolding row_scale zero_row
  scale-reflects d nz zero [] l e = refl
  scale-reflects d nz zero (a ∷ r) l e = absurd (omega arith)
  scale-reflects d nz (suc n) [] l e = absurd (omega arith)
  scale-reflects d nz (suc n) (a ∷ r) l e =
      let here : times K s d a ≡ empty_sum K plain_cmp = cc in
      let there : map (times K s d) r ≡ replicate n (empty_sum K plain_cmp) = cc in
      let blank : a ≡ empty_sum K plain_cmp = ⊎_elim (λ z. absurd (nz z)) (λ z. z) (no_zero_divisor K DegLex s lawful d a here) in
      λ i. blank i ∷ scale-reflects d nz n r (ap pred l) there i

  pub length-row_scale : (d : Operator K) (r : Row K) → length (row_scale K s d r) ≡ length r
  unfolding row_scale
  length-row_scale d [] = refl
  length-row_scale d (a ∷ r) = ap suc (length-row_scale d r)

  pub length-row_plus : (n : ℕ) (r q : Row K) → length r ≡ n → length q ≡ n → length (row_plus K r q) ≡ n
  unfolding row_plus
  length-row_plus n [] q h k = h
  length-row_plus n (a ∷ r) [] h k = k
  length-row_plus zero (a ∷ r) (b ∷ q) h k = absurd (omega arith)
  length-row_plus (suc n) (a ∷ r) (b ∷ q) h k = ap suc (length-row_plus n r q (ap pred h) (ap pred k))

  pub length-zero_row : (n : ℕ) → length (zero_row K n) ≡ n
  unfolding zero_row
  length-zero_row zero = refl
  length-zero_row (suc n) = ap suc (length-zero_row n)

  pub length-combine : (n : ℕ) (c : Row K) (rows : List (Row K)) → AreLong K n rows → length (combine K s n c rows) ≡ n
  unfolding combine
  length-combine n [] rows h = length-zero_row n
  length-combine n (c ∷ cs) [] h = length-zero_row n
  length-combine n (c ∷ cs) (r ∷ rs) h = length-row_plus n _ _ (length-row_scale c r ∙ h.0) (length-combine n cs rs h.1)

  -- where the left kernel of q is the row module of r, a row that is torsion modulo r is in that module
  pub torsion_free : (m : ℕ) (q r : List (Row K)) → AreLong K m q → IsExact K s m q r → IsTorsionFree K s (length q) r
  unfolding IsExact IsTorsionFree IsTorsion
  torsion_free m q r long exact z lz oz (d, od, nz, inside) =
      (exact.1 z lz oz).0 (scale-reflects d nz m (combine K s m z q) (length-combine m z q long)
      (scale-combine d m z q ∙ (exact.1 (row_scale K s d z) (length-row_scale d z ∙ lz) (of_row_scale K s d z od oz)).1 inside))

-- ---- entries

module _ (K : Domain) (s : Signature) where
  abbrev pub nil : Row K
  nil = []

  abbrev pub entry : Row K → ℕ → Operator K
  entry r j = get_or r j (empty_sum K plain_cmp)

  pub entry-zero_row : (n j : ℕ) → entry (zero_row K n) j ≡ empty_sum K plain_cmp
  unfolding zero_row
  entry-zero_row zero j = refl
  entry-zero_row (suc n) zero = refl
  entry-zero_row (suc n) (suc j) = entry-zero_row n j

  pub entry-row_plus : (r q : Row K) (j : ℕ) → length r ≡ length q → entry (row_plus K r q) j ≡ plus K plain_cmp (entry r j) (entry q j)
  unfolding row_plus
  entry-row_plus [] [] j e = sym (Operators.plus_zero K _)
  entry-row_plus [] (b ∷ q) j e = absurd (omega arith)
  entry-row_plus (a ∷ r) [] j e = absurd (omega arith)
  entry-row_plus (a ∷ r) (b ∷ q) zero e = refl
  entry-row_plus (a ∷ r) (b ∷ q) (suc j) e = entry-row_plus r q j (ap pred e)

  pub entry-row_scale : (d : Operator K) (r : Row K) (j : ℕ) → entry (row_scale K s d r) j ≡ times K s d (entry r j)
  unfolding row_scale
  entry-row_scale d [] j = sym (Operators.linear-empty_sum K (times-linear_right K s d))
  entry-row_scale d (a ∷ r) zero = refl
  entry-row_scale d (a ∷ r) (suc j) = entry-row_scale d r j

  pub adjoint-dot : (lawful : IsLawful s) (a b : Row K) → adjoint K s (dot K s a b) ≡ dot K s (map (adjoint K s) b) (map (adjoint K s) a)
  unfolding dot
  adjoint-dot lawful [] [] = Operators.linear-empty_sum K (adjoint-linear K s)
  adjoint-dot lawful [] (b ∷ q) = Operators.linear-empty_sum K (adjoint-linear K s)
  adjoint-dot lawful (a ∷ r) [] = Operators.linear-empty_sum K (adjoint-linear K s)
  adjoint-dot lawful (a ∷ r) (b ∷ q) = (adjoint-linear K s).plus _ _ ∙ (λ i. plus K plain_cmp (adjoint-times K s lawful a b i) (adjoint-dot lawful r q i))

  pub row_at : (n : ℕ) (rows : List (Row K)) (i : ℕ) → AreLong K n rows → i < length rows → length (get_or rows i nil) ≡ n
  row_at n [] i h l = absurd (omega arith)
  row_at n (r ∷ rows) zero h l = h.0
  row_at n (r ∷ rows) (suc i) h l = row_at n rows i h.1 (omega arith)

  pub length-adjoint_columns : (j n : ℕ) (a : List (Row K)) → length (adjoint_columns K s j n a) ≡ n
  unfolding adjoint_columns
  length-adjoint_columns j zero a = refl
  length-adjoint_columns j (suc n) a = ap suc (length-adjoint_columns (suc j) n a)

  pub row_of_columns : (j n : ℕ) (a : List (Row K)) (k : ℕ) → k < n → get_or (adjoint_columns K s j n a) k nil ≡ map (adjoint K s) (column K s (j + k) a)
  unfolding adjoint_columns
  row_of_columns j zero a k h = absurd (omega arith)
  row_of_columns j (suc n) a zero h = ap (λ t. map (adjoint K s) (column K s t a)) (let e : j ≡ j + 0 = omega arith in e)
  row_of_columns j (suc n) a (suc k) h = row_of_columns (suc j) n a k (omega arith) ∙ ap (λ t. map (adjoint K s) (column K s t a)) (let e : suc j + k ≡ j + suc k = omega arith in e)

  pub column_row : (j : ℕ) (a : List (Row K)) (i : ℕ) → i < length a → entry (column K s j a) i ≡ entry (get_or a i nil) j
  unfolding column
  column_row j a i h = get_or-map (λ r. entry r j) a i nil (empty_sum K plain_cmp) h

  pub length-column : (j : ℕ) (a : List (Row K)) → length (column K s j a) ≡ length a
  unfolding column
  length-column j a = length-map a (λ r. entry r j)

  -- the columns of the transposed adjoint are the adjoints of the rows
  pub column-adjoint : (n : ℕ) (a : List (Row K)) (i : ℕ) → AreLong K n a → i < length a → column K s i (transpose_adjoint K s n a) ≡ map (adjoint K s) (get_or a i nil)
  unfolding transpose_adjoint
  column-adjoint n a i h l =
      let b = adjoint_columns K s 0 n a in
      let lb : length b ≡ n = length-adjoint_columns 0 n a in
      let la : length (get_or a i nil) ≡ n = row_at n a i h l in
      ext_get_or (empty_sum K plain_cmp) _ _ (length-column i b ∙ lb ∙ sym (length-map (get_or a i nil) (adjoint K s) ∙ la))
      (λ k m. let kn : k < n = subst (λ x. k < x) (length-column i b ∙ lb) m in
      column_row i b k (subst (λ x. k < x) (sym lb) kn)
      ∙ ap (λ r. entry r i) (row_of_columns 0 n a k kn)
      ∙ get_or-map (adjoint K s) (column K s (0 + k) a) i (empty_sum K plain_cmp) (empty_sum K plain_cmp) (subst (λ x. i < x) (sym (length-column (0 + k) a)) l)
      ∙ ap (adjoint K s) (column_row (0 + k) a i l ∙ ap (entry (get_or a i nil)) (let e : 0 + k ≡ k = omega arith in e))
      ∙ sym (get_or-map (adjoint K s) (get_or a i nil) k (empty_sum K plain_cmp) (empty_sum K plain_cmp) (subst (λ x. k < x) (sym la) kn)))

module _ (K : Domain) (s : Signature) (lawful : IsLawful s) where
  pub entry-combine : (n : ℕ) (c : Row K) (rows : List (Row K)) (j : ℕ) → AreLong K n rows → entry K s (combine K s n c rows) j ≡ dot K s c (column K s j rows)
  unfolding combine dot column
  entry-combine n [] rows j h = entry-zero_row K s n j
  entry-combine n (c ∷ cs) [] j h = entry-zero_row K s n j
  entry-combine n (c ∷ cs) (r ∷ rs) j h =
      entry-row_plus K s _ _ j (length-row_scale K s lawful c r ∙ h.0 ∙ sym (length-combine K s lawful n cs rs h.1))
      ∙ (λ i. plus K plain_cmp (entry-row_scale K s c r j i) (entry-combine n cs rs j h.1 i))

  pub long_columns : (j n : ℕ) (a : List (Row K)) (p : ℕ) → length a ≡ p → AreLong K p (adjoint_columns K s j n a)
  unfolding adjoint_columns
  long_columns j zero a p h = tt
  long_columns j (suc n) a p h = (length-map (column K s j a) (adjoint K s) ∙ length-column K s j a ∙ h, long_columns (suc j) n a p h)

  -- the transposed adjoint of a product is the product of the transposed adjoints, turned round
  pub adjoint-product : (m n : ℕ) (a b : List (Row K)) → AreLong K m a → AreLong K n b
      → transpose_adjoint K s n (matrix_times K s n a b) ≡ matrix_times K s (length a) (transpose_adjoint K s n b) (transpose_adjoint K s m a)
  unfolding transpose_adjoint matrix_times
  adjoint-product m n a b la lb =
      ext_get_or (nil K s) _ _ (length-adjoint_columns K s 0 n _ ∙ sym (length-map bs (λ r. combine K s (length a) r as') ∙ length-adjoint_columns K s 0 n b))
      (λ k h. let kn : k < n = subst (λ x. k < x) (length-adjoint_columns K s 0 n _) h in row k kn)
    where
      as' : List (Row K)
      as' = adjoint_columns K s 0 m a

      bs : List (Row K)
      bs = adjoint_columns K s 0 n b

      prod : List (Row K)
      prod = map (λ r. combine K s n r b) a

      row : (k : ℕ) → k < n → get_or (adjoint_columns K s 0 n prod) k (nil K s) ≡ get_or (map (λ r. combine K s (length a) r as') bs) k (nil K s)
      row k kn =
          row_of_columns K s 0 n prod k kn
          ∙ ext_get_or (empty_sum K plain_cmp) _ _ (length-map (column K s (0 + k) prod) (adjoint K s) ∙ length-column K s (0 + k) prod ∙ length-map a (λ r. combine K s n r b) ∙ sym (length-combine K s lawful (length a) right as' (long_columns 0 m a (length a) refl)))
          (λ i l. entries i (subst (λ x. i < x) (length-map (column K s (0 + k) prod) (adjoint K s) ∙ length-column K s (0 + k) prod ∙ length-map a (λ r. combine K s n r b)) l))
          ∙ sym (get_or-map (λ r. combine K s (length a) r as') bs k (nil K s) (nil K s) (subst (λ x. k < x) (sym (length-adjoint_columns K s 0 n b)) kn) ∙ ap (λ r. combine K s (length a) r as') (row_of_columns K s 0 n b k kn))
        where
          right : Row K
          right = map (adjoint K s) (column K s (0 + k) b)

          entries : (i : ℕ) → i < length a → entry K s (map (adjoint K s) (column K s (0 + k) prod)) i ≡ entry K s (combine K s (length a) right as') i
          entries i l =
              get_or-map (adjoint K s) (column K s (0 + k) prod) i (empty_sum K plain_cmp) (empty_sum K plain_cmp) (subst (λ x. i < x) (sym (length-column K s (0 + k) prod ∙ length-map a (λ r. combine K s n r b))) l)
              ∙ ap (adjoint K s) (column_row K s (0 + k) prod i (subst (λ x. i < x) (sym (length-map a (λ r. combine K s n r b))) l)
              ∙ ap (λ r. entry K s r (0 + k)) (get_or-map (λ r. combine K s n r b) a i (nil K s) (nil K s) l)
              ∙ entry-combine n (get_or a i (nil K s)) b (0 + k) lb)
              ∙ adjoint-dot K s lawful (get_or a i (nil K s)) (column K s (0 + k) b)
              ∙ ap (dot K s right) (sym (column-adjoint K s m a i la l))
              ∙ sym (entry-combine (length a) right as' i (long_columns 0 m a (length a) refl))

  pub adjoint_twice : (n : ℕ) (a : List (Row K)) → AreLong K n a → transpose_adjoint K s (length a) (transpose_adjoint K s n a) ≡ a
  unfolding transpose_adjoint
  adjoint_twice n a h =
      ext_get_or (nil K s) _ _ (length-adjoint_columns K s 0 (length a) _)
      (λ k l. let kl : k < length a = subst (λ x. k < x) (length-adjoint_columns K s 0 (length a) _) l in
      row_of_columns K s 0 (length a) (adjoint_columns K s 0 n a) k kl
      ∙ ap (λ t. map (adjoint K s) (column K s t (adjoint_columns K s 0 n a))) (let e : 0 + k ≡ k = omega arith in e)
      ∙ ap (map (adjoint K s)) (column-adjoint K s n a k h kl)
      ∙ back (get_or a k (nil K s)))
    where
      back : (r : Row K) → map (adjoint K s) (map (adjoint K s) r) ≡ r
      back [] = refl
      back (f ∷ r) = λ i. adjoint-adjoint K s lawful f i ∷ back r i

-- ---- combinations of combinations

module _ (K : Domain) where
  pub row_swap : (a b c d : Row K) → row_plus K (row_plus K a b) (row_plus K c d) ≡ row_plus K (row_plus K a c) (row_plus K b d)
  unfolding row_plus
  row_swap [] b c d = refl
  row_swap (x ∷ a) [] [] d = refl
  row_swap (x ∷ a) [] (z ∷ c) [] = refl
  row_swap (x ∷ a) [] (z ∷ c) (w ∷ d) = refl
  row_swap (x ∷ a) (y ∷ b) [] d = refl
  row_swap (x ∷ a) (y ∷ b) (z ∷ c) [] = refl
  row_swap (x ∷ a) (y ∷ b) (z ∷ c) (w ∷ d) = λ i. Operators.plus-swap K x y z w i ∷ row_swap a b c d i

  pub zero_row_twice : (n : ℕ) → row_plus K (zero_row K n) (zero_row K n) ≡ zero_row K n
  unfolding row_plus zero_row
  zero_row_twice zero = refl
  zero_row_twice (suc n) = λ i. Operators.plus_zero K (empty_sum K plain_cmp) i ∷ zero_row_twice n i

  pub zero_row_plus : (n : ℕ) (r : Row K) → length r ≡ n → row_plus K (zero_row K n) r ≡ r
  unfolding row_plus zero_row
  zero_row_plus zero [] e = refl
  zero_row_plus zero (a ∷ r) e = absurd (omega arith)
  zero_row_plus (suc n) [] e = absurd (omega arith)
  zero_row_plus (suc n) (a ∷ r) e = λ i. Operators.zero-plus K a i ∷ zero_row_plus n r (ap pred e) i

  pub row_comm : (a b : Row K) → row_plus K a b ≡ row_plus K b a
  unfolding row_plus
  row_comm [] [] = refl
  row_comm [] (y ∷ b) = refl
  row_comm (x ∷ a) [] = refl
  row_comm (x ∷ a) (y ∷ b) = λ i. Operators.plus_comm K x y i ∷ row_comm a b i

  pub plus-zero_row : (n : ℕ) (r : Row K) → length r ≡ n → row_plus K r (zero_row K n) ≡ r
  plus-zero_row n r e = row_comm r (zero_row K n) ∙ zero_row_plus n r e

module _ (K : Domain) (s : Signature) where
  pub dot-zero_column : (r : Row K) (n : ℕ) → dot K s r (zero_row K n) ≡ empty_sum K plain_cmp
  unfolding dot zero_row
  dot-zero_column [] n = refl
  dot-zero_column (f ∷ r) zero = refl
  dot-zero_column (f ∷ r) (suc n) = (λ i. plus K plain_cmp (Operators.linear-empty_sum K (times-linear_right K s f) i) (dot-zero_column r n i)) ∙ Operators.plus_zero K _

  pub scale_sum : (c d : Operator K) (r : Row K) → row_scale K s (plus K plain_cmp c d) r ≡ row_plus K (row_scale K s c r) (row_scale K s d r)
  unfolding row_scale row_plus
  scale_sum c d [] = refl
  scale_sum c d (a ∷ r) = λ i. (times-linear_left K s a).plus c d i ∷ scale_sum c d r i

  pub zero_scale_row : (n : ℕ) (r : Row K) → length r ≡ n → row_scale K s (empty_sum K plain_cmp) r ≡ zero_row K n
  unfolding row_scale zero_row
  zero_scale_row zero [] e = refl
  zero_scale_row zero (a ∷ r) e = absurd (omega arith)
  zero_scale_row (suc n) [] e = absurd (omega arith)
  zero_scale_row (suc n) (a ∷ r) e = λ i. Operators.linear-empty_sum K (times-linear_left K s a) i ∷ zero_scale_row n r (ap pred e) i

  -- (c + d) A = c A + d A
  pub combine-plus : (n : ℕ) (c d : Row K) (rows : List (Row K)) → length c ≡ length d → combine K s n (row_plus K c d) rows ≡ row_plus K (combine K s n c rows) (combine K s n d rows)
  unfolding combine row_plus
  combine-plus n [] [] rows e = sym (zero_row_twice K n)
  combine-plus n [] (d ∷ ds) rows e = absurd (omega arith)
  combine-plus n (c ∷ cs) [] rows e = absurd (omega arith)
  combine-plus n (c ∷ cs) (d ∷ ds) [] e = sym (zero_row_twice K n)
  combine-plus n (c ∷ cs) (d ∷ ds) (r ∷ rs) e = (λ i. row_plus K (scale_sum c d r i) (combine-plus n cs ds rs (ap pred e) i)) ∙ row_swap K _ _ _ _

  pub combine-zero : (m n : ℕ) (rows : List (Row K)) → AreLong K n rows → combine K s n (zero_row K m) rows ≡ zero_row K n
  unfolding combine zero_row
  combine-zero zero n rows h = refl
  combine-zero (suc m) n [] h = refl
  combine-zero (suc m) n (r ∷ rs) h = (λ i. row_plus K (zero_scale_row n r h.0 i) (combine-zero m n rs h.1 i)) ∙ zero_row_twice K n

module _ (K : Domain) (s : Signature) (lawful : IsLawful s) where
  -- (c A) B = c (A B)
  pub combine-combine : (m n : ℕ) (c : Row K) (a b : List (Row K)) → AreLong K m a → AreLong K n b → combine K s n (combine K s m c a) b ≡ combine K s n c (matrix_times K s n a b)
  unfolding combine matrix_times
  combine-combine m n [] a b la lb = combine-zero K s m n b lb
  combine-combine m n (c ∷ cs) [] b la lb = combine-zero K s m n b lb
  combine-combine m n (c ∷ cs) (r ∷ rs) b la lb =
      combine-plus K s n (row_scale K s c r) (combine K s m cs rs) b (length-row_scale K s lawful c r ∙ la.0 ∙ sym (length-combine K s lawful m cs rs la.1))
      ∙ (λ i. row_plus K (sym (scale-combine K s lawful c n r b) i) (combine-combine m n cs rs b la.1 lb i))

  -- products of matrices are associative
  pub matrix_assoc : (m n : ℕ) (a b c : List (Row K)) → AreLong K m b → AreLong K n c → matrix_times K s n (matrix_times K s m a b) c ≡ matrix_times K s n a (matrix_times K s n b c)
  unfolding matrix_times
  matrix_assoc m n [] b c lb lc = refl
  matrix_assoc m n (r ∷ a) b c lb lc = λ i. combine-combine m n r b c lb lc i ∷ matrix_assoc m n a b c lb lc i

  -- a row module is closed under sums and left multiples
  pub module_plus : (n : ℕ) (rows : List (Row K)) (z w : Row K) → InRowModule K s n rows z → InRowModule K s n rows w → InRowModule K s n rows (row_plus K z w)
  unfolding InRowModule
  module_plus n rows z w (c, lc, oc, e) (d, ld, od, f) = (row_plus K c d, length-row_plus K s lawful (length rows) c d lc ld, of_row_plus K s c d oc od, combine-plus K s n c d rows (lc ∙ sym ld) ∙ (λ i. row_plus K (e i) (f i)))

  pub module_scale : (n : ℕ) (rows : List (Row K)) (d : Operator K) (z : Row K) → OperatorOf K s d → InRowModule K s n rows z → InRowModule K s n rows (row_scale K s d z)
  unfolding InRowModule
  module_scale n rows d z od (c, lc, oc, e) = (row_scale K s d c, length-row_scale K s lawful d c ∙ lc, of_row_scale K s d c od oc, sym (scale-combine K s lawful d n c rows) ∙ ap (row_scale K s d) e)

module _ (K : Domain) (s : Signature) where
  pub length-product : (n : ℕ) (a b : List (Row K)) → length (matrix_times K s n a b) ≡ length a
  unfolding matrix_times
  length-product n a b = length-map a (λ r. combine K s n r b)

  long_from : (j n : ℕ) (a : List (Row K)) (p : ℕ) → length a ≡ p → AreLong K p (adjoint_columns K s j n a)
  unfolding adjoint_columns
  long_from j zero a p h = tt
  long_from j (suc n) a p h = (length-map (column K s j a) (adjoint K s) ∙ length-column K s j a ∙ h, long_from (suc j) n a p h)

  -- the transposed adjoint has as many columns as there were rows
  pub long_adjoint : (n : ℕ) (a : List (Row K)) → AreLong K (length a) (transpose_adjoint K s n a)
  unfolding transpose_adjoint
  long_adjoint n a = long_from 0 n a (length a) refl

  pub length-adjoint : (n : ℕ) (a : List (Row K)) → length (transpose_adjoint K s n a) ≡ n
  unfolding transpose_adjoint
  length-adjoint n a = length-adjoint_columns K s 0 n a

  -- row k of the transposed adjoint has the adjoints of column k
  pub row_of_adjoint : (n : ℕ) (a : List (Row K)) (k : ℕ) → k < n → get_or (transpose_adjoint K s n a) k [] ≡ map (adjoint K s) (column K s k a)
  unfolding transpose_adjoint
  row_of_adjoint n a k h = row_of_columns K s 0 n a k h ∙ ap (λ t. map (adjoint K s) (column K s t a)) (let e : 0 + k ≡ k = omega arith in e)
