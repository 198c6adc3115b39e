-- The columns that a matrix takes to zeros are the combinations of the columns of a true right kernel.
--     column_of                      the entries of a column
--     adjoint_of_column              its transposed adjoint is the row of the adjoints
--     long_column                    its rows have one entry
--     twice                          the adjoints of adjoints
--     zeros_adjoint                  the adjoints of zeros
--     long_product                   each row of a product has an entry for each column
--     same_adjoints                  matrices of one column with the same transposed adjoint are the same
--     product_adjoint                the transposed adjoint of a matrix times a column
--     to_zeros, from_zeros           a column is taken to zeros exactly where the row of its adjoints is
--     to_columns, from_columns       a column is a combination exactly where the row of its adjoints is
--     right_kernel_exact             so the columns are the same
use Rattle.std.proofs.Common.{◌≡◌, ◌↔◌, ℕ, zero, suc, List, [], ◌∷◌, length, map, get_or, refl, sym, ap, ◌∙◌}
use Rattle.std.proofs.lemmas.List.{length-map}
use Rattle.ore_rational.specs.Field.{rationals}
use Rattle.ore_monomial.specs.Signature.{Signature}
use Rattle.ore_monomial.proofs.Operators
use Rattle.ore_monomial.proofs.Signatures.{lawful}
use Rattle.ore_ring.specs.Adjoint.{adjoint}
use Rattle.ore_ring.proofs.Adjoints.{adjoint-linear, adjoint-adjoint}
use Rattle.ore_rows.specs.Rows.{Row, RowOf, AreLong, zero_row, combine, matrix_times, column, adjoint_columns, transpose_adjoint, InRowModule, IsExact}
use Rattle.ore_rows.specs.Stored.{OperatorMatrix, rows_of, sums_of}
use Rattle.ore_rows.proofs.RowLaws as Rows
use Rattle.ore_parts.specs.declared.block.ExactBlock.{ExactBlock}
use Rattle.ore_parts.specs.OfSignature.{MatrixOf}
use Rattle.ore_cert.specs.declared.certificate.Side.TheVariants.{Right}
use Rattle.ore_cert.specs.declared.certificate.Certificate.TheVariants.{Kernel}
use Rattle.ore_blocks.specs.CheckBlock.{RowMatrix}
use Rattle.ore_blocks.proofs.Converted.{wide_rows}
use Rattle.ore_check.specs.Meaning.{Means}
use Rattle.ore_check.specs.Laws.{as_column, IsColumnOf}
use Rattle.ore_check.proofs.Inverses.{of_adjoints}

module _ (s : Signature) where
  column_of : (e : Row rationals) → column rationals s 0 (as_column e) ≡ e
  unfolding column
  column_of [] = refl
  column_of (f ∷ e) = ap (λ r. f ∷ r) (column_of e)

  adjoint_of_column : (e : Row rationals) → transpose_adjoint rationals s 1 (as_column e) ≡ map (adjoint rationals s) e ∷ []
  unfolding transpose_adjoint adjoint_columns
  adjoint_of_column e = ap (λ r. map (adjoint rationals s) r ∷ []) (column_of e)

  long_column : (e : Row rationals) → AreLong rationals 1 (as_column e)
  long_column [] = tt
  long_column (f ∷ e) = (refl, long_column e)

  twice : (r : Row rationals) → map (adjoint rationals s) (map (adjoint rationals s) r) ≡ r
  twice [] = refl
  twice (f ∷ r) = λ i. adjoint-adjoint rationals s (lawful s) f i ∷ twice r i

  zeros_adjoint : (n : ℕ) → map (adjoint rationals s) (zero_row rationals n) ≡ zero_row rationals n
  unfolding zero_row
  zeros_adjoint zero = refl
  zeros_adjoint (suc n) = λ i. Operators.linear-empty_sum rationals (adjoint-linear rationals s) i ∷ zeros_adjoint n i

  long_product : (n : ℕ) (a b : List (Row rationals)) → AreLong rationals n b → AreLong rationals n (matrix_times rationals s n a b)
  unfolding matrix_times
  long_product n [] b long = tt
  long_product n (r ∷ a) b long = (Rows.length-combine rationals s (lawful s) n r b long, long_product n a b long)

  same_adjoints : (a b : List (Row rationals)) → AreLong rationals 1 a → AreLong rationals 1 b → length a ≡ length b → transpose_adjoint rationals s 1 a ≡ transpose_adjoint rationals s 1 b → a ≡ b
  same_adjoints a b la lb e h =
      sym (Rows.adjoint_twice rationals s (lawful s) 1 a la)
      ∙ (λ i. transpose_adjoint rationals s (e i) (h i))
      ∙ Rows.adjoint_twice rationals s (lawful s) 1 b lb

  product_adjoint : (m : ℕ) (a : List (Row rationals)) (e : Row rationals) → AreLong rationals m a
      → transpose_adjoint rationals s 1 (matrix_times rationals s 1 a (as_column e)) ≡ combine rationals s (length a) (map (adjoint rationals s) e) (transpose_adjoint rationals s m a) ∷ []
  unfolding matrix_times
  product_adjoint m a e long =
      Rows.adjoint-product rationals s (lawful s) m 1 a (as_column e) long (long_column e)
      ∙ ap (λ rows. matrix_times rationals s (length a) rows (transpose_adjoint rationals s m a)) (adjoint_of_column e)

  module _ (a : List (Row rationals)) (m : ℕ) (long : AreLong rationals m a) (e : Row rationals) where
    abbrev adjoints : Row rationals
    adjoints = map (adjoint rationals s) e

    to_zeros : matrix_times rationals s 1 a (as_column e) ≡ as_column (zero_row rationals (length a)) → combine rationals s (length a) adjoints (transpose_adjoint rationals s m a) ≡ zero_row rationals (length a)
    to_zeros h = ap (λ rows. get_or rows 0 []) (
        sym (product_adjoint m a e long)
        ∙ ap (transpose_adjoint rationals s 1) h
        ∙ adjoint_of_column (zero_row rationals (length a))
        ∙ ap (λ z. z ∷ []) (zeros_adjoint (length a)))

    from_zeros : combine rationals s (length a) adjoints (transpose_adjoint rationals s m a) ≡ zero_row rationals (length a) → matrix_times rationals s 1 a (as_column e) ≡ as_column (zero_row rationals (length a))
    from_zeros h = same_adjoints (matrix_times rationals s 1 a (as_column e)) (as_column (zero_row rationals (length a))) (long_product 1 a (as_column e) (long_column e)) (long_column (zero_row rationals (length a)))
        (Rows.length-product rationals s 1 a (as_column e) ∙ sym (length-map (zero_row rationals (length a)) (λ f. f ∷ []) ∙ Rows.length-zero_row rationals s (lawful s) (length a)))
        (product_adjoint m a e long ∙ ap (λ z. z ∷ []) (h ∙ sym (zeros_adjoint (length a))) ∙ sym (adjoint_of_column (zero_row rationals (length a))))

    to_columns : (x : Row rationals) → length e ≡ length a → combine rationals s (length a) (map (adjoint rationals s) x) (transpose_adjoint rationals s m a) ≡ adjoints → matrix_times rationals s 1 a (as_column x) ≡ as_column e
    to_columns x le h = same_adjoints (matrix_times rationals s 1 a (as_column x)) (as_column e) (long_product 1 a (as_column x) (long_column x)) (long_column e)
        (Rows.length-product rationals s 1 a (as_column x) ∙ sym le ∙ sym (length-map e (λ f. f ∷ [])))
        (product_adjoint m a x long ∙ ap (λ z. z ∷ []) h ∙ sym (adjoint_of_column e))

    from_columns : (x : Row rationals) → matrix_times rationals s 1 a (as_column x) ≡ as_column e → combine rationals s (length a) (map (adjoint rationals s) x) (transpose_adjoint rationals s m a) ≡ adjoints
    from_columns x h = ap (λ rows. get_or rows 0 []) (sym (product_adjoint m a x long) ∙ ap (transpose_adjoint rationals s 1) h ∙ adjoint_of_column e)

  pub right_kernel_exact : (r : RowMatrix) (m : OperatorMatrix) (block : ExactBlock) → AreLong rationals r.cols r.rows → MatrixOf s m → Means s r (Kernel Right m block)
      → (e : Row rationals) → length e ≡ r.cols → RowOf rationals s e
      → (matrix_times rationals s 1 r.rows (as_column e) ≡ as_column (zero_row rationals (length r.rows))) ↔ IsColumnOf s m e
  unfolding IsExact InRowModule
  right_kernel_exact r m block long of (rows, exact) e le oe = (into, back)
    where
      generators : List (Row rationals)
      generators = rows_of m

      wide : AreLong rationals m.cols (rows_of m)
      wide = wide_rows s m of

      adjoints_count : length (transpose_adjoint rationals s r.cols r.rows) ≡ length (rows_of m)
      adjoints_count = Rows.length-adjoint rationals s r.cols r.rows ∙ sym rows ∙ sym (length-map m.rows sums_of)

      adjoint_length : length (map (adjoint rationals s) e) ≡ length (transpose_adjoint rationals s r.cols r.rows)
      adjoint_length = length-map e (adjoint rationals s) ∙ le ∙ sym (Rows.length-adjoint rationals s r.cols r.rows)

      into : matrix_times rationals s 1 r.rows (as_column e) ≡ as_column (zero_row rationals (length r.rows)) → IsColumnOf s m e
      into h =
          let inside = (exact.1 (map (adjoint rationals s) e) adjoint_length (of_adjoints s e oe)).0 (to_zeros r.rows r.cols long e h) in
          let x = map (adjoint rationals s) inside.0 in (
            x,
            length-map inside.0 (adjoint rationals s) ∙ inside.1 ∙ Rows.length-adjoint rationals s m.cols (rows_of m),
            of_adjoints s inside.0 inside.2,
            to_columns (rows_of m) m.cols wide e x (le ∙ sym rows ∙ sym (length-map m.rows sums_of))
                (ap (λ c. combine rationals s (length (rows_of m)) c (transpose_adjoint rationals s m.cols (rows_of m))) (twice inside.0)
                ∙ ap (λ n. combine rationals s n inside.0 (transpose_adjoint rationals s m.cols (rows_of m))) (sym adjoints_count)
                ∙ inside.3),
          )

      back : IsColumnOf s m e → matrix_times rationals s 1 r.rows (as_column e) ≡ as_column (zero_row rationals (length r.rows))
      back (x, lx, ox, gx) = from_zeros r.rows r.cols long e ((exact.1 (map (adjoint rationals s) e) adjoint_length (of_adjoints s e oe)).1 (
        map (adjoint rationals s) x,
        length-map x (adjoint rationals s) ∙ lx ∙ sym (Rows.length-adjoint rationals s m.cols (rows_of m)),
        of_adjoints s x ox,
        ap (λ n. combine rationals s n (map (adjoint rationals s) x) (transpose_adjoint rationals s m.cols (rows_of m))) adjoints_count
            ∙ from_columns (rows_of m) m.cols wide e x gx,
      ))
