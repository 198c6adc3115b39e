-- Inverses of matrices, and unit rows.
--     of_adjoints              the adjoints of a row of a signature are of it
--     of_adjoint_rows          the transposed adjoint of a matrix of a signature is of it
--     adjoint-identity         the identity is its own transposed adjoint
--     no_left_inverse          where a unit row isn't in the row module there is no left inverse
--     left_inverse_of          the transposed adjoint of a right inverse is a left inverse of the transposed adjoint
--     no_right_inverse         so a unit row outside its row module shows that there is no right inverse
use Rattle.std.proofs.Common.{◌≡◌, ℕ, zero, suc, ◌<◌, Bool, true, false, cond, nat_eq, List, [], ◌∷◌, length, map, get_or, refl, sym, ap, ◌∙◌, subst}
use Rattle.std.proofs.ByRecursion.{All-get_or}
use Rattle.std.proofs.lemmas.List.{ext_get_or}
use Rattle.ore_algebra.specs.Free.{empty_sum, single}
use Rattle.ore_rational.specs.Field.{rationals}
use Rattle.ore_monomial.specs.Monomial.{unit, plain_cmp}
use Rattle.ore_monomial.specs.Signature.{Signature}
use Rattle.ore_monomial.proofs.Operators
use Rattle.ore_monomial.proofs.Signatures.{lawful}
use Rattle.ore_ring.specs.Adjoint.{adjoint}
use Rattle.ore_ring.proofs.Adjoints.{adjoint-linear, adjoint_one, adjoint_unit}
use Rattle.ore_ring.proofs.AdjointParts.{of_adjoint}
use Rattle.ore_rows.specs.Rows.{Row, RowOf, AreLong, unit_entry, unit_row, identity_rows, InRowModule, column, adjoint_columns, transpose_adjoint}
use Rattle.ore_rows.specs.Reduction.{row_at}
use Rattle.ore_rows.proofs.RowLaws as Rows
use Rattle.ore_rows.proofs.UnitRows.{length-identity_rows, row-identity_rows, column-identity_rows}
use Rattle.ore_pairs.proofs.RowSums.{of_entry}
use Rattle.ore_pairs.proofs.Syzygies.{row-matrix_times}
use Rattle.ore_blocks.specs.CheckBlock.{RowMatrix}
use Rattle.ore_check.specs.Meaning.{RowsOf, HasLeftInverse, HasRightInverse, transposed_adjoint}

module _ (s : Signature) where
  -- ---- the transposed adjoint

  pub of_adjoints : (r : Row rationals) → RowOf rationals s r → RowOf rationals s (map (adjoint rationals s) r)
  of_adjoints [] h = tt
  of_adjoints (f ∷ r) h = (of_adjoint rationals s f h.0, of_adjoints r h.1)

  of_column : (j : ℕ) (a : List (Row rationals)) → RowsOf s a → RowOf rationals s (column rationals s j a)
  unfolding column
  of_column j [] h = tt
  of_column j (r ∷ a) h = (of_entry rationals s r j h.0, of_column j a h.1)

  of_columns : (j n : ℕ) (a : List (Row rationals)) → RowsOf s a → RowsOf s (adjoint_columns rationals s j n a)
  unfolding adjoint_columns
  of_columns j zero a h = tt
  of_columns j (suc n) a h = (of_adjoints (column rationals s j a) (of_column j a h), of_columns (suc j) n a h)

  pub of_adjoint_rows : (n : ℕ) (a : List (Row rationals)) → RowsOf s a → RowsOf s (transpose_adjoint rationals s n a)
  unfolding transpose_adjoint
  of_adjoint_rows n a h = of_columns 0 n a h

  -- ---- the identity

  adjoint-unit_entry : (i j : ℕ) → adjoint rationals s (unit_entry rationals i j) ≡ unit_entry rationals i j
  adjoint-unit_entry i j = by (nat_eq j i)
    where
      by : (b : Bool) → adjoint rationals s (cond b (single rationals plain_cmp unit rationals.one) (empty_sum rationals plain_cmp)) ≡ cond b (single rationals plain_cmp unit rationals.one) (empty_sum rationals plain_cmp)
      by true = adjoint_one rationals s unit ∙ adjoint_unit rationals s
      by false = Operators.linear-empty_sum rationals (adjoint-linear rationals s)

  adjoint-unit_row : (n i : ℕ) → map (adjoint rationals s) (unit_row rationals n i) ≡ unit_row rationals n i
  unfolding unit_row
  adjoint-unit_row n i = entries _
    where
      entries : (js : List ℕ) → map (adjoint rationals s) (map (unit_entry rationals i) js) ≡ map (unit_entry rationals i) js
      entries [] = refl
      entries (j ∷ js) = λ k. adjoint-unit_entry i j k ∷ entries js k

  pub adjoint-identity : (n : ℕ) → transpose_adjoint rationals s n (identity_rows rationals n) ≡ identity_rows rationals n
  adjoint-identity n =
      ext_get_or [] _ _ (Rows.length-adjoint rationals s n (identity_rows rationals n) ∙ sym (length-identity_rows rationals n))
      (λ k h. row k (subst (λ m. k < m) (Rows.length-adjoint rationals s n (identity_rows rationals n)) h))
    where
      row : (k : ℕ) → k < n → get_or (transpose_adjoint rationals s n (identity_rows rationals n)) k [] ≡ get_or (identity_rows rationals n) k []
      row k h =
          Rows.row_of_adjoint rationals s n (identity_rows rationals n) k h
          ∙ ap (map (adjoint rationals s)) (column-identity_rows rationals s (lawful s) n k h)
          ∙ adjoint-unit_row n k
          ∙ sym (row-identity_rows rationals n k h)

  -- ---- inverses

  pub no_left_inverse : (r : RowMatrix) (i : ℕ) → i < r.cols → ¬ InRowModule rationals s r.cols r.rows (unit_row rationals r.cols i) → ¬ HasLeftInverse s r
  unfolding InRowModule
  no_left_inverse r i h outside (m, of, (size, e)) = outside (
    row_at m.rows i,
    All-get_or (λ q. length q ≡ m.cols) m.rows i [] here size.long ∙ size.columns,
    All-get_or (RowOf rationals s) m.rows i [] here of,
    sym (row-matrix_times rationals s (lawful s) r.cols m.rows r.rows i here) ∙ ap (λ rows. row_at rows i) e ∙ row-identity_rows rationals r.cols i h,
  )
    where
      here : i < length m.rows
      here = subst (λ n. i < n) (sym size.rows) h

  left_inverse_of : (r : RowMatrix) → AreLong rationals r.cols r.rows → HasRightInverse s r → HasLeftInverse s (transposed_adjoint s r)
  left_inverse_of r long (m, of, (size, e)) = (
    transposed_adjoint s m,
    of_adjoint_rows m.cols m.rows of,
    (
      record {
        rows = Rows.length-adjoint rationals s m.cols m.rows ∙ size.columns;
        columns = size.rows ∙ sym (Rows.length-adjoint rationals s r.cols r.rows);
        long = Rows.long_adjoint rationals s m.cols m.rows;
      },
      sym (Rows.adjoint-product rationals s (lawful s) r.cols m.cols r.rows m.rows long size.long) ∙ ap (transpose_adjoint rationals s m.cols) e
          ∙ ap (λ n. transpose_adjoint rationals s n (identity_rows rationals (length r.rows))) size.columns ∙ adjoint-identity (length r.rows),
    ),
  )

  pub no_right_inverse : (r : RowMatrix) → AreLong rationals r.cols r.rows → (i : ℕ) → i < length r.rows → ¬ InRowModule rationals s (length r.rows) (transposed_adjoint s r).rows (unit_row rationals (length r.rows) i) → ¬ HasRightInverse s r
  no_right_inverse r long i h outside right = no_left_inverse (transposed_adjoint s r) i h outside (left_inverse_of r long right)
