-- Where rows take a matrix to zeros, the rows of its transposed adjoint take that of the rows to zeros.
--     entry_zero, zero_column, zero_columns     entries and columns of zeros
--     zeros_of_product, product_of_zeros        a product is zeros where each row takes the matrix there
--     turned                                    of transposed adjoints
use Rattle.std.proofs.Common.{◌≡◌, ℕ, zero, suc, List, [], ◌∷◌, length, map, get_or, refl, ap, ◌∙◌, subst}
use Rattle.std.specs.List.{AllByRecursion}
use Rattle.ore_algebra.specs.Free.{empty_sum}
use Rattle.ore_rational.specs.Field.{rationals}
use Rattle.ore_monomial.specs.Monomial.{plain_cmp}
use Rattle.ore_monomial.specs.Signature.{Signature}
use Rattle.ore_monomial.proofs.Operators
use Rattle.ore_monomial.proofs.Signatures.{lawful}
use Rattle.ore_ring.specs.Adjoint.{adjoint}
use Rattle.ore_ring.proofs.Adjoints.{adjoint-linear}
use Rattle.ore_rows.specs.Rows.{Row, AreLong, zero_row, combine, column, matrix_times, adjoint_columns, transpose_adjoint}
use Rattle.ore_rows.proofs.RowLaws as Rows

module _ (s : Signature) where
  entry_zero : (n j : ℕ) → get_or (zero_row rationals n) j (empty_sum rationals plain_cmp) ≡ empty_sum rationals plain_cmp
  unfolding zero_row
  entry_zero zero j = refl
  entry_zero (suc n) zero = refl
  entry_zero (suc n) (suc j) = entry_zero n j

  -- rows of p zeros
  abbrev AreZeros : ℕ → List (Row rationals) → Type 0
  AreZeros p rows = AllByRecursion (λ r. r ≡ zero_row rationals p) rows

  zero_column : (p j : ℕ) (rows : List (Row rationals)) → AreZeros p rows → map (adjoint rationals s) (column rationals s j rows) ≡ zero_row rationals (length rows)
  unfolding column zero_row
  zero_column p j [] h = refl
  zero_column p j (r ∷ rows) (e, h) =
      let first = ap (λ (r : Row rationals). adjoint rationals s (get_or r j (empty_sum rationals plain_cmp))) e ∙ ap (adjoint rationals s) (entry_zero p j) ∙ Operators.linear-empty_sum rationals (adjoint-linear rationals s) in
      λ i. first i ∷ zero_column p j rows h i

  zero_columns : (p j n : ℕ) (rows : List (Row rationals)) → AreZeros p rows → AreZeros (length rows) (adjoint_columns rationals s j n rows)
  unfolding adjoint_columns
  zero_columns p j zero rows h = tt
  zero_columns p j (suc n) rows h = (zero_column p j rows h, zero_columns p (suc j) n rows h)

  zero_adjoint : (p n : ℕ) (rows : List (Row rationals)) → AreZeros p rows → AreZeros (length rows) (transpose_adjoint rationals s n rows)
  unfolding transpose_adjoint
  zero_adjoint p n rows h = zero_columns p 0 n rows h

  -- each of some rows times m, which has n columns, is zeros
  abbrev pub AreTakenToZeros : ℕ → List (Row rationals) → List (Row rationals) → Type 0
  AreTakenToZeros n rows m = AllByRecursion (λ c. combine rationals s n c m ≡ zero_row rationals n) rows

  zeros_of_product : (n : ℕ) (rows m : List (Row rationals)) → AreTakenToZeros n rows m → AreZeros n (matrix_times rationals s n rows m)
  unfolding matrix_times
  zeros_of_product n [] m h = tt
  zeros_of_product n (r ∷ rows) m (e, h) = (e, zeros_of_product n rows m h)

  product_of_zeros : (n : ℕ) (rows m : List (Row rationals)) → AreZeros n (matrix_times rationals s n rows m) → AreTakenToZeros n rows m
  unfolding matrix_times
  product_of_zeros n [] m h = tt
  product_of_zeros n (r ∷ rows) m (e, h) = (e, product_of_zeros n rows m h)

  pub turned : (n : ℕ) (m rows : List (Row rationals)) → AreLong rationals n m → AreLong rationals (length m) rows → AreTakenToZeros n rows m
      → AreTakenToZeros (length rows) (transpose_adjoint rationals s n m) (transpose_adjoint rationals s (length m) rows)
  turned n m rows long wide h =
      let count = Rows.length-product rationals s n rows m in
      let zeros = subst (λ q. AreZeros q (transpose_adjoint rationals s n (matrix_times rationals s n rows m))) count (zero_adjoint n n (matrix_times rationals s n rows m) (zeros_of_product n rows m h)) in
      product_of_zeros (length rows) (transpose_adjoint rationals s n m) (transpose_adjoint rationals s (length m) rows)
      (subst (AreZeros (length rows)) (Rows.adjoint-product rationals s (lawful s) (length m) n rows m wide long) zeros)
