-- Torsion by kernels, over any field.
--     adjoints                  the adjoints of the entries of a row
--     taken_at                  a row of a matrix takes a column to zero
--     columns_taken             where a row times q is zeros, the transposed adjoint of q takes the adjoints of the row there
--     column_inside             a column that r takes to zeros is a combination of the columns of its right kernel q
--     not_separated             no column that r takes to zeros separates a row that takes q to zeros
--     torsion_of_kernel         so such a row is torsion modulo r
--     stacked, zeros_of_stacked      the operator and the cofactors of a torsion row z, as a row that takes z above r to zeros
--     first-combine             the first entry of a combination of rows whose first entries are zero
--     nonzero_first             of rows that generate all such rows, one has a first entry that isn't zero
use Rattle.std.proofs.Common.{◌≡◌, ◌⊎◌, inl, inr, ⊎_elim, ℕ, zero, suc, ◌<◌, List, [], ◌∷◌, length, map, get_or, refl, sym, ap, ◌∙◌, subst, arith}
use Rattle.std.specs.List.{AllByRecursion}
use Rattle.std.proofs.lemmas.List.{length-map, ext_get_or}
use Rattle.ore_algebra.specs.Domain.{Domain, HasInverses}
use Rattle.ore_algebra.specs.Free.{empty_sum, plus}
use Rattle.ore_monomial.specs.Monomial.{plain_cmp}
use Rattle.ore_monomial.specs.Signature.{Signature, IsLawful}
use Rattle.ore_monomial.proofs.Operators
use Rattle.ore_ring.specs.Product.{times}
use Rattle.ore_ring.specs.Adjoint.{adjoint}
use Rattle.ore_ring.proofs.Adjoints.{adjoint-linear}
use Rattle.ore_ring.proofs.AdjointParts.{of_adjoint}
use Rattle.ore_rows.specs.Rows.{Row, RowOf, AreLong, zero_row, row_plus, row_scale, combine, dot, column, adjoint_columns, transpose_adjoint, InRowModule, IsExact, IsTorsion}
use Rattle.ore_rows.proofs.RowLaws as Rows
use Rattle.ore_laws.specs.Columns.{IsTakenToZeros, HasNonzeroFirst}
use Rattle.ore_laws.proofs.ColumnProducts.{opposite, times-zero, of_opposite, dot-combine}
use Rattle.ore_laws.proofs.TorsionOrColumn.{is_zero, one, of_one, plus-opposite_row, Torsion, torsion_is, torsion_or_column}
use Rattle.ore_laws.proofs.CommonMultiples.{adjoint_apart}

module _ (K : Domain) (s : Signature) where
  taken_at : (rows : List (Row K)) (v : Row K) (j : ℕ) → j < length rows → IsTakenToZeros K s rows v → dot K s (get_or rows j []) v ≡ empty_sum K plain_cmp
  taken_at [] v j l h = absurd (omega arith)
  taken_at (r ∷ rows) v zero l h = h.0
  taken_at (r ∷ rows) v (suc j) l h = taken_at rows v j (omega arith) h.1

  abbrev adjoints : Row K → Row K
  adjoints r = map (adjoint K s) r

  adjoint_zero : adjoint K s (empty_sum K plain_cmp) ≡ empty_sum K plain_cmp
  adjoint_zero = Operators.linear-empty_sum K (adjoint-linear K s)

  of_adjoints : (v : Row K) → RowOf K s v → RowOf K s (adjoints v)
  of_adjoints [] h = tt
  of_adjoints (f ∷ v) h = (of_adjoint K s f h.0, of_adjoints v h.1)

module _ (K : Domain) (s : Signature) (lawful : IsLawful s) where
  columns_taken : (m : ℕ) (q : List (Row K)) (z : Row K) → AreLong K m q → combine K s m z q ≡ zero_row K m → (j n : ℕ) → IsTakenToZeros K s (adjoint_columns K s j n q) (adjoints K s z)
  unfolding adjoint_columns
  columns_taken m q z long e j zero = tt
  columns_taken m q z long e j (suc n) = (
    sym (Rows.adjoint-dot K s lawful z (column K s j q)) ∙ ap (adjoint K s) (sym (Rows.entry-combine K s lawful m z q j long) ∙ ap (λ r. Rows.entry K s r j) e ∙ Rows.entry-zero_row K s m j) ∙ adjoint_zero K s,
    columns_taken m q z long e (suc j) n,
  )

  -- q has a row for each column of r, and its columns generate all columns that r takes to zeros
  module _ (p m : ℕ) (r q : List (Row K)) (lr : AreLong K p r) (lq : AreLong K m q) (tall : length q ≡ p) (exact : IsExact K s (length r) (transpose_adjoint K s p r) (transpose_adjoint K s m q)) where
    column_inside : (v : Row K) → length v ≡ p → RowOf K s v → IsTakenToZeros K s r v → InRowModule K s p (transpose_adjoint K s m q) (adjoints K s v)
    unfolding IsExact transpose_adjoint
    column_inside v lv ov h = subst (λ k. InRowModule K s k (transpose_adjoint K s m q) (adjoints K s v)) high ((exact.1 (adjoints K s v) (length-map v (adjoint K s) ∙ lv ∙ sym high) (of_adjoints K s v ov)).0 vanish)
      where
        high : length (transpose_adjoint K s p r) ≡ p
        high = Rows.length-adjoint_columns K s 0 p r

        rows : List (Row K)
        rows = adjoint_columns K s 0 p r

        wide : AreLong K (length r) rows
        wide = Rows.long_columns K s lawful 0 p r (length r) refl

        long : length (combine K s (length r) (adjoints K s v) rows) ≡ length r
        long = Rows.length-combine K s lawful (length r) (adjoints K s v) rows wide

        vanish : combine K s (length r) (adjoints K s v) (transpose_adjoint K s p r) ≡ zero_row K (length r)
        vanish = ext_get_or (empty_sum K plain_cmp) _ _ (long ∙ sym (Rows.length-zero_row K s lawful (length r)))
            (λ j l. let jl : j < length r = subst (λ x. j < x) long l in
            Rows.entry-combine K s lawful (length r) (adjoints K s v) rows j wide
            ∙ ap (dot K s (adjoints K s v)) (Rows.column-adjoint K s p r j lr jl)
            ∙ sym (Rows.adjoint-dot K s lawful (get_or r j []) v)
            ∙ ap (adjoint K s) (taken_at K s r v j jl h) ∙ adjoint_zero K s
            ∙ sym (Rows.entry-zero_row K s (length r) j))

    not_separated : (z : Row K) → length z ≡ p → combine K s m z q ≡ zero_row K m → (v : Row K) → length v ≡ p → RowOf K s v → IsTakenToZeros K s r v → dot K s z v ≡ empty_sum K plain_cmp
    unfolding InRowModule transpose_adjoint
    not_separated z lz e v lv ov h = by (is_zero K (dot K s z v)) (column_inside v lv ov h)
      where
        by : Dec (dot K s z v ≡ empty_sum K plain_cmp) → InRowModule K s p (transpose_adjoint K s m q) (adjoints K s v) → dot K s z v ≡ empty_sum K plain_cmp
        by (yes d) i = d
        by (no d) (c, lc, oc, f) = absurd (adjoint_apart K s lawful (dot K s z v) d
            (Rows.adjoint-dot K s lawful z v ∙ ap (λ x. dot K s x (adjoints K s z)) (sym f) ∙ dot-combine K s lawful p c (adjoint_columns K s 0 m q) (adjoints K s z) (Rows.long_columns K s lawful 0 m q p tall) (columns_taken m q z lq e 0 m)))

    pub torsion_of_kernel : HasInverses K → AllByRecursion (RowOf K s) r → (z : Row K) → length z ≡ p → RowOf K s z → combine K s m z q ≡ zero_row K m → IsTorsion K s p r z
    torsion_of_kernel inverses of_r z lz oz e = ⊎_elim (λ t. t) (λ v. absurd (v.1.apart (not_separated z lz e v.0 v.1.long v.1.of v.1.zeros))) (torsion_or_column K s lawful p inverses r lr of_r z lz oz)

  -- ---- what takes z above r to zeros

  abbrev FirstIsZero : Row K → Type 0
  FirstIsZero r = get_or r 0 (empty_sum K plain_cmp) ≡ empty_sum K plain_cmp

  search_first : (rows : List (Row K)) → AllByRecursion FirstIsZero rows ⊎ HasNonzeroFirst K rows
  search_first [] = inl tt
  search_first (r ∷ rows) = by (is_zero K (get_or r 0 (empty_sum K plain_cmp))) (search_first rows)
    where
      by : Dec (FirstIsZero r) → AllByRecursion FirstIsZero rows ⊎ HasNonzeroFirst K rows → AllByRecursion FirstIsZero (r ∷ rows) ⊎ HasNonzeroFirst K (r ∷ rows)
      by (no n) rest = inr (0, omega arith, n)
      by (yes e) (inl all) = inl (e, all)
      by (yes e) (inr (k, less, n)) = inr (suc k, omega (arith, less), n)

  first-combine : (n : ℕ) (c : Row K) (rows : List (Row K)) → AreLong K n rows → AllByRecursion FirstIsZero rows → get_or (combine K s n c rows) 0 (empty_sum K plain_cmp) ≡ empty_sum K plain_cmp
  unfolding dot column
  first-combine n c rows long all = Rows.entry-combine K s lawful n c rows 0 long ∙ blank c rows all
    where
      blank : (c : Row K) (rows : List (Row K)) → AllByRecursion FirstIsZero rows → dot K s c (column K s 0 rows) ≡ empty_sum K plain_cmp
      blank [] rows h = refl
      blank (f ∷ c) [] h = refl
      blank (f ∷ c) (r ∷ rows) h = (λ i. plus K plain_cmp ((ap (times K s f) h.0 ∙ times-zero K s f) i) (blank c rows h.1 i)) ∙ Operators.plus_zero K _

  module _ (n : ℕ) (r : List (Row K)) (z : Row K) (lz : length z ≡ n) (t : Torsion K s n r z) where
    abbrev stacked : Row K
    stacked = t.multiplier ∷ row_scale K s (opposite K (one K)) t.cofactors

    of_stacked : RowOf K s stacked
    of_stacked = (t.of_multiplier, Rows.of_row_scale K s (opposite K (one K)) t.cofactors (of_opposite K s (one K) (of_one K s)) t.of_cofactors)

    length-stacked : length stacked ≡ length (z ∷ r)
    length-stacked = ap suc (Rows.length-row_scale K s lawful _ t.cofactors ∙ t.long)

    zeros_of_stacked : combine K s n stacked (z ∷ r) ≡ zero_row K n
    unfolding combine
    zeros_of_stacked =
        ap (row_plus K x) (sym (Rows.scale-combine K s lawful _ n t.cofactors r) ∙ ap (row_scale K s (opposite K (one K))) t.meets)
        ∙ plus-opposite_row K s lawful n x (Rows.length-row_scale K s lawful t.multiplier z ∙ lz)
      where
        x : Row K
        x = row_scale K s t.multiplier z

    first_found : (l : List (Row K)) → IsExact K s n (z ∷ r) l → HasNonzeroFirst K l
    unfolding IsExact InRowModule
    first_found l exact = by (search_first l) ((exact.1 stacked length-stacked of_stacked).0 zeros_of_stacked)
      where
        by : AllByRecursion FirstIsZero l ⊎ HasNonzeroFirst K l → InRowModule K s (length (z ∷ r)) l stacked → HasNonzeroFirst K l
        by (inl all) (c, lc, oc, e) = absurd (t.apart (ap (λ x. get_or x 0 (empty_sum K plain_cmp)) (sym e) ∙ first-combine (length (z ∷ r)) c l exact.0 all))
        by (inr f) i = f

  pub nonzero_first : (n : ℕ) (r l : List (Row K)) (z : Row K) → length z ≡ n → IsTorsion K s n r z → IsExact K s n (z ∷ r) l → HasNonzeroFirst K l
  nonzero_first n r l z lz t exact = first_found n r z lz (torsion_is K s n r z t) l exact
