-- The first extension module of the transposed adjoint of a matrix r says whether r leaves torsion. Here l are rows that
-- generate what takes the transposed adjoint to zeros.
--     star, columns              the transposed adjoints of r and of l
--     count, wide, tall, columns_long     their sizes
--     rows_vanish, rows_taken    l takes star to zeros, so r takes columns to zeros
--     taken                      so does each row in the row module of r
--     torsion_of, taken_of       what takes columns to zeros is what is torsion modulo r
--     free_of_zero, zero_of_free     it is just the row module of r exactly where r leaves no torsion
--     last_star, twice, high     with one link: the transposed adjoint of the last matrix is columns, that of the one before r
--     inside, inside_back        the row module of the one before is that of r
--     zero_free                  ZeroIsTorsionFree
--     nonzero_torsion            NonzeroIsTorsion
--     valid_tells                ValidTellsOfTorsion
use Rattle.std.proofs.Common.{◌≡◌, ◌↔◌, ℕ, List, [], ◌∷◌, length, get_or, sym, ap, ◌∙◌, subst, arith}
use Rattle.std.specs.List.{All}
use Rattle.std.proofs.ByRecursion.{All-get_or, All-from_get_or}
use Rattle.std.proofs.lemmas.List.{length-map}
use Rattle.std.proofs.lemmas.List.Elements.{All-head}
use Rattle.ore_rational.specs.Field.{rationals, rational_inverses}
use Rattle.ore_monomial.specs.Signature.{Signature}
use Rattle.ore_monomial.proofs.Signatures.{lawful}
use Rattle.ore_ring.specs.Belongs.{Belongs}
use Rattle.ore_ring.specs.Ordered.{Ordered}
use Rattle.ore_rows.specs.Rows.{Row, RowOf, AreLong, zero_row, row_scale, combine, transpose_adjoint, InRowModule, IsExact, IsTorsion, IsTorsionFree}
use Rattle.ore_rows.specs.Stored.{sums_of, rows_of}
use Rattle.ore_rows.proofs.RowLaws as Rows
use Rattle.ore_rows.proofs.RowModules.{module_row}
use Rattle.ore_rows.proofs.StoredRows.{row_of_stored}
use Rattle.ore_laws.proofs.KernelTorsion.{torsion_of_kernel}
use Rattle.ore_pairs.proofs.Generate.{combination_vanishes}
use Rattle.ore_parts.specs.declared.block.ExactBlock.{ExactBlock}
use Rattle.ore_parts.specs.declared.block.OutsideBlock.{OutsideBlock}
use Rattle.ore_parts.specs.declared.block.Link.{Link}
use Rattle.ore_parts.specs.OfSignature.{MatrixOf, IsLinkOf}
use Rattle.ore_cert.specs.CertificateOf.{IsCertificateOf}
use Rattle.ore_cert.specs.declared.certificate.Certificate.{Certificate}
use Rattle.ore_cert.specs.declared.certificate.Certificate.TheVariants.{Controllable, AutonomousElement, LeftInverse, RightInverse, NoLeftInverse, NoRightInverse, Kernel, Resolution, ExtZero, ExtNonzero, Halted}
use Rattle.ore_blocks.specs.CheckBlock.{RowMatrix}
use Rattle.ore_blocks.proofs.Converted.{rows_are_of}
use Rattle.ore_check.specs.Meaning.{RowsOf, transposed_adjoint, Means}
use Rattle.ore_check.specs.Valid.{IsValid}
use Rattle.ore_check.proofs.TurnedProducts.{AreTakenToZeros, turned}
use Rattle.ore_check.proofs.ValidMeans.{valid_means}
use Rattle.ore_resolution.specs.Stored.{IsExtensionOf}
use Rattle.ore_resolution.specs.ExtensionLaws.{IsTorsionElement, TellsOfTorsion}

module _ (s : Signature) where
  module _ (p : ℕ) (r l : List (Row rationals)) (long : AreLong rationals p r) (of : RowsOf s r) (exact : IsExact rationals s (length r) (transpose_adjoint rationals s p r) l) where
    abbrev star : List (Row rationals)
    star = transpose_adjoint rationals s p r

    abbrev columns : List (Row rationals)
    columns = transpose_adjoint rationals s p l

    star_long : AreLong rationals (length r) star
    star_long = Rows.long_adjoint rationals s p r

    columns_long : AreLong rationals (length l) columns
    columns_long = Rows.long_adjoint rationals s p l

    count : length star ≡ p
    count = Rows.length-adjoint rationals s p r

    tall : length columns ≡ p
    tall = Rows.length-adjoint rationals s p l

    wide_for : AreLong rationals (length star) l
    unfolding IsExact
    wide_for = exact.0

    wide : AreLong rationals p l
    wide = subst (λ n. AreLong rationals n l) count wide_for

    -- ---- products

    rows_vanish : RowsOf s l → AreTakenToZeros s (length r) l star
    unfolding IsExact
    rows_vanish of_l = All-from_get_or (λ c. combine rationals s (length r) c star ≡ zero_row rationals (length r)) l []
        (λ i less. (exact.1 (get_or l i []) (Rows.row_at rationals s (length star) l i wide_for less) (All-get_or (RowOf rationals s) l i [] less of_l)).1 (module_row rationals s (lawful s) (length star) l wide_for i less))

    rows_taken : RowsOf s l → AreTakenToZeros s (length l) r columns
    rows_taken of_l =
        subst (λ rows. AreTakenToZeros s (length l) rows columns) (Rows.adjoint_twice rationals s (lawful s) p r long)
        (subst (λ n. AreTakenToZeros s (length l) (transpose_adjoint rationals s (length r) star) (transpose_adjoint rationals s n l)) count
        (turned s (length r) star l star_long wide_for (rows_vanish of_l)))

    taken : RowsOf s l → (z : Row rationals) → InRowModule rationals s p r z → combine rationals s (length l) z columns ≡ zero_row rationals (length l)
    unfolding InRowModule
    taken of_l z (c, lc, oc, e) =
        ap (λ (y : Row rationals). combine rationals s (length l) y columns) (sym e)
        ∙ combination_vanishes rationals s (lawful s) p (length l) columns c r columns_long long (rows_taken of_l)

    -- ---- torsion

    torsion_of : (z : Row rationals) → length z ≡ p → RowOf rationals s z → combine rationals s (length l) z columns ≡ zero_row rationals (length l) → IsTorsion rationals s p r z
    torsion_of z lz oz e =
        torsion_of_kernel rationals s (lawful s) p (length l) r columns long columns_long tall
        (subst (IsExact rationals s (length r) star) (sym (Rows.adjoint_twice rationals s (lawful s) p l wide)) exact)
        rational_inverses of z lz oz e

    taken_of : RowsOf s l → (z : Row rationals) → IsTorsion rationals s p r z → combine rationals s (length l) z columns ≡ zero_row rationals (length l)
    unfolding IsTorsion
    taken_of of_l z (d, od, apart, inside) =
        Rows.scale-reflects rationals s (lawful s) d apart (length l) (combine rationals s (length l) z columns) (Rows.length-combine rationals s (lawful s) (length l) z columns columns_long)
        (Rows.scale-combine rationals s (lawful s) d (length l) z columns ∙ taken of_l (row_scale rationals s d z) inside)

    free_of_zero : IsExact rationals s (length l) columns r → IsTorsionFree rationals s p r
    free_of_zero h = subst (λ n. IsTorsionFree rationals s n r) tall (Rows.torsion_free rationals s (lawful s) (length l) columns r columns_long h)

    zero_of_free : RowsOf s l → IsTorsionFree rationals s p r → IsExact rationals s (length l) columns r
    unfolding IsExact IsTorsionFree
    zero_of_free of_l free = (
      subst (λ n. AreLong rationals n r) (sym tall) long,
      λ z lz oz. (
        (λ e. subst (λ n. InRowModule rationals s n r z) (sym tall) (free z (lz ∙ tall) oz (torsion_of z (lz ∙ tall) oz e))),
        (λ i. taken of_l z (subst (λ n. InRowModule rationals s n r z) tall i)),
      ),
    )

  -- ---- as certificates say it

  module _ (r : RowMatrix) (k : Link) (long : AreLong rationals r.cols r.rows) (of : RowsOf s r.rows) (of_k : MatrixOf s k.l) (fits : k.l.cols ≡ r.cols) where
    abbrev l : List (Row rationals)
    l = rows_of k.l

    abbrev before : RowMatrix
    before = transposed_adjoint s r

    of_l : RowsOf s l
    of_l = rows_are_of s k.l of_k

    -- the transposed adjoint of the last matrix, with the columns of r
    last_star : transpose_adjoint rationals s k.l.cols l ≡ transpose_adjoint rationals s r.cols l
    last_star = ap (λ n. transpose_adjoint rationals s n l) fits

    -- that of the matrix before, which is r
    abbrev again : List (Row rationals)
    again = transpose_adjoint rationals s (length r.rows) before.rows

    twice : again ≡ r.rows
    twice = Rows.adjoint_twice rationals s (lawful s) r.cols r.rows long

    high : length before.rows ≡ r.cols
    high = Rows.length-adjoint rationals s r.cols r.rows

    pub zero_free : (block : ExactBlock) → Means s before (ExtZero (k ∷ []) block) ↔ (Means s before (Resolution (k ∷ [])) × IsTorsionFree rationals s r.cols r.rows)
    zero_free block = (into, back)
      where
        into : Means s before (ExtZero (k ∷ []) block) → Means s before (Resolution (k ∷ [])) × IsTorsionFree rationals s r.cols r.rows
        into (few, (exact, none)) = (
          (few, (exact, tt)),
          free_of_zero r.cols r.rows l long of exact
              (subst (λ rows. IsExact rationals s (length l) rows r.rows) last_star
              (subst (IsExact rationals s (length l) (transpose_adjoint rationals s k.l.cols l)) twice none)),
        )

        back : Means s before (Resolution (k ∷ [])) × IsTorsionFree rationals s r.cols r.rows → Means s before (ExtZero (k ∷ []) block)
        back ((few, (exact, u)), free) = (
          few,
          (
            exact,
            subst (IsExact rationals s (length l) (transpose_adjoint rationals s k.l.cols l)) (sym twice)
                (subst (λ rows. IsExact rationals s (length l) rows r.rows) (sym last_star) (zero_of_free r.cols r.rows l long of exact of_l free)),
          ),
        )

    module _ (element : List Ordered) (block : OutsideBlock) (of_element : All (Belongs s) element) where
      abbrev z : Row rationals
      z = sums_of element

      length-z : length element ≡ r.cols → length z ≡ r.cols
      length-z e = length-map element (λ f. f.sum) ∙ e

      inside : InRowModule rationals s r.cols r.rows z → InRowModule rationals s (length before.rows) again z
      inside i = subst (λ n. InRowModule rationals s n again z) (sym high) (subst (λ rows. InRowModule rationals s r.cols rows z) (sym twice) i)

      inside_back : InRowModule rationals s (length before.rows) again z → InRowModule rationals s r.cols r.rows z
      inside_back i = subst (λ rows. InRowModule rationals s r.cols rows z) twice (subst (λ n. InRowModule rationals s n again z) high i)

      pub nonzero_torsion : Means s before (ExtNonzero (k ∷ []) element block) ↔ (Means s before (Resolution (k ∷ [])) × IsTorsionElement s r element)
      nonzero_torsion = (into, back)
        where
          into : Means s before (ExtNonzero (k ∷ []) element block) → Means s before (Resolution (k ∷ [])) × IsTorsionElement s r element
          into (few, (exact, (le, vanishes, outside))) = (
            (few, (exact, tt)),
            (
              le ∙ high,
              torsion_of r.cols r.rows l long of exact z (length-z (le ∙ high)) (row_of_stored s element of_element) (subst (λ rows. combine rationals s (length l) z rows ≡ zero_row rationals (length l)) last_star vanishes),
              λ i. outside (inside i),
            ),
          )

          back : Means s before (Resolution (k ∷ [])) × IsTorsionElement s r element → Means s before (ExtNonzero (k ∷ []) element block)
          back ((few, (exact, u)), (le, torsion, outside)) = (
            few,
            (
              exact,
              (
                le ∙ sym high,
                subst (λ rows. combine rationals s (length l) z rows ≡ zero_row rationals (length l)) (sym last_star) (taken_of r.cols r.rows l long of exact of_l z torsion),
                λ i. outside (inside_back i),
              ),
            ),
          )

  pub valid_tells : (r : RowMatrix) (c : Certificate) → AreLong rationals r.cols r.rows → RowsOf s r.rows → IsCertificateOf s c → IsExtensionOf 1 c → IsValid s (transposed_adjoint s r) c → TellsOfTorsion s r c
  valid_tells r (ExtZero [] block) long of of_c one v = absurd (omega (arith, one))
  valid_tells r (ExtZero (k ∷ j ∷ ks) block) long of of_c one v = absurd (omega (arith, one))
  valid_tells r (ExtZero (k ∷ []) block) long of of_c one v =
      ((zero_free r k long of (All-head (IsLinkOf s) k [] of_c.0.all).l (v.0 ∙ Rows.length-adjoint rationals s r.cols r.rows) block).0
      (valid_means s (transposed_adjoint s r) (ExtZero (k ∷ []) block) (Rows.long_adjoint rationals s r.cols r.rows) of_c v)).1
  valid_tells r (ExtNonzero [] element block) long of of_c one v = absurd (omega (arith, one))
  valid_tells r (ExtNonzero (k ∷ j ∷ ks) element block) long of of_c one v = absurd (omega (arith, one))
  valid_tells r (ExtNonzero (k ∷ []) element block) long of of_c one v =
      ((nonzero_torsion r k long of (All-head (IsLinkOf s) k [] of_c.0.all).l (v.0 ∙ Rows.length-adjoint rationals s r.cols r.rows) element block of_c.1).0
      (valid_means s (transposed_adjoint s r) (ExtNonzero (k ∷ []) element block) (Rows.long_adjoint rationals s r.cols r.rows) of_c v)).1
  valid_tells r (Controllable q block) long of of_c one v = absurd one
  valid_tells r (AutonomousElement element operator cofactor block) long of of_c one v = absurd one
  valid_tells r (LeftInverse m) long of of_c one v = absurd one
  valid_tells r (RightInverse m) long of of_c one v = absurd one
  valid_tells r (NoLeftInverse unit block) long of of_c one v = absurd one
  valid_tells r (NoRightInverse unit block) long of of_c one v = absurd one
  valid_tells r (Kernel side generators block) long of of_c one v = absurd one
  valid_tells r (Resolution links) long of of_c one v = absurd one
  valid_tells r (Halted report) long of of_c one v = absurd one
