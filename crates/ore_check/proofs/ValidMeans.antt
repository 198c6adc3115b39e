-- A valid certificate is true, kind by kind, and in all.
--     controllable, autonomous, without_left_inverse, without_right_inverse, left_kernel, right_kernel
--                              a certificate without links
--     links_resolve            valid links resolve, and what holds of the last two matrices is handed on
--     resolution, ext_zero, ext_nonzero      a certificate with links
--     valid_means              each of them
use Rattle.std.proofs.Common.{◌≡◌, ℕ, List, [], ◌∷◌, length, sym, ◌∙◌, subst}
use Rattle.std.specs.List.{All}
use Rattle.std.proofs.lemmas.List.{length-map}
use Rattle.std.proofs.lemmas.List.Elements.{All-head, All-tail}
use Rattle.ore_rational.specs.Field.{rationals}
use Rattle.ore_monomial.specs.Signature.{Signature}
use Rattle.ore_monomial.proofs.Signatures.{lawful}
use Rattle.ore_ring.specs.Belongs.{Belongs}
use Rattle.ore_ring.specs.Ordered.{Ordered}
use Rattle.ore_rows.specs.Rows.{AreLong, zero_row, unit_row, combine, InRowModule, IsTorsionFree}
use Rattle.ore_rows.specs.Stored.{OperatorMatrix, sums_of, rows_of}
use Rattle.ore_rows.proofs.RowLaws as Rows
use Rattle.ore_rows.proofs.StoredRows.{row_of_stored}
use Rattle.ore_parts.specs.declared.block.ExactBlock.{ExactBlock}
use Rattle.ore_parts.specs.declared.block.OutsideBlock.{OutsideBlock}
use Rattle.ore_parts.specs.declared.block.Link.{Link}
use Rattle.ore_parts.specs.OfSignature.{MatrixOf, IsExactOf, IsOutsideOf, IsLinkOf}
use Rattle.ore_cert.specs.CertificateOf.{IsCertificateOf, AreLinksOf}
use Rattle.ore_cert.specs.declared.certificate.Side.TheVariants.{Left, Right}
use Rattle.ore_cert.specs.declared.certificate.Certificate.{Certificate}
use Rattle.ore_cert.specs.declared.certificate.Certificate.TheVariants.{Controllable, AutonomousElement, LeftInverse, RightInverse, NoLeftInverse, NoRightInverse, Kernel, Resolution, ExtZero, ExtNonzero, Halted}
use Rattle.ore_blocks.specs.CheckBlock.{RowMatrix, row_matrix_of}
use Rattle.ore_blocks.specs.Valid.{IsValidExactFor, IsValidOutsideFor}
use Rattle.ore_blocks.proofs.Converted.{rows_count, wide_rows}
use Rattle.ore_blocks.proofs.ValidBlocks.{exact_shows, outside_shows}
use Rattle.ore_check.specs.Meaning.{transposed_adjoint, IsExactFor, IsResolution, Means}
use Rattle.ore_check.specs.Valid.{AreValidLinks, IsValid}
use Rattle.ore_check.proofs.Inverses.{no_left_inverse, no_right_inverse}
use Rattle.ore_check.proofs.ValidKinds.{AreLinked, FitsFirst, fits_first, fits_first_at, adjoint_wide}

module _ (s : Signature) (r : RowMatrix) (long : AreLong rationals r.cols r.rows) where
  controllable : (q : OperatorMatrix) (block : ExactBlock) → MatrixOf s q → IsExactOf s block → IsValid s r (Controllable q block) → Means s r (Controllable q block)
  controllable q block of blocks (rows, v) =
      let exact = exact_shows s (row_matrix_of q) r block (subst (λ n. AreLong rationals n r.rows) (sym (rows_count q ∙ rows)) long) blocks v in (
        rows,
        exact,
        subst (λ n. IsTorsionFree rationals s n r.rows) (rows_count q ∙ rows) (Rows.torsion_free rationals s (lawful s) q.cols (rows_of q) r.rows (wide_rows s q of) exact),
      )

  autonomous : (element : List Ordered) (operator : Ordered) (cofactor : List Ordered) (block : OutsideBlock) → All (Belongs s) cofactor → IsOutsideOf s block
      → IsValid s r (AutonomousElement element operator cofactor block) → Means s r (AutonomousElement element operator cofactor block)
  unfolding InRowModule
  autonomous element operator cofactor block of blocks (wide, apart, width, same, v) = (
    apart,
    (sums_of cofactor, length-map cofactor (λ f. f.sum) ∙ width, row_of_stored s cofactor of, sym same),
    outside_shows s r (sums_of element) block blocks v,
  )

  -- the rows of a matrix with as many columns as r has rows
  wide_for : (m : OperatorMatrix) → MatrixOf s m → m.cols ≡ length r.rows → AreLong rationals (length r.rows) (rows_of m)
  wide_for m of e = subst (λ n. AreLong rationals n (rows_of m)) e (wide_rows s m of)

  without_left_inverse : (i : ℕ) (block : OutsideBlock) → IsOutsideOf s block → IsValid s r (NoLeftInverse i block) → Means s r (NoLeftInverse i block)
  without_left_inverse i block blocks (within, v) = no_left_inverse s r i within (outside_shows s r (unit_row rationals r.cols i) block blocks v)

  without_right_inverse : (i : ℕ) (block : OutsideBlock) → IsOutsideOf s block → IsValid s r (NoRightInverse i block) → Means s r (NoRightInverse i block)
  without_right_inverse i block blocks (within, v) = no_right_inverse s r long i within (outside_shows s (transposed_adjoint s r) (unit_row rationals (length r.rows) i) block blocks v)

  left_kernel : (m : OperatorMatrix) (block : ExactBlock) → MatrixOf s m → IsExactOf s block → IsValid s r (Kernel Left m block) → Means s r (Kernel Left m block)
  left_kernel m block of blocks (columns, v) = exact_shows s r (row_matrix_of m) block (wide_for m of columns) blocks v

  right_kernel : (m : OperatorMatrix) (block : ExactBlock) → IsExactOf s block → IsValid s r (Kernel Right m block) → Means s r (Kernel Right m block)
  right_kernel m block blocks (rows, v) = (rows, exact_shows s (transposed_adjoint s r) (transposed_adjoint s (row_matrix_of m)) block (adjoint_wide s r (row_matrix_of m) (sym rows ∙ sym (rows_count m))) blocks v)

module _ (s : Signature) where
  links_resolve : (before r : RowMatrix) (ks : List Link) (P Q : RowMatrix → RowMatrix → Type 0) → FitsFirst before r ks → All (IsLinkOf s) ks → ((b last : RowMatrix) → AreLinked b last → P b last → Q b last)
      → AreValidLinks s before r ks P → IsResolution s before r ks Q
  links_resolve before r [] P Q linked of h v = h before r linked v
  links_resolve before r (k ∷ ks) P Q long of h (columns, block, rest) =
      let link = All-head (IsLinkOf s) k ks of in
      let wide = subst (λ n. AreLong rationals n (rows_of k.l)) columns (wide_rows s k.l link.l) in (
        exact_shows s r (row_matrix_of k.l) k.block wide link.block block,
        links_resolve r (row_matrix_of k.l) ks P Q (fits_first r (row_matrix_of k.l) ks (record { before_long = long; last_long = wide_rows s k.l link.l; columns = columns })) (All-tail (IsLinkOf s) k ks of) h rest,
      )

  module _ (r : RowMatrix) (long : AreLong rationals r.cols r.rows) (links : List Link) (of : AreLinksOf s links) where
    resolution : IsValid s r (Resolution links) → Means s r (Resolution links)
    resolution v = (of.count, links_resolve r r links (λ before last. Unit {0}) (λ before last. Unit {0}) (fits_first_at s r links long of) of.all (λ before last linked u. tt) v)

    ext_zero : (block : ExactBlock) → IsExactOf s block → IsValid s r (ExtZero links block) → Means s r (ExtZero links block)
    ext_zero block blocks v = (
      of.count,
      links_resolve r r links (λ before last. IsValidExactFor s (transposed_adjoint s last) (transposed_adjoint s before) block) (λ before last. IsExactFor s (transposed_adjoint s last) (transposed_adjoint s before).rows)
          (fits_first_at s r links long of) of.all
          (λ before last linked b. exact_shows s (transposed_adjoint s last) (transposed_adjoint s before) block (adjoint_wide s last before linked.columns) blocks b) v,
    )

    ext_nonzero : (element : List Ordered) (block : OutsideBlock) → IsOutsideOf s block → IsValid s r (ExtNonzero links element block) → Means s r (ExtNonzero links element block)
    ext_nonzero element block blocks v = (
      of.count,
      links_resolve r r links
          (λ before last. (length element ≡ length before.rows)
          × (combine rationals s (length last.rows) (sums_of element) (transposed_adjoint s last).rows ≡ zero_row rationals (length last.rows))
          × IsValidOutsideFor s (transposed_adjoint s before) (sums_of element) block)
          (λ before last. (length element ≡ length before.rows)
          × (combine rationals s (length last.rows) (sums_of element) (transposed_adjoint s last).rows ≡ zero_row rationals (length last.rows))
          × ¬ InRowModule rationals s (length before.rows) (transposed_adjoint s before).rows (sums_of element))
          (fits_first_at s r links long of) of.all
          (λ before last linked b. (b.0, b.1, outside_shows s (transposed_adjoint s before) (sums_of element) block blocks b.2)) v,
    )

  pub valid_means : (r : RowMatrix) (c : Certificate) → AreLong rationals r.cols r.rows → IsCertificateOf s c → IsValid s r c → Means s r c
  valid_means r (Controllable q block) long of v = controllable s r long q block of.0 of.1 v
  valid_means r (AutonomousElement element operator cofactor block) long of v = autonomous s r long element operator cofactor block of.2 of.3 v
  valid_means r (LeftInverse m) long of v = v
  valid_means r (RightInverse m) long of v = v
  valid_means r (NoLeftInverse i block) long of v = without_left_inverse s r long i block of.1 v
  valid_means r (NoRightInverse i block) long of v = without_right_inverse s r long i block of.1 v
  valid_means r (Kernel Left m block) long of v = left_kernel s r long m block of.0 of.1 v
  valid_means r (Kernel Right m block) long of v = right_kernel s r long m block of.1 v
  valid_means r (Resolution links) long of v = resolution r long links of v
  valid_means r (ExtZero links block) long of v = ext_zero r long links of.0 block of.1 v
  valid_means r (ExtNonzero links element block) long of v = ext_nonzero r long links of.0 element block of.2 v
  valid_means r (Halted report) long of v = absurd v
