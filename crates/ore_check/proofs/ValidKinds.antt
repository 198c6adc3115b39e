-- Without limits the places of a certificate are right exactly where the certificate is valid, kind by kind, and in all.
--     inverse_size                              the size of a matrix as an inverse
--     controllable_iff, autonomous_iff, left_inverse_iff, right_inverse_iff, no_left_iff, no_right_iff, left_kernel_iff,
--     right_kernel_iff                          certificates without links
--     AreLinked                                 the last two matrices of links
--     links_iff                                 links, and what stands behind them
--     adjoints_exact, adjoint_wide              the adjoints of the last two matrices
--     zero_iff                                  a row of zeros
--     resolution_iff, ext_zero_iff, ext_nonzero_iff       certificates with links
--     check_valid                               each of them
use Rattle.std.proofs.Common.{◌≡◌, ◌↔◌, ℕ, suc, true, ◌&&◌, nat_eq, nat_lt, List, [], ◌∷◌, length, refl, sym, ap, ◌∙◌, subst, arith}
use Rattle.std.specs.Prelude.{not}
use Rattle.std.specs.List.{All}
use Rattle.std.specs.declared.result.Result.TheVariants.{Ok}
use Rattle.std.proofs.lemmas.List.Elements.{All-head, All-tail}
use Rattle.ore_algebra.specs.Free.{empty_sum}
use Rattle.ore_algebra.specs.Limits.{unlimited}
use Rattle.ore_rational.specs.Field.{rationals}
use Rattle.ore_monomial.specs.Monomial.{plain_cmp}
use Rattle.ore_monomial.specs.Signature.{Signature}
use Rattle.ore_monomial.proofs.Signatures.{lawful}
use Rattle.ore_ring.specs.Ordered.{Ordered}
use Rattle.ore_rows.specs.RowLead.{row_lead}
use Rattle.ore_rows.specs.Rows.{Row, AreLong, zero_row, unit_row, row_scale, combine, identity_rows, matrix_times}
use Rattle.ore_rows.specs.RowsWithin.{scale_within, combine_within, matrix_times_within}
use Rattle.ore_rows.specs.Stored.{OperatorMatrix, sums_of, rows_of}
use Rattle.ore_rows.proofs.GreatestTerms.{row_lead-zero, zero_from}
use Rattle.ore_rows.proofs.RowLaws as Rows
use Rattle.ore_rows.proofs.UnitRows.{length-identity_rows}
use Rattle.ore_rows.proofs.WithinValues.{scale_unlimited, combine_unlimited, product_unlimited}
use Rattle.ore_parts.specs.declared.block.ExactBlock.{ExactBlock}
use Rattle.ore_parts.specs.declared.block.OutsideBlock.{OutsideBlock}
use Rattle.ore_parts.specs.declared.block.Link.{Link}
use Rattle.ore_parts.specs.OfSignature.{MatrixOf, IsExactOf, IsOutsideOf, IsLinkOf}
use Rattle.ore_cert.specs.declared.certificate.Side.TheVariants.{Left, Right}
use Rattle.ore_cert.specs.declared.certificate.Certificate.{Certificate}
use Rattle.ore_cert.specs.declared.certificate.Certificate.TheVariants.{Controllable, AutonomousElement, LeftInverse, RightInverse, NoLeftInverse, NoRightInverse, Kernel, Resolution, ExtZero, ExtNonzero, Halted}
use Rattle.ore_cert.specs.CertificateOf.{IsCertificateOf, AreLinksOf}
use Rattle.ore_blocks.specs.declared.place.Section.TheVariants as section
use Rattle.ore_blocks.specs.declared.place.Name.TheVariants.{Generators, Inverse, Element, Cofactor}
use Rattle.ore_blocks.specs.declared.place.Place.TheVariants as place
use Rattle.ore_blocks.specs.declared.reason.Reason.TheVariants as reason
use Rattle.ore_blocks.specs.Conditions.{Checked, formed, required, is_none, is_same}
use Rattle.ore_algebra.specs.Results.{◌>>=◌}
use Rattle.ore_blocks.specs.CheckBlock.{RowMatrix, row_matrix_of, are_zero, check_exact}
use Rattle.ore_blocks.specs.PlaceConditions.{same_row, same_rows}
use Rattle.ore_blocks.specs.Same.{operator_discrete, row_discrete, rows_discrete}
use Rattle.ore_blocks.specs.KernelCourse.{transposed_adjoint_within}
use Rattle.ore_blocks.specs.Valid.{IsValidExactFor, IsValidOutsideFor}
use Rattle.ore_blocks.proofs.Converted.{rows_count, wide_rows}
use Rattle.ore_blocks.proofs.RowConditions.{rows_give_iff}
use Rattle.ore_blocks.proofs.BlockConditions.{exact_iff, outside_iff}
use Rattle.ore_blocks.proofs.TransposedAdjoints.{adjoint_unlimited}
use Rattle.ore_check.specs.Check.{IsNoReport, check_links, adjoints_of, check}
use Rattle.ore_check.specs.Meaning.{HasInverseSize, transposed_adjoint}
use Rattle.ore_check.specs.Valid.{AreValidLinks, IsValid}
use Rattle.ore_blocks.proofs.Equivalences.{same_claim, map_iff, goes_on, none_iff, goes_iff, value_iff, required_iff, formed_iff, passes_iff, nested, nat_eq_iff, nat_lt_iff, both_iff, same_iff, different_iff}

-- ---- kinds without links

module _ (s : Signature) (r : RowMatrix) (long : AreLong rationals r.cols r.rows) where
  controllable_iff : (q : OperatorMatrix) (block : ExactBlock) → MatrixOf s q → IsExactOf s block → (check unlimited s r (Controllable q block) tt ≡ Ok tt) ↔ IsValid s r (Controllable q block)
  unfolding check
  controllable_iff q block of blocks =
      required_iff (place.Header section.Body Generators) reason.Shape (nat_eq (length q.rows) r.cols) _ tt (nat_eq_iff (length q.rows) r.cols) (λ rows.
      exact_iff s section.Body (row_matrix_of q) r block (wide_rows s q of) (subst (λ n. AreLong rationals n r.rows) (sym (rows_count q ∙ rows)) long) blocks)

  autonomous_iff : (element : List Ordered) (operator : Ordered) (cofactor : List Ordered) (block : OutsideBlock) → IsOutsideOf s block
      → (check unlimited s r (AutonomousElement element operator cofactor block) tt ≡ Ok tt) ↔ IsValid s r (AutonomousElement element operator cofactor block)
  unfolding check
  autonomous_iff element operator cofactor block blocks = map_iff
      (required_iff (place.Header section.Body Element) reason.Shape (nat_eq (length element) r.cols) _ tt (nat_eq_iff (length element) r.cols) (λ wide.
      required_iff place.Operator reason.ZeroOperator (not (is_same operator_discrete operator.sum (empty_sum rationals plain_cmp))) _ tt (different_iff operator_discrete operator.sum (empty_sum rationals plain_cmp)) (λ apart.
      required_iff (place.Header section.Body Cofactor) reason.Shape (nat_eq (length cofactor) (length r.rows)) _ tt (nat_eq_iff (length cofactor) (length r.rows)) (λ width.
      formed_iff (place.Row section.Body Cofactor 0) (scale_within unlimited s operator.sum (sums_of element)) _ (row_scale rationals s operator.sum (sums_of element)) tt (scale_unlimited s operator.sum (sums_of element))
      (formed_iff (place.Row section.Body Cofactor 0) (combine_within unlimited s r.cols (sums_of cofactor) r.rows) _ (combine rationals s r.cols (sums_of cofactor) r.rows) tt (combine_unlimited s r.cols (sums_of cofactor) r.rows long)
      (required_iff (place.Row section.Body Cofactor 0) reason.Cofactor (same_row (row_scale rationals s operator.sum (sums_of element)) (combine rationals s r.cols (sums_of cofactor) r.rows)) _ tt
      (same_iff row_discrete (row_scale rationals s operator.sum (sums_of element)) (combine rationals s r.cols (sums_of cofactor) r.rows)) (λ same.
      outside_iff s r (sums_of element) block blocks)))))))
      (λ h. (h.0, h.1.0, h.1.1.0, h.1.1.1.0, h.1.1.1.1), λ h. (h.0, (h.1, (h.2, (h.3, h.4)))))

  -- the sizes of a matrix of the signature, told by its stored rows
  inverse_size : (m : OperatorMatrix) → MatrixOf s m → ((length m.rows ≡ r.cols) × (m.cols ≡ length r.rows)) ↔ HasInverseSize r (row_matrix_of m)
  inverse_size m of = (λ h. record { rows = rows_count m ∙ h.0; columns = h.1; long = wide_rows s m of }, λ h. (sym (rows_count m) ∙ h.rows, h.columns))

  left_inverse_iff : (m : OperatorMatrix) → MatrixOf s m → (check unlimited s r (LeftInverse m) tt ≡ Ok tt) ↔ IsValid s r (LeftInverse m)
  unfolding check
  left_inverse_iff m of = map_iff
      (required_iff (place.Header section.Body Inverse) reason.Shape (nat_eq (length m.rows) r.cols && nat_eq m.cols (length r.rows)) _ tt
      (both_iff (nat_eq (length m.rows) r.cols) (nat_eq m.cols (length r.rows)) (nat_eq_iff (length m.rows) r.cols) (nat_eq_iff m.cols (length r.rows))) (λ sizes.
      rows_give_iff s reason.Identity r.cols r.rows long section.Body Inverse 0 (rows_of m) (identity_rows rationals r.cols) (rows_count m ∙ sizes.0 ∙ sym (length-identity_rows rationals r.cols))))
      (λ h. ((inverse_size m of).0 h.0, h.1), λ h. ((inverse_size m of).1 h.0, h.1))

  right_inverse_iff : (m : OperatorMatrix) → MatrixOf s m → (check unlimited s r (RightInverse m) tt ≡ Ok tt) ↔ IsValid s r (RightInverse m)
  unfolding check
  right_inverse_iff m of = map_iff
      (required_iff (place.Header section.Body Inverse) reason.Shape (nat_eq (length m.rows) r.cols && nat_eq m.cols (length r.rows)) _ tt
      (both_iff (nat_eq (length m.rows) r.cols) (nat_eq m.cols (length r.rows)) (nat_eq_iff (length m.rows) r.cols) (nat_eq_iff m.cols (length r.rows))) (λ sizes.
      formed_iff place.End (matrix_times_within unlimited s m.cols r.rows (rows_of m)) _ (matrix_times rationals s m.cols r.rows (rows_of m)) tt (product_unlimited s m.cols r.rows (rows_of m) (wide_rows s m of))
      (passes_iff place.End reason.Identity (same_rows (matrix_times rationals s m.cols r.rows (rows_of m)) (identity_rows rationals (length r.rows)))
      (same_iff rows_discrete (matrix_times rationals s m.cols r.rows (rows_of m)) (identity_rows rationals (length r.rows))))))
      (λ h. ((inverse_size m of).0 h.0, h.1), λ h. ((inverse_size m of).1 h.0, h.1))

  no_left_iff : (i : ℕ) (block : OutsideBlock) → IsOutsideOf s block → (check unlimited s r (NoLeftInverse i block) tt ≡ Ok tt) ↔ IsValid s r (NoLeftInverse i block)
  unfolding check
  no_left_iff i block blocks =
      required_iff place.Unit reason.Unit (nat_lt i r.cols) _ tt (nat_lt_iff i r.cols) (λ within.
      outside_iff s r (unit_row rationals r.cols i) block blocks)

  no_right_iff : (i : ℕ) (block : OutsideBlock) → IsOutsideOf s block → (check unlimited s r (NoRightInverse i block) tt ≡ Ok tt) ↔ IsValid s r (NoRightInverse i block)
  unfolding check
  no_right_iff i block blocks =
      required_iff place.Unit reason.Unit (nat_lt i (length r.rows)) _ tt (nat_lt_iff i (length r.rows)) (λ within.
      formed_iff (place.Block section.Body) (transposed_adjoint_within unlimited s r) _ (transposed_adjoint s r) tt (adjoint_unlimited s r)
      (outside_iff s (transposed_adjoint s r) (unit_row rationals (length r.rows) i) block blocks))

  left_kernel_iff : (m : OperatorMatrix) (block : ExactBlock) → MatrixOf s m → IsExactOf s block → (check unlimited s r (Kernel Left m block) tt ≡ Ok tt) ↔ IsValid s r (Kernel Left m block)
  unfolding check
  left_kernel_iff m block of blocks =
      required_iff (place.Header section.Body Generators) reason.Shape (nat_eq m.cols (length r.rows)) _ tt (nat_eq_iff m.cols (length r.rows)) (λ columns.
      exact_iff s section.Body r (row_matrix_of m) block long (subst (λ n. AreLong rationals n (rows_of m)) columns (wide_rows s m of)) blocks)

-- the adjoint of one matrix beside that of another, which has a row for each of its columns
pub adjoint_wide : (s : Signature) (a m : RowMatrix) → a.cols ≡ length m.rows → AreLong rationals (length (transposed_adjoint s a).rows) (transposed_adjoint s m).rows
adjoint_wide s a m e = subst (λ n. AreLong rationals n (transposed_adjoint s m).rows) (sym e ∙ sym (Rows.length-adjoint rationals s a.cols a.rows)) (Rows.long_adjoint rationals s m.cols m.rows)

module _ (s : Signature) (r : RowMatrix) where
  right_kernel_iff : (m : OperatorMatrix) (block : ExactBlock) → IsExactOf s block → (check unlimited s r (Kernel Right m block) tt ≡ Ok tt) ↔ IsValid s r (Kernel Right m block)
  unfolding check
  right_kernel_iff m block blocks =
      required_iff (place.Header section.Body Generators) reason.Shape (nat_eq (length m.rows) r.cols) _ tt (nat_eq_iff (length m.rows) r.cols) (λ rows.
      formed_iff (place.Block section.Body) (transposed_adjoint_within unlimited s r) _ (transposed_adjoint s r) tt (adjoint_unlimited s r)
      (formed_iff (place.Block section.Body) (transposed_adjoint_within unlimited s (row_matrix_of m)) _ (transposed_adjoint s (row_matrix_of m)) tt (adjoint_unlimited s (row_matrix_of m))
      (exact_iff s section.Body (transposed_adjoint s r) (transposed_adjoint s (row_matrix_of m)) block (Rows.long_adjoint rationals s r.cols r.rows) (adjoint_wide s r (row_matrix_of m) (sym rows ∙ sym (rows_count m))) blocks)))

-- ---- links

-- each has its columns, and the second a column for each row of the first
pub record AreLinked (before last : RowMatrix) : Type 0 where
  pub before_long : AreLong rationals before.cols before.rows
  pub last_long : AreLong rationals last.cols last.rows
  pub columns : last.cols ≡ length before.rows

-- the first of the links fits r, or the last two matrices fit where there is none
abbrev pub FitsFirst : RowMatrix → RowMatrix → List Link → Type 0
FitsFirst before r [] = AreLinked before r
FitsFirst before r (k ∷ ks) = AreLong rationals r.cols r.rows

pub fits_first : (before r : RowMatrix) (ks : List Link) → AreLinked before r → FitsFirst before r ks
fits_first before r [] linked = linked
fits_first before r (k ∷ ks) linked = linked.last_long

module _ (s : Signature) where
  links_iff : (i : ℕ) (before r : RowMatrix) (ks : List Link) (f : RowMatrix × RowMatrix → Checked (Unit {0})) (P : RowMatrix → RowMatrix → Type 0) → FitsFirst before r ks → All (IsLinkOf s) ks
      → ((b last : RowMatrix) → AreLinked b last → (f (b, last) ≡ Ok tt) ↔ P b last) → ((check_links unlimited s i before r ks >>= f) ≡ Ok tt) ↔ AreValidLinks s before r ks P
  unfolding check_links
  links_iff i before r [] f P linked of h = h before r linked
  links_iff i before r (k ∷ ks) f P long of h =
      let link = All-head (IsLinkOf s) k ks of in map_iff
      (nested (required (place.Header (section.Link i) Generators) reason.Shape (nat_eq k.l.cols (length r.rows))) _ f tt
      (required_iff (place.Header (section.Link i) Generators) reason.Shape (nat_eq k.l.cols (length r.rows)) _ tt (nat_eq_iff k.l.cols (length r.rows)) (λ columns.
      nested (check_exact unlimited s (section.Link i) r (row_matrix_of k.l) k.block) _ f tt
      (goes_iff (check_exact unlimited s (section.Link i) r (row_matrix_of k.l) k.block) _ tt
      (exact_iff s (section.Link i) r (row_matrix_of k.l) k.block long (subst (λ n. AreLong rationals n (rows_of k.l)) columns (wide_rows s k.l link.l)) link.block) (λ block.
      links_iff (suc i) r (row_matrix_of k.l) ks f P
      (fits_first r (row_matrix_of k.l) ks (record { before_long = long; last_long = wide_rows s k.l link.l; columns = columns })) (All-tail (IsLinkOf s) k ks of) h)))))
      (λ v. (v.0, v.1.0, v.1.1), λ v. (v.0, (v.1, v.2)))

  adjoints_exact : (before last : RowMatrix) → adjoints_of unlimited s (before, last) ≡ Ok (transposed_adjoint s last, transposed_adjoint s before)
  unfolding adjoints_of
  adjoints_exact before last =
      goes_on (formed (place.Block section.Body) (transposed_adjoint_within unlimited s last)) _ (transposed_adjoint s last) _ (ap (formed (place.Block section.Body)) (adjoint_unlimited s last))
      (goes_on (formed (place.Block section.Body) (transposed_adjoint_within unlimited s before)) _ (transposed_adjoint s before) _ (ap (formed (place.Block section.Body)) (adjoint_unlimited s before)) refl)

  zero_iff : (n : ℕ) (r : Row rationals) → length r ≡ n → (are_zero unlimited s (r ∷ []) ≡ true) ↔ (r ≡ zero_row rationals n)
  unfolding are_zero
  zero_iff n r e = map_iff (both_iff (is_none (row_lead rationals s.order r)) true (none_iff (row_lead rationals s.order r)) same_claim) (
    λ h. zero_from rationals s.order r h.0 ∙ ap (zero_row rationals) e,
    λ h. (row_lead-zero rationals s.order n r h, refl),
  )

  module _ (r : RowMatrix) (links : List Link) (of : All (IsLinkOf s) links) (begun : FitsFirst r r links) where
    resolution_iff : (check unlimited s r (Resolution links) tt ≡ Ok tt) ↔ IsValid s r (Resolution links)
    unfolding check
    resolution_iff = links_iff 0 r r links _ (λ before last. Unit {0}) begun of (λ before last linked. (λ h. tt, λ u. refl))

    ext_zero_iff : (block : ExactBlock) → IsExactOf s block → (check unlimited s r (ExtZero links block) tt ≡ Ok tt) ↔ IsValid s r (ExtZero links block)
    unfolding check
    ext_zero_iff block blocks = links_iff 0 r r links _ (λ before last. IsValidExactFor s (transposed_adjoint s last) (transposed_adjoint s before) block) begun of (λ before last linked.
        value_iff (adjoints_of unlimited s (before, last)) _ (transposed_adjoint s last, transposed_adjoint s before) tt (adjoints_exact before last)
        (exact_iff s section.Body (transposed_adjoint s last) (transposed_adjoint s before) block (Rows.long_adjoint rationals s last.cols last.rows) (adjoint_wide s last before linked.columns) blocks))

    ext_nonzero_iff : (element : List Ordered) (block : OutsideBlock) → IsOutsideOf s block → (check unlimited s r (ExtNonzero links element block) tt ≡ Ok tt) ↔ IsValid s r (ExtNonzero links element block)
    unfolding check
    ext_nonzero_iff element block blocks = links_iff 0 r r links _ (λ before last. (length element ≡ length before.rows)
        × (combine rationals s (length last.rows) (sums_of element) (transposed_adjoint s last).rows ≡ zero_row rationals (length last.rows))
        × IsValidOutsideFor s (transposed_adjoint s before) (sums_of element) block) begun of (λ before last linked.
        let long = Rows.long_adjoint rationals s last.cols last.rows in map_iff
        (required_iff (place.Header section.Body Element) reason.Shape (nat_eq (length element) (length before.rows)) _ tt (nat_eq_iff (length element) (length before.rows)) (λ wide.
        formed_iff (place.Row section.Body Element 0) (transposed_adjoint_within unlimited s last) _ (transposed_adjoint s last) tt (adjoint_unlimited s last)
        (formed_iff (place.Row section.Body Element 0) (combine_within unlimited s (length last.rows) (sums_of element) (transposed_adjoint s last).rows) _
        (combine rationals s (length last.rows) (sums_of element) (transposed_adjoint s last).rows) tt
        (combine_unlimited s (length last.rows) (sums_of element) (transposed_adjoint s last).rows long)
        (required_iff (place.Row section.Body Element 0) reason.NotInKernel (are_zero unlimited s (combine rationals s (length last.rows) (sums_of element) (transposed_adjoint s last).rows ∷ [])) _ tt
        (zero_iff (length last.rows) (combine rationals s (length last.rows) (sums_of element) (transposed_adjoint s last).rows)
        (Rows.length-combine rationals s (lawful s) (length last.rows) (sums_of element) (transposed_adjoint s last).rows long)) (λ zero.
        formed_iff (place.Block section.Body) (transposed_adjoint_within unlimited s before) _ (transposed_adjoint s before) tt (adjoint_unlimited s before)
        (outside_iff s (transposed_adjoint s before) (sums_of element) block blocks))))))
        (λ h. (h.0, h.1.0, h.1.1), λ h. (h.0, (h.1, h.2))))

  -- ---- all kinds

  pub fits_first_at : (r : RowMatrix) (links : List Link) → AreLong rationals r.cols r.rows → AreLinksOf s links → FitsFirst r r links
  fits_first_at r [] long of = let few = of.count.0 in absurd (omega arith)
  fits_first_at r (k ∷ ks) long of = long

  pub check_valid : (r : RowMatrix) (c : Certificate) → AreLong rationals r.cols r.rows → IsCertificateOf s c → (claims : IsNoReport c) → (check unlimited s r c claims ≡ Ok tt) ↔ IsValid s r c
  check_valid r (Controllable q block) long of claims = controllable_iff s r long q block of.0 of.1
  check_valid r (AutonomousElement element operator cofactor block) long of claims = autonomous_iff s r long element operator cofactor block of.3
  check_valid r (LeftInverse m) long of claims = left_inverse_iff s r long m of
  check_valid r (RightInverse m) long of claims = right_inverse_iff s r long m of
  check_valid r (NoLeftInverse i block) long of claims = no_left_iff s r long i block of.1
  check_valid r (NoRightInverse i block) long of claims = no_right_iff s r long i block of.1
  check_valid r (Kernel Left m block) long of claims = left_kernel_iff s r long m block of.0 of.1
  check_valid r (Kernel Right m block) long of claims = right_kernel_iff s r m block of.1
  check_valid r (Resolution links) long of claims = resolution_iff r links of.all (fits_first_at r links long of)
  check_valid r (ExtZero links block) long of claims = ext_zero_iff r links of.0.all (fits_first_at r links long of.0) block of.1
  check_valid r (ExtNonzero links element block) long of claims = ext_nonzero_iff r links of.0.all (fits_first_at r links long of.0) element block of.2
  check_valid r (Halted report) long of claims = absurd claims
