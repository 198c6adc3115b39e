-- The places of a certificate within limits give what they give without, or an operation stops.
--     check_links_most         links
--     adjoints_most            the adjoints of the last two matrices
--     check_most               all kinds but reports
use Rattle.std.proofs.Common.{ℕ, suc, ◌&&◌, nat_eq, nat_lt, List, [], ◌∷◌, length}
use Rattle.std.specs.Prelude.{not}
use Rattle.std.specs.declared.result.Result.TheVariants.{Ok}
use Rattle.ore_algebra.specs.Free.{empty_sum}
use Rattle.ore_algebra.specs.Limits.{Limits, unlimited}
use Rattle.ore_rational.specs.Field.{rationals}
use Rattle.ore_monomial.specs.Monomial.{plain_cmp}
use Rattle.ore_monomial.specs.Signature.{Signature}
use Rattle.ore_rows.specs.Rows.{unit_row, identity_rows}
use Rattle.ore_rows.specs.Stored.{sums_of, rows_of}
use Rattle.ore_rows.proofs.WithinValues.{scale_at_most, combine_at_most, product_at_most}
use Rattle.ore_parts.specs.declared.block.Link.{Link}
use Rattle.ore_cert.specs.declared.certificate.Side.TheVariants.{Left, Right}
use Rattle.ore_cert.specs.declared.certificate.Certificate.{Certificate}
use Rattle.ore_cert.specs.declared.certificate.Certificate.TheVariants.{Controllable, AutonomousElement, LeftInverse, RightInverse, NoLeftInverse, NoRightInverse, Kernel, Resolution, ExtZero, ExtNonzero, Halted}
use Rattle.ore_blocks.specs.declared.place.Section.TheVariants as section
use Rattle.ore_blocks.specs.declared.place.Name.TheVariants.{Generators, Inverse, Element, Cofactor}
use Rattle.ore_blocks.specs.declared.place.Place.TheVariants as place
use Rattle.ore_blocks.specs.declared.reason.Reason.TheVariants as reason
use Rattle.ore_blocks.specs.Conditions.{required, is_same}
use Rattle.ore_blocks.specs.CheckBlock.{RowMatrix, row_matrix_of, are_zero}
use Rattle.ore_blocks.specs.Same.{operator_discrete}
use Rattle.ore_blocks.specs.WithinLimits.{IsCheckedAtMost}
use Rattle.ore_blocks.proofs.CheckedAtMost.{most_same, most_checked, most_then, most_behind}
use Rattle.ore_blocks.proofs.BlocksAtMost.{rows_give_most, check_exact_most, check_outside_most}
use Rattle.ore_blocks.proofs.TransposedAdjoints.{adjoint_at_most}
use Rattle.ore_check.specs.Check.{IsNoReport, check_links, adjoints_of, check}

module _ (l : Limits) (s : Signature) where
  check_links_most : (i : ℕ) (before r : RowMatrix) (ks : List Link) → IsCheckedAtMost (check_links l s i before r ks) (check_links unlimited s i before r ks)
  unfolding check_links
  check_links_most i before r [] = most_same (Ok (before, r))
  check_links_most i before r (k ∷ ks) =
      most_behind (required (place.Header (section.Link i) Generators) reason.Shape (nat_eq k.l.cols (length r.rows))) _ _ (λ u.
      most_then _ _ _ _ (check_exact_most l s (section.Link i) r (row_matrix_of k.l) k.block) (λ u.
      check_links_most (suc i) r (row_matrix_of k.l) ks))

  adjoints_most : (pair : RowMatrix × RowMatrix) → IsCheckedAtMost (adjoints_of l s pair) (adjoints_of unlimited s pair)
  unfolding adjoints_of
  adjoints_most pair =
      most_then _ _ _ _ (most_checked (place.Block section.Body) _ _ (adjoint_at_most l s pair.1)) (λ after.
      most_then _ _ _ _ (most_checked (place.Block section.Body) _ _ (adjoint_at_most l s pair.0)) (λ before.
      most_same (Ok (after, before))))

  pub check_most : (r : RowMatrix) (c : Certificate) (claims : IsNoReport c) → IsCheckedAtMost (check l s r c claims) (check unlimited s r c claims)
  unfolding check are_zero
  check_most r (Controllable q block) claims =
      most_behind (required (place.Header section.Body Generators) reason.Shape (nat_eq (length q.rows) r.cols)) _ _ (λ u.
      check_exact_most l s section.Body (row_matrix_of q) r block)
  check_most r (AutonomousElement element operator cofactor block) claims =
      most_behind (required (place.Header section.Body Element) reason.Shape (nat_eq (length element) r.cols)) _ _ (λ u.
      most_behind (required place.Operator reason.ZeroOperator (not (is_same operator_discrete operator.sum (empty_sum rationals plain_cmp)))) _ _ (λ u.
      most_behind (required (place.Header section.Body Cofactor) reason.Shape (nat_eq (length cofactor) (length r.rows))) _ _ (λ u.
      most_then _ _ _ _ (most_checked (place.Row section.Body Cofactor 0) _ _ (scale_at_most l s operator.sum (sums_of element))) (λ left.
      most_then _ _ _ _ (most_checked (place.Row section.Body Cofactor 0) _ _ (combine_at_most l s r.cols (sums_of cofactor) r.rows)) (λ right.
      most_then _ _ _ _ (most_same _) (λ u.
      check_outside_most l s r (sums_of element) block))))))
  check_most r (LeftInverse m) claims =
      most_behind (required (place.Header section.Body Inverse) reason.Shape (nat_eq (length m.rows) r.cols && nat_eq m.cols (length r.rows))) _ _ (λ u.
      rows_give_most l s reason.Identity r.cols r.rows section.Body Inverse 0 (rows_of m) (identity_rows rationals r.cols))
  check_most r (RightInverse m) claims =
      most_behind (required (place.Header section.Body Inverse) reason.Shape (nat_eq (length m.rows) r.cols && nat_eq m.cols (length r.rows))) _ _ (λ u.
      most_then _ _ _ _ (most_checked place.End _ _ (product_at_most l s m.cols r.rows (rows_of m))) (λ product. most_same _))
  check_most r (NoLeftInverse i block) claims =
      most_behind (required place.Unit reason.Unit (nat_lt i r.cols)) _ _ (λ u.
      check_outside_most l s r (unit_row rationals r.cols i) block)
  check_most r (NoRightInverse i block) claims =
      most_behind (required place.Unit reason.Unit (nat_lt i (length r.rows))) _ _ (λ u.
      most_then _ _ _ _ (most_checked (place.Block section.Body) _ _ (adjoint_at_most l s r)) (λ adjoint.
      check_outside_most l s adjoint (unit_row rationals (length r.rows) i) block))
  check_most r (Kernel Left generators block) claims =
      most_behind (required (place.Header section.Body Generators) reason.Shape (nat_eq generators.cols (length r.rows))) _ _ (λ u.
      check_exact_most l s section.Body r (row_matrix_of generators) block)
  check_most r (Kernel Right generators block) claims =
      most_behind (required (place.Header section.Body Generators) reason.Shape (nat_eq (length generators.rows) r.cols)) _ _ (λ u.
      most_then _ _ _ _ (most_checked (place.Block section.Body) _ _ (adjoint_at_most l s r)) (λ adjoint.
      most_then _ _ _ _ (most_checked (place.Block section.Body) _ _ (adjoint_at_most l s (row_matrix_of generators))) (λ generators_adjoint.
      check_exact_most l s section.Body adjoint generators_adjoint block)))
  check_most r (Resolution links) claims = most_then _ _ _ _ (check_links_most 0 r r links) (λ last. most_same (Ok tt))
  check_most r (ExtZero links block) claims =
      most_then _ _ _ _ (check_links_most 0 r r links) (λ last.
      most_then _ _ _ _ (adjoints_most last) (λ adjoint.
      check_exact_most l s section.Body adjoint.0 adjoint.1 block))
  check_most r (ExtNonzero links element block) claims =
      most_then _ _ _ _ (check_links_most 0 r r links) (λ last.
      most_behind (required (place.Header section.Body Element) reason.Shape (nat_eq (length element) (length last.0.rows))) _ _ (λ u.
      most_then _ _ _ _ (most_checked (place.Row section.Body Element 0) _ _ (adjoint_at_most l s last.1)) (λ adjoint.
      most_then _ _ _ _ (most_checked (place.Row section.Body Element 0) _ _ (combine_at_most l s adjoint.cols (sums_of element) adjoint.rows)) (λ product.
      most_then _ _ _ _ (most_same _) (λ u.
      most_then _ _ _ _ (most_checked (place.Block section.Body) _ _ (adjoint_at_most l s last.0)) (λ adjoint_before.
      check_outside_most l s adjoint_before (sums_of element) block))))))
  check_most r (Halted report) claims = absurd claims
