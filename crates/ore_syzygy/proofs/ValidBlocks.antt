-- The blocks that are made of a complete run are valid.
--     exact_of_signature an exact block is of the signature
--     exact_right        an exact block
--     outside_right      an outside block
use Rattle.std.proofs.Common.{◌≡◌, ◌≢◌, List, length, sym, ap, ◌∙◌, subst}
use Rattle.std.specs.List.{All}
use Rattle.std.specs.declared.result.Result.TheVariants.{Ok}
use Rattle.std.proofs.lemmas.List.{length-map}
use Rattle.ore_algebra.specs.Limits.{program}
use Rattle.ore_rational.specs.Field.{rationals}
use Rattle.ore_monomial.specs.Signature.{Signature}
use Rattle.ore_monomial.proofs.Signatures.{lawful}
use Rattle.ore_ring.specs.Belongs.{Belongs}
use Rattle.ore_ring.specs.Ordered.{Ordered}
use Rattle.ore_rows.specs.Arithmetic.{within}
use Rattle.ore_rows.specs.ReduceRows.{reduce_row}
use Rattle.ore_rows.specs.Rows.{AreLong, zero_row}
use Rattle.ore_rows.specs.Stored.{OperatorMatrix, sums_of, rows_of}
use Rattle.ore_rows.specs.StoredBasis.{monics}
use Rattle.ore_rows.proofs.SoundArithmetic.{within_sound}
use Rattle.ore_rows.proofs.StoredRows.{row_of_stored, rows_of_stored}
use Rattle.ore_division.specs.StoredWork.{work_of}
use Rattle.ore_division.specs.declared.division.Reduced.{Reduced}
use Rattle.ore_pairs.specs.Blocks as blocks
use Rattle.ore_pairs.specs.Run.{RunState, from_rows}
use Rattle.ore_pairs.specs.RunBlocks.{exact_of_run, outside_of_run}
use Rattle.ore_parts.specs.OfSignature.{MatrixOf, IsExactOf, IsOutsideOf}
use Rattle.ore_parts.specs.declared.block.ExactBlock.{ExactBlock}
use Rattle.ore_parts.specs.declared.block.OutsideBlock.{OutsideBlock}
use Rattle.ore_blocks.specs.BlockOfRun.{exact_block_of, outside_block_of}
use Rattle.ore_blocks.specs.CheckBlock.{RowMatrix, row_matrix_of}
use Rattle.ore_blocks.specs.Valid.{IsValidExactFor, IsValidOutsideFor}
use Rattle.ore_blocks.proofs.Converted.{wide_rows, rows_are_of}
use Rattle.ore_blocks.proofs.StoredBlocks.{exact_stored, exact_block-valid, exact_block-of, outside_block-valid, outside_block-of}
use Rattle.ore_groebner.specs.BlockLaws.{AreInsideRows}
use Rattle.ore_groebner.specs.declared.outcome.Finished.{Finished}
use Rattle.ore_groebner.proofs.Blocks.{exact_valid, outside_valid}
use Rattle.ore_groebner.proofs.BlocksOf.{of_exact_of_run, of_outside_of_run}
use Rattle.ore_groebner.specs.Courses.{last_of}
use Rattle.ore_groebner.proofs.Holding.{Holds, long_rows, wide_cofactors}
use Rattle.ore_groebner.proofs.Placing.{long_placed}
use Rattle.ore_groebner.proofs.Returning.{long_from_rows}
use Rattle.ore_groebner.proofs.ReducedRows.{IsRestOf, rest_reduced}
use Rattle.ore_syzygy.specs.RunBlock.{HasRun, IsExactBlockOfRun, IsOutsideBlockOfRun}
use Rattle.ore_syzygy.proofs.HonestBlocks.{holds, last_is}

module _ (s : Signature) (f : Finished) (r : HasRun s f) where
  abbrev a : RowMatrix
  a = row_matrix_of r.matrix

  abbrev last : RunState rationals
  last = r.honest.last

  here : Holds rationals s s.order r.matrix.cols (rows_of r.matrix) r.honest.last
  here = holds s f r.matrix r.choices r.honest r.matrix_of

  -- with rows of a signature, one for each syzygy, the exact block is of it
  pub exact_of_signature : (inside : OperatorMatrix) → MatrixOf s inside → length inside.rows ≡ length f.syzygies.rows → (b : ExactBlock) → b ≡ exact_block_of s (row_matrix_of r.matrix) (last_of f) (row_matrix_of inside) → IsExactOf s b
  exact_of_signature inside of count b made =
      subst (IsExactOf s) (sym (made ∙ ap (λ st. exact_block_of s a st (row_matrix_of inside)) (sym (last_is s f r.matrix r.choices r.honest)))) (exact_stored s r.matrix.cols (length (rows_of r.matrix)) inside.cols (exact_of_run rationals s.order (rows_of r.matrix) last inside.cols (rows_of inside))
      (long_rows rationals s s.order r.matrix.cols (rows_of r.matrix) last.basis here.basis)
      (subst (λ n. AreLong rationals n (from_rows rationals s.order (length last.basis) 0 (rows_of r.matrix))) (sym (length-map last.basis (λ b. b.row))) (long_from_rows rationals s (lawful s) s.order (length last.basis) 0 (rows_of r.matrix)))
      (wide_cofactors rationals s s.order r.matrix.cols (rows_of r.matrix) last.basis here.basis)
      (long_placed rationals (length (rows_of r.matrix)) inside.cols last (rows_of inside) (here.many ∙ ap length r.honest.syzygies ∙ length-map f.syzygies.rows sums_of ∙ sym count ∙ sym (length-map inside.rows sums_of)) (wide_rows s inside of))
      (of_exact_of_run rationals s (lawful s) s.order r.matrix.cols (rows_of r.matrix) (rows_are_of s r.matrix r.matrix_of) last here inside.cols (rows_of inside) (rows_of_stored s inside.rows of.of)))

  module _ (m inside : OperatorMatrix) (rows : AreInsideRows s r.matrix.cols (rows_of r.matrix) (rows_of m) (rows_of inside) (rows_of f.syzygies)) (fits : inside.cols ≡ length m.rows) (of : All (All (Belongs s)) inside.rows) where
    columns : inside.cols ≡ length (rows_of m)
    columns = fits ∙ sym (length-map m.rows sums_of)

    valid : blocks.IsValidExact rationals s s.order r.matrix.cols (rows_of r.matrix) (rows_of m) (exact_of_run rationals s.order (rows_of r.matrix) r.honest.last inside.cols (rows_of inside))
    valid = subst (λ n. blocks.IsValidExact rationals s s.order r.matrix.cols (rows_of r.matrix) (rows_of m) (exact_of_run rationals s.order (rows_of r.matrix) last n (rows_of inside))) (sym columns)
        (exact_valid rationals s (lawful s) s.order r.matrix.cols (rows_of r.matrix) (wide_rows s r.matrix r.matrix_of) last here r.honest.complete (rows_of m) (rows_of inside) rows.wide rows.annihilates rows.long (rows.product ∙ sym r.honest.syzygies))

    pub exact_right : (b : ExactBlock) → IsExactBlockOfRun s f inside b → IsValidExactFor s (row_matrix_of r.matrix) (row_matrix_of m) b × IsExactOf s b
    exact_right b made =
        subst (λ (b : ExactBlock). IsValidExactFor s a (row_matrix_of m) b × IsExactOf s b) (sym (made r.matrix r.choices r.honest ∙ ap (λ st. exact_block_of s a st (row_matrix_of inside)) (sym (last_is s f r.matrix r.choices r.honest)))) (
          exact_block-valid s a last (row_matrix_of inside) (row_matrix_of m) columns valid,
          exact_block-of s a last (row_matrix_of inside) (row_matrix_of m) columns valid
              (of_exact_of_run rationals s (lawful s) s.order r.matrix.cols (rows_of r.matrix) (rows_are_of s r.matrix r.matrix_of) last here inside.cols (rows_of inside) (rows_of_stored s inside.rows of)),
        )

  module _ (row : List Ordered) (left : Reduced) (wide : length row ≡ r.matrix.cols) (of : All (Belongs s) row)
      (e : reduce_row rationals s.order (within program s) (length r.matrix.rows) (monics f.basis) (sums_of row) ≡ Ok (work_of left)) (more : sums_of left.row ≢ zero_row rationals r.matrix.cols) where
    wide_row : length (sums_of row) ≡ r.matrix.cols
    wide_row = length-map row (λ f. f.sum) ∙ wide

    reduced : reduce_row rationals s.order (within program s) (length (rows_of r.matrix)) r.honest.last.basis (sums_of row) ≡ Ok (work_of left)
    reduced = (λ i. reduce_row rationals s.order (within program s) (length-map r.matrix.rows sums_of i) (r.honest.basis i) (sums_of row)) ∙ e

    rest : (length (sums_of left.row) ≡ r.matrix.cols) × IsRestOf rationals s (lawful s) r.matrix.cols (rows_of r.matrix) (wide_rows s r.matrix r.matrix_of) last here (sums_of row) (work_of left)
    rest = rest_reduced rationals s (lawful s) r.matrix.cols (rows_of r.matrix) (wide_rows s r.matrix r.matrix_of) last here (within program s) (within_sound program s) (sums_of row) (work_of left) wide_row reduced

    outside : blocks.IsValidOutside rationals s s.order r.matrix.cols (rows_of r.matrix) (sums_of row) (outside_of_run rationals s.order (rows_of r.matrix) r.honest.last left.steps (sums_of left.row))
    outside =
        outside_valid rationals s (lawful s) (within program s) (within_sound program s) r.matrix.cols (rows_of r.matrix) (wide_rows s r.matrix r.matrix_of) last here r.honest.complete
        (sums_of row) (zero_row rationals (length (rows_of r.matrix))) wide_row (work_of left) reduced more

    pub outside_right : (b : OutsideBlock) → IsOutsideBlockOfRun s f left.steps left.row b → IsValidOutsideFor s (row_matrix_of r.matrix) (sums_of row) b × IsOutsideOf s b
    outside_right b made =
        let of_matrix = rows_are_of s r.matrix r.matrix_of in
        let of_row = row_of_stored s row of in
        subst (λ (b : OutsideBlock). IsValidOutsideFor s a (sums_of row) b × IsOutsideOf s b)
        (sym (made r.matrix r.choices r.honest ∙ ap (λ st. outside_block_of s a st left.steps (sums_of left.row)) (sym (last_is s f r.matrix r.choices r.honest)))) (
          outside_block-valid s a last left.steps (sums_of left.row) (sums_of row) rest.0 outside,
          outside_block-of s a last left.steps (sums_of left.row) (sums_of row) rest.0 outside
              (of_outside_of_run rationals s (lawful s) s.order r.matrix.cols (rows_of r.matrix) of_matrix last here left.steps (sums_of left.row) (rest.1.of_steps of_matrix of_row)) (rest.1.of_row of_matrix of_row),
        )
