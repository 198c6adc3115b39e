use Rattle.std.proofs.Common.{sym, ◌∙◌, subst}
use Rattle.ore_algebra.specs.Limits.{program}
use Rattle.ore_rational.specs.Field.{rationals}
use Rattle.ore_rows.specs.Rows.{AreLong}
use Rattle.ore_rows.specs.Stored.{HasColumns, rows_of}
use Rattle.ore_parts.specs.OfSignature.{MatrixOf}
use Rattle.ore_blocks.specs.CheckBlock.{row_matrix_of}
use Rattle.ore_blocks.specs.declared.place.Section.TheVariants.{Body}
use Rattle.ore_blocks.proofs.Converted.{wide_rows}
use Rattle.ore_blocks.proofs.CheckedBlocks.{exact_block_checked}
use Rattle.ore_check.proofs.CertificateKinds.{rows_count}
use Rattle.ore_check.proofs.certificate.check_exact.Goals as goal

pub returns-in-Ok-clause-exact : goal.returns-in-Ok-clause-exact
returns-in-Ok-clause-exact g c = λ e.
    let s = g.R.OreRing.sig c.args.ring.now in
    let a = c.args.a.now in
    let l = c.args.l.now in
    let a_columns = subst (λ n. HasColumns n a.rows) c.cols-cols.ensures.value c.cols-cols.ensures.fits in
    let l_columns = subst (λ n. HasColumns n l.rows) c.cols-columns.ensures.value c.cols-columns.ensures.fits in
    let a_of : MatrixOf s a = record { columns = a_columns; of = c.requires.a_of } in
    let l_of : MatrixOf s l = record { columns = l_columns; of = c.requires.l_of } in
    exact_block_checked program s Body (row_matrix_of a) (row_matrix_of l) c.args.block.now (wide_rows s a a_of)
    (subst (λ n. AreLong rationals n (rows_of l)) (c.requires.fits ∙ sym (rows_count a)) (wide_rows s l l_of))
    c.requires.block_of c.in-Ok.ensures

pub returns-in-Err-clause-exact : goal.returns-in-Err-clause-exact
returns-in-Err-clause-exact g c = λ e. absurd (c.answer.ensures.fails e)
