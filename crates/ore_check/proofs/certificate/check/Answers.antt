use Rattle.std.proofs.Common.{subst}
use Rattle.ore_algebra.specs.Limits.{program}
use Rattle.ore_rows.specs.Stored.{HasColumns}
use Rattle.ore_parts.specs.OfSignature.{MatrixOf}
use Rattle.ore_blocks.specs.CheckBlock.{row_matrix_of}
use Rattle.ore_blocks.proofs.Converted.{wide_rows}
use Rattle.ore_check.proofs.CertificateKinds.{check_means}
use Rattle.ore_check.proofs.certificate.check.Goals as goal

pub returns-in_default-clause-valid : goal.returns-in_default-clause-valid
returns-in_default-clause-valid g c = λ e.
    let s = g.R.OreRing.sig c.args.ring.now in
    let r = c.args.r.now in
    let columns = subst (λ n. HasColumns n r.rows) c.cols-cols.ensures.value c.cols-cols.ensures.fits in
    let of : MatrixOf s r = record { columns = columns; of = c.requires.of } in
    let claims = c.requires.claims in
    check_means program s (row_matrix_of r) (wide_rows s r of) c.args.cert.now c.requires.cert_of claims (c.in_default.ensures claims)

pub returns-clause-valid : goal.returns-clause-valid
returns-clause-valid g c = λ e. absurd (c.answer.ensures.fails e)
