use Rattle.std.proofs.Common.{subst}
use Rattle.ore_rational.specs.Field.{rationals}
use Rattle.ore_monomial.proofs.Signatures.{lawful}
use Rattle.ore_rows.specs.Rows.{IsTorsionFree}
use Rattle.ore_rows.proofs.RowLaws.{torsion_free}
use Rattle.ore_check.proofs.laws.law_torsion_free.Goals as goal

pub returns : goal.returns
returns c = λ n q r lr or lq oq e exact.
    subst (λ k. IsTorsionFree rationals c.args.sig.now k r.rows) e (torsion_free rationals c.args.sig.now (lawful c.args.sig.now) n q r.rows lq exact)
