use Rattle.std.proofs.Common.{length}
use Rattle.ore_rational.specs.Field.{rationals}
use Rattle.ore_monomial.proofs.Signatures.{lawful}
use Rattle.ore_rows.proofs.RowLaws.{adjoint-product, adjoint_twice}
use Rattle.ore_laws.proofs.law_adjoint_matrix.Goals as goal

pub returns-clause-product : goal.returns-clause-product
returns-clause-product c = λ n a b la lb. adjoint-product rationals c.args.sig.now (lawful c.args.sig.now) (length b) n a b la lb

pub returns-clause-twice : goal.returns-clause-twice
returns-clause-twice c = adjoint_twice rationals c.args.sig.now (lawful c.args.sig.now)
