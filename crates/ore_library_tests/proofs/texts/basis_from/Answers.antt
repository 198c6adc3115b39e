use Rattle.std.proofs.Common.{subst}
use Rattle.ore_monomial.specs.Signature.{Signature}
use Rattle.ore_rows.specs.StoredBasis.{BasisBelongs}
use Rattle.ore_library_tests.proofs.texts.basis_from.Goals as goal

pub returns : goal.returns
returns g c = record { of = subst (λ (s : Signature). BasisBelongs s c.loop-row.basis.items) c.signature-signature.ensures c.loop-row.invariant.of }
