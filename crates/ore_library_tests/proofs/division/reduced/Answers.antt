use Rattle.std.proofs.Common.{subst}
use Rattle.ore_rows.specs.StoredBasis.{BasisBelongs}
use Rattle.ore_library_tests.proofs.division.reduced.Goals as goal

pub reduce-requires-clause-basis_of : goal.reduce-requires-clause-basis_of
reduce-requires-clause-basis_of c = subst (λ s. BasisBelongs s c.in_ok-basis.basis.items) c.signature-signature.ensures c.in_ok-basis.ensures.of
