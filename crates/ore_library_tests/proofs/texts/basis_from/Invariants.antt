use Rattle.std.proofs.Common.{◌≡◌}
use Rattle.ore_rows.specs.StoredBasis.{BasisBelongs}
use Rattle.ore_library_tests.proofs.texts.basis_from.Given as goal

abbrev pub invariant-loop-row : goal.invariant-loop-row
invariant-loop-row g l = record {
  of : BasisBelongs l.signature l.basis.items;
  cols : l.basis.cols ≡ 1;
  width : l.basis.width ≡ l.width;
}
