use Rattle.std.proofs.Common.{◌≡◌, drop}
use Rattle.ore_algebra.specs.Limits.{program, fold_within}
use Rattle.ore_ring.specs.Contributions.{push_adjoint}
use Rattle.ore_ring.proofs.reverse.push_terms.Given as goal

abbrev pub invariant-loop-t : goal.invariant-loop-t
invariant-loop-t g l = fold_within (push_adjoint program (g.P.MonomialProduct.sig l.p)) l.out.items (drop l.t-index l.ts) ≡ fold_within (push_adjoint program (g.P.MonomialProduct.sig l.p)) l.initial.out.items l.ts
