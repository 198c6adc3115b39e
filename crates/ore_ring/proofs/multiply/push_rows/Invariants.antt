use Rattle.std.proofs.Common.{◌≡◌, drop}
use Rattle.ore_algebra.specs.Limits.{program, fold_within}
use Rattle.ore_ring.specs.Contributions.{push_row}
use Rattle.ore_ring.proofs.multiply.push_rows.Given as goal

abbrev pub invariant-loop-t : goal.invariant-loop-t
invariant-loop-t g l = fold_within (push_row program (g.P.MonomialProduct.sig l.p) l.us) l.out.items (drop l.t-index l.ts) ≡ fold_within (push_row program (g.P.MonomialProduct.sig l.p) l.us) l.initial.out.items l.ts
