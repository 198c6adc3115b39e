use Rattle.std.proofs.Common.{◌≡◌, drop}
use Rattle.ore_algebra.specs.Limits.{program, fold_within}
use Rattle.ore_ring.specs.Contributions.{push_pair}
use Rattle.ore_ring.proofs.multiply.push_row.Given as goal

abbrev pub invariant-loop-u : goal.invariant-loop-u
invariant-loop-u g l = fold_within (push_pair program (g.P.MonomialProduct.sig l.p) l.t) l.out.items (drop l.u-index l.us) ≡ fold_within (push_pair program (g.P.MonomialProduct.sig l.p) l.t) l.initial.out.items l.us
