use Rattle.std.proofs.Common.{◌≡◌, drop}
use Rattle.ore_algebra.specs.Limits.{program, fold_within}
use Rattle.ore_ring.specs.Within.{add_term_within}
use Rattle.ore_ring.proofs.sort.add_terms.Given as goal

abbrev pub invariant-loop-t : goal.invariant-loop-t
invariant-loop-t l = record {
  same : l.op.by ≡ l.initial.op.by;
  told : fold_within (λ g t. add_term_within program g t.0 t.1) l.op.sum (drop l.t-index l.terms) ≡ fold_within (λ g t. add_term_within program g t.0 t.1) l.initial.op.sum l.terms;
}
