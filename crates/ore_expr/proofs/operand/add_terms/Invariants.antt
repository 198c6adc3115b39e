use Rattle.std.proofs.Common.{◌≡◌, drop}
use Rattle.ore_algebra.specs.Limits.{program}
use Rattle.ore_ring.specs.Terms.{falling}
use Rattle.ore_ring.specs.Within.{plus_within}
use Rattle.ore_ring.proofs.TermLaws.{C}
use Rattle.ore_expr.proofs.operand.add_terms.Given as goal

abbrev pub invariant-loop-k : goal.invariant-loop-k
invariant-loop-k l = record {
  by : l.sum.by ≡ l.initial.sum.by;
  told : plus_within program l.sum.sum (C (drop l.k (falling l.op.by l.op.sum))) ≡ plus_within program l.initial.sum.sum l.op.sum;
}
