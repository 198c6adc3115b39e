use Rattle.std.proofs.Common.{length, arith}
use Rattle.ore_text.specs.Printable.{IsStorableTerm}
use Rattle.ore_ring.specs.Terms.{Summand, falling}
use Rattle.ore_cert.proofs.StorableParts.{more_within, all_done, storable_sum}
use Rattle.ore_cert.proofs.storable.operator_is_storable.Goals as goal

pub loop-k-preserved : goal.loop-k-preserved
loop-k-preserved c = more_within IsStorableTerm (falling c.args.op.now.by c.args.op.now.sum) c.loop-k.k (omega (arith, c.len-k-end.ensures, c.loop-k-test.true)) c.term_at.ensures c.loop-k.invariant

pub returns : goal.returns
returns c = storable_sum c.args.op.now.by c.args.op.now.sum (all_done IsStorableTerm (falling c.args.op.now.by c.args.op.now.sum) c.loop-k.k (omega (arith, c.len-k-end.ensures, c.loop-k-test.false)) c.loop-k.invariant)
