use Rattle.std.proofs.Common.{arith}
use native.Mathlib.Decide.{dec_lt}
use Rattle.ore_monomial.proofs.Monomials.{exponent_past}
use Rattle.ore_speed.proofs.dense.is_of.Goals as goal

pub returns : goal.returns
returns c = λ t x l. let past = c.loop-k-test.false in elim (dec_lt x 12) [
  | yes p ↦ c.loop-k.invariant x l (omega arith)
  | no n ↦ exponent_past x c.args.exps.now (omega arith)
]
