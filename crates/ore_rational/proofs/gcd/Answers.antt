-- A step of Euclid keeps the common divisors, and they are those of x alone where y is 0.
use Rattle.std.proofs.Common.{arith, ◌∙◌}
use Rattle.std.proofs.lemmas.Nat.Gcd.{IsGcd-from_zero, IsGcd-from_mod, same_from_IsGcd}
use Rattle.ore_rational.specs.Gcd.{gcd_is}
use Rattle.ore_rational.proofs.gcd.Goals as goal

pub loop-y-preserved : goal.loop-y-preserved
loop-y-preserved c g h = c.loop-y.invariant g (IsGcd-from_mod _ _ g h)

pub returns : goal.returns
returns c = same_from_IsGcd _ _ _ _ (c.loop-y.invariant _ (IsGcd-from_zero _ _ (omega arith))) (gcd_is _ _)

pub returns-then-are_words : goal.returns-then-are_words
returns-then-are_words c = c.word_gcd.ensures ∙ same_from_IsGcd _ _ _ _ (c.loop-y.invariant _ (gcd_is c.loop-y.x c.loop-y.y)) (gcd_is _ _)
