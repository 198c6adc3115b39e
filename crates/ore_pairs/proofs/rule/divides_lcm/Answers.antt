use Rattle.std.proofs.Common.{sym, refl, true≢false, arith}
use Rattle.ore_monomial.proofs.Monomials.{exponent-lcm}
use Rattle.ore_pairs.proofs.StoredPairs.{divides_to_twelve, one_more_exponent}
use Rattle.ore_pairs.proofs.rule.divides_lcm.Goals as goal

pub returns-then-get-max : goal.returns-then-get-max
returns-then-get-max c =
    let e = exponent-lcm c.args.first.now c.args.second.now c.loop-k.k in
    (λ h. absurd (true≢false (sym h)), λ d. let f = d c.loop-k.k in absurd (omega arith))

pub loop-k-preserved : goal.loop-k-preserved
loop-k-preserved c =
    let e = exponent-lcm c.args.first.now c.args.second.now c.loop-k.k in
    one_more_exponent c.args.exps.now _ c.loop-k.k c.loop-k.invariant (grind arith)

pub returns : goal.returns
returns c = (λ h. divides_to_twelve c.args.exps.now _ c.loop-k.k (grind arith) c.loop-k.invariant, λ d. refl)
