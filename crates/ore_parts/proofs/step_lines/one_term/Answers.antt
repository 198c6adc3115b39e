use Rattle.std.proofs.Common.{◌≡◌, arith}
use Rattle.std.proofs.lemmas.Bool.Decides.{nat_tests}
use Rattle.ore_parts.proofs.OneTerm.{term_or_none, one_long}
use Rattle.ore_parts.proofs.step_lines.one_term.Goals as goal

pub returns-then-len-eq1 : goal.returns-then-len-eq1
returns-then-len-eq1 c =
    let one : c.len.result ≡ 1 = grind (arith, nat_tests, c.if-len-eq1.true) in
    term_or_none c.args.op.now c.len.result c.get.result c.len.ensures one c.get.ensures

pub returns-else-len-eq1 : goal.returns-else-len-eq1
returns-else-len-eq1 c m x n e =
    let one = one_long c.args.op.now m x n e in
    let is = c.len.ensures in
    let z : ⊥ = grind (arith, nat_tests, c.if-len-eq1.false, one, is) in
    z
