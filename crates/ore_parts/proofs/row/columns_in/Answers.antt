use Rattle.std.proofs.Common.{◌≡◌, sym, ◌∙◌, arith}
use Rattle.std.proofs.lemmas.Bool.Decides.{nat_tests}
use Rattle.ore_parts.proofs.MatrixTexts.{words_same}
use Rattle.ore_parts.proofs.row.columns_in.Goals as goal

pub returns-in_default : goal.returns-in_default
returns-in_default c cols h e = c.in_default.ensures (1, cols) (omega arith, h) e

pub returns-else-rows-eq1 : goal.returns-else-rows-eq1
returns-else-rows-eq1 c cols h e =
    let found = c.in-Some.ensures in
    let one : c.in-Some.rows ≡ 1 = (words_same c.args.name.now c.in-Some.rows c.in-Some.cols 1 cols found.0.0 found.0.1 (omega arith) h (sym found.1 ∙ e)).0 in
    let z : ⊥ = grind (arith, nat_tests, c.if-rows-eq1.false, one) in
    z
