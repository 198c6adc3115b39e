use Rattle.std.proofs.Common.{◌≡◌, suc, sym, ◌∙◌, arith}
use Rattle.std.proofs.lemmas.Bool.Decides.{nat_tests}
use Rattle.ore_parts.proofs.Numbers.{same_decimal}
use Rattle.ore_parts.proofs.sizes.place_in.Goals as goal

pub returns-then-number-eq0 : goal.returns-then-number-eq0
returns-then-number-eq0 c k h e =
    let none : c.in-Some.number ≡ 0 = grind (arith, nat_tests, c.if-number-eq0.true) in
    let same : c.in-Some.number ≡ suc k = same_decimal c.in-Some.number (suc k) c.in-Some.ensures.0 h (sym c.in-Some.ensures.1 ∙ e) in
    omega (arith, none, same)
