use Rattle.std.proofs.Common.{arith}
use Rattle.ore_monomial.specs.Passing.{choose}
use Rattle.ore_commute.specs.ClosedForm.{falling_factorial as falling_of}
use Rattle.ore_commute.proofs.Numbers.{le-times, choose_apart, falling_apart}
use Rattle.ore_weyl.proofs.number.number.Goals as goal

pub returns-in_err-chosen : goal.returns-in_err-chosen
returns-in_err-chosen c =
    let f = le-times (choose c.args.c c.args.k) (falling_of c.args.a c.args.k) (falling_apart c.args.a c.args.k c.requires.coordinate) in
    rw c.from_residual.ensures (λ q. c.in_err-chosen.ensures (omega arith))

pub returns-in_err-fallen : goal.returns-in_err-fallen
returns-in_err-fallen c =
    let f = le-times (falling_of c.args.a c.args.k) (choose c.args.c c.args.k) (choose_apart c.args.c c.args.k c.requires.operator) in
    rw c.from_residual-in_err-fallen.ensures (λ q. c.in_err-fallen.ensures (omega arith))
