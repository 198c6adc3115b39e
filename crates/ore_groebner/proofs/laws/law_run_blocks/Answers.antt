use Rattle.ore_rational.specs.Field.{rationals, rational_inverses}
use Rattle.ore_monomial.proofs.Signatures.{lawful}
use Rattle.ore_rows.specs.Arithmetic.{within}
use Rattle.ore_rows.proofs.SoundArithmetic.{within_sound}
use Rattle.ore_groebner.proofs.Blocks.{exact_valid, kernel_valid, outside_valid}
use Rattle.ore_groebner.proofs.Running.{reached_holds}
use Rattle.ore_groebner.proofs.laws.law_run_blocks.Goals as goal

pub returns-clause-exact : goal.returns-clause-exact
returns-clause-exact c = λ limits n a m inside st end rows.
    let s = c.args.sig.now in
    let h = reached_holds rationals rational_inverses s (lawful s) s.order n a end.long (within limits s) (within_sound limits s) st end.reached in
    exact_valid rationals s (lawful s) s.order n a end.long st h end.complete m inside rows.wide rows.annihilates rows.long rows.product

pub returns-clause-kernel : goal.returns-clause-kernel
returns-clause-kernel c = λ limits n a st end.
    let s = c.args.sig.now in
    let h = reached_holds rationals rational_inverses s (lawful s) s.order n a end.long (within limits s) (within_sound limits s) st end.reached in
    kernel_valid rationals s (lawful s) s.order n a end.long st h end.complete

pub returns-clause-outside : goal.returns-clause-outside
returns-clause-outside c = λ limits n a st w cofactor rest end wide e more.
    let s = c.args.sig.now in
    let h = reached_holds rationals rational_inverses s (lawful s) s.order n a end.long (within limits s) (within_sound limits s) st end.reached in
    outside_valid rationals s (lawful s) (within limits s) (within_sound limits s) n a end.long st h end.complete w cofactor wide rest e more
