use Rattle.ore_rational.specs.Field.{rationals, rational_inverses}
use Rattle.ore_monomial.proofs.Signatures.{lawful}
use Rattle.ore_rows.specs.Arithmetic.{within}
use Rattle.ore_rows.proofs.SoundArithmetic.{within_sound}
use Rattle.ore_groebner.proofs.Returning.{keeps}
use Rattle.ore_groebner.proofs.Running.{reached_holds}
use Rattle.ore_groebner.proofs.laws.law_run_keeps.Goals as goal

pub returns : goal.returns
returns c = λ l n a st long reached.
    let h = reached_holds rationals rational_inverses c.args.sig.now (lawful c.args.sig.now) c.args.sig.now.order n a long (within l c.args.sig.now) (within_sound l c.args.sig.now) st reached in
    (keeps rationals c.args.sig.now (lawful c.args.sig.now) c.args.sig.now.order n a long st h, h.entries)
