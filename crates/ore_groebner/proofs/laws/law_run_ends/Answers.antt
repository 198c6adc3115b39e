use Rattle.std.proofs.Common.{refl, sym, subst}
use Rattle.ore_course.specs.Bounded.{Extends}
use Rattle.ore_rational.specs.Field.{rationals, rational_inverses}
use Rattle.ore_monomial.proofs.Signatures.{lawful}
use Rattle.ore_rows.specs.Arithmetic.{within}
use Rattle.ore_rows.proofs.SoundArithmetic.{within_sound, within_unlimited}
use Rattle.ore_pairs.specs.Runner.{runner, runner_within}
use Rattle.ore_groebner.proofs.Limited.{step_follows}
use Rattle.ore_groebner.proofs.RunEnds.{run_ends_within}
use Rattle.ore_groebner.proofs.laws.law_run_ends.Goals as goal

pub returns-clause-ends : goal.returns-clause-ends
returns-clause-ends c = λ l n a first long e.
    let s = c.args.sig.now in
    run_ends_within rationals rational_inverses s (lawful s) s.order n a long (within l s) (within_sound l s) first e

pub returns-clause-extends : goal.returns-clause-extends
returns-clause-extends c = λ l.
    let s = c.args.sig.now in
    subst (λ A. Extends (runner_within l s) (runner rationals rational_inverses s.order A)) (sym (within_unlimited s))
    (record { follows = λ st c next e. step_follows rationals rational_inverses s s.order (within l s) (within_sound l s) st c next e; same = λ st. refl; treatments = λ c. refl })
