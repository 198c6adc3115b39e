use Rattle.ore_rational.specs.Field.{rationals, rational_inverses}
use Rattle.ore_rows.specs.Arithmetic.{within}
use Rattle.ore_rows.proofs.SoundArithmetic.{within_sound}
use Rattle.ore_groebner.proofs.Limited.{follows_most, begin_most, run_follows, begin_comes, run_unlawful}
use Rattle.ore_groebner.proofs.laws.law_run_within.Goals as goal

pub returns-clause-within : goal.returns-clause-within
returns-clause-within c = λ l a first st choices b e. (
  follows_most _ _ (begin_most rationals rational_inverses c.args.sig.now c.args.sig.now.order (within l c.args.sig.now) (within_sound l c.args.sig.now) a) first b,
  run_follows rationals rational_inverses c.args.sig.now c.args.sig.now.order (within l c.args.sig.now) (within_sound l c.args.sig.now) first choices st e,
)

pub returns-clause-unlawful : goal.returns-clause-unlawful
returns-clause-unlawful c = λ a.
    let b = begin_comes rationals rational_inverses c.args.sig.now c.args.sig.now.order a in (b.0, b.1, λ choices cause. run_unlawful rationals rational_inverses c.args.sig.now c.args.sig.now.order b.0 choices cause)
