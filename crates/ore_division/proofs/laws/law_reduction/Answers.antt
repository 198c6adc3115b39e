use Rattle.std.proofs.Common.{subst}
use Rattle.ore_algebra.specs.Limits.{IsAtMost}
use Rattle.ore_rational.specs.Field.{rationals}
use Rattle.ore_monomial.proofs.Signatures.{lawful}
use Rattle.ore_rows.specs.Arithmetic.{exact, within}
use Rattle.ore_rows.specs.Reduction.{reduce}
use Rattle.ore_rows.proofs.SoundArithmetic.{within_sound}
use Rattle.ore_division.proofs.Leaves.{reduction_ends, reduction_takes, reduction_stays_below}
use Rattle.ore_division.proofs.Reductions.{reduce_most, reduce_comes}
use Rattle.ore_division.proofs.laws.law_reduction.Goals as goal

pub returns-clause-ends : goal.returns-clause-ends
returns-clause-ends c = λ l n m basis w rest good. reduction_ends rationals c.args.sig.now (lawful c.args.sig.now) (within l c.args.sig.now) (within_sound l c.args.sig.now) n m basis good w rest

pub returns-clause-takes : goal.returns-clause-takes
returns-clause-takes c = λ l n m basis w rest good. reduction_takes rationals c.args.sig.now (lawful c.args.sig.now) (within l c.args.sig.now) (within_sound l c.args.sig.now) n m basis good w rest

pub returns-clause-below : goal.returns-clause-below
returns-clause-below c = λ l n m basis w rest t good. reduction_stays_below rationals c.args.sig.now (lawful c.args.sig.now) (within l c.args.sig.now) (within_sound l c.args.sig.now) n m basis good t w rest

pub returns-clause-value : goal.returns-clause-value
returns-clause-value c = λ l o basis w rest e. subst (λ x. IsAtMost x (reduce rationals o (exact rationals c.args.sig.now) basis w)) e (reduce_most rationals c.args.sig.now o (within l c.args.sig.now) (within_sound l c.args.sig.now) basis w)

pub returns-clause-comes : goal.returns-clause-comes
returns-clause-comes c = λ o basis w. reduce_comes rationals c.args.sig.now o basis w
