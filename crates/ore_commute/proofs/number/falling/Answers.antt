use Rattle.std.proofs.Common.{suc, ◌≡◌, add-one, refl, subst, arith}
use Rattle.ore_commute.specs.ClosedForm.{falling_factorial as falling_of}
use Rattle.ore_commute.proofs.Numbers.{falling_from, falling_rises}
use Rattle.ore_commute.proofs.number.falling.Goals as goal

pub loop-i-init : goal.loop-i-init
unfolding falling_of
loop-i-init c = (refl, omega arith)

pub loop-i-preserved : goal.loop-i-preserved
loop-i-preserved c = let e = falling_from c.args.a c.loop-i.i c.loop-i.value (omega arith) c.loop-i.invariant.0 in (rw add-one (omega arith), omega arith)

pub returns-in_err-value : goal.returns-in_err-value
returns-in_err-value c =
    let e = falling_from c.args.a c.loop-i.i c.loop-i.value (omega arith) c.loop-i.invariant.0 in
    let r = falling_rises c.args.a (suc c.loop-i.i) c.args.k (omega arith) c.requires in
    rw c.from_residual.ensures (λ h. c.in_err-value.ensures (omega arith))

pub returns : goal.returns
returns c =
    let e : c.loop-i.i ≡ c.args.k = omega arith in
    let w : c.loop-i.value ≡ falling_of c.args.a c.args.k = subst (λ j. c.loop-i.value ≡ falling_of c.args.a j) e c.loop-i.invariant.0 in
    (omega arith, w)
