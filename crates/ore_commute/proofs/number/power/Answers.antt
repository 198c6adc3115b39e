use Rattle.std.proofs.Common.{suc, ◌*ℤ◌, nat_abs, FitsSigned, to_z-of_z, rules, ap, arith}
use mir.Syntax.{w128}
use Rattle.ore_commute.proofs.Numbers.{power_rises}
use Rattle.ore_commute.proofs.number.power.Goals as goal

pub returns-in_err-value : goal.returns-in_err-value
returns-in_err-value c =
    let r = power_rises c.args.h (suc c.loop.counter) c.args.j (c.requires (omega arith)) (omega arith) in
    let fh : FitsSigned w128 c.args.h = c.ranges.h in
    let fv : FitsSigned w128 c.loop.value = search rules in
    let e = ap (λ v. nat_abs (c.args.h *ℤ v)) (simp to_z-of_z at c.loop.invariant.0) in
    let n = simp to_z-of_z at (c.in_err-value.ensures {u = tt}) in
    rw c.from_residual.ensures (λ h. n (omega arith))
