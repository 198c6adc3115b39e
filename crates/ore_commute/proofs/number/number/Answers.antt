use Rattle.std.proofs.Common.{◌≡◌, ℕ, ◌-◌, ◌*◌, ◌^◌, ◌<◌, pos, ◌*ℤ◌, nat_abs, SomeIff, ℤ, FitsSigned, to_z-of_z, rules, sym, ap, ◌∙◌, subst, arith}
use mir.Syntax.{w128}
use Rattle.ore_algebra.specs.Ring.{power as power_of}
use Rattle.ore_algebra.proofs.Integers.{integers}
use Rattle.ore_monomial.specs.Passing.{choose}
use Rattle.ore_commute.specs.ClosedForm.{falling_factorial as falling_of, number as number_of}
use Rattle.ore_commute.proofs.Numbers.{factors, number_is}
use Rattle.ore_commute.proofs.number.number.Goals as goal

pub returns-in_err-chosen : goal.returns-in_err-chosen
returns-in_err-chosen c =
    let f = factors c.args.h c.args.c c.args.a c.args.k c.args.j c.requires.operator c.requires.coordinate c.requires.steps in
    rw c.from_residual.ensures (λ q. c.in_err-chosen.ensures (omega arith))

pub returns-in_err-fallen : goal.returns-in_err-fallen
returns-in_err-fallen c =
    let f = factors c.args.h c.args.c c.args.a c.args.k c.args.j c.requires.operator c.requires.coordinate c.requires.steps in
    rw c.from_residual-in_err-fallen.ensures (λ q. c.in_err-fallen.ensures (omega arith))

spent_is : (x y u v : ℕ) → x ≡ u → y ≡ v → x * y ≡ u * v
spent_is x y u v e f = λ i. e i * f i

pub returns-in_err-spent : goal.returns-in_err-spent
returns-in_err-spent c =
    let f = factors c.args.h c.args.c c.args.a c.args.k c.args.j c.requires.operator c.requires.coordinate c.requires.steps in
    let e = spent_is _ _ _ _ (c.in_ok-chosen.ensures {u = tt}).1 (c.in_ok-fallen.ensures {u = tt}).1 in
    rw c.from_residual-in_err-spent.ensures (λ q. c.in_err-spent.ensures (omega arith))

pub returns-in_err-places : goal.returns-in_err-places
returns-in_err-places c =
    let f = factors c.args.h c.args.c c.args.a c.args.k c.args.j c.requires.operator c.requires.coordinate c.requires.steps in
    rw c.from_residual-in_err-places.ensures (λ q. c.in_err-places.ensures (omega arith))

pub returns-in_err-steps : goal.returns-in_err-steps
returns-in_err-steps c =
    let f = factors c.args.h c.args.c c.args.a c.args.k c.args.j c.requires.operator c.requires.coordinate c.requires.steps in
    let fits : FitsSigned w128 c.args.h = search rules in
    let stops = simp to_z-of_z at (c.in_err-steps.ensures {u = tt}) in
    rw c.from_residual-in_err-steps.ensures (λ q. stops (omega arith))

shifted_is : (x y u v : ℤ) → x ≡ u → y ≡ v → nat_abs (x *ℤ y) ≡ nat_abs (u *ℤ v)
shifted_is x y u v e f = λ i. nat_abs (e i *ℤ f i)

pub returns-in_err-shifted : goal.returns-in_err-shifted
returns-in_err-shifted c =
    let f = factors c.args.h c.args.c c.args.a c.args.k c.args.j c.requires.operator c.requires.coordinate c.requires.steps in
    let fits : FitsSigned w128 c.args.h = search rules in
    let fits_steps : FitsSigned w128 c.in_ok-steps.steps = search rules in
    let fits_places : FitsSigned w128 c.whole.result = search rules in
    let stops = simp to_z-of_z at (c.in_err-shifted.ensures {u = tt}) in
    let places : c.whole.result ≡ pos (choose (c.args.a - c.args.k) c.args.j) = c.whole.ensures ∙ ap pos (c.in_ok-places.ensures {u = tt}).1 in
    let steps : c.in_ok-steps.steps ≡ power_of integers.ring c.args.h c.args.j = simp to_z-of_z at ((c.in_ok-steps.ensures {u = tt}).1) in
    let e = shifted_is _ _ _ _ places steps in
    rw c.from_residual-in_err-shifted.ensures (λ q. stops (omega arith))

pub returns : goal.returns
returns c =
    let fits : FitsSigned w128 c.args.h = search rules in
    let fits_steps : FitsSigned w128 c.in_ok-steps.steps = search rules in
    let fits_places : FitsSigned w128 c.whole.result = search rules in
    let fits_shifted : FitsSigned w128 c.in_ok-shifted.shifted = search rules in
    let fits_spent : FitsSigned w128 c.whole-2.result = search rules in
    let places : c.whole.result ≡ pos (choose (c.args.a - c.args.k) c.args.j) = c.whole.ensures ∙ ap pos (c.in_ok-places.ensures {u = tt}).1 in
    let steps : c.in_ok-steps.steps ≡ power_of integers.ring c.args.h c.args.j = simp to_z-of_z at ((c.in_ok-steps.ensures {u = tt}).1) in
    let shifted : c.in_ok-shifted.shifted ≡ c.whole.result *ℤ c.in_ok-steps.steps = simp to_z-of_z at ((c.in_ok-shifted.ensures {u = tt}).1) in
    let spent : c.whole-2.result ≡ pos (choose c.args.c c.args.k * falling_of c.args.a c.args.k) = c.whole-2.ensures ∙ ap pos ((c.in_ok-spent.ensures {u = tt}).1 ∙ spent_is _ _ _ _ (c.in_ok-chosen.ensures {u = tt}).1 (c.in_ok-fallen.ensures {u = tt}).1) in
    let e : c.whole-2.result *ℤ c.in_ok-shifted.shifted ≡ number_of integers c.args.h c.args.c c.args.a c.args.k c.args.j =
    (λ i. spent i *ℤ (shifted ∙ (λ j. places j *ℤ steps j)) i) ∙ sym (number_is c.args.h c.args.c c.args.a c.args.k c.args.j) in
    let last = simp to_z-of_z at c.product-2.ensures in
    subst (λ z. SomeIff c.product-2.result (nat_abs z < 2 ^ 127) z) e last
