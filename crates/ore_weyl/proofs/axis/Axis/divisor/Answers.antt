use Rattle.std.proofs.Common.{◌≡◌, ◌+◌, subst, ap, ◌∙◌, arith}
use Rattle.ore_monomial.specs.Monomial.{degree, product, with_exponent, unit}
use Rattle.ore_monomial.proofs.Monomials.{degree-power}
use Rattle.ore_commute.specs.ClosedForm.{divisor as divisor_of}
use Rattle.ore_commute.proofs.Divisors.{divisor-product, ok_where}
use Rattle.ore_weyl.proofs.axis.Axis.divisor.Goals as goal

pub returns : goal.returns
returns c =
    let s = c.args.self.now in
    let z : c.args.k + 0 ≡ c.args.k = omega arith in
    let small = s.small in
    let e = subst (λ j. product (with_exponent s.operator c.args.k unit) (with_exponent s.coordinate j unit) ≡ divisor_of s.coordinate s.operator c.args.k 0) z (divisor-product s.coordinate s.operator c.args.k 0 s.within s.declared s.apart) in
    let k_is = (c.in_ok-variable_power.ensures {u = tt}).1 in
    let t_is = (c.in_ok-fallen.ensures {u = tt}).1 in
    let dk = ap degree k_is ∙ degree-power s.operator c.args.k s.declared in
    let dt = ap degree t_is ∙ degree-power s.coordinate c.args.k s.within in
    ok_where c.plus.result _ _ _ c.plus.ensures (omega arith) ((λ i. product (k_is i) (t_is i)) ∙ e)
