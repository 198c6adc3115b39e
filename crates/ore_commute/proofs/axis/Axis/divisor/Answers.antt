use Rattle.std.proofs.Common.{◌+◌, sym, ap, ◌∙◌, arith}
use Rattle.ore_monomial.specs.Monomial.{degree, product}
use Rattle.ore_monomial.proofs.Monomials.{degree-power}
use Rattle.ore_commute.proofs.Divisors.{divisor-product, divisor_alone, ok_where}
use Rattle.ore_commute.proofs.axis.Axis.divisor.Goals as goal

pub variable_power-requires-in-Some : goal.variable_power-requires-in-Some
variable_power-requires-in-Some c = c.args.self.now.declared c.in-Some.operator c.in-Some.is

pub returns-in_ok-variable_power-in-Some : goal.returns-in_ok-variable_power-in-Some
returns-in_ok-variable_power-in-Some c =
    let within = c.args.self.now.declared c.in-Some.operator c.in-Some.is in
    let apart = rw c.in-Some.is at c.args.self.now.apart in
    let small = c.args.self.now.small in
    let e = divisor-product c.args.self.now.coordinate c.in-Some.operator c.args.k c.args.j c.args.self.now.within within apart in
    let k_is = (c.in_ok-variable_power-in-Some.ensures {u = tt}).1 in
    let t_is = (c.in_ok-fallen.ensures {u = tt}).1 in
    let dk = ap degree k_is ∙ degree-power c.in-Some.operator c.args.k within in
    let dt = ap degree t_is ∙ degree-power c.args.self.now.coordinate (c.args.k + c.args.j) c.args.self.now.within in
    rw c.in-Some.is (ok_where c.plus.result _ _ _ c.plus.ensures (omega arith) ((λ i. product (k_is i) (t_is i)) ∙ e))

pub returns-in-None : goal.returns-in-None
returns-in-None c = rw c.in-None.is ((c.in_ok-fallen.ensures {u = tt}).1 ∙ sym (divisor_alone c.args.self.now.coordinate c.args.k c.args.j))
