use Rattle.std.proofs.Common.{max, sym, ap, ◌∙◌, length, subst, ◌≤◌}
use Rattle.std.specs.Prelude.{OkIff}
use Rattle.std.specs.List.{sum}
use Rattle.ore_monomial.specs.Monomial.{monomial_of, degree, lcm, length-zip_with}
use Rattle.ore_monomial.proofs.Seen.{zip_with_of, from_values}
use Rattle.ore_monomial.proofs.exps.Exps.lcm.Goals as goal

pub returns : goal.returns
unfolding lcm degree
returns c =
    let m = lcm c.args.self.now c.args.other.now in
    let long = ap length c.greater.ensures ∙ length-zip_with max c.self.inside.values c.other.inside.values (c.self.told ∙ sym c.other.told) ∙ c.other.told in
    let is = c.greater.ensures ∙ zip_with_of max c.self.inside c.other.inside c.args.self.now c.args.other.now c.self.view_is c.self.invariant c.other.view_is c.other.invariant in
    subst (λ n. OkIff c.from_list.result (sum m.exponents ≤ 32767) n) (from_values c.greater.result m long is)
    (subst (λ es. OkIff c.from_list.result (sum es ≤ 32767) (monomial_of c.greater.result)) is c.from_list.ensures)
