use Rattle.std.proofs.Common.{◌%◌, sym, ap, ◌∙◌}
use Rattle.ore_monomial.specs.Monomial.{degree}
use Rattle.ore_ring.proofs.AdjointSteps.{even_power, odd_power}
use Rattle.ore_ring.proofs.reverse.signed.Goals as goal

pub returns-then-degree-eq0 : goal.returns-then-degree-eq0
returns-then-degree-eq0 c =
    sym (even_power (degree c.args.coordinates.now) c.args.coef (ap (λ n. n % 2) (sym c.degree.ensures.value) ∙ c.if-degree-eq0.true))

pub returns-else-degree-eq0 : goal.returns-else-degree-eq0
returns-else-degree-eq0 c =
    c.neg.ensures ∙ sym (odd_power (degree c.args.coordinates.now) c.args.coef (λ e. c.if-degree-eq0.false (ap (λ n. n % 2) c.degree.ensures.value ∙ e)))
