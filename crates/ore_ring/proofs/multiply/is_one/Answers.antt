use Rattle.std.proofs.Common.{◌≡◌, [], ◌∷◌, length, get_or, sym, ap, ◌∙◌, arith}
use Rattle.ore_rational.proofs.Stored.{Decides-fraction_eq}
use Rattle.ore_monomial.proofs.Divisors.{unit_from_degree}
use Rattle.ore_ring.specs.Terms.{Summand, Terms}
use Rattle.ore_ring.proofs.multiply.is_one.Goals as goal

alone : (ts : Terms) (t : Summand) → length ts ≡ 1 → t ≡ get_or ts 0 t → ts ≡ t ∷ []
alone [] t n e = absurd (omega arith)
alone (u ∷ []) t n e = ap (λ x. x ∷ []) (sym e)
alone (u ∷ v ∷ ts) t n e = absurd (omega arith)

pub returns-then-degree-eq0 : goal.returns-then-degree-eq0
returns-then-degree-eq0 c = λ e.
    let n : length c.args.ts.now ≡ 1 = omega (arith, c.in-len1.len_at_least, c.in-len1.len_below) in
    let d : c.degree.result ≡ 0 = omega (arith, c.if-degree-eq0.true) in
    alone c.args.ts.now c.t-item.result n c.t-item.is
    ∙ (λ i. (unit_from_degree c.t-item.result.0 (sym c.degree.ensures.value ∙ d) i, ((Decides-fraction_eq c.t-item.result.1 c.one.result).0 (sym c.eq.ensures ∙ e) ∙ c.one.ensures) i) ∷ [])
