use Rattle.std.proofs.Common.{ap, ◌∙◌, subst, sym}
use Rattle.std.specs.Prelude.{IsTrue}
use Rattle.ore_algebra.specs.Limits.{program}
use Rattle.ore_algebra.proofs.DomainLaws
use Rattle.ore_rational.specs.Fraction.{Fraction, div, inverse}
use Rattle.ore_rational.specs.Range.{InRange}
use Rattle.ore_rational.specs.Within.{fits}
use Rattle.ore_rational.specs.Field.{rationals}
use Rattle.ore_groebner.proofs.StoredMonics.{fits_inverse}
use Rattle.ore_groebner.proofs.monic.inverse.Goals as goal

pub unreachable-requires : goal.unreachable-requires
unreachable-requires c = c.in_default.ensures (subst (λ (q : Fraction). IsTrue (fits program (div q c.args.coef))) (sym c.one.ensures) (fits_inverse c.args.coef c.requires (subst InRange c.numerator-numerator.ensures.value c.numerator-numerator.ensures.range) (subst InRange c.denominator-denominator.ensures.value c.denominator-denominator.ensures.range)))

pub returns : goal.returns
returns c = c.in-Ok.ensures.1 ∙ ap (λ (q : Fraction). div q c.args.coef) c.one.ensures ∙ DomainLaws.one_times rationals (inverse c.args.coef)
