use Rattle.std.proofs.Common.{◌<◌, ◌≤◌, ◌^◌, ℕ, subst}
use Rattle.ore_rational.specs.Range.{InRange}
use Rattle.ore_cert.proofs.storable.term_is_storable.Goals as goal

pub returns : goal.returns
returns c = record {
  numerator = subst InRange c.numerator-numerator.ensures.value c.numerator-numerator.ensures.range;
  denominator = subst InRange c.denominator-denominator.ensures.value c.denominator-denominator.ensures.range;
  degree = subst (λ (n : ℕ). n ≤ 32767) c.degree-degree.ensures.value c.degree-degree.ensures.small;
}
