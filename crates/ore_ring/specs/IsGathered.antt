-- Terms in a map, whose keys are ordered as the monomials are.
--     keyed_terms   the terms that a map keeps, from the least up
--     IsGathered    each key is the rank of its term's monomial, and the terms rise
--     number_of     the fraction that was found for a key, and 0 where none was
use Rattle.std.specs.Prelude.{◌≡◌, ℕ, T, List, map, pos}
use Rattle.std.specs.declared.option.Option.{Option}
use Rattle.std.specs.declared.option.Option.TheVariants.{None, Some}
use Rattle.std.specs.FinMap.{is_sorted}
use Rattle.ore_rational.specs.Fraction.{Fraction, whole}
use Rattle.ore_monomial.specs.Monomial.{order_cmp}
use Rattle.ore_monomial.specs.declared.order.Order.{Order}
use Rattle.ore_ring.specs.Terms.{Summand, Terms}
use Rattle.ore_ring.specs.Gathered.{keyed}

abbrev pub keyed_terms : List (List ℕ × Summand) → Terms
keyed_terms es = map (λ e. e.1) es

pub record IsGathered (o : Order) (es : List (List ℕ × Summand)) : Type 0 where
  pub keys : es ≡ keyed o (keyed_terms es)
  pub rises : T (is_sorted (order_cmp o) (keyed_terms es))

abbrev pub number_of : Option Summand → Fraction
number_of None = whole (pos 0)
number_of (Some t) = t.1
