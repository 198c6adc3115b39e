-- The terms of an operator in falling order.
--     Summand, Terms   a monomial with its coefficient; a list of them
--     falling          the terms of an operator over the fractions, the greatest first
--     IsBelowLast      a monomial may be appended
--     IsFalling        the terms fall, and no coefficient is zero: what a stored operator is
use Rattle.std.specs.Prelude.{◌≡◌, T, List, [], ◌∷◌}
use Rattle.std.specs.declared.cmp.Ordering.TheVariants.{Less}
use Rattle.std.specs.FinMap.{is_sorted}
use Rattle.ore_rational.specs.Fraction.{Fraction}
use Rattle.ore_monomial.specs.Monomial.{Monomial, order_cmp}
use Rattle.ore_monomial.specs.declared.order.Order.{Order}
use Rattle.ore_monomial.specs.LetterRule.{Operator}
use Rattle.ore_monomial.specs.Numbers.{back, falling_over, AreNonZero}
use Rattle.ore_rational.specs.Field.{rationals}

abbrev pub Summand : Type 0
Summand = Monomial × Fraction

abbrev pub Terms : Type 0
Terms = List (Monomial × Fraction)

abbrev pub falling : Order → Operator rationals → Terms
falling = falling_over rationals

pub record IsFalling (o : Order) (ts : Terms) : Type 0 where
  pub falls : T (is_sorted (back o) ts)
  pub apart : AreNonZero rationals ts

-- m is below the last of the terms, if there is one
abbrev pub IsBelowLast : Order → Terms → Monomial → Type 0
IsBelowLast o [] m = Unit {0}
IsBelowLast o (t ∷ []) m = order_cmp o m t.0 ≡ Less
IsBelowLast o (t ∷ u ∷ ts) m = IsBelowLast o (u ∷ ts) m
