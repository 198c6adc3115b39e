-- The terms of an operator over the fractions in falling order, against the operator.
--     C, ◌+◌, sc       the operator that terms make; sums and scalings of operators
--     collect-falling  the terms make the operator again
--     falling-collect  stored terms are the falling terms of what they make
use Rattle.std.proofs.Common.{◌≡◌}
use Rattle.ore_algebra.specs.Free.{collect, plus, scale}
use Rattle.ore_monomial.specs.Monomial.{plain_cmp}
use Rattle.ore_monomial.specs.declared.order.Order.{Order}
use Rattle.ore_monomial.specs.LetterRule.{Operator}
use Rattle.ore_monomial.proofs.FallingTerms.{collect-falling_over, falling_over-collect}
use Rattle.ore_rational.specs.Fraction.{Fraction}
use Rattle.ore_rational.specs.Field.{rationals}
use Rattle.ore_ring.specs.Terms.{Terms, falling, IsFalling}

abbrev pub C : Terms → Operator rationals
C = collect rationals plain_cmp

infixl 10 ◌+◌
abbrev pub ◌+◌ : Operator rationals → Operator rationals → Operator rationals
f + g = plus rationals plain_cmp f g

abbrev pub sc : Fraction → Operator rationals → Operator rationals
sc = scale rationals plain_cmp

pub collect-falling : (o : Order) (f : Operator rationals) → collect rationals plain_cmp (falling o f) ≡ f
collect-falling = collect-falling_over rationals

pub falling-collect : (o : Order) (ts : Terms) → IsFalling o ts → falling o (collect rationals plain_cmp ts) ≡ ts
falling-collect o ts h = falling_over-collect rationals o ts h.falls h.apart
