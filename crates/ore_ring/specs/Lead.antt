-- The lead of an operator.
-- (Buchberger 1965; in algebras of this kind Kandri-Rody and Weispfenning 1990.)
--     IsLead     m is the greatest monomial that has a coefficient, and its coefficient is k
use Rattle.std.specs.Prelude.{◌≡◌, ◌≢◌, false}
use Rattle.std.specs.Ordering.{is_gt}
use Rattle.ore_algebra.specs.Domain.{Domain}
use Rattle.ore_algebra.specs.Free.{coefficient}
use Rattle.ore_monomial.specs.Monomial.{Monomial, order_cmp, plain_cmp}
use Rattle.ore_monomial.specs.declared.order.Order.{Order}
use Rattle.ore_monomial.specs.LetterRule.{Operator}

pub record IsLead (K : Domain) (o : Order) (f : Operator K) (m : Monomial) (k : K.Number) : Type 0 where
  pub stands : coefficient K plain_cmp f m ≡ k
  pub apart : k ≢ K.zero
  pub greatest : (q : Monomial) → coefficient K plain_cmp f q ≢ K.zero → is_gt (order_cmp o q m) ≡ false
