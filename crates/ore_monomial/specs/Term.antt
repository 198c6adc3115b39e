-- Terms of rows, and their order.
--     Term          a monomial and a column
--     term_cmp      the order of terms, over an order of monomials
--     shift         a monomial times a term
use Rattle.std.specs.Prelude.{ℕ}
use Rattle.std.specs.declared.cmp.Ordering.{Ordering}
use Rattle.std.specs.Ordering.{nat_cmp, on, then_cmp, flip_args}
use Rattle.ore_monomial.specs.Monomial.{Monomial, product, order_cmp}
use Rattle.ore_monomial.specs.declared.order.Order.{Order}

pub record Term : Type 0 where
  pub monomial : Monomial
  pub column : ℕ

-- the greater monomial is greater, and for equal monomials the smaller column
abbrev pub term_cmp : Order → Term → Term → Ordering
term_cmp o = then_cmp (on (λ t. t.monomial) (order_cmp o)) (flip_args (on (λ t. t.column) nat_cmp))

-- the monomial is multiplied, and the column stays
abbrev pub shift : Monomial → Term → Term
shift m t = record { monomial = product m t.monomial; column = t.column }
