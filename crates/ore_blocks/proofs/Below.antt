-- A term below another, by the comparison of their monomials.
--     by_columns                                  of one monomial, that of the greater column is below
--     below_less, below_equal, below_greater      the first monomial is less, the same, greater
use Rattle.std.proofs.Common.{◌≡◌, ℕ, Bool, true, false, cond, nat_lt, nat_eq, refl, ap, ◌∙◌}
use Rattle.std.specs.declared.cmp.Ordering.TheVariants.{Less, Equal, Greater}
use Rattle.std.specs.Ordering.{nat_cmp, ordering_then}
use Rattle.ore_monomial.specs.Monomial.{Monomial, order_cmp}
use Rattle.ore_monomial.specs.declared.order.Order.{Order}
use Rattle.ore_blocks.specs.PlaceConditions.{is_below}

by_columns : (b c : Bool) → elim (cond b Less (cond c Equal Greater)) [ Less ↦ true | Equal ↦ false | Greater ↦ false ] ≡ b
by_columns true c = refl
by_columns false true = refl
by_columns false false = refl

module _ (o : Order) (m n : Monomial) (i j : ℕ) where
  pub below_less : order_cmp o m n ≡ Less → is_below o (record { monomial = m; column = i }) (record { monomial = n; column = j }) ≡ true
  unfolding is_below
  below_less e = ap (λ c. elim (ordering_then c (nat_cmp j i)) [ Less ↦ true | Equal ↦ false | Greater ↦ false ]) e

  pub below_equal : order_cmp o m n ≡ Equal → is_below o (record { monomial = m; column = i }) (record { monomial = n; column = j }) ≡ nat_lt j i
  unfolding is_below
  below_equal e = ap (λ c. elim (ordering_then c (nat_cmp j i)) [ Less ↦ true | Equal ↦ false | Greater ↦ false ]) e ∙ by_columns (nat_lt j i) (nat_eq j i)

  pub below_greater : order_cmp o m n ≡ Greater → is_below o (record { monomial = m; column = i }) (record { monomial = n; column = j }) ≡ false
  unfolding is_below
  below_greater e = ap (λ c. elim (ordering_then c (nat_cmp j i)) [ Less ↦ true | Equal ↦ false | Greater ↦ false ]) e
