-- The order of terms of rows.
--     term_total, term_apart      it is total, and tells terms apart
--     by_term                     and well founded among the terms of a row of n entries
--     term-shift                  it is kept by a product with a monomial
--     shift_above                 a term is not greater than its product with a monomial
--     term_one_column             the terms of one column are ordered as their monomials
use Rattle.std.proofs.Common.{◌≡◌, ℕ, zero, suc, ◌+◌, ◌<◌, ◌≤◌, false, refl, sym, ap, ◌∙◌, subst, true≢false, arith}
use Rattle.std.specs.declared.cmp.Ordering.{Ordering}
use Rattle.std.specs.declared.cmp.Ordering.TheVariants.{Less, Equal, Greater}
use Rattle.std.specs.Ordering.{is_gt, is_lt, nat_cmp, ordering_then}
use Rattle.std.specs.Cmp.{IsTotalOrder, tied_itself}
use Rattle.std.specs.FinMap.{IsAntisymmetric, nat_cmp-IsAntisymmetric}
use Rattle.std.proofs.lemmas.Cmp.{nat_cmp_total, on_total, then_total, back_total}
use Rattle.std.proofs.lemmas.Bool.Decides.{nat_tests}
use Rattle.ore_algebra.proofs.Orderings.{then_equal}
use Rattle.ore_monomial.specs.Monomial.{Monomial, product, order_cmp}
use Rattle.ore_monomial.specs.Term.{Term, term_cmp, shift}
use Rattle.ore_monomial.specs.declared.order.Order.{Order}
use Rattle.ore_monomial.proofs.Monomials.{order_total, order_apart}
use Rattle.ore_monomial.proofs.Orders.{order-product, product_above}
use Rattle.ore_monomial.proofs.WellFounded.{by_order}

pub term_total : (o : Order) → IsTotalOrder (term_cmp o)
term_total o = then_total (on_total (λ t. t.monomial) (order_total o)) (back_total (on_total (λ t. t.column) nat_cmp_total))

pub same_term : (t u : Term) → t.monomial ≡ u.monomial → t.column ≡ u.column → t ≡ u
same_term t u e f = λ i. record { monomial = e i; column = f i }

pub term_apart : (o : Order) → IsAntisymmetric (term_cmp o)
term_apart o t u e = let h = then_equal _ _ e in same_term t u (order_apart o t.monomial u.monomial h.0) (sym (nat_cmp-IsAntisymmetric u.column t.column h.1))

pub term-shift : (o : Order) (m : Monomial) (t u : Term) → term_cmp o (shift m t) (shift m u) ≡ term_cmp o t u
term-shift o m t u = ap (λ c. ordering_then c (nat_cmp u.column t.column)) (order-product o m t.monomial u.monomial)

then_tied : (c : Ordering) → ordering_then c Equal ≡ c
then_tied Less = refl
then_tied Equal = refl
then_tied Greater = refl

pub term_one_column : (o : Order) (m n : Monomial) (j : ℕ) → term_cmp o (record { monomial = m; column = j }) (record { monomial = n; column = j }) ≡ order_cmp o m n
term_one_column o m n j = ap (ordering_then (order_cmp o m n)) (tied_itself nat_cmp_total j) ∙ then_tied (order_cmp o m n)

pub shift_above : (o : Order) (m : Monomial) (t : Term) → is_gt (term_cmp o t (shift m t)) ≡ false
shift_above o m t = ap is_gt (term_one_column o t.monomial (product m t.monomial) t.column) ∙ product_above o t.monomial m

number_less : (a b : ℕ) → nat_cmp a b ≡ Less → a < b
number_less a b h = grind (arith, nat_tests)

-- what holds of a term of a row of n entries if it holds of all smaller ones holds of all
pub by_term {ℓ} : (o : Order) (n : ℕ) (P : Term → Type ℓ) → ((t : Term) → t.column < n → ((u : Term) → u.column < n → term_cmp o u t ≡ Less → P u) → P t) → (t : Term) → t.column < n → P t
by_term o n P step t h = by_order o (λ m. (j : ℕ) → j < n → P (record { monomial = m; column = j }))
    (λ m ih j l. columns m (λ p q k. ih p q k) n j l (omega arith)) t.monomial t.column h
  where
    columns : (m : Monomial) → ((p : Monomial) → order_cmp o p m ≡ Less → (j : ℕ) → j < n → P (record { monomial = p; column = j })) → (c j : ℕ) → j < n → n ≤ c + j → P (record { monomial = m; column = j })
    columns m ih zero j l k = absurd (omega arith)
    columns m ih (suc c) j l k = step _ l (λ u ul less. by (columns m ih c) u ul (order_cmp o u.monomial m) refl less)
      where
        by : ((i : ℕ) → i < n → n ≤ c + i → P (record { monomial = m; column = i })) → (u : Term) → u.column < n → (r : Ordering) → order_cmp o u.monomial m ≡ r → ordering_then r (nat_cmp j u.column) ≡ Less → P u
        by here u ul Less e less = ih u.monomial e u.column ul
        by here u ul Equal e less = subst (λ q. P (record { monomial = q; column = u.column })) (sym (order_apart o u.monomial m e)) (here u.column ul (let g = number_less j u.column less in omega arith))
        by here u ul Greater e less = absurd (true≢false (ap is_lt (sym less)))
