-- Lists of falling terms.
--     both, first, second     a test of two tests; left_true, right_true the same as an equation
--     less_of, of_less        the test for Less
--     falls_none, falls_tail, falls_snoc     no terms, all but the first, one more at the end
--     below_more, below_snoc  what is below all terms of a list
--     falling-none            the operator zero has no terms
--     single_falling          the one term of an operator
use Rattle.std.proofs.Common.{◌≡◌, ◌≢◌, true≢false, Bool, true, false, ◌&&◌, T, [], ◌∷◌, ◌++◌, pos, refl, sym, subst}
use Rattle.std.specs.declared.cmp.Ordering.{Ordering}
use Rattle.std.specs.declared.cmp.Ordering.TheVariants.{Less, Equal, Greater}
use Rattle.std.specs.Ordering.{is_lt}
use Rattle.std.specs.FinMap.{is_sorted}
use Rattle.std.specs.FinMap.Entries.{below_all}
use Rattle.ore_rational.specs.Fraction.{Fraction, whole}
use Rattle.ore_monomial.specs.Monomial.{Monomial, order_cmp, plain_cmp}
use Rattle.ore_monomial.specs.declared.order.Order.{Order}
use Rattle.ore_algebra.specs.Free.{empty_sum, single}
use Rattle.ore_monomial.proofs.Monomials.{order_total}
use Rattle.ore_rational.specs.Field.{rationals}
use Rattle.ore_ring.specs.Terms.{Summand, Terms, falling, IsFalling, IsBelowLast}
use Rattle.ore_monomial.specs.Numbers.{back, AreNonZero}
use Rattle.ore_ring.proofs.TermLaws.{falling-collect}

pub both : (a b : Bool) → T a → T b → T (a && b)
both true b p q = q
both false b p q = p

pub first : (a b : Bool) → T (a && b) → T a
first true b p = tt
first false b p = p

pub second : (a b : Bool) → T (a && b) → T b
second true b p = p
second false b p = absurd p

pub left_true : (a b : Bool) → (a && b) ≡ true → a ≡ true
left_true true b e = refl
left_true false b e = absurd (true≢false (sym e))

pub right_true : (a b : Bool) → (a && b) ≡ true → b ≡ true
right_true true b e = e
right_true false b e = absurd (true≢false (sym e))

pub less_of : (r : Ordering) → T (is_lt r) → r ≡ Less
less_of Less p = refl
less_of Equal p = absurd p
less_of Greater p = absurd p

pub of_less : (r : Ordering) → r ≡ Less → T (is_lt r)
of_less r e = subst (λ r. T (is_lt r)) (sym e) tt

pub falls_none : (o : Order) → IsFalling o []
falls_none o = record { falls = tt; apart = tt }

pub falls_tail : (o : Order) (t : Summand) (ts : Terms) → IsFalling o (t ∷ ts) → IsFalling o ts
falls_tail o t ts h = record { falls = second (below_all (back o) t.0 ts) _ h.falls; apart = h.apart.1 }

-- what is below a term is below what is above it
pub below_more : (o : Order) (m n : Monomial) (ts : Terms) → order_cmp o n m ≡ Less → T (below_all (back o) n ts) → T (below_all (back o) m ts)
below_more o m n [] e h = tt
below_more o m n (t ∷ ts) e h = both _ _ (of_less _ ((order_total o).trans t.0 n m (less_of _ (first _ _ h)) e)) (below_more o m n ts e (second _ _ h))

pub below_snoc : (o : Order) (m : Monomial) (ts : Terms) (t : Summand) → T (below_all (back o) m ts) → order_cmp o t.0 m ≡ Less → T (below_all (back o) m (ts ++ t ∷ []))
below_snoc o m [] t h e = both _ _ (of_less _ e) tt
below_snoc o m (u ∷ ts) t h e = both _ _ (first _ _ h) (below_snoc o m ts t (second _ _ h) e)

last_below : (o : Order) (t : Summand) (ts : Terms) (m : Monomial) → T (is_sorted (back o) (t ∷ ts)) → IsBelowLast o (t ∷ ts) m → order_cmp o m t.0 ≡ Less
last_below o t [] m h b = b
last_below o t (u ∷ ts) m h b = (order_total o).trans m u.0 t.0 (last_below o u ts m (second _ _ h) b) (less_of _ (first _ _ (first _ _ h)))

sorted_snoc : (o : Order) (ts : Terms) (t : Summand) → T (is_sorted (back o) ts) → IsBelowLast o ts t.0 → T (is_sorted (back o) (ts ++ t ∷ []))
sorted_snoc o [] t h b = tt
sorted_snoc o (u ∷ []) t h b = both _ _ (both _ _ (of_less _ b) tt) tt
sorted_snoc o (u ∷ v ∷ ts) t h b = both _ _ (below_snoc o u.0 (v ∷ ts) t (first _ _ h) (last_below o u (v ∷ ts) t.0 h b)) (sorted_snoc o (v ∷ ts) t (second _ _ h) b)

apart_snoc : (ts : Terms) (t : Summand) → AreNonZero rationals ts → t.1 ≢ whole (pos 0) → AreNonZero rationals (ts ++ t ∷ [])
apart_snoc [] t h n = (n, tt)
apart_snoc (u ∷ ts) t h n = (h.0, apart_snoc ts t h.1 n)

pub falls_snoc : (o : Order) (ts : Terms) (t : Summand) → IsFalling o ts → IsBelowLast o ts t.0 → t.1 ≢ whole (pos 0) → IsFalling o (ts ++ t ∷ [])
falls_snoc o ts t h b n = record { falls = sorted_snoc o ts t h.falls b; apart = apart_snoc ts t h.apart n }

pub falling-none : (o : Order) → falling o (empty_sum rationals plain_cmp) ≡ []
unfolding empty_sum
falling-none o = falling-collect o [] (falls_none o)

pub single_falling : (o : Order) (m : Monomial) (x : Fraction) → x ≢ whole (pos 0) → falling o (single rationals plain_cmp m x) ≡ (m, x) ∷ []
unfolding single
single_falling o m x n = falling-collect o ((m, x) ∷ []) (falls_snoc o [] (m, x) (falls_none o) tt n)
