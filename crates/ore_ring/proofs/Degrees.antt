-- Degrees of falling terms: the first term of each list decides whether a product keeps the degree.
--     graded             a lesser monomial has no greater degree
--     first_decides      of two lists with a first term; none_decides, decides_none of an empty one
--     AreSmall           no two terms have degrees with a sum above 32,767
--     are_small          so it is where the test passes
--     of_empty, at_empty, firsts_decide    the same in the words of the code
use Rattle.std.proofs.Common.{◌≡◌, ℕ, ◌+◌, ◌<◌, ◌≤◌, Bool, true, false, ◌&&◌, T, [], ◌∷◌, refl, sym, ap, ◌∙◌, true≢false, arith, nat_cmp, reverse, length, get_or, ◌==◌, suc}
use Rattle.std.specs.Prelude.{nat_le}
use Rattle.std.specs.declared.cmp.Ordering.{Ordering}
use Rattle.std.specs.declared.cmp.Ordering.TheVariants.{Less, Equal, Greater}
use Rattle.std.specs.Ordering.{ordering_then, is_lt, MatchOrdering}
use Rattle.std.specs.List.{All, list_all}
use Rattle.std.specs.FinMap.Entries.{below_all}
use Rattle.std.proofs.lemmas.Cmp.{ranked}
use Rattle.std.proofs.lemmas.Bool.Decides.{nat_tests}
use Rattle.std.proofs.lemmas.List.Elements.{All-nil, All-cons}
use Rattle.ore_monomial.specs.Monomial.{Monomial, order_cmp, degree, plain_cmp}
use Rattle.ore_monomial.specs.declared.order.Order.{Order}
use Rattle.ore_monomial.specs.declared.order.Order.TheVariants.{DegLex, DegRevLex}
use Rattle.std.specs.Cmp.Lexicographic.{slice_cmp}
use Rattle.std.proofs.lemmas.Bool.{and_from, le-leb, leb-true}
use Rattle.ore_algebra.specs.Limits.{program}
use Rattle.ore_ring.specs.Terms.{Summand, Terms, IsFalling}
use Rattle.ore_monomial.specs.Numbers.{back}
use Rattle.ore_ring.specs.Within.{degrees_fit}
use Rattle.ore_ring.proofs.Falls.{first, second, less_of, left_true, right_true}

then_less : (m n : Monomial) (r x : Ordering) → MatchOrdering r (degree m < degree n) (degree m ≡ degree n) (degree n < degree m) → ordering_then r x ≡ Less → degree m ≤ degree n
then_less m n Less x k h = omega arith
then_less m n Equal x k h = omega arith
then_less m n Greater x k h = absurd (true≢false (ap is_lt (sym h)))

-- both orders are graded
pub graded : (o : Order) (m n : Monomial) → order_cmp o m n ≡ Less → degree m ≤ degree n
graded DegLex m n e = then_less m n (nat_cmp (degree m) (degree n)) (plain_cmp m n) (ranked (degree m) (degree n) (nat_cmp (degree m) (degree n)) refl) e
graded DegRevLex m n e = then_less m n (nat_cmp (degree m) (degree n)) (slice_cmp nat_cmp (reverse n.exponents) (reverse m.exponents)) (ranked (degree m) (degree n) (nat_cmp (degree m) (degree n)) refl) e

row_fits : (o : Order) (d : ℕ) (u : Summand) (us : Terms) → T (below_all (back o) u.0 us) → d + degree u.0 ≤ 32767 → list_all (λ v. nat_le (d + degree v.0) 32767) us ≡ true
row_fits o d u [] h k = refl
row_fits o d u (v ∷ us) h k =
    let g = graded o v.0 u.0 (less_of _ (first _ _ h)) in
    λ i. le-leb (d + degree v.0) 32767 (omega arith) i && row_fits o d u us (second _ _ h) k i

whole_row : (o : Order) (d : ℕ) (u : Summand) (us : Terms) → T (below_all (back o) u.0 us) → d + degree u.0 ≤ 32767 → list_all (λ v. nat_le (d + degree v.0) 32767) (u ∷ us) ≡ true
whole_row o d u us h k = and_from _ _ (le-leb (d + degree u.0) 32767 k) (row_fits o d u us h k)

rows_fit : (o : Order) (t u : Summand) (ts us : Terms) → T (below_all (back o) t.0 ts) → T (below_all (back o) u.0 us) → degree t.0 + degree u.0 ≤ 32767 → list_all (λ s. list_all (λ v. nat_le (degree s.0 + degree v.0) 32767) (u ∷ us)) ts ≡ true
rows_fit o t u [] us h k l = refl
rows_fit o t u (s ∷ ts) us h k l =
    let g = graded o s.0 t.0 (less_of _ (first _ _ h)) in
    and_from _ _ (whole_row o (degree s.0) u us k (omega arith)) (rows_fit o t u ts us (second _ _ h) k l)

pub first_decides : (o : Order) (t u : Summand) (ts us : Terms) → IsFalling o (t ∷ ts) → IsFalling o (u ∷ us) → degrees_fit program (t ∷ ts) (u ∷ us) ≡ nat_le (degree t.0 + degree u.0) 32767
unfolding degrees_fit
first_decides o t u ts us h k = by (nat_le (degree t.0 + degree u.0) 32767) refl
  where
    by : (b : Bool) → nat_le (degree t.0 + degree u.0) 32767 ≡ b
        → ((nat_le (degree t.0 + degree u.0) 32767 && list_all (λ v. nat_le (degree t.0 + degree v.0) 32767) us) && list_all (λ s. list_all (λ v. nat_le (degree s.0 + degree v.0) 32767) (u ∷ us)) ts) ≡ b
    by true e =
        let l = leb-true (degree t.0 + degree u.0) 32767 e in
        and_from _ _ (and_from _ _ e (row_fits o (degree t.0) u us (first _ _ k.falls) l)) (rows_fit o t u ts us (first _ _ h.falls) (first _ _ k.falls) l)
    by false e = ap (λ b. (b && list_all (λ v. nat_le (degree t.0 + degree v.0) 32767) us) && list_all (λ s. list_all (λ v. nat_le (degree s.0 + degree v.0) 32767) (u ∷ us)) ts) e

pub none_decides : (us : Terms) → degrees_fit program [] us ≡ true
unfolding degrees_fit
none_decides us = refl

pub decides_none : (ts : Terms) → degrees_fit program ts [] ≡ true
unfolding degrees_fit
decides_none [] = refl
decides_none (t ∷ ts) = decides_none ts

abbrev pub AreSmall : Terms → Terms → Type 0
AreSmall ts us = All (λ t. All (λ u. degree t.0 + degree u.0 ≤ 32767) us) ts

row_small : (d : ℕ) (us : Terms) → list_all (λ v. nat_le (d + degree v.0) 32767) us ≡ true → All (λ u. d + degree u.0 ≤ 32767) us
row_small d [] e = All-nil (λ (u : Summand). d + degree u.0 ≤ 32767)
row_small d (u ∷ us) e = All-cons (λ (u : Summand). d + degree u.0 ≤ 32767) u us (leb-true (d + degree u.0) 32767 (left_true _ _ e)) (row_small d us (right_true _ _ e))

pub are_small : (ts us : Terms) → degrees_fit program ts us ≡ true → AreSmall ts us
unfolding degrees_fit
are_small [] us e = All-nil (λ (t : Summand). All (λ u. degree t.0 + degree u.0 ≤ 32767) us)
are_small (t ∷ ts) us e = All-cons (λ (t : Summand). All (λ u. degree t.0 + degree u.0 ≤ 32767) us) t ts (row_small (degree t.0) us (left_true _ _ e)) (are_small ts us (right_true _ _ e))

not_zero : (n : ℕ) → (suc n == 0) ≡ false
not_zero n = grind (arith, nat_tests)

pub of_empty : (ts us : Terms) → true ≡ (length ts == 0) → true ≡ degrees_fit program ts us
of_empty [] us e = sym (none_decides us)
of_empty (t ∷ ts) us e = absurd (true≢false (e ∙ not_zero (length ts)))

pub at_empty : (ts us : Terms) → true ≡ (length us == 0) → true ≡ degrees_fit program ts us
at_empty ts [] e = sym (decides_none ts)
at_empty ts (u ∷ us) e = absurd (true≢false (e ∙ not_zero (length us)))

pub firsts_decide : (o : Order) (ts us : Terms) (t u : Summand) → IsFalling o ts → IsFalling o us → false ≡ (length ts == 0) → false ≡ (length us == 0) → nat_le (degree (get_or ts 0 t).0 + degree (get_or us 0 u).0) 32767 ≡ degrees_fit program ts us
firsts_decide o [] us t u h k e f = absurd (true≢false (sym e))
firsts_decide o (s ∷ ts) [] t u h k e f = absurd (true≢false (sym f))
firsts_decide o (s ∷ ts) (v ∷ us) t u h k e f = sym (first_decides o s v ts us h k)
