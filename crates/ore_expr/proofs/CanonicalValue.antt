-- The value of the tree of an operator: the operator.
--     AreOwn             no two terms have one monomial
--     falling_own        so it is of falling terms
--     Owns, own_terms    each of some terms has its number as coefficient in the sum of all; so it is where no two have
--                        one monomial
--     plus_apart         a term is added to an operator that lacks its monomial, and nothing stops
--     TermGives          the value of the tree of a term is the term without its sign
--     canonical_value    the value of the tree of some terms is their sum
use Rattle.std.proofs.Common.{◌≡◌, ◌≢◌, ℕ, Bool, true, T, List, [], ◌∷◌, ℤ, pos, negsuc, neg_ℤ, nat_abs, refl, sym, ap, ◌∙◌}
use Rattle.std.specs.declared.cmp.Ordering.TheVariants.{Less, Equal}
use Rattle.std.specs.Cmp.{tied_itself}
use Rattle.std.specs.FinMap.{is_sorted}
use Rattle.std.specs.FinMap.Entries.{below_all}
use Rattle.std.specs.declared.result.Result.{Result}
use Rattle.std.specs.declared.result.Result.TheVariants.{Ok}
use Rattle.std.specs.List.{AllByRecursion}
use Rattle.ore_algebra.specs.Free.{empty_sum, single, plus, collect, terms, coefficient, sum_at}
use Rattle.ore_algebra.specs.Limits.{Cause, Overflow, program, guard, ◌>>=◌}
use Rattle.ore_algebra.proofs.FreeLaws
use Rattle.ore_algebra.proofs.DomainLaws.{zero_plus}
use Rattle.ore_rational.specs.Fraction.{Fraction, whole, neg, add}
use Rattle.ore_rational.specs.Within.{sum_fits}
use Rattle.ore_rational.specs.Field.{rationals}
use Rattle.ore_rational.specs.FractionRing.{fraction_discrete}
use Rattle.ore_rational.proofs.FractionLaws.{same_parts, neg-num, neg-den}
use Rattle.ore_monomial.specs.Monomial.{Monomial, plain_cmp, order_cmp}
use Rattle.ore_monomial.specs.declared.order.Order.{Order}
use Rattle.ore_monomial.specs.Numbers.{back}
use Rattle.ore_monomial.specs.Signature.{Signature}
use Rattle.ore_monomial.specs.LetterRule.{Operator}
use Rattle.ore_monomial.proofs.Monomials.{plain_cmp_total, plain_cmp_apart, order_total}
use Rattle.ore_monomial.proofs.Operators
use Rattle.ore_ring.specs.Terms.{Summand as OneTerm, Terms, IsFalling}
use Rattle.ore_ring.specs.Within.{shared_fits, all_shared_fit, plus_within, opposite, minus_within}
use Rattle.ore_ring.proofs.AllTerms.{all_of_passes, distinct-terms, apart-terms}
use Rattle.ore_ring.proofs.Falls.{first, second, less_of}
use Rattle.ore_ring.proofs.OpSums.{minus_one_times}
use Rattle.ore_ring.proofs.TermLaws.{C}
use Rattle.ore_expr.specs.Grammar.{Expression, Term}
use Rattle.ore_expr.specs.Values.{zero_operator, expression_value, term_value, factor_value, atom_value}
use Rattle.ore_expr.proofs.CanonicalTree.{term_tree, first_tree, next_tree, later_tree, canonical_tree}
use Rattle.ore_expr.proofs.CanonicalTermValue.{size}

abbrev one_of : Monomial → Fraction → Operator rationals
one_of = single rationals plain_cmp

abbrev at : Operator rationals → Monomial → Fraction
at = coefficient rationals plain_cmp

-- ---- terms of which no two have one monomial

abbrev pub AreOwn : Terms → Type 0
AreOwn [] = Unit {0}
AreOwn (t ∷ ts) = AllByRecursion (λ (u : OneTerm). u.0 ≢ t.0) ts × AreOwn ts

below_own : (o : Order) (m : Monomial) (ts : Terms) → T (below_all (back o) m ts) → AllByRecursion (λ (u : OneTerm). u.0 ≢ m) ts
below_own o m [] h = tt
below_own o m (t ∷ ts) h = (λ e. less_self (sym (less_of _ (first _ _ h)) ∙ ap (λ n. order_cmp o n m) e ∙ tied_itself (order_total o) m), below_own o m ts (second _ _ h))
  where
    less_self : Less ≡ Equal → ⊥
    less_self e = cc

sorted_own : (o : Order) (ts : Terms) → T (is_sorted (back o) ts) → AreOwn ts
sorted_own o [] h = tt
sorted_own o (t ∷ ts) h = (below_own o t.0 ts (first _ _ h), sorted_own o ts (second _ _ h))

pub falling_own : (o : Order) (ts : Terms) → IsFalling o ts → AreOwn ts
falling_own o ts h = sorted_own o ts h.falls

at-cons : (t : OneTerm) (ts : Terms) (m : Monomial) → at (C (t ∷ ts)) m ≡ add (at (one_of t.0 t.1) m) (at (C ts) m)
at-cons t ts m = ap (λ f. at f m) (Operators.collect_more rationals t.0 t.1 ts) ∙ Operators.coefficient-plus rationals (one_of t.0 t.1) (C ts) m

at-none : (m : Monomial) → at (C []) m ≡ whole (pos 0)
unfolding empty_sum
at-none m = Operators.coefficient-empty_sum rationals m

at_lacks : (m : Monomial) (ts : Terms) → AllByRecursion (λ (u : OneTerm). u.0 ≢ m) ts → at (C ts) m ≡ whole (pos 0)
at_lacks m [] h = at-none m
at_lacks m (t ∷ ts) h =
    at-cons t ts m
    ∙ (λ i. add (Operators.coefficient-other rationals t.0 t.1 m (λ e. h.0 (sym e)) i) (at_lacks m ts h.1 i))
    ∙ zero_plus rationals (whole (pos 0))

abbrev pub Owns : Terms → Terms → Type 0
Owns all ts = AllByRecursion (λ (u : OneTerm). at (C all) u.0 ≡ u.1) ts

owns_more : (t : OneTerm) (all ts : Terms) → AllByRecursion (λ (u : OneTerm). u.0 ≢ t.0) ts → Owns all ts → Owns (t ∷ all) ts
owns_more t all [] h k = tt
owns_more t all (u ∷ ts) h k = (
  at-cons t all u.0
      ∙ ap (λ x. add x (at (C all) u.0)) (Operators.coefficient-other rationals t.0 t.1 u.0 h.0)
      ∙ zero_plus rationals (at (C all) u.0)
      ∙ k.0,
  owns_more t all ts h.1 k.1,
)

pub own_terms : (ts : Terms) → AreOwn ts → Owns ts ts
own_terms [] h = tt
own_terms (t ∷ ts) h = (
  at-cons t ts t.0
      ∙ (λ i. add (Operators.coefficient-own rationals t.0 t.1 i) (at_lacks t.0 ts h.0 i))
      ∙ rationals.plus_zero t.1,
  owns_more t ts ts h.0 (own_terms ts h.1),
)

-- ---- a term more

shared_lacks : (x y : Fraction) → y ≡ whole (pos 0) → shared_fits program x y ≡ true
unfolding shared_fits
shared_lacks x y e = by (fraction_discrete y (whole (pos 0)))
  where
    by : (d : Dec (y ≡ whole (pos 0))) → ◌≡◌ {A = Bool} (elim d [ yes e ↦ true | no n ↦ sum_fits program x y ]) true
    by (yes e) = refl
    by (no n) = absurd (n e)

pub plus_apart : (f : Operator rationals) (m : Monomial) (k : Fraction) → at f m ≡ whole (pos 0) → plus_within program f (one_of m k) ≡ Ok (plus rationals plain_cmp f (one_of m k))
unfolding plus_within all_shared_fit
plus_apart f m k e =
    ap (λ b. guard b (plus rationals plain_cmp f (one_of m k)) Overflow)
    (all_of_passes _ (terms rationals plain_cmp f) (distinct-terms f) (apart-terms plain_cmp f)
    (λ q n. shared_lacks (sum_at rationals plain_cmp q (terms rationals plain_cmp f)) (at (one_of m k) q)
    (Operators.coefficient-other rationals m k q (λ d. n (FreeLaws.sum_at-terms rationals plain_cmp_total plain_cmp_apart f q ∙ ap (at f) d ∙ e)))))

opposite_one : (m : Monomial) (k : Fraction) → opposite (one_of m k) ≡ one_of m (neg k)
unfolding opposite
opposite_one m k = Operators.scale-single rationals (neg (whole (pos 1))) k m ∙ ap (one_of m) (minus_one_times k)

minus_apart : (f : Operator rationals) (m : Monomial) (k : Fraction) → at f m ≡ whole (pos 0) → minus_within program f (one_of m k) ≡ Ok (plus rationals plain_cmp f (one_of m (neg k)))
minus_apart f m k e = ap (plus_within program f) (opposite_one m k) ∙ plus_apart f m (neg k) e

size_positive : (q : Fraction) (n : ℕ) → q.num ≡ pos n → size q ≡ q
size_positive q n e = same_parts (size q) q (ap (λ z. pos (nat_abs z)) e ∙ sym e) refl

size_negative : (q : Fraction) (n : ℕ) → q.num ≡ negsuc n → neg (size q) ≡ q
size_negative q n e = same_parts (neg (size q)) q (neg-num (size q) ∙ ap (λ z. neg_ℤ (pos (nat_abs z))) e ∙ sym e) (ap pos (neg-den (size q)))

module _ (s : Signature) (all : List (List ℕ)) where
  abbrev value : Expression → Result (Operator rationals) Cause
  value e = expression_value program s all e

  abbrev pub TermGives : OneTerm → Type 0
  TermGives t = term_value program s all (term_tree all t) ≡ Ok (one_of t.0 (size t.1))

  first_value : (t : OneTerm) → TermGives t → value (first_tree t.1.num (term_tree all t)) ≡ Ok (one_of t.0 t.1)
  unfolding expression_value
  first_value t g = by t.1.num refl
    where
      tree : Term
      tree = term_tree all t

      by : (z : ℤ) → t.1.num ≡ z → value (first_tree z tree) ≡ Ok (one_of t.0 t.1)
      by (pos n) e = g ∙ ap (λ q. Ok (one_of t.0 q)) (size_positive t.1 n e)
      by (negsuc n) e =
          ap (λ r. r >>= λ h. minus_within program zero_operator h) g
          ∙ minus_apart zero_operator t.0 (size t.1) (Operators.coefficient-empty_sum rationals t.0)
          ∙ ap Ok (Operators.zero-plus rationals (one_of t.0 (neg (size t.1))))
          ∙ ap (λ q. Ok (one_of t.0 q)) (size_negative t.1 n e)

  next_value : (e : Expression) (f : Operator rationals) (t : OneTerm) → value e ≡ Ok f → TermGives t → at f t.0 ≡ whole (pos 0) → value (next_tree t.1.num e (term_tree all t)) ≡ Ok (plus rationals plain_cmp f (one_of t.0 t.1))
  unfolding expression_value
  next_value e f t v g a = by t.1.num refl
    where
      tree : Term
      tree = term_tree all t

      by : (z : ℤ) → t.1.num ≡ z → value (next_tree z e tree) ≡ Ok (plus rationals plain_cmp f (one_of t.0 t.1))
      by (pos n) d =
          (λ i. v i >>= λ f. g i >>= λ h. plus_within program f h)
          ∙ plus_apart f t.0 (size t.1) a
          ∙ ap (λ q. Ok (plus rationals plain_cmp f (one_of t.0 q))) (size_positive t.1 n d)
      by (negsuc n) d =
          (λ i. v i >>= λ f. g i >>= λ h. minus_within program f h)
          ∙ minus_apart f t.0 (size t.1) a
          ∙ ap (λ q. Ok (plus rationals plain_cmp f (one_of t.0 q))) (size_negative t.1 n d)

  abbrev Lacks : Operator rationals → Terms → Type 0
  Lacks f ts = AllByRecursion (λ (u : OneTerm). at f u.0 ≡ whole (pos 0)) ts

  lacks_more : (f : Operator rationals) (t : OneTerm) (ts : Terms) → AllByRecursion (λ (u : OneTerm). u.0 ≢ t.0) ts → Lacks f ts → Lacks (plus rationals plain_cmp f (one_of t.0 t.1)) ts
  lacks_more f t [] h k = tt
  lacks_more f t (u ∷ ts) h k = (
    Operators.coefficient-plus rationals f (one_of t.0 t.1) u.0
        ∙ (λ i. add (k.0 i) (Operators.coefficient-other rationals t.0 t.1 u.0 h.0 i))
        ∙ zero_plus rationals (whole (pos 0)),
    lacks_more f t ts h.1 k.1,
  )

  later_value : (e : Expression) (f : Operator rationals) (ts : Terms) → AreOwn ts → Lacks f ts → AllByRecursion TermGives ts → value e ≡ Ok f → value (later_tree all e ts) ≡ Ok (plus rationals plain_cmp f (C ts))
  unfolding empty_sum
  later_value e f [] o l g v = v ∙ ap Ok (sym (Operators.plus_zero rationals f))
  later_value e f (t ∷ ts) o l g v =
      later_value (next_tree t.1.num e (term_tree all t)) (plus rationals plain_cmp f (one_of t.0 t.1)) ts o.1 (lacks_more f t ts o.0 l.1) g.1 (next_value e f t v g.0 l.0)
      ∙ ap Ok (Operators.plus_assoc rationals f (one_of t.0 t.1) (C ts) ∙ ap (plus rationals plain_cmp f) (sym (Operators.collect_more rationals t.0 t.1 ts)))

  lacks_first : (t : OneTerm) (ts : Terms) → AllByRecursion (λ (u : OneTerm). u.0 ≢ t.0) ts → Lacks (one_of t.0 t.1) ts
  lacks_first t [] h = tt
  lacks_first t (u ∷ ts) h = (Operators.coefficient-other rationals t.0 t.1 u.0 h.0, lacks_first t ts h.1)

  pub canonical_value : (ts : Terms) → AreOwn ts → AllByRecursion TermGives ts → value (canonical_tree all ts) ≡ Ok (C ts)
  unfolding expression_value term_value factor_value atom_value empty_sum
  canonical_value [] o g = ap Ok (Operators.single_zero rationals _)
  canonical_value (t ∷ ts) o g =
      later_value (first_tree t.1.num (term_tree all t)) (one_of t.0 t.1) ts o.1 (lacks_first t ts o.0) g.1 (first_value t g.0)
      ∙ ap Ok (sym (Operators.collect_more rationals t.0 t.1 ts))
