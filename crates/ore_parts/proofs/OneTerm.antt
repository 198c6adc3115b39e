-- Operators of one term.
--     term_found, term_or_none     the term of an operator that has one
--     term_only, one_long     an operator of one term has one
--     IsTermOf             an operator has one term, this
--     one                  the term of an operator with one term
--     the_terms            the terms of an operator that is a single term
use Rattle.std.proofs.Common.{◌≡◌, ℕ, [], ◌∷◌, length, Option, None, Some, sym, ap, subst, ◌∙◌, arith}
use Rattle.std.specs.Prelude.{IfSome, MatchOption, slice_get}
use Rattle.ore_algebra.specs.Free.{single}
use Rattle.ore_rational.specs.Fraction.{Fraction}
use Rattle.ore_rational.specs.Field.{rationals}
use Rattle.ore_monomial.specs.Monomial.{Monomial, plain_cmp}
use Rattle.ore_monomial.specs.Numbers.{AreNonZero}
use Rattle.ore_ring.specs.Ordered.{Ordered}
use Rattle.ore_ring.specs.Terms.{Summand, Terms, falling}
use Rattle.ore_ring.proofs.AllTerms.{falls-falling}
use Rattle.ore_ring.proofs.Falls.{single_falling}
use Rattle.ore_text.specs.CanonicalParts.{falling_terms}
use Rattle.ore_text.proofs.Walking.{same_operator}

abbrev IsTermOf : Ordered → Summand → Type 0
IsTermOf g t = ¬ (t.1 ≡ rationals.zero) × (g.sum ≡ single rationals plain_cmp t.0 t.1)

one : (g : Ordered) (ts : Terms) → falling_terms g ≡ ts → AreNonZero rationals ts → length ts ≡ 1 → IfSome (slice_get ts 0) (IsTermOf g)
one g [] is apart l = absurd (let z : ⊥ = omega arith in z)
one g (t ∷ u ∷ ts) is apart l = absurd (let z : ⊥ = omega arith in z)
one g (t ∷ []) is apart l = (apart.0, same_operator g.by (single rationals plain_cmp t.0 t.1) g (single_falling g.by t.0 t.1 apart.0 ∙ sym is))

term_found : (g : Ordered) (n : ℕ) (r : Option Summand) → n ≡ length (falling_terms g) → n ≡ 1 → r ≡ slice_get (falling_terms g) 0 → IfSome r (IsTermOf g)
term_found g n r count e is = subst (λ r. IfSome r (IsTermOf g)) (sym is) (one g (falling_terms g) (λ i. falling_terms g) (falls-falling g.by g.sum).apart (sym count ∙ e))

module _ (g : Ordered) (m : Monomial) (x : Fraction) where
  the_terms : ¬ (x ≡ rationals.zero) → g.sum ≡ single rationals plain_cmp m x → falling_terms g ≡ (m, x) ∷ []
  the_terms n e = ap (falling g.by) e ∙ single_falling g.by m x n

  pub one_long : ¬ (x ≡ rationals.zero) → g.sum ≡ single rationals plain_cmp m x → length (falling_terms g) ≡ 1
  one_long n e = ap length (the_terms n e)

  term_only : (r : Option Summand) → ¬ (x ≡ rationals.zero) → g.sum ≡ single rationals plain_cmp m x → r ≡ slice_get (falling_terms g) 0 → MatchOption r ⊥ (λ t. (t.0 ≡ m) × (t.1 ≡ x))
  term_only r n e is = subst (λ r. MatchOption r ⊥ (λ (t : Summand). (t.0 ≡ m) × (t.1 ≡ x))) (sym (is ∙ ap (λ ts. slice_get ts 0) (the_terms n e))) (λ i. m, λ i. x)

pub term_or_none : (g : Ordered) (n : ℕ) (r : Option Summand) → n ≡ length (falling_terms g) → n ≡ 1 → r ≡ slice_get (falling_terms g) 0
    → MatchOption r ((m : Monomial) (x : Fraction) → ¬ (x ≡ rationals.zero) → g.sum ≡ single rationals plain_cmp m x → ⊥) (IsTermOf g)
term_or_none g n None count e is = λ m x h k. term_only g m x None h k is
term_or_none g n (Some t) count e is = term_found g n (Some t) count e is
