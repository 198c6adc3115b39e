-- The product of two monomials, from its sorted terms.
--     numbers_are     sorted terms of the closed form are the falling terms of the product
--     pass_small      where the degrees are small, only its whole numbers can be beyond limits
--     pass_ok, pass_degree, pass_over    what the product within the limits of the program is
--     pass_unlimited, pass_is            without limits it is the product, and what is answered within limits is that
use Rattle.std.proofs.Common.{◌≡◌, ◌+◌, ◌≤◌, Bool, true, false, cond, nat_le, [], ◌∷◌, refl, sym, ap, ◌∙◌, true≢false, arith}
use Rattle.std.specs.Prelude.{nat_abs}
use Rattle.std.specs.List.Sorted.{IsPermutation, IsSortedBy}
use Rattle.std.specs.Ordering.{is_lt, flip_args}
use Rattle.std.specs.declared.result.Result.TheVariants.{Ok, Err}
use Rattle.std.proofs.lemmas.Bool.Decides.{nat_tests}
use Rattle.ore_algebra.specs.Limits.{Overflow, Degree, Limits, program, unlimited, is_within, guard}
use Rattle.ore_algebra.specs.Free.{terms, collect}
use Rattle.ore_algebra.proofs.Integers.{integers}
use Rattle.ore_monomial.specs.Monomial.{Monomial, degree, order_cmp, plain_cmp}
use Rattle.ore_monomial.specs.Signature.{Signature}
use Rattle.ore_commute.specs.ClosedForm.{closed_form}
use Rattle.ore_commute.specs.Product.{IntegerTerms, pass_within}
use Rattle.ore_monomial.specs.Numbers.{numbers, falling_over, are_within, numbers_within}
use Rattle.ore_commute.proofs.Kept.{closed_form_is, closed_form_apart, closed_form_numbers}
use Rattle.ore_commute.proofs.Falling.{falls_sorted, all-permuted, all_from_falling}

abbrev pub AreSorted : Signature → IntegerTerms → Type 0
AreSorted s us = IsSortedBy (λ t u. is_lt (flip_args (order_cmp s.order) t.0 u.0)) us

module _ (s : Signature) (m n : Monomial) where
  falling_terms : numbers s m n ≡ terms integers (flip_args (order_cmp s.order)) (collect integers (flip_args (order_cmp s.order)) (terms integers plain_cmp (collect integers plain_cmp (closed_form integers s m n))))
  unfolding numbers falling_over
  falling_terms = ap (λ f. terms integers (flip_args (order_cmp s.order)) (collect integers (flip_args (order_cmp s.order)) (terms integers plain_cmp f))) (closed_form_is integers s m n)

  pub numbers_are : (us : IntegerTerms) → IsPermutation (closed_form integers s m n) us → AreSorted s us → numbers s m n ≡ us
  numbers_are us p sorted = falling_terms ∙ falls_sorted s.order (closed_form integers s m n) us (closed_form_apart integers s m n) (closed_form_numbers integers s m n) p sorted

  degree_fits : degree m + degree n ≤ 32767 → nat_le (degree m + degree n) 32767 ≡ true
  degree_fits h = grind (arith, nat_tests)

  degree_stops : (degree m + degree n ≤ 32767 → ⊥) → nat_le (degree m + degree n) 32767 ≡ false
  degree_stops h = grind (arith, nat_tests)

  pub pass_degree : (degree m + degree n ≤ 32767 → ⊥) → pass_within program s m n ≡ Err Degree
  unfolding pass_within
  pass_degree h = ap (λ b. cond b (numbers_within program (numbers s m n)) (Err Degree)) (degree_stops h)

  pub pass_small : degree m + degree n ≤ 32767 → pass_within program s m n ≡ numbers_within program (numbers s m n)
  unfolding pass_within
  pass_small h = ap (λ b. cond b (numbers_within program (numbers s m n)) (Err Degree)) (degree_fits h)

  pass_tested : (b : Bool) → degree m + degree n ≤ 32767 → are_within program (numbers s m n) ≡ b → pass_within program s m n ≡ guard b (numbers s m n) Overflow
  unfolding numbers_within
  pass_tested b h e = pass_small h ∙ ap (λ c. guard c (numbers s m n) Overflow) e

  pub pass_ok : (us : IntegerTerms) → degree m + degree n ≤ 32767 → are_within program (closed_form integers s m n) ≡ true → IsPermutation (closed_form integers s m n) us → AreSorted s us → pass_within program s m n ≡ Ok us
  pass_ok us h within p sorted =
      let e = numbers_are us p sorted in
      pass_tested true h (ap (are_within program) e ∙ sym (all-permuted _ (closed_form integers s m n) us p) ∙ within) ∙ ap Ok e

  pub pass_over : degree m + degree n ≤ 32767 → are_within program (closed_form integers s m n) ≡ false → pass_within program s m n ≡ Err Overflow
  pass_over h beyond = pass_tested false h (by (are_within program (numbers s m n)) refl)
    where
      by : (b : Bool) → are_within program (numbers s m n) ≡ b → b ≡ false
      by false e = refl
      by true e = absurd (true≢false (sym (all_from_falling (λ z. is_within program.magnitude (nat_abs z)) s.order (closed_form integers s m n) (closed_form_apart integers s m n) (closed_form_numbers integers s m n) (ap (are_within program) (sym falling_terms) ∙ e)) ∙ beyond))

-- ---- without limits, and within any

module _ (s : Signature) (m n : Monomial) where
  pub pass_unlimited : pass_within unlimited s m n ≡ Ok (numbers s m n)
  unfolding pass_within numbers_within
  pass_unlimited = ap (λ b. guard b (numbers s m n) Overflow) (all_true (numbers s m n))
    where
      all_true : (ts : IntegerTerms) → are_within unlimited ts ≡ true
      all_true [] = refl
      all_true (t ∷ ts) = all_true ts

  -- what is answered within limits is the product
  pub pass_is : (l : Limits) (ts : IntegerTerms) → pass_within l s m n ≡ Ok ts → ts ≡ numbers s m n
  unfolding pass_within numbers_within
  pass_is l ts e = by (is_within l.degree (degree m + degree n)) (are_within l (numbers s m n)) e
    where
      by : (a b : Bool) → cond a (guard b (numbers s m n) Overflow) (Err Degree) ≡ Ok ts → ts ≡ numbers s m n
      by true true h = cc
      by true false h = absurd (cc)
      by false b h = absurd (cc)
