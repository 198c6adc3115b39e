-- The unknown coefficients of two operators, as keys of one sum.
--     Unknown              a truth value says of which of the two operators, a monomial at which place
--     of_first, of_second  the unknowns of the first and of the second operator
--     unknown_cmp          the order of unknowns: those of one operator stand together
--     is_on                an unknown is of this operator
--     part b x             the operator whose coefficients a sum x over unknowns has
--     total-part, coefficient-part    its totals and its coefficients
use Rattle.std.proofs.Common.{◌≡◌, ◌≢◌, Bool, true, false, cond, not, List, [], ◌∷◌, refl, sym, ap, ◌∙◌, true≢false}
use Rattle.std.specs.declared.cmp.Ordering.{Ordering}
use Rattle.std.specs.declared.cmp.Ordering.TheVariants.{Equal}
use Rattle.std.specs.Ordering.{on, then_cmp, bool_cmp, is_eq}
use Rattle.std.specs.Cmp.{IsTotalOrder, bool_cmp_total}
use Rattle.std.specs.FinMap.{IsAntisymmetric}
use Rattle.std.specs.List.{flat_map}
use Rattle.std.proofs.lemmas.Cmp.{on_total, then_total}
use Rattle.ore_algebra.specs.Domain.{Domain}
use Rattle.ore_algebra.specs.Free.{Free, coefficient, collect, terms}
use Rattle.ore_algebra.proofs.DomainLaws as Numbers
use Rattle.ore_algebra.proofs.FreeLaws.{weigh, weigh-append, total, total-is, total-collect, total_only}
use Rattle.ore_algebra.proofs.Orderings.{then_equal}
use Rattle.ore_monomial.specs.Monomial.{Monomial, plain_cmp}
use Rattle.ore_monomial.specs.LetterRule.{Operator}
use Rattle.ore_monomial.proofs.Monomials.{plain_cmp_total, plain_cmp_apart}
use Rattle.ore_monomial.proofs.Letters.{one_term}
use Rattle.ore_monomial.proofs.Operators

abbrev pub Unknown : Type 0
Unknown = Bool × Monomial

abbrev pub of_first : Monomial → Unknown
of_first m = (true, m)

abbrev pub of_second : Monomial → Unknown
of_second m = (false, m)

abbrev pub unknown_cmp : Unknown → Unknown → Ordering
unknown_cmp = then_cmp (on (λ i. i.0) bool_cmp) (on (λ i. i.1) plain_cmp)

pub unknown_total : IsTotalOrder unknown_cmp
unknown_total = then_total (on_total (λ i. i.0) bool_cmp_total) (on_total (λ i. i.1) plain_cmp_total)

bool_apart : (x y : Bool) → bool_cmp x y ≡ Equal → x ≡ y
bool_apart false false e = refl
bool_apart false true e = absurd (true≢false (ap is_eq (sym e)))
bool_apart true false e = absurd (true≢false (ap is_eq (sym e)))
bool_apart true true e = refl

pub unknown_apart : IsAntisymmetric unknown_cmp
unknown_apart i j e =
    let p = then_equal _ _ e in
    let a = bool_apart i.0 j.0 p.0 in
    let b = plain_cmp_apart i.1 j.1 p.1 in
    λ k. (a k, b k)

abbrev pub is_on : Bool → Bool → Bool
is_on true c = c
is_on false c = not c

module _ (K : Domain) where
  pub part : Bool → Free K unknown_cmp → Operator K
  part b x = collect K plain_cmp (flat_map (λ t. cond (is_on b t.0.0) ((t.0.1, t.1) ∷ []) []) (terms K unknown_cmp x))

  weigh-part : (b : Bool) (w : Monomial → K.Number) (ts : List (Unknown × K.Number)) → weigh K w (flat_map (λ t. cond (is_on b t.0.0) ((t.0.1, t.1) ∷ []) []) ts) ≡ weigh K (λ i. cond (is_on b i.0) (w i.1) K.zero) ts
  unfolding weigh
  weigh-part b w [] = refl
  weigh-part b w (t ∷ ts) =
      weigh-append K w (cond (is_on b t.0.0) ((t.0.1, t.1) ∷ []) []) _
      ∙ (λ i. K.plus (head (is_on b t.0.0) i) (weigh-part b w ts i))
    where
      head : (c : Bool) → weigh K w (cond c ((t.0.1, t.1) ∷ []) []) ≡ K.times t.1 (cond c (w t.0.1) K.zero)
      head true = K.plus_zero _
      head false = sym (Numbers.times_zero K t.1)

  pub total-part : (b : Bool) (w : Monomial → K.Number) (x : Free K unknown_cmp) → Operators.total K w (part b x) ≡ total K unknown_total unknown_apart (λ i. cond (is_on b i.0) (w i.1) K.zero) x
  unfolding part
  total-part b w x = total-collect K plain_cmp_total plain_cmp_apart w _ ∙ weigh-part b w (terms K unknown_cmp x) ∙ sym (total-is K unknown_total unknown_apart _ x)

  coefficient-is : (f : Operator K) (m : Monomial) → coefficient K plain_cmp f m ≡ Operators.total K (λ n. coefficient K plain_cmp (one_term K n) m) f
  coefficient-is f m = ap (λ g. coefficient K plain_cmp g m) (sym (Operators.linear_extension_singles K f)) ∙ Operators.coefficient-linear_extension K _ f m

  pub coefficient-part : (b : Bool) (x : Free K unknown_cmp) (m : Monomial) → coefficient K plain_cmp (part b x) m ≡ coefficient K unknown_cmp x (b, m)
  coefficient-part b x m =
      coefficient-is (part b x) m
      ∙ total-part b _ x
      ∙ total_only K unknown_total unknown_apart _ x (b, m) (λ i n. ap (K.times (coefficient K unknown_cmp x i)) (away b i n) ∙ Numbers.times_zero K _)
      ∙ ap (K.times (coefficient K unknown_cmp x (b, m))) (here b)
      ∙ K.times_one _
    where
      here : (b : Bool) → cond (is_on b b) (coefficient K plain_cmp (one_term K m) m) K.zero ≡ K.one
      here true = Operators.coefficient-own K m K.one
      here false = Operators.coefficient-own K m K.one

      away : (b : Bool) (i : Unknown) → i ≢ (b, m) → cond (is_on b i.0) (coefficient K plain_cmp (one_term K i.1) m) K.zero ≡ K.zero
      away true (true, n) h = Operators.coefficient-other K n K.one m (λ e. h (λ k. (true, sym e k)))
      away true (false, n) h = refl
      away false (true, n) h = refl
      away false (false, n) h = Operators.coefficient-other K n K.one m (λ e. h (λ k. (false, sym e k)))
