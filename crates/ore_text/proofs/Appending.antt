-- A term is appended to the terms of a stored operator.
--     below_last      a monomial is below the last term where it is below the one at the last place
--     not_past        the last place of a list has an item
--     kept-zero, kept-other      what a term adds to others
--     falling_terms-pushed      the terms with one more
--     nothing_kept    a term 0 adds nothing to the terms
--     good_kept       and a fact of all of them
use Rattle.std.proofs.Common.{◌≡◌, ◌≢◌, ◌⊎◌, inl, inr, ℕ, zero, suc, [], ◌∷◌, ◌++◌, length, slice_get, Some, None, pos, refl, sym, ap, ◌∙◌, subst, arith}
use Rattle.std.specs.Prelude.{◌↔◌}
use Rattle.std.specs.declared.cmp.Ordering.TheVariants.{Less}
use Rattle.std.specs.List.{All}
use Rattle.std.proofs.lemmas.List.Elements.{All-append, All-from_recursion}
use Rattle.ore_algebra.specs.Free.{plus, single}
use Rattle.ore_rational.specs.Fraction.{whole}
use Rattle.ore_rational.specs.Field.{rationals}
use Rattle.ore_monomial.specs.Monomial.{Monomial, order_cmp, plain_cmp}
use Rattle.ore_monomial.specs.declared.order.Order.{Order}
use Rattle.ore_monomial.specs.LetterRule.{Operator}
use Rattle.ore_ring.specs.Ordered.{Ordered}
use Rattle.ore_ring.specs.Terms.{Summand, Terms, falling, IsBelowLast}
use Rattle.ore_ring.proofs.AllTerms.{falls-falling}
use Rattle.ore_ring.proofs.Falls.{falls_snoc}
use Rattle.ore_ring.proofs.StoredOp.{collect_snoc}
use Rattle.ore_ring.proofs.TermLaws.{falling-collect, collect-falling}
use Rattle.ore_text.proofs.Known.{same_some, not_none}
use Rattle.ore_text.specs.CanonicalParts.{falling_terms, term_unless, term_unless_zero}

pub below_last : (o : Order) (k : ℕ) (ts : Terms) (t : Summand) (m : Monomial) → suc k ≡ length ts → slice_get ts k ≡ Some t → (order_cmp o m t.0 ≡ Less) ↔ IsBelowLast o ts m
below_last o k [] t m l e = absurd (not_none e refl)
below_last o zero (u ∷ []) t m l e = let s = same_some refl e in (λ h. ap (λ v. order_cmp o m v.0) s ∙ h, λ h. ap (λ v. order_cmp o m v.0) (sym s) ∙ h)
below_last o zero (u ∷ v ∷ ts) t m l e = absurd (omega arith)
below_last o (suc k) (u ∷ []) t m l e = absurd (not_none e refl)
below_last o (suc k) (u ∷ v ∷ ts) t m l e = below_last o k (v ∷ ts) t m (let q : suc k ≡ length (v ∷ ts) = omega arith in q) e

pub not_past : (k : ℕ) (ts : Terms) → suc k ≡ length ts → slice_get ts k ≡ None → ⊥
not_past k [] l e = omega arith
not_past zero (u ∷ ts) l e = not_none refl e
not_past (suc k) (u ∷ ts) l e = not_past k ts (omega arith) e

pub kept-zero : (t : Summand) → t.1 ≡ whole (pos 0) → term_unless_zero t ≡ []
unfolding term_unless_zero
kept-zero t e = by (rationals.discrete t.1 rationals.zero)
  where
    by : (d : Dec (t.1 ≡ rationals.zero)) → term_unless d t ≡ []
    by (yes e) = refl
    by (no n) = absurd (n e)

pub kept-other : (t : Summand) → t.1 ≢ whole (pos 0) → term_unless_zero t ≡ t ∷ []
unfolding term_unless_zero
kept-other t n = by (rationals.discrete t.1 rationals.zero)
  where
    by : (d : Dec (t.1 ≡ rationals.zero)) → term_unless d t ≡ t ∷ []
    by (yes e) = absurd (n e)
    by (no m) = refl

kept_cases : (t : Summand) → (term_unless_zero t ≡ []) ⊎ (term_unless_zero t ≡ t ∷ [])
kept_cases t = by (rationals.discrete t.1 (whole (pos 0)))
  where
    by : Dec (t.1 ≡ whole (pos 0)) → (term_unless_zero t ≡ []) ⊎ (term_unless_zero t ≡ t ∷ [])
    by (yes e) = inl (kept-zero t e)
    by (no n) = inr (kept-other t n)

falling-pushed : (o : Order) (f : Operator rationals) (t : Summand) → t.1 ≢ whole (pos 0) → IsBelowLast o (falling o f) t.0 → falling o (plus rationals plain_cmp f (single rationals plain_cmp t.0 t.1)) ≡ falling o f ++ t ∷ []
falling-pushed o f t n b =
    ap (falling o) (ap (λ g. plus rationals plain_cmp g (single rationals plain_cmp t.0 t.1)) (sym (collect-falling o f)) ∙ sym (collect_snoc (falling o f) t))
    ∙ falling-collect o (falling o f ++ t ∷ []) (falls_snoc o (falling o f) t (falls-falling o f) b n)

pub falling_terms-pushed : (old new : Ordered) (t : Summand) → t.1 ≢ whole (pos 0) → IsBelowLast old.by (falling_terms old) t.0
    → new ≡ record { by = old.by; sum = plus rationals plain_cmp old.sum (single rationals plain_cmp t.0 t.1) } → falling_terms new ≡ falling_terms old ++ term_unless_zero t
falling_terms-pushed old new t n b e = ap falling_terms e ∙ falling-pushed old.by old.sum t n b ∙ ap (λ ts. falling_terms old ++ ts) (sym (kept-other t n))

pub nothing_kept : (ts : Terms) (t : Summand) → t.1 ≡ whole (pos 0) → ts ≡ ts ++ term_unless_zero t
nothing_kept ts t e = sym (ap (λ us. ts ++ us) (kept-zero t e) ∙ append_nil_terms ts)
  where
    append_nil_terms : (ts : Terms) → ts ++ [] ≡ ts
    append_nil_terms [] = refl
    append_nil_terms (t ∷ ts) = ap (λ us. t ∷ us) (append_nil_terms ts)

pub good_kept : (P : Summand → Type 0) (old new : Terms) (t : Summand) → (new ≡ old) ⊎ (new ≡ old ++ term_unless_zero t) → P t → All P old → All P new
good_kept P old new t (inl e) p h = subst (All P) (sym e) h
good_kept P old new t (inr e) p h = subst (All P) (sym e) (All-append P old (term_unless_zero t) h (by (term_unless_zero t) (kept_cases t)))
  where
    by : (ts : Terms) → (ts ≡ []) ⊎ (ts ≡ t ∷ []) → All P ts
    by ts (inl q) = subst (All P) (sym q) (All-from_recursion P [] tt)
    by ts (inr q) = subst (All P) (sym q) (All-from_recursion P (t ∷ []) (p, tt))
