-- A row of cofactors is zeros or has a greatest weight.
--     Top                      it is zeros, or a term at some place has a weight that no other exceeds
--     top_of                   this of a row of n entries
use Rattle.std.proofs.Common.{◌≡◌, ◌≢◌, ◌⊎◌, inl, inr, ⊎_elim, ℕ, zero, suc, ◌<◌, Bool, true, false, List, length, get_or, refl, sym, ap, ◌∙◌, subst, arith}
use Rattle.std.specs.Ordering.{is_gt}
use Rattle.std.specs.Cmp.{upto}
use Rattle.std.proofs.lemmas.List.{ext_get_or, get_or_past}
use native.Mathlib.Decide.{dec_lt}
use Rattle.ore_algebra.specs.Domain.{Domain}
use Rattle.ore_algebra.specs.Free.{empty_sum, coefficient}
use Rattle.ore_algebra.proofs.Orderings.{reversed_greater}
use Rattle.ore_monomial.specs.Monomial.{Monomial, plain_cmp}
use Rattle.ore_monomial.specs.Term.{Term, term_cmp}
use Rattle.ore_monomial.specs.declared.order.Order.{Order}
use Rattle.ore_monomial.specs.Signature.{Signature, IsLawful}
use Rattle.ore_monomial.specs.LetterRule.{Operator}
use Rattle.ore_monomial.proofs.TermOrder.{term_total}
use Rattle.ore_monomial.proofs.Operators
use Rattle.ore_ring.specs.Lead.{IsLead}
use Rattle.ore_ring.proofs.NoZeroDivisor.{lead_of}
use Rattle.ore_rows.specs.Rows.{Row, zero_row}
use Rattle.ore_rows.proofs.RowLaws as Rows
use Rattle.ore_pairs.proofs.BelowModulo.{weight, weight_cmp, at_place, AreWeightsAtMost}

last : (P : ℕ → Type 0) (j : ℕ) → ((k : ℕ) → k < j → P k) → P j → (k : ℕ) → k < suc j → P k
last P j h here k l = by (dec_lt k j)
  where
    by : Dec (k < j) → P k
    by (yes a) = h k a
    by (no a) = let e : j ≡ k = omega arith in subst P e here

module _ (K : Domain) (o : Order) (leads : List Term) (z : Row K) where
  abbrev entry : ℕ → Operator K
  entry k = get_or z k (empty_sum K plain_cmp)

  -- no weight of the entry at place i is above t
  abbrev IsUnder : Term → ℕ → Type 0
  IsUnder t i = (r : Monomial) → at_place K z i r ≢ K.zero → is_gt (term_cmp o (weight leads i r) t) ≡ false

  -- the first j entries are none, or have a greatest weight
  abbrev Found : ℕ → Type 0
  Found j = ((k : ℕ) → k < j → entry k ≡ empty_sum K plain_cmp)
      ⊎ ((k : ℕ) × (q : Monomial) × (k < j) × (at_place K z k q ≢ K.zero) × ((i : ℕ) → i < j → IsUnder (weight leads k q) i))

  abbrev EntryHasLead : ℕ → Type 0
  EntryHasLead j = (m : Monomial) × IsLead K o (entry j) m (coefficient K plain_cmp (entry j) m)

  none_there : (f : Operator K) (q : Monomial) → f ≡ empty_sum K plain_cmp → coefficient K plain_cmp f q ≢ K.zero → ⊥
  none_there f q e u = u (ap (λ f. coefficient K plain_cmp f q) e ∙ Operators.coefficient-empty_sum K q)

  -- an entry is under its own lead
  own : (j : ℕ) (m : Monomial) → IsLead K o (entry j) m (coefficient K plain_cmp (entry j) m) → IsUnder (weight leads j m) j
  own j m a r v = ap is_gt (weight_cmp o leads j r m) ∙ a.greatest r v

  more : (j : ℕ) → Found j → (entry j ≡ empty_sum K plain_cmp) ⊎ EntryHasLead j → Found (suc j)
  more j (inl all) (inl e) = inl (last (λ k. entry k ≡ empty_sum K plain_cmp) j all e)
  more j (inl all) (inr (m, a)) = inr (j, m, omega arith, a.apart, last (IsUnder (weight leads j m)) j (λ i l r u. absurd (none_there _ r (all i l) u)) (own j m a))
  more j (inr (k, q, l, u, g)) (inl e) = inr (k, q, omega arith, u, last (IsUnder (weight leads k q)) j g (λ r v. absurd (none_there _ r e v)))
  more j (inr (k, q, l, u, g)) (inr (m, a)) = by (is_gt (term_cmp o (weight leads j m) (weight leads k q))) refl
    where
      by : (b : Bool) → is_gt (term_cmp o (weight leads j m) (weight leads k q)) ≡ b → Found (suc j)
      by true h = inr (
        j,
        m,
        omega arith,
        a.apart,
        last (IsUnder (weight leads j m)) j
            (λ i l r v. upto (term_total o) (weight leads i r) (weight leads k q) (weight leads j m) (g i l r v) (ap is_gt ((term_total o).antisymm (weight leads k q) (weight leads j m)) ∙ reversed_greater _ h)) (own j m a),
      )
      by false h = inr (
        k,
        q,
        omega arith,
        u,
        last (IsUnder (weight leads k q)) j g (λ r v. upto (term_total o) (weight leads j r) (weight leads j m) (weight leads k q) (own j m a r v) h),
      )

  found : (j : ℕ) → Found j
  found zero = inl (λ k l. absurd (omega arith))
  found (suc j) = more j (found j) (lead_of K o (entry j))

abbrev pub Top : (K : Domain) → Order → List Term → ℕ → Row K → Type 0
Top K o leads n z = (z ≡ zero_row K n) ⊎ ((k : ℕ) × (q : Monomial) × (k < n) × (at_place K z k q ≢ K.zero) × AreWeightsAtMost K o leads (weight leads k q) z)

module _ (K : Domain) (s : Signature) (lawful : IsLawful s) (o : Order) (leads : List Term) where
  pub top_of : (n : ℕ) (z : Row K) → length z ≡ n → Top K o leads n z
  top_of n z l = ⊎_elim
      (λ all. inl (ext_get_or (empty_sum K plain_cmp) z (zero_row K n) (l ∙ sym (Rows.length-zero_row K s lawful n)) (λ k h. all k (subst (λ m. k < m) l h) ∙ sym (Rows.entry-zero_row K s n k))))
      (λ f. inr (f.0, f.1, f.2, f.3, λ i r u. f.4 i (within i r u) r u)) (found K o leads z n)
    where
      within : (i : ℕ) (r : Monomial) → at_place K z i r ≢ K.zero → i < n
      within i r u = by (dec_lt i n)
        where
          by : Dec (i < n) → i < n
          by (yes h) = h
          by (no h) = absurd (none_there K o leads z _ r (get_or_past z i (empty_sum K plain_cmp) (omega arith)) u)
