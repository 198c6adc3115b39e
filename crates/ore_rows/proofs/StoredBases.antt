-- How the parts of a stored basis lie beside each other.
--     parts-with_leads, leads-with_leads    the parts of rows that stand beside their leads
--     widths-with_leads      the widths that they have
--     with_leads-push        one more row beside its lead
--     no_lead_of_zeros, zeros_lead    a row of zeros has no lead
--     stored_length          as many rows are stored as are seen
--     part_at, widths_at, lead_at_place    what is read at a place; its widths; its lead
--     has_lead, is_monic     for a row of a signature, a lead by the order that its entries carry is one by the signature's
--     are_monic              the rows of a basis that are of a signature are monic by its order
--     are_monic-push, all_belong-push    one more row with lead coefficient 1; one more of the signature
--     monic_push, lead_read  one more row beside its lead; the lead of the stored row at a place
--     stored_same, stored_push, basis_push    the same rows and leads; one more of each, and what is seen then
use Rattle.std.proofs.Common.{◌≡◌, ℕ, zero, suc, pred, ◌+◌, ◌<◌, List, [], ◌∷◌, ◌++◌, length, map, get_or, refl, sym, ap, ◌∙◌, subst, arith}
use Rattle.std.specs.List.{All, slice_get}
use Rattle.std.specs.Option.{option_map}
use Rattle.std.specs.declared.option.Option.{Option}
use Rattle.std.specs.declared.option.Option.TheVariants.{None, Some}
use Rattle.std.proofs.lemmas.List.{length_push, length-map, map-append}
use Rattle.std.proofs.lemmas.Option.{slice_get-map, slice_get-get_or}
use Rattle.std.proofs.lemmas.List.Elements.{All-nil, All-cons, All-head, All-tail, All-map, All-push}
use Rattle.ore_algebra.specs.Free.{empty_sum, coefficient}
use Rattle.ore_rational.specs.Field.{rationals}
use Rattle.ore_rational.specs.Fraction.{Fraction}
use Rattle.ore_monomial.specs.Monomial.{plain_cmp}
use Rattle.ore_monomial.specs.Signature.{Signature}
use Rattle.ore_monomial.specs.Term.{Term}
use Rattle.ore_monomial.specs.declared.order.Order.{Order}
use Rattle.ore_monomial.proofs.Operators
use Rattle.ore_ring.specs.Belongs.{Belongs}
use Rattle.ore_ring.specs.Ordered.{Ordered}
use Rattle.ore_rows.specs.Reduction.{BasisRow, IsMonic, AreMonic, leads_of, basis_lead}
use Rattle.ore_rows.specs.RowLead.{IsRowLead, row_lead}
use Rattle.ore_rows.specs.Stored.{IsZeroRow, sums_of}
use Rattle.ore_rows.specs.StoredBasis.{StoredBasis, HasLead, HaveLeads, HaveWidths, BasisBelongs, monic_of, monics, with_leads, IsStoredBasis}
use Rattle.ore_rows.specs.declared.basis.BasisEntry.{BasisEntry}
use Rattle.ore_rows.proofs.GreatestTerms.{row_lead-Some}

-- a part that doesn't come from the lead
pub parts-with_leads : {B : Type 0} (f : BasisRow (List Ordered) → B) (g : BasisEntry → B) → ((e : BasisEntry) (t : Term) → f (record { row = e.row; cofactor = e.cofactor; lead = t }) ≡ g e)
    → (es : List BasisEntry) (ls : List Term) → length ls ≡ length es → map f (with_leads es ls) ≡ map g es
parts-with_leads f g same [] [] h = refl
parts-with_leads f g same [] (t ∷ ls) h = absurd (omega arith)
parts-with_leads f g same (e ∷ es) [] h = absurd (omega arith)
parts-with_leads f g same (e ∷ es) (t ∷ ls) h = λ i. same e t i ∷ parts-with_leads f g same es ls (ap pred h) i

pub leads-with_leads : (es : List BasisEntry) (ls : List Term) → length ls ≡ length es → leads_of (with_leads es ls) ≡ ls
leads-with_leads [] [] h = refl
leads-with_leads [] (t ∷ ls) h = absurd (omega arith)
leads-with_leads (e ∷ es) [] h = absurd (omega arith)
leads-with_leads (e ∷ es) (t ∷ ls) h = λ i. t ∷ leads-with_leads es ls (ap pred h) i

pub with_leads-push : (es : List BasisEntry) (ls : List Term) (e : BasisEntry) (t : Term) → length ls ≡ length es → with_leads (es ++ e ∷ []) (ls ++ t ∷ []) ≡ with_leads es ls ++ record { row = e.row; cofactor = e.cofactor; lead = t } ∷ []
with_leads-push [] [] e t h = refl
with_leads-push [] (u ∷ ls) e t h = absurd (omega arith)
with_leads-push (f ∷ es) [] e t h = absurd (omega arith)
with_leads-push (f ∷ es) (u ∷ ls) e t h = λ i. record { row = f.row; cofactor = f.cofactor; lead = u } ∷ with_leads-push es ls e t (ap pred h) i

pub no_lead_of_zeros : (o : Order) (r : List Ordered) (t : Term) (k : Fraction) → IsZeroRow r → IsRowLead rationals o (sums_of r) t k → ⊥
no_lead_of_zeros o r t k z a = a.apart (sym a.stands ∙ ap (λ f. coefficient rationals plain_cmp f t.monomial) (zero_entry r t.column z) ∙ Operators.coefficient-empty_sum rationals t.monomial)
  where
    zero_entry : (r : List Ordered) (j : ℕ) → IsZeroRow r → get_or (sums_of r) j (empty_sum rationals plain_cmp) ≡ empty_sum rationals plain_cmp
    zero_entry [] j z = refl
    zero_entry (f ∷ r) zero z = All-head (λ (g : Ordered). g.sum ≡ empty_sum rationals plain_cmp) f r z
    zero_entry (f ∷ r) (suc j) z = zero_entry r j (All-tail (λ (g : Ordered). g.sum ≡ empty_sum rationals plain_cmp) f r z)

pub zeros_lead : (o : Order) (r : List Ordered) → IsZeroRow r → row_lead rationals o (sums_of r) ≡ None
zeros_lead o r z = by (row_lead rationals o (sums_of r)) refl
  where
    by : (v : Option Term) → row_lead rationals o (sums_of r) ≡ v → v ≡ None
    by None e = refl
    by (Some t) e = absurd (no_lead_of_zeros o r t _ z (row_lead-Some rationals o (sums_of r) t e))

-- the rows that stand beside leads have the widths of the rows
pub widths-with_leads : (n m : ℕ) (es : List BasisEntry) (ls : List Term) → IsStoredBasis n m es ls → HaveWidths n m (with_leads es ls)
widths-with_leads n m es ls a = by es ls a.long a.widths
  where
    Wide : BasisEntry → Type 0
    Wide e = (length e.row ≡ n) × (length e.cofactor ≡ m)

    by : (es : List BasisEntry) (ls : List Term) → length ls ≡ length es → All Wide es → HaveWidths n m (with_leads es ls)
    by [] [] h w = All-nil (λ b. (length b.row ≡ n) × (length b.cofactor ≡ m))
    by [] (t ∷ ls) h w = absurd (omega arith)
    by (e ∷ es) [] h w = absurd (omega arith)
    by (e ∷ es) (t ∷ ls) h w = All-cons (λ b. (length b.row ≡ n) × (length b.cofactor ≡ m)) _ _ (All-head Wide e es w) (by es ls (ap pred h) (All-tail Wide e es w))

-- ---- reading an entry

-- the lead of the row at a place
lead_read : (es : List BasisEntry) (ls : List Term) (k : ℕ) (e : BasisEntry) → length ls ≡ length es → k < length es → e ≡ get_or es k e → HaveLeads (with_leads es ls) → HasLead e.row (basis_lead (with_leads es ls) k)
lead_read es ls k e l inside h a = by es ls k l inside h a
  where
    by : (es : List BasisEntry) (ls : List Term) (k : ℕ) → length ls ≡ length es → k < length es → e ≡ get_or es k e → HaveLeads (with_leads es ls) → HasLead e.row (basis_lead (with_leads es ls) k)
    by [] ls k l inside h a = absurd (omega arith)
    by (f ∷ es) [] k l inside h a = absurd (omega arith)
    by (f ∷ es) (t ∷ ls) zero l inside h a = subst (λ (x : BasisEntry). HasLead x.row t) (sym h) (All-head (λ (b : BasisRow (List Ordered)). HasLead b.row b.lead) _ _ a)
    by (f ∷ es) (t ∷ ls) (suc k) l inside h a = by es ls k (ap pred l) (omega arith) h (All-tail (λ (b : BasisRow (List Ordered)). HasLead b.row b.lead) _ _ a)

module _ (b : StoredBasis) (n m : ℕ) (es : List BasisEntry) (ls : List Term) (a : IsStoredBasis n m es ls) (v : record { cols = n; width = m; items = with_leads es ls } ≡ b) where
  pub stored_length : length b.items ≡ length es
  stored_length =
      sym (ap (λ (x : StoredBasis). length x.items) v)
      ∙ sym (length-map (with_leads es ls) (λ (x : BasisRow (List Ordered)). x.row))
      ∙ ap length (parts-with_leads (λ x. x.row) (λ e. e.row) (λ e t. refl) es ls a.long)
      ∙ length-map es (λ (e : BasisEntry). e.row)

  pub part_at : {B : Type 0} (f : BasisRow (List Ordered) → B) (g : BasisEntry → B) → ((e : BasisEntry) (t : Term) → f (record { row = e.row; cofactor = e.cofactor; lead = t }) ≡ g e)
      → (k : ℕ) (e : BasisEntry) → k < length b.items → e ≡ get_or es k e → slice_get (map f b.items) k ≡ Some (g e)
  part_at f g same k e l h =
      ap (λ (x : StoredBasis). slice_get (map f x.items) k) (sym v)
      ∙ ap (λ xs. slice_get xs k) (parts-with_leads f g same es ls a.long)
      ∙ slice_get-map g es k
      ∙ ap (option_map g) (slice_get-get_or es k e (subst (λ j. k < j) stored_length l) ∙ ap Some (sym h))

  pub widths_at : (k : ℕ) (e : BasisEntry) → k < length b.items → e ≡ get_or es k e → (length e.row ≡ b.cols) × (length e.cofactor ≡ b.width)
  widths_at k e l h = subst (λ (x : StoredBasis). (length e.row ≡ x.cols) × (length e.cofactor ≡ x.width)) v (subst (λ (x : BasisEntry). (length x.row ≡ n) × (length x.cofactor ≡ m)) (sym h) (a.widths k e (subst (λ j. k < j) stored_length l)))

  pub lead_at_place : (k : ℕ) (e : BasisEntry) → k < length b.items → e ≡ get_or es k e → HasLead e.row (basis_lead b.items k)
  lead_at_place k e l h = subst (λ (x : StoredBasis). HasLead e.row (basis_lead x.items k)) v (lead_read es ls k e a.long (subst (λ j. k < j) stored_length l) h a.monic)

-- ---- one more entry

pub stored_same : (n m : ℕ) (es fs : List BasisEntry) (ls us : List Term) → fs ≡ es → us ≡ ls → IsStoredBasis n m es ls → IsStoredBasis n m fs us
stored_same n m es fs ls us h k a = subst (λ (x : List BasisEntry). IsStoredBasis n m x us) (sym h) (subst (λ (x : List Term). IsStoredBasis n m es x) (sym k) a)

monic_push : (es : List BasisEntry) (ls : List Term) (e : BasisEntry) (t : Term) → length ls ≡ length es → HaveLeads (with_leads es ls) → HasLead e.row t → HaveLeads (with_leads (es ++ e ∷ []) (ls ++ t ∷ []))
monic_push es ls e t l a h = subst HaveLeads (sym (with_leads-push es ls e t l)) (All-push (λ (b : BasisRow (List Ordered)). HasLead b.row b.lead) (with_leads es ls) (record { row = e.row; cofactor = e.cofactor; lead = t }) a h)

pub stored_push : (n m : ℕ) (es : List BasisEntry) (ls : List Term) (e : BasisEntry) (t : Term) → length e.row ≡ n → length e.cofactor ≡ m → HasLead e.row t → IsStoredBasis n m es ls → IsStoredBasis n m (es ++ e ∷ []) (ls ++ t ∷ [])
stored_push n m es ls e t h k x a = record {
  long = length_push ls t ∙ ap (λ j. j + 1) a.long ∙ sym (length_push es e);
  widths = All-push (λ (x : BasisEntry). (length x.row ≡ n) × (length x.cofactor ≡ m)) es e a.widths (h, k);
  monic = monic_push es ls e t a.long a.monic x;
}

pub basis_push : (b : StoredBasis) (n m : ℕ) (es fs : List BasisEntry) (ls us : List Term) (e : BasisEntry) (t : Term) → record { cols = n; width = m; items = with_leads es ls } ≡ b → fs ≡ es ++ e ∷ [] → us ≡ ls ++ t ∷ [] → length ls ≡ length es
    → record { cols = n; width = m; items = with_leads fs us } ≡ record b { items = b.items ++ record { row = e.row; cofactor = e.cofactor; lead = t } ∷ [] }
basis_push b n m es fs ls us e t v h k l =
    (λ i. record { cols = n; width = m; items = with_leads (h i) (k i) })
    ∙ (λ i. record { cols = n; width = m; items = with_leads-push es ls e t l i })
    ∙ (λ i. record (v i) { items = (v i).items ++ record { row = e.row; cofactor = e.cofactor; lead = t } ∷ [] })

-- ---- leads by the order of a signature

pub has_lead : (s : Signature) (row : List Ordered) (t : Term) → All (Belongs s) row → IsRowLead rationals s.order (sums_of row) t rationals.one → HasLead row t
has_lead s row t belong h = record { order = s.order; carried = λ k f l. (belong k f l).order; lead = h }

pub is_monic : (s : Signature) (row : List Ordered) (t : Term) → All (Belongs s) row → HasLead row t → IsRowLead rationals s.order (sums_of row) t rationals.one
is_monic s [] t belong h = absurd (no_lead_of_zeros h.order [] t rationals.one (All-nil (λ (f : Ordered). f.sum ≡ empty_sum rationals plain_cmp)) h.lead)
is_monic s (f ∷ row) t belong h = subst (λ (o : Order). IsRowLead rationals o (sums_of (f ∷ row)) t rationals.one) (sym (All-head (λ (g : Ordered). g.by ≡ h.order) f row h.carried) ∙ (All-head (Belongs s) f row belong).order) h.lead

pub are_monic : (s : Signature) (b : StoredBasis) → BasisBelongs s b.items → HaveLeads b.items → AreMonic rationals s.order (monics b)
are_monic s b belong h = All-map (IsMonic rationals s.order) monic_of b.items (λ k m l. is_monic s (get_or b.items k m).row (get_or b.items k m).lead (belong k m l).0 (h k m l))

-- a basis stays one of rows with lead coefficient 1
pub are_monic-push : (o : Order) (b : StoredBasis) (m : BasisRow (List Ordered)) → AreMonic rationals o (monics b) → IsMonic rationals o (monic_of m) → AreMonic rationals o (monics (record b { items = b.items ++ m ∷ [] }))
are_monic-push o b m a h = subst (AreMonic rationals o) (sym (map-append monic_of b.items (m ∷ []))) (All-push (IsMonic rationals o) (monics b) (monic_of m) a h)

-- and of rows of a signature
pub all_belong-push : (s : Signature) (b : StoredBasis) (m : BasisRow (List Ordered)) → BasisBelongs s b.items → All (Belongs s) m.row → All (Belongs s) m.cofactor → BasisBelongs s (b.items ++ m ∷ [])
all_belong-push s b m a h k = All-push (λ (x : BasisRow (List Ordered)). All (Belongs s) x.row × All (Belongs s) x.cofactor) b.items m a (h, k)
