-- One turn of the loop that looks for the lead of a row.
--     IsOperatorLead    no lead and the operator zero, or the lead of an operator with its coefficient
--     found_next        the greater lead is that of one more entry
use Rattle.std.proofs.Common.{◌≡◌, ℕ, ◌+◌, ◌<◌, Bool, true, false, cond, List, [], ◌∷◌, ◌++◌, length, take, refl, sym, ◌∙◌, subst, arith}
use Rattle.std.specs.Prelude.{MatchOption}
use Rattle.std.specs.declared.option.Option.{Option}
use Rattle.std.specs.declared.option.Option.TheVariants.{None, Some}
use Rattle.std.specs.Ordering.{is_gt}
use Rattle.std.specs.List.{All}
use Rattle.std.proofs.lemmas.List.{map-append, length-map, length-take-le}
use Rattle.std.proofs.lemmas.List.Elements.{All-push, All-map}
use Rattle.ore_algebra.specs.Free.{empty_sum}
use Rattle.ore_rational.specs.Fraction.{Fraction}
use Rattle.ore_rational.specs.Field.{rationals}
use Rattle.ore_monomial.specs.Monomial.{Monomial, order_cmp, plain_cmp}
use Rattle.ore_monomial.specs.declared.order.Order.{Order}
use Rattle.ore_monomial.specs.LetterRule.{Operator}
use Rattle.ore_ring.specs.Lead.{IsLead}
use Rattle.ore_ring.specs.Ordered.{Ordered}
use Rattle.ore_rows.specs.LeadFound.{IsLeadFound, greater_found}
use Rattle.ore_rows.specs.RowLead.{IsRowLead}
use Rattle.ore_rows.specs.Stored.{IsZeroRow, sums_of}
use Rattle.ore_rows.proofs.LeadAppend.{at_column, lead-append_zero, lead-append_first, lead-append_less, lead-append_greater}

-- what is said of an operator's lead
abbrev pub IsOperatorLead : Order → Ordered → Option (Monomial × Fraction) → Type 0
IsOperatorLead o e next = MatchOption next (e.sum ≡ empty_sum rationals plain_cmp) (λ t. IsLead rationals o e.sum t.0 t.1)

module _ (o : Order) (r : List Ordered) (e : Ordered) where
  longer : sums_of (r ++ e ∷ []) ≡ sums_of r ++ e.sum ∷ []
  longer = map-append (λ (w : Ordered). w.sum) r (e ∷ [])

  zeros : IsZeroRow r → All (λ g. g ≡ empty_sum rationals plain_cmp) (sums_of r)
  zeros z = All-map (λ g. g ≡ empty_sum rationals plain_cmp) (λ (w : Ordered). w.sum) r z

  -- a lead of the row with one more entry, where that entry stands at place k
  shown : (k : ℕ) (m : Monomial) (x : Fraction) → length r ≡ k → IsRowLead rationals o (sums_of r ++ e.sum ∷ []) (at_column (length (sums_of r)) m) x → IsRowLead rationals o (sums_of (r ++ e ∷ [])) (at_column k m) x
  shown k m x h a =
      subst (λ (q : List (Operator rationals)). IsRowLead rationals o q (at_column k m) x) (sym longer)
      (subst (λ (j : ℕ). IsRowLead rationals o (sums_of r ++ e.sum ∷ []) (at_column j m) x) (length-map r (λ (w : Ordered). w.sum) ∙ h) a)

  next_found : (before : Option (ℕ × Monomial × Fraction)) (k : ℕ) (next : Option (Monomial × Fraction)) → length r ≡ k → IsLeadFound o r before → IsOperatorLead o e next → IsLeadFound o (r ++ e ∷ []) (greater_found o before k next)
  next_found None k None h a b = All-push (λ (w : Ordered). w.sum ≡ empty_sum rationals plain_cmp) r e a b
  next_found (Some t) k None h a b = subst (λ (q : List (Operator rationals)). IsRowLead rationals o q (at_column t.0 t.1) t.2) (sym longer) (lead-append_zero rationals o (sums_of r) e.sum (at_column t.0 t.1) t.2 b a)
  next_found None k (Some f) h a b = shown k f.0 f.1 h (lead-append_first rationals o (sums_of r) e.sum f.0 f.1 (zeros a) b)
  next_found (Some t) k (Some f) h a b = by (is_gt (order_cmp o f.0 t.1)) refl
    where
      by : (c : Bool) → is_gt (order_cmp o f.0 t.1) ≡ c → IsLeadFound o (r ++ e ∷ []) (cond c (Some (k, f.0, f.1)) (Some t))
      by true g = shown k f.0 f.1 h (lead-append_greater rationals o (sums_of r) e.sum (at_column t.0 t.1) t.2 f.0 f.1 a b g)
      by false g = subst (λ (q : List (Operator rationals)). IsRowLead rationals o q (at_column t.0 t.1) t.2) (sym longer) (lead-append_less rationals o (sums_of r) e.sum (at_column t.0 t.1) t.2 f.0 f.1 a b g)

pub found_next : (o : Order) (r : List Ordered) (e : Ordered) (before : Option (ℕ × Monomial × Fraction)) (k : ℕ) (next : Option (Monomial × Fraction)) → k < length r → take (k + 1) r ≡ take k r ++ e ∷ [] → IsLeadFound o (take k r) before → IsOperatorLead o e next → IsLeadFound o (take (k + 1) r) (greater_found o before k next)
found_next o r e before k next h same a b = subst (λ (q : List Ordered). IsLeadFound o q (greater_found o before k next)) (sym same) (next_found o (take k r) e before k next (length-take-le k r (omega arith)) a b)
