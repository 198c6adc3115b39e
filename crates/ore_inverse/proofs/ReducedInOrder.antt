-- The loop that reduces rows in order, beside its definition.
--     unit_row-past                   a unit row whose 1 is past its end
--     row_stops, row_leaves, row_reduces     the first row of some: it stops, leaves a rest, or leaves nothing
--     rows_end                        no row is left
--     summed_more                     one row more that is stored
--     all_reduced                     the end of stored rows
--     stored_stops, stored_leaves, stored_reduces     of stored rows, what the row at a place does
use Rattle.std.proofs.Common.{◌≡◌, ℕ, suc, ◌+◌, ◌<◌, ◌≤◌, false, cond, nat_eq, List, [], ◌∷◌, ◌++◌, length, map, take, drop, refl, sym, ap, ◌∙◌, subst, arith}
use Rattle.std.specs.List.{slice_get}
use Rattle.std.specs.declared.option.Option.{Option}
use Rattle.std.specs.declared.option.Option.TheVariants.{None, Some}
use Rattle.std.specs.declared.result.Result.{Result}
use Rattle.std.specs.declared.result.Result.TheVariants.{Ok, Err}
use Rattle.std.proofs.lemmas.Bool.Decides.{nat_tests}
use Rattle.std.proofs.lemmas.List.{ext_get_or, get_or-replicate, length-replicate, map-append, take_more, drop-map, at_drop_all}
use Rattle.std.proofs.lemmas.Option.{slice_get_within, get_or_from_slice_get}
use Rattle.ore_algebra.specs.Domain.{Domain}
use Rattle.ore_algebra.specs.Free.{empty_sum, single}
use Rattle.ore_algebra.specs.Limits.{Cause, ◌>>=◌}
use Rattle.ore_monomial.specs.Monomial.{unit, plain_cmp}
use Rattle.ore_monomial.specs.declared.order.Order.{Order}
use Rattle.ore_monomial.specs.Term.{Term}
use Rattle.ore_rational.specs.Field.{rationals}
use Rattle.ore_monomial.specs.LetterRule.{Operator}
use Rattle.ore_ring.specs.Ordered.{Ordered}
use Rattle.ore_rows.specs.Arithmetic.{Arithmetic}
use Rattle.ore_rows.specs.Reduction.{BasisRow, ReductionState}
use Rattle.ore_rows.specs.ReduceRows.{Reductions, AllReduce, LeavesRest, negated, reduce_row, reduce_rows_from}
use Rattle.ore_rows.specs.RowLead.{row_lead}
use Rattle.ore_rows.specs.Rows.{Row, zero_row, unit_row, unit_entry}
use Rattle.ore_rows.specs.Stored.{OperatorMatrix, IsZeroRow, sums_of, rows_of}
use Rattle.ore_rows.proofs.StoredBases.{zeros_lead}
use Rattle.ore_rows.proofs.UnitRows.{length-unit_row, entry-unit_row}
use Rattle.ore_division.specs.StoredWork.{work_of}
use Rattle.ore_division.specs.declared.division.Reduced.{Reduced}
use Rattle.ore_blocks.proofs.ReadItems.{drop_mapped}
use Rattle.ore_blocks.proofs.MonicLeads.{lead_zeros}

module _ (K : Domain) where
  past : (n j : ℕ) → j < n → unit_entry K n j ≡ empty_sum K plain_cmp
  past n j h = ap (λ b. cond b (single K plain_cmp unit K.one) (empty_sum K plain_cmp)) (apart n j h)
    where
      apart : (n j : ℕ) → j < n → nat_eq j n ≡ false
      apart n j h = grind (arith, nat_tests)

  pub unit_row-past : (n : ℕ) → unit_row K n n ≡ zero_row K n
  unfolding zero_row
  unit_row-past n =
      ext_get_or (empty_sum K plain_cmp) (unit_row K n n) (zero_row K n) (length-unit_row K n n ∙ sym (length-replicate n (empty_sum K plain_cmp)))
      (λ j h. let l = subst (λ m. j < m) (length-unit_row K n n) h in entry-unit_row K n n j l ∙ past n j l ∙ sym (get_or-replicate n j (empty_sum K plain_cmp) (empty_sum K plain_cmp) l))

module _ (K : Domain) (o : Order) (A : Arithmetic K) (n : ℕ) (basis : List (BasisRow (Row K))) (k : ℕ) (before : List (Row K)) (r : Row K) (rows : List (Row K)) where
  abbrev goes_on : ReductionState K → Option Term → Result (Reductions K) Cause
  goes_on w t = elim t [ None ↦ reduce_rows_from K o A n basis (suc k) (before ++ negated K w.cofactor ∷ []) rows | Some u ↦ Ok (LeavesRest k w) ]

  abbrev comes_to : Result (ReductionState K) Cause → Result (Reductions K) Cause
  comes_to x = x >>= (λ w. goes_on w (row_lead K o w.row))

  pub row_stops : (c : Cause) → reduce_row K o A n basis r ≡ Err c → reduce_rows_from K o A n basis k before (r ∷ rows) ≡ Err c
  unfolding reduce_rows_from
  row_stops c e = ap comes_to e

  pub row_leaves : (w : ReductionState K) → reduce_row K o A n basis r ≡ Ok w → (t : Term) → row_lead K o w.row ≡ Some t → reduce_rows_from K o A n basis k before (r ∷ rows) ≡ Ok (LeavesRest k w)
  unfolding reduce_rows_from
  row_leaves w e t lead = ap comes_to e ∙ ap (goes_on w) lead

  pub row_reduces : (w : ReductionState K) → reduce_row K o A n basis r ≡ Ok w → row_lead K o w.row ≡ None
      → reduce_rows_from K o A n basis k before (r ∷ rows) ≡ reduce_rows_from K o A n basis (suc k) (before ++ negated K w.cofactor ∷ []) rows
  unfolding reduce_rows_from
  row_reduces w e lead = ap comes_to e ∙ ap (goes_on w) lead

pub rows_end : (K : Domain) (o : Order) (A : Arithmetic K) (n : ℕ) (basis : List (BasisRow (Row K))) (k : ℕ) (before : List (Row K)) → reduce_rows_from K o A n basis k before [] ≡ Ok (AllReduce before)
unfolding reduce_rows_from
rows_end K o A n basis k before = refl

-- the operators of stored ones that are made in order
pub summed_more : (f : Operator rationals → Operator rationals) (row out more : List Ordered) (k : ℕ) (x y : Ordered) → sums_of out ≡ map f (sums_of (take k row)) → slice_get row k ≡ Some x → y.sum ≡ f x.sum → more ≡ out ++ y ∷ []
    → sums_of more ≡ map f (sums_of (take (k + 1) row))
summed_more f row out more k x y so_far at same pushed =
    ap sums_of pushed ∙ map-append (λ (g : Ordered). g.sum) out (y ∷ []) ∙ (λ i. so_far i ++ same i ∷ [])
    ∙ sym (ap (λ q. map f (sums_of q)) (take_more row k x (slice_get_within row k x at) ∙ ap (λ g. take k row ++ g ∷ []) (get_or_from_slice_get row k x x at)) ∙ ap (map f) (map-append (λ (g : Ordered). g.sum) (take k row) (x ∷ [])) ∙ map-append f (sums_of (take k row)) (x.sum ∷ []))

-- ---- stored rows

module _ (o : Order) (A : Arithmetic rationals) (n : ℕ) (basis : List (BasisRow (Row rationals))) (m : OperatorMatrix) (k : ℕ) (before : List (Row rationals)) where
  abbrev from_there : Result (Reductions rationals) Cause
  from_there = reduce_rows_from rationals o A n basis k before (drop k (rows_of m))

  pub all_reduced : length m.rows ≤ k → from_there ≡ Ok (AllReduce before)
  all_reduced h = ap (reduce_rows_from rationals o A n basis k before) (drop-map sums_of k m.rows ∙ at_drop_all (map sums_of) m.rows k h) ∙ rows_end rationals o A n basis k before

  module _ (r : List Ordered) (at : slice_get m.rows k ≡ Some r) where
    first_there : from_there ≡ reduce_rows_from rationals o A n basis k before (sums_of r ∷ drop (k + 1) (rows_of m))
    first_there = ap (reduce_rows_from rationals o A n basis k before) (drop_mapped sums_of m.rows k r at)

    pub stored_stops : (c : Cause) → reduce_row rationals o A n basis (sums_of r) ≡ Err c → from_there ≡ Err c
    stored_stops c e = first_there ∙ row_stops rationals o A n basis k before (sums_of r) (drop (k + 1) (rows_of m)) c e

    module _ (w : Reduced) (e : reduce_row rationals o A n basis (sums_of r) ≡ Ok (work_of w)) where
      pub stored_leaves : ¬ IsZeroRow w.row → from_there ≡ Ok (LeavesRest k (work_of w))
      stored_leaves more = first_there ∙ by (row_lead rationals o (sums_of w.row)) refl
        where
          by : (t : Option Term) → row_lead rationals o (sums_of w.row) ≡ t → reduce_rows_from rationals o A n basis k before (sums_of r ∷ drop (k + 1) (rows_of m)) ≡ Ok (LeavesRest k (work_of w))
          by None empty_sum = absurd (more (lead_zeros o w.row empty_sum))
          by (Some t) lead = row_leaves rationals o A n basis k before (sums_of r) (drop (k + 1) (rows_of m)) (work_of w) e t lead

      pub stored_reduces : IsZeroRow w.row → from_there ≡ reduce_rows_from rationals o A n basis (k + 1) (before ++ negated rationals (sums_of w.cofactor) ∷ []) (drop (k + 1) (rows_of m))
      stored_reduces zero =
          first_there ∙ row_reduces rationals o A n basis k before (sums_of r) (drop (k + 1) (rows_of m)) (work_of w) e (zeros_lead o w.row zero)
          ∙ ap (λ i. reduce_rows_from rationals o A n basis i (before ++ negated rationals (sums_of w.cofactor) ∷ []) (drop (k + 1) (rows_of m))) (let e : suc k ≡ k + 1 = omega arith in e)
