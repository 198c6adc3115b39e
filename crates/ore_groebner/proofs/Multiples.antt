-- The rows of a matrix as multiples of the first basis rows.
--     zero_entry               zeros but for one zero
--     from_zero, from_lead     a row that is zero, and one that isn't
--     from_next, from_end      the rows from a place on
use Rattle.std.proofs.Common.{◌≡◌, ℕ, suc, ◌≤◌, ◌+◌, Bool, true, false, cond, List, [], ◌∷◌, ◌++◌, length, map, replicate, drop, refl, sym, ap, ◌∙◌, append_assoc, append-nil, arith}
use Rattle.std.specs.Prelude.{nat_eq}
use Rattle.std.specs.List.{slice_get, range_with_len}
use Rattle.std.specs.declared.option.Option.{Option}
use Rattle.std.specs.declared.option.Option.TheVariants.{None, Some}
use Rattle.std.proofs.lemmas.List.FromFn.{length-range_with_len}
use Rattle.std.proofs.lemmas.List.{drop_all}
use Rattle.ore_algebra.specs.Free.{empty_sum}
use Rattle.ore_rational.specs.Field.{rationals}
use Rattle.ore_monomial.specs.LetterRule.{Operator, constant}
use Rattle.ore_monomial.specs.Monomial.{unit, plain_cmp}
use Rattle.ore_monomial.specs.Term.{Term}
use Rattle.ore_monomial.specs.declared.order.Order.{Order}
use Rattle.ore_monomial.proofs.Operators.{single_zero}
use Rattle.ore_rows.specs.RowLead.{IsRowLead, coefficient_at, row_lead}
use Rattle.ore_rows.specs.Rows.{Row, zero_row}
use Rattle.ore_pairs.specs.Run.{entry_row, from_rows}
use Rattle.ore_rows.proofs.GreatestTerms.{row_lead_from}
use Rattle.ore_groebner.proofs.FirstBasis.{drop_at}

all_same : (f z : Operator rationals) (at : ℕ → Bool) (places : List ℕ) → f ≡ z → map (λ j. cond (at j) f z) places ≡ replicate (length places) z
all_same f z at [] e = refl
all_same f z at (j ∷ places) e = λ n. same (at j) n ∷ all_same f z at places e n
  where
    same : (b : Bool) → cond b f z ≡ z
    same true = e
    same false = refl

pub zero_entry : (n i : ℕ) → entry_row rationals n i (constant rationals rationals.zero) ≡ zero_row rationals n
unfolding entry_row zero_row
zero_entry n i = all_same (constant rationals rationals.zero) (empty_sum rationals plain_cmp) (λ j. nat_eq j i) (range_with_len 0 n) (single_zero rationals unit) ∙ ap (λ m. replicate m (empty_sum rationals plain_cmp)) (length-range_with_len 0 n)

module _ (o : Order) (n : ℕ) where
  pub from_zero : (i : ℕ) (r made : Row rationals) (rs : List (Row rationals)) → row_lead rationals o r ≡ None → made ≡ entry_row rationals n n (constant rationals rationals.zero) → from_rows rationals o n i (r ∷ rs) ≡ made ∷ from_rows rationals o n i rs
  unfolding from_rows
  from_zero i r made rs e m =
      ap (λ (x : Option Term). elim x [ None ↦ zero_row rationals n ∷ from_rows rationals o n i rs | Some t ↦ entry_row rationals n i (constant rationals (coefficient_at rationals r t)) ∷ from_rows rationals o n (suc i) rs ]) e
      ∙ ap (λ q. q ∷ from_rows rationals o n i rs) (sym (m ∙ zero_entry n n))

  pub from_lead : (i : ℕ) (r made : Row rationals) (rs : List (Row rationals)) (t : Term) (k : rationals.Number) → IsRowLead rationals o r t k → made ≡ entry_row rationals n i (constant rationals k) → from_rows rationals o n i (r ∷ rs) ≡ made ∷ from_rows rationals o n (i + 1) rs
  unfolding from_rows
  from_lead i r made rs t k lead m =
      let z : suc i ≡ i + 1 = omega arith in
      ap (λ (x : Option Term). elim x [ None ↦ zero_row rationals n ∷ from_rows rationals o n i rs | Some t ↦ entry_row rationals n i (constant rationals (coefficient_at rationals r t)) ∷ from_rows rationals o n (suc i) rs ]) (row_lead_from rationals o r t k lead)
      ∙ ap (λ c. entry_row rationals n i (constant rationals c) ∷ from_rows rationals o n (suc i) rs) lead.stands
      ∙ (λ j. sym m j ∷ from_rows rationals o n (z j) rs)

  -- the rows before place k are made, and the row there is made next
  pub from_next : (rows made : List (Row rationals)) (i j k : ℕ) (r m : Row rationals) → slice_get rows k ≡ Some r
      → ((rest : List (Row rationals)) → from_rows rationals o n i (r ∷ rest) ≡ m ∷ from_rows rationals o n j rest)
      → made ++ from_rows rationals o n i (drop k rows) ≡ (made ++ m ∷ []) ++ from_rows rationals o n j (drop (k + 1) rows)
  from_next rows made i j k r m e f =
      let z : suc k ≡ k + 1 = omega arith in
      ap (λ rs. made ++ from_rows rationals o n i rs) (drop_at rows k r e)
      ∙ ap (λ rs. made ++ rs) (f (drop (suc k) rows))
      ∙ ap (λ l. made ++ m ∷ from_rows rationals o n j (drop l rows)) z
      ∙ sym (append_assoc made (m ∷ []) (from_rows rationals o n j (drop (k + 1) rows)))

  pub from_end : (rows made : List (Row rationals)) (i k : ℕ) → length rows ≤ k → made ++ from_rows rationals o n i (drop k rows) ≡ made
  unfolding from_rows
  from_end rows made i k h = ap (λ rs. made ++ from_rows rationals o n i rs) (drop_all k rows h) ∙ append-nil made
