-- The pairs of leads in one column, counted from the last lead back.
--     behind_next        the leads from one place less on
--     pairs_next         their pairs
--     column_next        how many stand in a column
--     counts_next        a map that counts them
--     behind_few         no more than there are leads
--     none_behind, pairs_none, counts_none      before the last lead
use Rattle.std.proofs.Common.{◌≡◌, ℕ, ◌+◌, ◌-◌, ◌<◌, Bool, true, false, cond, nat_eq, List, [], ◌∷◌, ◌≤◌, drop, length, refl, sym, ap, ◌∙◌, Some, arith}
use Rattle.std.proofs.lemmas.Bool.Decides.{nat_tests}
use Rattle.std.specs.BTreeMap.{BTreeMap, IsEmpty, Updates, get, is_at}
use Rattle.std.specs.Map.{lookup}
use Rattle.std.proofs.lemmas.List.{at_drop_all, length-drop}
use Rattle.std.proofs.lemmas.List.Sums.{count_by-le-length, sum_by-cons}
use Rattle.std.specs.List.{count_by, slice_get}
use Rattle.std.specs.Option.{unwrap_or}
use Rattle.std.specs.Ordering.{is_eq, nat_cmp}
use Rattle.ore_algebra.proofs.ListLaws.{drop_read}
use Rattle.ore_monomial.specs.Term.{Term}
use Rattle.ore_pairs.specs.PairList.{pair_count}
use Rattle.ore_blocks.specs.InnerContracts.{count_at}

module _ (leads : List Term) (k : ℕ) (t : Term) (inside : k < length leads) (at : slice_get leads (length leads - 1 - k) ≡ Some t) where
  pub behind_next : drop (length leads - (k + 1)) leads ≡ t ∷ drop (length leads - k) leads
  behind_next =
      ap (λ n. drop n leads) (let e : length leads - (k + 1) ≡ length leads - 1 - k = omega arith in e)
      ∙ drop_read leads (length leads - 1 - k) t at
      ∙ ap (λ n. t ∷ drop n leads) (let e : length leads - 1 - k + 1 ≡ length leads - k = omega arith in e)

  pub pairs_next : pair_count (drop (length leads - (k + 1)) leads) ≡ count_by (λ u. nat_eq u.column t.column) (drop (length leads - k) leads) + pair_count (drop (length leads - k) leads)
  unfolding pair_count
  pairs_next = ap pair_count behind_next

  pub column_next : (column : ℕ) → count_by (λ (u : Term). nat_eq u.column column) (drop (length leads - (k + 1)) leads) ≡ cond (nat_eq t.column column) 1 0 + count_by (λ (u : Term). nat_eq u.column column) (drop (length leads - k) leads)
  column_next column = ap (count_by (λ (u : Term). nat_eq u.column column)) behind_next ∙ sum_by-cons (λ (u : Term). cond (nat_eq u.column column) 1 0) t (drop (length leads - k) leads)

  pub counts_next : (old new : BTreeMap ℕ ℕ) → Updates nat_cmp old new t.column (Some (count_by (λ (u : Term). nat_eq u.column t.column) (drop (length leads - k) leads) + 1))
      → ((column : ℕ) → count_at old column ≡ count_by (λ (u : Term). nat_eq u.column column) (drop (length leads - k) leads))
      → (column : ℕ) → count_at new column ≡ count_by (λ (u : Term). nat_eq u.column column) (drop (length leads - (k + 1)) leads)
  counts_next old new updates counted column = ap (λ v. unwrap_or v 0) (updates.0 column) ∙ by (nat_eq t.column column) refl ∙ sym (column_next column)
    where
      equal_by_order : (i x : ℕ) → is_eq (nat_cmp i x) ≡ nat_eq i x
      equal_by_order i x = grind (arith, nat_tests)

      apart_by_order : (i x : ℕ) → nat_eq i x ≡ true → i ≡ x
      apart_by_order i x h = grind (arith, nat_tests)

      by : (b : Bool) → nat_eq t.column column ≡ b → unwrap_or (cond (is_eq (nat_cmp t.column column)) (Some (count_by (λ (u : Term). nat_eq u.column t.column) (drop (length leads - k) leads) + 1)) (get nat_cmp old column)) 0 ≡ cond (nat_eq t.column column) 1 0 + count_by (λ (u : Term). nat_eq u.column column) (drop (length leads - k) leads)
      by true e =
          ap (λ b. unwrap_or (cond b (Some (count_by (λ (u : Term). nat_eq u.column t.column) (drop (length leads - k) leads) + 1)) (get nat_cmp old column)) 0) (equal_by_order t.column column ∙ e)
          ∙ ap (λ c. count_by (λ (u : Term). nat_eq u.column c) (drop (length leads - k) leads) + 1) (apart_by_order t.column column e)
          ∙ (let f : count_by (λ (u : Term). nat_eq u.column column) (drop (length leads - k) leads) + 1 ≡ 1 + count_by (λ (u : Term). nat_eq u.column column) (drop (length leads - k) leads) = omega arith in f)
          ∙ ap (λ b. cond b 1 0 + count_by (λ (u : Term). nat_eq u.column column) (drop (length leads - k) leads)) (sym e)
      by false e =
          ap (λ b. unwrap_or (cond b (Some (count_by (λ (u : Term). nat_eq u.column t.column) (drop (length leads - k) leads) + 1)) (get nat_cmp old column)) 0) (equal_by_order t.column column ∙ e)
          ∙ counted column
          ∙ (let f : count_by (λ (u : Term). nat_eq u.column column) (drop (length leads - k) leads) ≡ 0 + count_by (λ (u : Term). nat_eq u.column column) (drop (length leads - k) leads) = omega arith in f)
          ∙ ap (λ b. cond b 1 0 + count_by (λ (u : Term). nat_eq u.column column) (drop (length leads - k) leads)) (sym e)

pub behind_few : (leads : List Term) (k column : ℕ) → count_by (λ (u : Term). nat_eq u.column column) (drop (length leads - k) leads) ≤ length leads - (length leads - k)
behind_few leads k column = let h = count_by-le-length (λ (u : Term). nat_eq u.column column) (drop (length leads - k) leads) in let e = length-drop (length leads - k) leads in omega arith

none_behind : (leads : List Term) → drop (length leads - 0) leads ≡ []
none_behind leads = at_drop_all (λ ls. ls) leads (length leads - 0) (omega arith)

pub pairs_none : (leads : List Term) → pair_count (drop (length leads - 0) leads) ≡ 0
unfolding pair_count
pairs_none leads = ap pair_count (none_behind leads)

pub counts_none : (leads : List Term) (counts : BTreeMap ℕ ℕ) → IsEmpty counts → (column : ℕ) → count_at counts column ≡ count_by (λ (u : Term). nat_eq u.column column) (drop (length leads - 0) leads)
counts_none leads counts e column = ap (λ es. unwrap_or (lookup (is_at (nat_cmp column)) es) 0) e ∙ ap (count_by (λ (u : Term). nat_eq u.column column)) (sym (none_behind leads))
