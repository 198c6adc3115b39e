-- Rows with an operator at one place: multiples of unit rows.
--     place                    f at place k of n entries, and zeros
--     length-place, of_place, entry-place_same, entry-place_other
--     place-plus, place_none, scale-place     it is linear in f
--     combine-place            times rows it is f times row k
--     by_combination           what holds of zeros, of sums and of the multiples of the rows holds of a combination
--     by_places                what holds of zeros, of sums and of a row's entries at their places holds of the row
use Rattle.std.proofs.Common.{◌≡◌, ◌≢◌, ℕ, suc, ◌<◌, cond, false, true, nat_eq, List, [], ◌∷◌, length, get_or, sym, ap, ◌∙◌, subst, arith}
use Rattle.std.proofs.lemmas.Bool.Decides.{nat_tests}
use native.Mathlib.Decide.{dec_lt}
use Rattle.std.proofs.lemmas.List.{get_or_past}
use Rattle.ore_algebra.specs.Domain.{Domain}
use Rattle.ore_algebra.specs.Free.{empty_sum, single, plus}
use Rattle.ore_monomial.specs.Monomial.{unit, plain_cmp}
use Rattle.ore_monomial.specs.Signature.{Signature, IsLawful}
use Rattle.ore_monomial.specs.LetterRule.{Operator}
use Rattle.ore_monomial.proofs.Operators
use Rattle.ore_ring.specs.Belongs.{OperatorOf}
use Rattle.ore_ring.specs.Product.{times}
use Rattle.ore_ring.proofs.Product.{times-linear_right, times-one}
use Rattle.ore_rows.specs.Rows.{Row, RowOf, AreLong, zero_row, unit_row, identity_rows, row_plus, row_scale, combine}
use Rattle.ore_rows.proofs.RowLaws as Rows
use Rattle.ore_rows.proofs.UnitRows.{length-unit_row, entry-unit_row, of_unit_row, combine-unit_row, row-identity_rows, long_identity, combine-identity_rows}
use Rattle.ore_pairs.specs.Steps.{row_at}

abbrev pub place : (K : Domain) → Signature → ℕ → ℕ → Operator K → Row K
place K s n k f = row_scale K s f (unit_row K n k)

module _ (K : Domain) (s : Signature) where
  pub of_place : (n k : ℕ) (f : Operator K) → OperatorOf K s f → RowOf K s (place K s n k f)
  of_place n k f h = Rows.of_row_scale K s f _ h (of_unit_row K s n k)

  pub place_none : (n k : ℕ) → place K s n k (empty_sum K plain_cmp) ≡ zero_row K n
  place_none n k = Rows.zero_scale_row K s n _ (length-unit_row K n k)

  pub place-plus : (n k : ℕ) (f g : Operator K) → place K s n k (plus K plain_cmp f g) ≡ row_plus K (place K s n k f) (place K s n k g)
  place-plus n k f g = Rows.scale_sum K s f g (unit_row K n k)

module _ (K : Domain) (s : Signature) (lawful : IsLawful s) where
  abbrev entry : Row K → ℕ → Operator K
  entry r j = get_or r j (empty_sum K plain_cmp)

  pub length-place : (n k : ℕ) (f : Operator K) → length (place K s n k f) ≡ n
  length-place n k f = Rows.length-row_scale K s lawful f _ ∙ length-unit_row K n k

  pub scale-place : (d : Operator K) (n k : ℕ) (f : Operator K) → row_scale K s d (place K s n k f) ≡ place K s n k (times K s d f)
  scale-place d n k f = Rows.scale-scale K s lawful d f (unit_row K n k)

  pub entry-place_same : (n k : ℕ) (f : Operator K) → k < n → entry (place K s n k f) k ≡ f
  entry-place_same n k f h =
      let own : nat_eq k k ≡ true = grind (arith, nat_tests) in
      Rows.entry-row_scale K s f _ k
      ∙ ap (times K s f) (entry-unit_row K n k k h ∙ ap (λ b. cond b (single K plain_cmp unit K.one) (empty_sum K plain_cmp)) own)
      ∙ times-one K s lawful f

  pub entry-place_other : (n k j : ℕ) (f : Operator K) → j ≢ k → entry (place K s n k f) j ≡ empty_sum K plain_cmp
  entry-place_other n k j f h = by (dec_lt j n)
    where
      apart : nat_eq j k ≡ false
      apart = grind (arith, nat_tests, h)

      by : Dec (j < n) → entry (place K s n k f) j ≡ empty_sum K plain_cmp
      by (yes l) =
          Rows.entry-row_scale K s f _ j
          ∙ ap (times K s f) (entry-unit_row K n k j l ∙ ap (λ b. cond b (single K plain_cmp unit K.one) (empty_sum K plain_cmp)) apart)
          ∙ Operators.linear-empty_sum K (times-linear_right K s f)
      by (no a) = get_or_past (place K s n k f) j (empty_sum K plain_cmp) (let e = length-place n k f in omega arith)

  pub combine-place : (p k : ℕ) (f : Operator K) (rows : List (Row K)) → k < length rows → AreLong K p rows → combine K s p (place K s (length rows) k f) rows ≡ row_scale K s f (row_at rows k)
  combine-place p k f rows h long = sym (Rows.scale-combine K s lawful f p _ rows) ∙ ap (row_scale K s f) (combine-unit_row K s lawful p k rows h long)

  pub by_combination {ℓ} : (P : Row K → Type ℓ) (n : ℕ) (c : Row K) (rows : List (Row K)) → AreLong K n rows → P (zero_row K n)
      → ((a b : Row K) → length a ≡ n → length b ≡ n → P a → P b → P (row_plus K a b))
      → ((k : ℕ) → k < length c → k < length rows → P (row_scale K s (entry c k) (row_at rows k))) → P (combine K s n c rows)
  unfolding combine
  by_combination P n [] rows long base sum each = base
  by_combination P n (f ∷ c) [] long base sum each = base
  by_combination P n (f ∷ c) (r ∷ rows) long base sum each =
      sum _ _ (Rows.length-row_scale K s lawful f r ∙ long.0) (Rows.length-combine K s lawful n c rows long.1)
      (each 0 (omega arith) (omega arith))
      (by_combination P n c rows long.1 base sum (λ k h l. each (suc k) (omega arith) (omega arith)))

  pub by_places {ℓ} : (P : Row K → Type ℓ) (n : ℕ) (r : Row K) → length r ≡ n → P (zero_row K n)
      → ((a b : Row K) → length a ≡ n → length b ≡ n → P a → P b → P (row_plus K a b))
      → ((k : ℕ) → k < n → P (place K s n k (entry r k))) → P r
  by_places P n r e base sum each =
      subst P (combine-identity_rows K s lawful n r e)
      (by_combination P n r (identity_rows K n) (long_identity K n) base sum
      (λ k h l. let kn : k < n = subst (λ m. k < m) e h in subst (λ q. P (row_scale K s (entry r k) q)) (sym (row-identity_rows K n k kn)) (each k kn)))
