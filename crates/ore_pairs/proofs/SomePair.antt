-- A test of two places, of all rows.
--     not_true                 a test that isn't true is false
--     list_none                a test that no number passes
--     there                    the number at a place of all numbers from zero on
--     pair_none, pair_some, pair_not      no pair passes a test; one does; a pair of rows doesn't where none does
--     some_in, some_pair_is    the number, and the pair, that pass a test where some does
use Rattle.std.proofs.Common.{◌≡◌, ℕ, ◌<◌, Bool, true, false, List, [], ◌∷◌, length, get_or, refl, sym, ap, ap₂, ◌∙◌, subst, true≢false, zero-add}
use Rattle.std.specs.Prelude.{◌||◌}
use Rattle.std.specs.List.{list_any, range_with_len}
use Rattle.std.proofs.lemmas.List.Folds.{list_any_at}
use Rattle.std.proofs.lemmas.List.FromFn.{length-range_with_len, get_or-range_with_len}
use Rattle.ore_pairs.specs.PairRule.{some_pair}

pub not_true : (b : Bool) → (b ≡ true → ⊥) → b ≡ false
not_true true h = absurd (h refl)
not_true false h = refl

list_none : (test : ℕ → Bool) (xs : List ℕ) → ((x : ℕ) → test x ≡ false) → list_any test xs ≡ false
list_none test [] h = refl
list_none test (x ∷ xs) h = ap₂ ◌||◌ (h x) (list_none test xs h)

pub there : (n x : ℕ) → x < n → get_or (range_with_len 0 n) x 0 ≡ x
there n x l = get_or-range_with_len 0 n x 0 l ∙ zero-add x

module _ (rows : ℕ) (test : ℕ → ℕ → Bool) where
  pub pair_none : ((x y : ℕ) → test x y ≡ false) → some_pair rows test ≡ false
  unfolding some_pair
  pair_none h = list_none _ (range_with_len 0 rows) (λ x. list_none (test x) (range_with_len 0 rows) (h x))

  within : (x : ℕ) → x < rows → x < length (range_with_len 0 rows)
  within x l = subst (λ m. x < m) (sym (length-range_with_len 0 rows)) l

  pub pair_some : (x y : ℕ) → x < rows → y < rows → test x y ≡ true → some_pair rows test ≡ true
  unfolding some_pair
  pair_some x y l m e =
      list_any_at (λ i. list_any (test i) (range_with_len 0 rows)) (range_with_len 0 rows) x 0 (within x l)
      (ap (λ i. list_any (test i) (range_with_len 0 rows)) (there rows x l) ∙ list_any_at (test x) (range_with_len 0 rows) y 0 (within y m) (ap (test x) (there rows y m) ∙ e))

  pub pair_not : some_pair rows test ≡ false → (x y : ℕ) → x < rows → y < rows → test x y ≡ false
  pair_not h x y l m = not_true (test x y) (λ e. true≢false (sym (pair_some x y l m e) ∙ h))

some_in : (test : ℕ → Bool) (xs : List ℕ) → list_any test xs ≡ true → (x : ℕ) × (test x ≡ true)
some_in test [] h = absurd (true≢false (sym h))
some_in test (x ∷ xs) h = by (test x) refl h (some_in test xs)
  where
    by : (b : Bool) → test x ≡ b → (b || list_any test xs) ≡ true → (list_any test xs ≡ true → (y : ℕ) × (test y ≡ true)) → (y : ℕ) × (test y ≡ true)
    by true e g rest = (x, e)
    by false e g rest = rest g

-- some pair passes the test
pub some_pair_is : (rows : ℕ) (test : ℕ → ℕ → Bool) → some_pair rows test ≡ true → (i : ℕ) × (j : ℕ) × (test i j ≡ true)
unfolding some_pair
some_pair_is rows test h =
    let row = some_in (λ i. list_any (test i) (range_with_len 0 rows)) (range_with_len 0 rows) h in
    let partner = some_in (test row.0) (range_with_len 0 rows) row.1 in
    (row.0, partner.0, partner.1)
