-- How many pairs aren't listed, which bounds a run.
--     Keeps                      the pairs that are listed stay listed
--     unlisted_in, unlisted      how many pairs below a row, and below a number of rows, aren't listed
--     row_less, all_less         none more where what is listed stays
--     row_fewer, unlisted-fewer  fewer where one more is listed
--     unlisted-longer            more rows have no fewer
--     unlisted-smaller           fewer where one more is listed, and there are no more rows
use Rattle.std.proofs.Common.{◌≡◌, ℕ, zero, suc, ◌+◌, ◌<◌, ◌≤◌, Bool, true, false, cond, List, refl, sym, ap, ◌∙◌, subst, true≢false, arith}
use Rattle.std.proofs.Common.{inl, inr}
use Rattle.std.specs.Prelude.{◌⊎◌}
use Rattle.std.proofs.lemmas.Bool.{cases_eq}
use Rattle.ore_pairs.specs.PairRule.{is_listed}

abbrev pub Keeps : List (ℕ × ℕ) → List (ℕ × ℕ) → Type 0
Keeps ps qs = (x y : ℕ) → is_listed x y ps ≡ true → is_listed x y qs ≡ true

-- of the pairs of j and a lesser row, of n
unfoldable pub unlisted_in : List (ℕ × ℕ) → ℕ → ℕ → ℕ
unlisted_in ps j zero = 0
unlisted_in ps j (suc n) = cond (is_listed n j ps) 0 1 + unlisted_in ps j n

unfoldable pub unlisted : List (ℕ × ℕ) → ℕ → ℕ
unlisted ps zero = 0
unlisted ps (suc n) = unlisted_in ps n n + unlisted ps n

cond_less : (a b : Bool) → (a ≡ true → b ≡ true) → cond b 0 1 ≤ cond a 0 1
cond_less a true h = omega arith
cond_less true false h = absurd (true≢false (sym (h refl)))
cond_less false false h = omega arith

cond_fewer : (a b : Bool) → a ≡ false → b ≡ true → cond b 0 1 < cond a 0 1
cond_fewer true b e f = absurd (true≢false e)
cond_fewer false true e f = omega arith
cond_fewer false false e f = absurd (true≢false (sym f))

sum_less : (a b c d : ℕ) → a ≤ b → c ≤ d → a + c ≤ b + d
sum_less a b c d h k = omega arith

sum_fewer_left : (a b c d : ℕ) → a < b → c ≤ d → a + c < b + d
sum_fewer_left a b c d h k = omega arith

sum_fewer_right : (a b c d : ℕ) → a ≤ b → c < d → a + c < b + d
sum_fewer_right a b c d h k = omega arith

module _ (ps qs : List (ℕ × ℕ)) (keeps : Keeps ps qs) where
  row_less : (j n : ℕ) → unlisted_in qs j n ≤ unlisted_in ps j n
  unfolding unlisted_in
  row_less j zero = omega arith
  row_less j (suc n) = sum_less _ _ _ _ (cond_less (is_listed n j ps) (is_listed n j qs) (keeps n j)) (row_less j n)

  all_less : (n : ℕ) → unlisted qs n ≤ unlisted ps n
  unfolding unlisted
  all_less zero = omega arith
  all_less (suc n) = sum_less _ _ _ _ (row_less n n) (all_less n)

  module _ (i j : ℕ) (before : is_listed i j ps ≡ false) (after : is_listed i j qs ≡ true) where
    row_fewer : (n : ℕ) → i < n → unlisted_in qs j n < unlisted_in ps j n
    unfolding unlisted_in
    row_fewer zero h = absurd (omega arith)
    row_fewer (suc n) h = by (cases_eq i n) (λ (k : i < n). row_fewer n k)
      where
        by : (i ≡ n) ⊎ (i ≡ n → ⊥) → (i < n → unlisted_in qs j n < unlisted_in ps j n) → cond (is_listed n j qs) 0 1 + unlisted_in qs j n < cond (is_listed n j ps) 0 1 + unlisted_in ps j n
        by (inl e) more = sum_fewer_left _ _ _ _ (cond_fewer (is_listed n j ps) (is_listed n j qs) (ap (λ m. is_listed m j ps) (sym e) ∙ before) (ap (λ m. is_listed m j qs) (sym e) ∙ after)) (row_less j n)
        by (inr d) more = sum_fewer_right _ _ _ _ (cond_less (is_listed n j ps) (is_listed n j qs) (keeps n j)) (more (omega arith))

    pub unlisted-fewer : (n : ℕ) → i < j → j < n → unlisted qs n < unlisted ps n
    unfolding unlisted
    unlisted-fewer zero h k = absurd (omega arith)
    unlisted-fewer (suc n) h k = by (cases_eq j n) (λ (l : j < n). unlisted-fewer n h l)
      where
        by : (j ≡ n) ⊎ (j ≡ n → ⊥) → (j < n → unlisted qs n < unlisted ps n) → unlisted_in qs n n + unlisted qs n < unlisted_in ps n n + unlisted ps n
        by (inl e) more = sum_fewer_left _ _ _ _ (subst (λ m. unlisted_in qs m m < unlisted_in ps m m) e (row_fewer j h)) (all_less n)
        by (inr d) more = sum_fewer_right _ _ _ _ (row_less n n) (more (omega arith))

unlisted-longer : (ps : List (ℕ × ℕ)) (m n : ℕ) → m ≤ n → unlisted ps m ≤ unlisted ps n
unfolding unlisted
unlisted-longer ps m zero h = let e : m ≡ 0 = omega arith in rw e (omega arith)
unlisted-longer ps m (suc n) h = by (cases_eq m (suc n)) (λ (l : m ≤ n). unlisted-longer ps m n l)
  where
    less : (a b c : ℕ) → a ≤ c → a ≤ b + c
    less a b c h = omega arith

    same : (a b : ℕ) → a ≡ b → a ≤ b
    same a b h = omega arith

    by : (m ≡ suc n) ⊎ (m ≡ suc n → ⊥) → (m ≤ n → unlisted ps m ≤ unlisted ps n) → unlisted ps m ≤ unlisted_in ps n n + unlisted ps n
    by (inl e) more = same _ _ (ap (unlisted ps) e)
    by (inr d) more = less _ (unlisted_in ps n n) _ (more (omega arith))

pub unlisted-smaller : (ps qs : List (ℕ × ℕ)) (i j m n : ℕ) → Keeps ps qs → is_listed i j ps ≡ false → is_listed i j qs ≡ true → i < j → j < n → m ≤ n → unlisted qs m < unlisted ps n
unlisted-smaller ps qs i j m n keeps before after h k l = less _ _ _ (unlisted-longer qs m n l) (unlisted-fewer ps qs keeps i j before after n h k)
  where
    less : (a b c : ℕ) → a ≤ b → b < c → a < c
    less a b c h k = omega arith
