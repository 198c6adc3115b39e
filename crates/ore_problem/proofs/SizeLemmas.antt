-- The sizes that a matrix line gives.
--     sizes_of_other      words that are not three are no sizes
--     sizes_of_counts     two counts that are at most 64 are sizes
--     sizes_of_words, sizes_of_rows, sizes_of_cols      the faults of three words, in their order
--     great_size, small_size      what the value up to 65 says of a size
use Rattle.std.proofs.Common.{◌≡◌, ◌≢◌, ℕ, ◌<◌, ◌≤◌, true, false, ◌&&◌, min, nat_lt, List, [], ◌∷◌, length, refl, arith}
use Rattle.std.specs.declared.result.Result.TheVariants.{Ok, Err}
use Rattle.std.specs.Str.Parse.{digits_value}
use Rattle.std.proofs.lemmas.Bool.Decides.{nat_tests}
use Rattle.ore_problem.specs.declared.fault.ProblemReason.TheVariants as reason
use Rattle.ore_problem.specs.Declarations.{is_count}
use Rattle.ore_problem.specs.Problems.{sizes_of}

pub sizes_of_other : (line : ℕ) (ws : List (List ℕ)) → length ws ≢ 3 → sizes_of line ws ≡ Err (record { line = line; reason = reason.BadMatrix })
unfolding sizes_of
sizes_of_other line [] n = refl
sizes_of_other line (u ∷ []) n = refl
sizes_of_other line (u ∷ v ∷ []) n = refl
sizes_of_other line (u ∷ v ∷ w ∷ []) n = absurd (n refl)
sizes_of_other line (u ∷ v ∷ w ∷ x ∷ ws) n = refl

great_size : (v : ℕ) → 64 < min v 65 → nat_lt 64 v ≡ true
great_size v h = let g : 64 < v = omega arith in grind (arith, nat_tests)

small_size : (v : ℕ) → min v 65 ≤ 64 → nat_lt 64 v ≡ false
small_size v h = let g : v ≤ 64 = omega arith in grind (arith, nat_tests)

module _ (line : ℕ) (word q p : List ℕ) where
  pub sizes_of_words : (is_count q && is_count p) ≡ false → sizes_of line (word ∷ q ∷ p ∷ []) ≡ Err (record { line = line; reason = reason.BadMatrix })
  unfolding sizes_of
  sizes_of_words e = rw e refl

  pub sizes_of_rows : (is_count q && is_count p) ≡ true → 64 < min (digits_value 10 q) 65 → sizes_of line (word ∷ q ∷ p ∷ []) ≡ Err (record { line = line; reason = reason.TooManyRows })
  unfolding sizes_of
  sizes_of_rows e h = let g = great_size (digits_value 10 q) h in rw (e, g) refl

  pub sizes_of_cols : (is_count q && is_count p) ≡ true → min (digits_value 10 q) 65 ≤ 64 → 64 < min (digits_value 10 p) 65 → sizes_of line (word ∷ q ∷ p ∷ []) ≡ Err (record { line = line; reason = reason.TooManyColumns })
  unfolding sizes_of
  sizes_of_cols e h k = let g = small_size (digits_value 10 q) h in let f = great_size (digits_value 10 p) k in rw (e, g, f) refl

  pub sizes_of_counts : (is_count q && is_count p) ≡ true → min (digits_value 10 q) 65 ≤ 64 → min (digits_value 10 p) 65 ≤ 64 → sizes_of line (word ∷ q ∷ p ∷ []) ≡ Ok (min (digits_value 10 q) 65, min (digits_value 10 p) 65)
  unfolding sizes_of
  sizes_of_counts e h k =
      let g = small_size (digits_value 10 q) h in
      let f = small_size (digits_value 10 p) k in
      let a : min (digits_value 10 q) 65 ≡ digits_value 10 q = omega arith in
      let b : min (digits_value 10 p) 65 ≡ digits_value 10 p = omega arith in
      rw (e, g, f, a, b) refl
