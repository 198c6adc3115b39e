-- The least row by way of which a pair may be skipped.
--     first_is, answer      the first number that passes a test, and what is found
--     position_found, position_none     it is found where it is below the end
--     one_more              one more number fails
--     via_found, via_none   the least row is this one, where those before don't serve; there is none
--     via_is                what is known of the least row
use Rattle.std.proofs.Common.{◌≡◌, ⊎_elim, ℕ, ◌+◌, ◌<◌, ◌≤◌, Bool, true, false, cond, List, length, sym, ap, ap₂, ◌∙◌, subst, arith}
use Rattle.std.specs.Prelude.{nat_lt}
use Rattle.std.specs.List.{range_with_len, position, position_or_len}
use Rattle.std.specs.declared.option.Option.TheVariants.{None, Some}
use Rattle.std.proofs.lemmas.Bool.{cases_lt}
use Rattle.std.proofs.lemmas.Bool.Decides.{nat_tests}
use Rattle.std.proofs.lemmas.List.FromFn.{length-range_with_len}
use Rattle.std.proofs.lemmas.List.Quantifiers.{position-Some}
use Rattle.std.proofs.lemmas.List.Sums.{position_or_len_is}
use Rattle.ore_monomial.specs.Term.{Term}
use Rattle.ore_pairs.proofs.SomePair.{there}
use Rattle.ore_pairs.specs.PairRule.{may_skip}
use Rattle.ore_report.specs.ChainRule.{least_via}

below : (i n : ℕ) → i < n → nat_lt i n ≡ true
below i n l = grind (arith, nat_tests)

not_below : (i n : ℕ) → n ≤ i → nat_lt i n ≡ false
not_below i n l = grind (arith, nat_tests)

module _ (test : ℕ → Bool) (n i : ℕ) (l : i ≤ n) (fails : (k : ℕ) → k < i → test k ≡ false) where
  first_is : (i < n → test i ≡ true) → position_or_len test (range_with_len 0 n) ≡ i
  first_is h =
      position_or_len_is test (range_with_len 0 n) i 0 (subst (λ m. i ≤ m) (sym (length-range_with_len 0 n)) l)
      (λ k m. ap test (there n k (omega arith)) ∙ fails k m)
      (λ m. let inside : i < n = subst (λ x. i < x) (length-range_with_len 0 n) m in ap test (there n i inside) ∙ h inside)

  answer : (i < n → test i ≡ true) → position test (range_with_len 0 n) ≡ cond (nat_lt i n) (Some i) None
  answer h = ap₂ (λ p m. cond (nat_lt p m) (Some p) None) (first_is h) (length-range_with_len 0 n)

  pub position_found : i < n → test i ≡ true → position test (range_with_len 0 n) ≡ Some i
  position_found m e = answer (λ _. e) ∙ ap (λ b. cond b (Some i) None) (below i n m)

  pub position_none : n ≤ i → position test (range_with_len 0 n) ≡ None
  position_none m = answer (λ k. absurd (omega arith)) ∙ ap (λ b. cond b (Some i) None) (not_below i n m)

pub one_more : (test : ℕ → Bool) (n : ℕ) → ((k : ℕ) → k < n → test k ≡ false) → test n ≡ false → (k : ℕ) → k < n + 1 → test k ≡ false
one_more test n fails e k l = ⊎_elim (λ m. fails k m) (λ m. ap test (let same : k ≡ n = omega arith in same) ∙ e) (cases_lt k n)

module _ (leads : List Term) (ps : List (ℕ × ℕ)) (i j via : ℕ) where
  pub via_found : ((k : ℕ) → k < via → may_skip leads ps i j k ≡ false) → via < length leads → may_skip leads ps i j via ≡ true → Some via ≡ least_via leads ps i j
  unfolding least_via
  via_found fails l e = sym (position_found (may_skip leads ps i j) (length leads) via (omega arith) fails l e)

  pub via_none : ((k : ℕ) → k < via → may_skip leads ps i j k ≡ false) → via ≡ length leads → None ≡ least_via leads ps i j
  unfolding least_via
  via_none fails l = sym (position_none (may_skip leads ps i j) (length leads) via (omega arith) fails (omega arith))

  -- it has a lead and lets the pair be skipped, and no row before it does
  pub via_is : least_via leads ps i j ≡ Some via → (via < length leads) × (may_skip leads ps i j via ≡ true) × ((k : ℕ) → k < via → may_skip leads ps i j k ≡ false)
  unfolding least_via
  via_is e =
      let parts = position-Some (may_skip leads ps i j) (range_with_len 0 (length leads)) via 0 e in
      let inside : via < length leads = subst (λ n. via < n) (length-range_with_len 0 (length leads)) parts.0 in (
        inside,
        ap (may_skip leads ps i j) (sym (there (length leads) via inside)) ∙ parts.1,
        λ k l. ap (may_skip leads ps i j) (sym (there (length leads) k (omega arith))) ∙ parts.2 k l,
      )
