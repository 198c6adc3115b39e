-- Dickson's lemma (Dickson 1913): a list of tuples of numbers that is made longer only by one that no earlier one divides
-- comes to an end. Constructively: by induction on such lists.
--     IsNew, Ends              nothing seen before divides it; however new ones are put in front, there is an end
--     ends_more                with more seen, there are fewer that are new
--     by_slices                some such lists side by side, of which one at a time is made longer
--     Both, ends_both          a number and something else, neither smaller; such pairs come to an end
--     Tuple, Divides, dickson  tuples of numbers
use Rattle.std.proofs.Common.{◌≡◌, ℕ, zero, suc, pred, ◌-◌, ◌<◌, ◌≤◌, List, [], ◌∷◌, ◌++◌, length, replicate, get_or, set, refl, sym, ap, ◌∙◌, subst, arith}
use Rattle.std.specs.List.{AllByRecursion}
use Rattle.std.proofs.lemmas.List.{get_or-set_same, get_or-set_other, get_or_past, length-append, length-replicate}
use native.Mathlib.Decide.{dec_lt, ℕ_discrete}

-- no earlier one divides a; R b a says that b divides a
abbrev pub IsNew : {A : Type 0} → (A → A → Type 0) → A → List A → Type 0
IsNew R a seen = AllByRecursion (λ b. ¬ R b a) seen

-- however new ones are put in front, one after the other, there is an end
pub data Ends {A : Type 0} (R : A → A → Type 0) : List A → Type 0 where
  ended : {seen : List A} → ((a : A) → IsNew R a seen → Ends R (a ∷ seen)) → Ends R seen

-- with more seen, there are fewer that are new
pub ends_more : {A : Type 0} (R : A → A → Type 0) (seen more : List A) → ((a : A) → IsNew R a more → IsNew R a seen) → Ends R seen → Ends R more
ends_more R seen more w (ended h) = ended (λ a n. ends_more R (a ∷ seen) (a ∷ more) (λ b m. (m.0, w b m.1)) (h a (w a n)))

-- ---- some such lists side by side, of which one at a time is made longer

module _ {A : Type 0} (R : A → A → Type 0) where
  abbrev pub AllEnd : List (List A) → Type 0
  AllEnd slices = AllByRecursion (Ends R) slices

  abbrev pub FromLonger : ℕ → (List (List A) → Type 0) → Type 0
  FromLonger n P = (slices : List (List A)) → length slices ≡ n → AllEnd slices
      → ((k : ℕ) (a : A) → k < n → IsNew R a (get_or slices k []) → P (set slices k (a ∷ get_or slices k []))) → P slices

  pub by_slices : (n : ℕ) (P : List (List A) → Type 0) → FromLonger n P → (slices : List (List A)) → length slices ≡ n → AllEnd slices → P slices
  by_slices zero P step [] e all = step [] refl tt (λ k a l new. absurd (omega arith))
  by_slices zero P step (x ∷ slices) e all = absurd (omega arith)
  by_slices (suc n) P step [] e all = absurd (omega arith)
  by_slices (suc n) P step (x ∷ slices) e all = go (λ y. by_slices n (λ ss. P (y ∷ ss))) x all.0 slices (ap pred e) all.1
    where
      go : ((y : List A) → FromLonger n (λ ss. P (y ∷ ss)) → (slices : List (List A)) → length slices ≡ n → AllEnd slices → P (y ∷ slices))
          → (x : List A) → Ends R x → (slices : List (List A)) → length slices ≡ n → AllEnd slices → P (x ∷ slices)
      go inner x (ended h) slices l all = inner x
          (λ ss l all lowered. step (x ∷ ss) (ap suc l) (ended h, all)
          (elim [ zero ↦ λ a k new. go inner (a ∷ x) (h a new) ss l all | suc k ↦ λ a kl new. lowered k a (omega arith) new ]))
          slices l all

-- ---- one more exponent

-- a number and another that is not smaller, and R of the rest
abbrev pub Both : {A : Type 0} → (A → A → Type 0) → ℕ × A → ℕ × A → Type 0
Both R x y = (x.0 ≤ y.0) × R x.1 y.1

module _ {A : Type 0} (R : A → A → Type 0) (empty : Ends R []) where
  padded : (slices : List (List A)) (j k : ℕ) → get_or (slices ++ replicate j []) k [] ≡ get_or slices k []
  padded [] zero k = refl
  padded [] (suc j) zero = refl
  padded [] (suc j) (suc k) = padded [] j k
  padded (x ∷ slices) j zero = refl
  padded (x ∷ slices) j (suc k) = padded slices j k

  padded_end : (slices : List (List A)) (j : ℕ) → AllEnd R slices → AllEnd R (slices ++ replicate j [])
  padded_end [] zero all = tt
  padded_end [] (suc j) all = (empty, padded_end [] j tt)
  padded_end (x ∷ slices) j all = (all.0, padded_end slices j all.1)

  -- what is new with a large number is new to the chain
  abbrev Chains : List A → ℕ → List (ℕ × A) → Type 0
  Chains chain n seen = (m : ℕ) (a : A) → n ≤ m → IsNew (Both R) (m, a) seen → IsNew R a chain

  -- what is new with a small number is new to its slice
  abbrev Slices : ℕ → List (List A) → List (ℕ × A) → Type 0
  Slices n slices seen = (k : ℕ) (a : A) → k < n → IsNew (Both R) (k, a) seen → IsNew R a (get_or slices k [])

  go : (chain : List A) → Ends R chain → (n : ℕ) (slices : List (List A)) → length slices ≡ n → AllEnd R slices → (seen : List (ℕ × A)) → Chains chain n seen → Slices n slices seen → Ends (Both R) seen
  go chain (ended h) n slices l all = by_slices R n (λ ss. (seen : List (ℕ × A)) → Chains chain n seen → Slices n ss seen → Ends (Both R) seen)
      (λ ss l all lowered seen c i. ended (λ x new. next (λ a new m ss l all seen c i. go (a ∷ chain) (h a new) m ss l all seen c i) ss l all lowered seen c i x new (dec_lt x.0 n))) slices l all
    where
      Deeper : Type 0
      Deeper = (a : A) → IsNew R a chain → (m : ℕ) (ss : List (List A)) → length ss ≡ m → AllEnd R ss → (seen : List (ℕ × A)) → Chains (a ∷ chain) m seen → Slices m ss seen → Ends (Both R) seen

      next : Deeper → (ss : List (List A)) → length ss ≡ n → AllEnd R ss
          → ((k : ℕ) (a : A) → k < n → IsNew R a (get_or ss k []) → (seen : List (ℕ × A)) → Chains chain n seen → Slices n (set ss k (a ∷ get_or ss k [])) seen → Ends (Both R) seen)
          → (seen : List (ℕ × A)) → Chains chain n seen → Slices n ss seen → (x : ℕ × A) → IsNew (Both R) x seen → Dec (x.0 < n) → Ends (Both R) (x ∷ seen)
      next deeper ss l all lowered seen c i x new (yes lt) = lowered x.0 x.1 lt (i x.0 x.1 lt new) (x ∷ seen) (λ m a h w. c m a h w.1) slice
        where
          slice : Slices n (set ss x.0 (x.1 ∷ get_or ss x.0 [])) (x ∷ seen)
          slice k a kl w = by (ℕ_discrete k x.0)
            where
              by : Dec (k ≡ x.0) → IsNew R a (get_or (set ss x.0 (x.1 ∷ get_or ss x.0 [])) k [])
              by (yes e) =
                  let same : get_or (set ss x.0 (x.1 ∷ get_or ss x.0 [])) k [] ≡ x.1 ∷ get_or ss x.0 [] = ap (λ j. get_or (set ss x.0 (x.1 ∷ get_or ss x.0 [])) j []) e ∙ get_or-set_same ss x.0 (x.1 ∷ get_or ss x.0 []) [] (subst (λ m. x.0 < m) (sym l) lt) in
                  subst (IsNew R a) (sym same) (λ r. w.0 (let q : x.0 ≤ k = omega arith in q, r), subst (λ j. IsNew R a (get_or ss j [])) e (i k a kl w.1))
              by (no d) = subst (IsNew R a) (sym (get_or-set_other ss x.0 k (x.1 ∷ get_or ss x.0 []) [] d)) (i k a kl w.1)
      next deeper ss l all lowered seen c i x new (no ge) = deeper x.1 (c x.0 x.1 (omega arith) new) (suc x.0) (ss ++ replicate (suc x.0 - n) []) long (padded_end ss (suc x.0 - n) all) (x ∷ seen)
          (λ m a h w. (λ r. w.0 (omega arith, r), c m a (omega arith) w.1)) slice
        where
          nothing : List A
          nothing = []

          long : length (ss ++ replicate (suc x.0 - n) []) ≡ suc x.0
          long = let p = length-append ss (replicate (suc x.0 - n) []) in let q : length (replicate (suc x.0 - n) nothing) ≡ suc x.0 - n = length-replicate (suc x.0 - n) nothing in omega arith

          slice : Slices (suc x.0) (ss ++ replicate (suc x.0 - n) []) (x ∷ seen)
          slice k a kl w = subst (IsNew R a) (sym (padded ss (suc x.0 - n) k)) (by (dec_lt k n))
            where
              by : Dec (k < n) → IsNew R a (get_or ss k [])
              by (yes s) = i k a s w.1
              by (no s) = subst (IsNew R a) (sym (get_or_past ss k [] (omega arith))) tt

  pub ends_both : Ends (Both R) []
  ends_both = go [] empty 0 [] refl tt [] (λ m a h n. tt) (λ k a h n. absurd (omega arith))

-- ---- tuples

abbrev pub Tuple : ℕ → Type 0
Tuple zero = Unit {0}
Tuple (suc k) = ℕ × Tuple k

abbrev pub Divides : (k : ℕ) → Tuple k → Tuple k → Type 0
Divides zero = λ x y. Unit {0}
Divides (suc k) = Both (Divides k)

pub dickson : (k : ℕ) → Ends (Divides k) []
dickson zero = ended (λ a n. ended (λ b m. absurd (m.0 tt)))
dickson (suc k) = ends_both (Divides k) (dickson k)
