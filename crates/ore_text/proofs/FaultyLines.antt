-- The faulty line of a text.
--     same_take, got, at_take     lists with the same items at the first places have the same first items, and back
--     Stray                       as many lines as this come before the faulty one
--     stray_faulty, faulty_stray  so the next line is faulty; and the other way round
--     not_before                  no faulty line comes before another
--     one_faulty_line             a text has at most one faulty line, and none where it is in the set
use Rattle.std.proofs.Common.{◌≡◌, ◌≤◌, ◌⊎◌, inl, inr, ℕ, zero, suc, ◌-◌, ◌<◌, List, [], ◌∷◌, take, refl, sym, ap, ◌∙◌, arith}
use Rattle.std.specs.Prelude.{slice_get}
use Rattle.std.proofs.lemmas.Bool.{cases_lt}
use Rattle.std.proofs.lemmas.Option.{none-some, same_Some}
use Rattle.ore_text.specs.FaultyLine.{IsFaultyLine, HasOneFaultyLine}

pub same_take : {A : Type 0} (n : ℕ) (xs ys : List A) → ((k : ℕ) → k < n → slice_get xs k ≡ slice_get ys k) → take n xs ≡ take n ys
same_take zero xs ys h = refl
same_take (suc n) [] [] h = refl
same_take (suc n) [] (y ∷ ys) h = absurd (none-some y (h 0 (omega arith)))
same_take (suc n) (x ∷ xs) [] h = absurd (none-some x (sym (h 0 (omega arith))))
same_take (suc n) (x ∷ xs) (y ∷ ys) h = λ i. same_Some x y (h 0 (omega arith)) i ∷ same_take n xs ys (λ k l. h (suc k) (omega arith)) i

got : {A : Type 0} (n : ℕ) (xs : List A) (k : ℕ) → k < n → slice_get (take n xs) k ≡ slice_get xs k
got zero xs k h = absurd (let z : ⊥ = omega arith in z)
got (suc n) [] k h = refl
got (suc n) (x ∷ xs) zero h = refl
got (suc n) (x ∷ xs) (suc k) h = got n xs k (omega arith)

pub at_take : {A : Type 0} (n : ℕ) (xs ys : List A) → take n xs ≡ take n ys → (k : ℕ) → k < n → slice_get xs k ≡ slice_get ys k
at_take n xs ys e k h = sym (got n xs k h) ∙ ap (λ t. slice_get t k) e ∙ got n ys k h

-- ---- the faulty line

module _ (lines : List ℕ → List (List ℕ)) where
  pub record Stray (T : List ℕ → Type 0) (text : List ℕ) (before : ℕ) : Type 0 where
    pub follows : (other : List ℕ) × T other × (take before (lines text) ≡ take before (lines other))
    pub differs : (other : List ℕ) → T other → take (suc before) (lines text) ≡ take (suc before) (lines other) → ⊥

  pub stray_faulty : (T : List ℕ → Type 0) (text : List ℕ) (n : ℕ) → Stray T text n → IsFaultyLine lines T text (suc n)
  stray_faulty T text n s = record {
    follows = (s.follows.0, s.follows.1, λ k h. at_take n (lines text) (lines s.follows.0) s.follows.2 k (let l : k < n = omega arith in l));
    differs = λ other t a. s.differs other t (same_take (suc n) (lines text) (lines other) a);
  }

  pub faulty_stray : (T : List ℕ → Type 0) (text : List ℕ) (line : ℕ) → IsFaultyLine lines T text line → (n : ℕ) × (line ≡ suc n) × Stray T text n
  faulty_stray T text zero f = absurd (f.differs f.follows.0 f.follows.1 (λ k h. absurd (let z : ⊥ = omega arith in z)))
  faulty_stray T text (suc n) f = (
    n,
    refl,
    record {
      follows = (f.follows.0, f.follows.1, same_take n (lines text) (lines f.follows.0) (λ k h. f.follows.2 k (let l : k < suc n - 1 = omega arith in l)));
      differs = λ other t e. f.differs other t (at_take (suc n) (lines text) (lines other) e);
    },
  )

  -- ---- there is one

  not_before : (T : List ℕ → Type 0) (text : List ℕ) (j k : ℕ) → IsFaultyLine lines T text j → IsFaultyLine lines T text k → j < k → ⊥
  not_before T text j k f g h = f.differs g.follows.0 g.follows.1 (λ i l. g.follows.2 i (let m : i < k - 1 = omega arith in m))

  pub one_faulty_line : (T : List ℕ → Type 0) → HasOneFaultyLine lines T
  one_faulty_line T = record {
    one = λ text j k f g. by text j k f g (cases_lt j k) (cases_lt k j);
    none = λ text k t f. f.differs text t (λ i h. refl);
  }
    where
      by : (text : List ℕ) (j k : ℕ) → IsFaultyLine lines T text j → IsFaultyLine lines T text k → (j < k) ⊎ (k ≤ j) → (k < j) ⊎ (j ≤ k) → j ≡ k
      by text j k f g (inl h) b = absurd (not_before T text j k f g h)
      by text j k f g (inr h) (inl l) = absurd (not_before T text k j g f l)
      by text j k f g (inr h) (inr l) = omega arith
