-- The origins of the pairs that events treat.
--     same_origins       they are the same, however many basis rows stood before the events
--     origins_treated, origins_skipped   of some before, one event and those behind it
--     new_rows-zero, new_rows-new, new_rows-skipped     how many basis rows they made
--     entries-zero, entries-new, entries-skipped        their entries
--     entries-none, new_rows-none, origins-none         of no events
use Rattle.std.proofs.Common.{◌≡◌, ℕ, suc, ◌+◌, List, [], ◌∷◌, ◌++◌, map, refl, sym, ap, ◌∙◌, append_assoc, arith}
use Rattle.ore_rational.specs.Field.{rationals}
use Rattle.ore_rational.specs.Fraction.{Fraction}
use Rattle.ore_rows.specs.Reduction.{Step}
use Rattle.ore_monomial.specs.Monomial.{unit}
use Rattle.ore_rows.specs.declared.choices.Origin.{Origin}
use Rattle.ore_rows.specs.declared.choices.Origin.TheVariants as origin
use Rattle.ore_pairs.specs.PairList as pair
use Rattle.ore_pairs.specs.RunBlocks.{pair_origins}
use Rattle.ore_parts.specs.declared.block.PairEntry.TheVariants.{Skip}
use Rattle.ore_blocks.specs.BlockOfRun.{stored_entry}
use Rattle.ore_groebner.specs.RunProgress.{entries_from, new_rows}
use Rattle.ore_groebner.specs.declared.outcome.Event.{Event}
use Rattle.ore_groebner.specs.declared.outcome.Event.TheVariants.{Treated, Skipped}
use Rattle.ore_groebner.specs.declared.outcome.Outcome.{Outcome}
use Rattle.ore_groebner.specs.declared.outcome.Outcome.TheVariants.{Zero, NewRow}

pub same_origins : (k n m : ℕ) (es : List Event) → pair_origins k (entries_from n es) ≡ pair_origins k (entries_from m es)
unfolding pair_origins entries_from
same_origins k n m [] = refl
same_origins k n m (Treated i j steps Zero ∷ es) = ap (λ os. origin.Event k ∷ os) (same_origins (suc k) n m es)
same_origins k n m (Treated i j steps (NewRow c) ∷ es) = ap (λ os. origin.Event k ∷ os) (same_origins (suc k) (suc n) (suc m) es)
same_origins k n m (Skipped i j via ∷ es) = same_origins (suc k) n m es

treated_origin : (k n i j : ℕ) (steps : List (Step rationals)) (outcome : Outcome) (es : List Event) → pair_origins k (entries_from n (Treated i j steps outcome ∷ es)) ≡ origin.Event k ∷ pair_origins (suc k) (entries_from n es)
unfolding pair_origins entries_from
treated_origin k n i j steps Zero es = refl
treated_origin k n i j steps (NewRow c) es = ap (λ os. origin.Event k ∷ os) (same_origins (suc k) (suc n) n es)

module _ (front more : List Origin) (k n : ℕ) (e : Event) (es : List Event) where
  pub origins_treated : (i j : ℕ) (steps : List (Step rationals)) (outcome : Outcome) → e ≡ Treated i j steps outcome → more ≡ front ++ origin.Event k ∷ []
      → front ++ pair_origins k (entries_from n (e ∷ es)) ≡ more ++ pair_origins (suc k) (entries_from n es)
  origins_treated i j steps outcome is pushed =
      (λ m. front ++ pair_origins k (entries_from n (is m ∷ es))) ∙ ap (λ os. front ++ os) (treated_origin k n i j steps outcome es)
      ∙ sym (append_assoc front (origin.Event k ∷ []) (pair_origins (suc k) (entries_from n es))) ∙ ap (λ os. os ++ pair_origins (suc k) (entries_from n es)) (sym pushed)

  pub origins_skipped : (i j via : ℕ) → e ≡ Skipped i j via → front ++ pair_origins k (entries_from n (e ∷ es)) ≡ front ++ pair_origins (suc k) (entries_from n es)
  unfolding pair_origins entries_from
  origins_skipped i j via is = λ m. front ++ pair_origins k (entries_from n (is m ∷ es))

-- ---- basis rows and entries

module _ (e : Event) (es : List Event) where
  pub new_rows-zero : (i j : ℕ) (steps : List (Step rationals)) (outcome : Outcome) → e ≡ Treated i j steps outcome → outcome ≡ Zero → new_rows (e ∷ es) ≡ 0 + new_rows es
  unfolding new_rows
  new_rows-zero i j steps outcome is zero = (λ m. new_rows ((is ∙ ap (Treated i j steps) zero) m ∷ es)) ∙ omega arith

  pub new_rows-new : (i j : ℕ) (steps : List (Step rationals)) (outcome : Outcome) (c : Fraction) → e ≡ Treated i j steps outcome → outcome ≡ NewRow c → new_rows (e ∷ es) ≡ 1 + new_rows es
  unfolding new_rows
  new_rows-new i j steps outcome c is new = (λ m. new_rows ((is ∙ ap (Treated i j steps) new) m ∷ es)) ∙ omega arith

  pub new_rows-skipped : (i j via : ℕ) → e ≡ Skipped i j via → new_rows (e ∷ es) ≡ 0 + new_rows es
  unfolding new_rows
  new_rows-skipped i j via is = (λ m. new_rows (is m ∷ es)) ∙ omega arith

module _ (n i j : ℕ) (steps : List (Step rationals)) (outcome : Outcome) (es : List Event) where
  pub entries-zero : (taken : List (Step rationals)) → outcome ≡ Zero → taken ≡ steps → entries_from n (Treated i j steps outcome ∷ es) ≡ pair.Pair i j taken ∷ entries_from n es
  unfolding entries_from
  entries-zero taken zero same = (λ m. entries_from n (Treated i j steps (zero m) ∷ es)) ∙ (λ m. pair.Pair i j (sym same m) ∷ entries_from n es)

  pub entries-new : (taken : List (Step rationals)) (c : Fraction) → outcome ≡ NewRow c → taken ≡ steps ++ record { index = n; monomial = unit; number = c } ∷ []
      → entries_from n (Treated i j steps outcome ∷ es) ≡ pair.Pair i j taken ∷ entries_from (suc n) es
  unfolding entries_from
  entries-new taken c new same = (λ m. entries_from n (Treated i j steps (new m) ∷ es)) ∙ (λ m. pair.Pair i j (sym same m) ∷ entries_from (suc n) es)

pub entries-skipped : (n i j via : ℕ) (e : Event) (es : List Event) → e ≡ Skipped i j via → map stored_entry (entries_from n (e ∷ es)) ≡ Skip i j via ∷ map stored_entry (entries_from n es)
unfolding entries_from
entries-skipped n i j via e es is = λ m. map stored_entry (entries_from n (is m ∷ es))

pub entries-none : (n : ℕ) → map stored_entry (entries_from n []) ≡ []
unfolding entries_from
entries-none n = refl

pub new_rows-none : new_rows [] ≡ 0
unfolding new_rows
new_rows-none = refl

pub origins-none : (k n : ℕ) → pair_origins k (entries_from n []) ≡ []
unfolding entries_from pair_origins
origins-none k n = refl
