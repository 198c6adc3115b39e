-- What is said of the first rows of a basis is said of a longer one.
--     SameRows                 the first of some rows are those of others
--     within_steps             steps below a term are by rows that are there
--     after_same, s_row_same, left_same    steps, pairs, and what steps leave of a pair, by the first rows
--     pair_same, below_same, treated_same    pairs of the first rows
--     lawful_same, shown_same, shown_push    lists of pairs, and what they show of cofactor rows
--     inside_map, map_inside, map_longer, map_grow, map_last    places in what is made of each item of a list
use Rattle.std.proofs.Common.{◌≡◌, ℕ, zero, suc, ◌+◌, ◌<◌, ◌≤◌, List, [], ◌∷◌, ◌++◌, length, map, get_or, refl, sym, ap, ◌∙◌, subst, arith}
use Rattle.std.specs.List.{AllByRecursion}
use Rattle.std.proofs.lemmas.List.{length-append, length-map}
use Rattle.ore_algebra.specs.Domain.{Domain}
use Rattle.ore_algebra.specs.Free.{single}
use Rattle.ore_monomial.specs.Monomial.{lcm, quotient, plain_cmp}
use Rattle.ore_monomial.specs.Signature.{Signature}
use Rattle.ore_monomial.specs.Term.{Term, term_cmp, shift}
use Rattle.ore_monomial.specs.declared.order.Order.{Order}
use Rattle.ore_rows.specs.Rows.{Row, row_minus, row_scale}
use Rattle.ore_rows.specs.Reduction.{Step, row_at, step_operator, remainder_after}
use Rattle.ore_rows.specs.declared.choices.Origin.{Origin}
use Rattle.ore_rows.specs.declared.choices.Origin.TheVariants.{Event}
use Rattle.ore_pairs.specs.Steps.{lcm_of_leads, s_row}
use Rattle.ore_pairs.specs.PairList.{DealtPair, Pair, Skip, pairs_of, IsBelowStep, IsTreated, AreLawful}
use Rattle.ore_pairs.proofs.PairRuleLaws.{SameLeads, treat_from, treat_longer, skip_longer}
use Rattle.ore_pairs.proofs.Syzygies.{AreStepsWithin, IsPairWithin}
use Rattle.ore_groebner.specs.RunLaws.{IsFrom, HasItsSyzygy, HaveTheirSyzygies}
use Rattle.ore_groebner.proofs.Sources.{Grown, grown_event, grown_no_event}

abbrev pub SameRows : {K : Domain} → ℕ → List (Row K) → List (Row K) → Type 0
SameRows n rows more = (i : ℕ) → i < n → row_at more i ≡ row_at rows i

pub within_steps : (K : Domain) (o : Order) (leads : List Term) (t : Term) (steps : List (Step K)) → AllByRecursion (IsBelowStep K o leads t) steps → AreStepsWithin K (length leads) steps
within_steps K o leads t [] h = tt
within_steps K o leads t (step ∷ steps) h = (h.0.within, within_steps K o leads t steps h.1)

module _ (K : Domain) (s : Signature) where
  pub after_same : (n : ℕ) (rows more : List (Row K)) → SameRows n rows more → (steps : List (Step K)) (z : Row K) → AreStepsWithin K n steps → remainder_after K s more steps z ≡ remainder_after K s rows steps z
  unfolding remainder_after
  after_same n rows more same [] z h = refl
  after_same n rows more same (t ∷ ts) z h = ap (λ r. remainder_after K s more ts (row_minus K z (row_scale K s (step_operator K t) r))) (same t.index h.0) ∙ after_same n rows more same ts _ h.1

  pub s_row_same : (n : ℕ) (rows more : List (Row K)) (leads longer : List Term) → SameRows n rows more → SameLeads n leads longer → (i j : ℕ) → i < n → j < n → s_row K s longer more i j ≡ s_row K s leads rows i j
  unfolding s_row
  s_row_same n rows more leads longer same_rows same_leads i j il jl = λ k. combination (same_leads i il k) (same_leads j jl k) (same_rows i il k) (same_rows j jl k)
    where
      combination : Term → Term → Row K → Row K → Row K
      combination t u r q = row_minus K (row_scale K s (single K plain_cmp (quotient (lcm t.monomial u.monomial) t.monomial) K.one) r) (row_scale K s (single K plain_cmp (quotient (lcm t.monomial u.monomial) u.monomial) K.one) q)

  -- steps and a pair together
  pub left_same : (n : ℕ) (rows more : List (Row K)) (leads longer : List Term) → SameRows n rows more → SameLeads n leads longer → (i j : ℕ) (steps : List (Step K)) → i < n → j < n → AreStepsWithin K n steps
      → remainder_after K s more steps (s_row K s longer more i j) ≡ remainder_after K s rows steps (s_row K s leads rows i j)
  left_same n rows more leads longer same_rows same_leads i j steps il jl h =
      ap (remainder_after K s more steps) (s_row_same n rows more leads longer same_rows same_leads i j il jl) ∙ after_same n rows more same_rows steps _ h

  module _ (leads longer : List Term) (same_leads : SameLeads (length leads) leads longer) (long : length leads ≤ length longer) where
    pub pair_same : (i j : ℕ) → i < length leads → j < length leads → lcm_of_leads longer i j ≡ lcm_of_leads leads i j
    pair_same i j il jl = λ k. record { monomial = lcm (same_leads i il k).monomial (same_leads j jl k).monomial; column = (same_leads i il k).column }

    module _ (o : Order) where
      pub below_same : (t : Term) (steps : List (Step K)) → AllByRecursion (IsBelowStep K o leads t) steps → AllByRecursion (IsBelowStep K o longer t) steps
      below_same t [] h = tt
      below_same t (step ∷ steps) h = (
        record { within = let b = h.0.within in omega arith; low = ap (λ (u : Term). term_cmp o (shift step.monomial u) t) (same_leads step.index h.0.within) ∙ h.0.low },
        below_same t steps h.1,
      )

      module _ (n : ℕ) (rows more : List (Row K)) (same_rows : SameRows (length leads) rows more) where
        treated_same : (i j : ℕ) (steps : List (Step K)) → i < length leads → j < length leads → IsTreated K s o n rows leads i j steps → IsTreated K s o n more longer i j steps
        treated_same i j steps il jl h = record {
          low = subst (λ t. AllByRecursion (IsBelowStep K o longer t) steps) (sym (pair_same i j il jl)) (below_same (lcm_of_leads leads i j) steps h.low);
          nothing = left_same (length leads) rows more leads longer same_rows same_leads i j steps il jl (within_steps K o leads (lcm_of_leads leads i j) steps h.low) ∙ h.nothing;
        }

        pub lawful_same : (before es : List (DealtPair K)) → AreLawful K s o n rows leads before es → AreLawful K s o n more longer before es
        lawful_same before [] h = tt
        lawful_same before (Pair i j steps ∷ es) h =
            let new = treat_from leads (pairs_of before) i j h.0.0 in
            let il : i < length leads = let a = new.ordered in let b = new.within in omega arith in
            ((treat_longer leads longer same_leads long (pairs_of before) i j h.0.0, treated_same i j steps il new.within h.0.1), lawful_same (Pair i j steps ∷ before) es h.1)
        lawful_same before (Skip i j via ∷ es) h =
            let new = treat_from leads (pairs_of before) i j h.0.0 in
            let il : i < length leads = let a = new.ordered in let b = new.within in omega arith in
            ((treat_longer leads longer same_leads long (pairs_of before) i j h.0.0, skip_longer leads longer same_leads long (pairs_of before) i j il new.within via h.0.1), lawful_same (Skip i j via ∷ before) es h.1)

    module _ (q n : ℕ) (os : List Origin) (rs : List (Row K)) (now : List Origin) (syzygies : List (Row K)) (g : Grown K n os rs now syzygies) (cofactors more : List (Row K)) (same : SameRows (length leads) cofactors more) where
      pub shown_same : (k : ℕ) (es : List (DealtPair K)) → k + length es ≤ n → AllByRecursion (IsPairWithin K (length leads)) es → HaveTheirSyzygies K s q leads cofactors os rs k es → HaveTheirSyzygies K s q longer more now syzygies k es
      shown_same k [] l w h = tt
      shown_same k (Pair i j steps ∷ es) l w h = (
        subst (IsFrom K q now syzygies (Event k)) (sym (left_same (length leads) cofactors more leads longer same same_leads i j steps w.0.0 w.0.1 w.0.2)) (grown_event K q n os rs now syzygies g k (omega arith) _ h.0),
        shown_same (suc k) es (omega arith) w.1 h.1,
      )
      shown_same k (Skip i j via ∷ es) l w h = (grown_no_event K q n os rs now syzygies g k (omega arith) h.0, shown_same (suc k) es (omega arith) w.1 h.1)

-- one more entry
pub shown_push : (K : Domain) (s : Signature) (q : ℕ) (leads : List Term) (cofactors : List (Row K)) (origins : List Origin) (syzygies : List (Row K)) (k : ℕ) (es : List (DealtPair K)) (e : DealtPair K) → HaveTheirSyzygies K s q leads cofactors origins syzygies k es → HasItsSyzygy K s q leads cofactors origins syzygies (k + length es) e → HaveTheirSyzygies K s q leads cofactors origins syzygies k (es ++ e ∷ [])
shown_push K s q leads cofactors origins syzygies k [] e h x = let z : k + 0 ≡ k = omega arith in (subst (λ k. HasItsSyzygy K s q leads cofactors origins syzygies k e) z x, tt)
shown_push K s q leads cofactors origins syzygies k (y ∷ es) e h x = let z : k + suc (length es) ≡ suc k + length es = omega arith in (h.0, shown_push K s q leads cofactors origins syzygies (suc k) es e h.1 (subst (λ k. HasItsSyzygy K s q leads cofactors origins syzygies k e) z x))

-- ---- a list with more behind it

pub inside_map : {X Y : Type 0} (f : X → Y) (xs : List X) (i : ℕ) → i < length xs → i < length (map f xs)
inside_map f xs i h = let e = length-map xs f in omega arith

pub map_inside : {X Y : Type 0} (f : X → Y) (xs : List X) (i : ℕ) → i < length (map f xs) → i < length xs
map_inside f xs i h = let e = length-map xs f in omega arith

pub map_longer : {X Y : Type 0} (f : X → Y) (xs more : List X) → length (map f xs) ≤ length (map f (xs ++ more))
map_longer f xs more = let e = length-map xs f in let g = length-map (xs ++ more) f in let l = length-append xs more in omega arith

pub map_grow : {X Y : Type 0} (f : X → Y) (d : Y) (xs more : List X) (i : ℕ) → i < length xs → get_or (map f (xs ++ more)) i d ≡ get_or (map f xs) i d
map_grow f d [] more i l = absurd (omega arith)
map_grow f d (x ∷ xs) more zero l = refl
map_grow f d (x ∷ xs) more (suc i) l = map_grow f d xs more i (omega arith)

pub map_last : {X Y : Type 0} (f : X → Y) (d : Y) (xs : List X) (x : X) → get_or (map f (xs ++ x ∷ [])) (length xs) d ≡ f x
map_last f d [] x = refl
map_last f d (y ∷ xs) x = map_last f d xs x
