-- Each state of a run has finitely many choices that lead on.
--     in_range, in_map, in_flat_map    what a list of numbers, a list of values and a list of lists have
--     choices_below            all choices of rows before a place
--     lawful_below, few_choices    those that lead on name rows of the basis
use Rattle.std.proofs.Common.{◌≡◌, ℕ, zero, suc, ◌<◌, Bool, true, false, cond, List, [], ◌∷◌, length, map, refl, sym, ap, ◌∙◌, subst, zero-add, arith}
use Rattle.std.specs.List.{Contains, flat_map, range_with_len}
use Rattle.std.specs.declared.result.Result.{Result}
use Rattle.std.specs.declared.result.Result.TheVariants.{Ok, Err}
use Rattle.std.proofs.lemmas.List.{get_or-map, length-map}
use Rattle.std.proofs.lemmas.List.Elements.{Contains-append_left, Contains-append_right}
use Rattle.std.proofs.lemmas.List.FromFn.{length-range_with_len, get_or-range_with_len}
use Rattle.ore_algebra.specs.Domain.{Domain, HasInverses}
use Rattle.ore_course.specs.Bounded.{HasFewChoices}
use Rattle.ore_course.specs.Choices.{Refusal, Unlawful}
use Rattle.ore_monomial.specs.Term.{Term}
use Rattle.ore_monomial.specs.declared.order.Order.{Order}
use Rattle.ore_rows.specs.Arithmetic.{Arithmetic}
use Rattle.ore_rows.specs.Reduction.{leads_of}
use Rattle.ore_rows.specs.declared.choices.Choice.{Choice}
use Rattle.ore_rows.specs.declared.choices.Choice.TheVariants.{Treat, Skip}
use Rattle.ore_pairs.specs.PairList.{pairs_of}
use Rattle.ore_pairs.specs.PairRule.{is_lawful}
use Rattle.ore_pairs.specs.Run.{RunState, as_refusal, follow, step}
use Rattle.ore_pairs.specs.Runner.{runner}
use Rattle.ore_pairs.proofs.CompleteStates.{treat_within, skip_within}

in_range : (n i : ℕ) → i < n → Contains (range_with_len 0 n) i
in_range n i less = (i, subst (λ m. i < m) (sym (length-range_with_len 0 n)) less, get_or-range_with_len 0 n i i less ∙ zero-add i)

in_map : {X Y : Type 0} (f : X → Y) (xs : List X) (x : X) → Contains xs x → Contains (map f xs) (f x)
in_map f xs x (k, less, e) = (k, subst (λ n. k < n) (sym (length-map xs f)) less, get_or-map f xs k x (f x) less ∙ ap f e)

in_flat_map : {X Y : Type 0} (f : X → List Y) (xs : List X) (x : X) (y : Y) → Contains xs x → Contains (f x) y → Contains (flat_map f xs) y
in_flat_map f [] x y (k, less, e) h = absurd (omega (arith, less))
in_flat_map f (z ∷ xs) x y (zero, less, e) h = Contains-append_left (f z) (flat_map f xs) y (subst (λ w. Contains (f w) y) (sym e) h)
in_flat_map f (z ∷ xs) x y (suc k, less, e) h = Contains-append_right (f z) (flat_map f xs) y (in_flat_map f xs x y (k, omega (arith, less), e) h)

-- of rows before a place, each pair treated, and skipped by way of each row
choices_below : ℕ → List Choice
choices_below n = flat_map (λ i. flat_map (λ j. Treat i j ∷ map (Skip i j) (range_with_len 0 n)) (range_with_len 0 n)) (range_with_len 0 n)

below : (n i j : ℕ) (c : Choice) → i < n → j < n → Contains (Treat i j ∷ map (Skip i j) (range_with_len 0 n)) c → Contains (choices_below n) c
unfolding choices_below
below n i j c less_i less_j h =
    in_flat_map (λ i. flat_map (λ j. Treat i j ∷ map (Skip i j) (range_with_len 0 n)) (range_with_len 0 n)) (range_with_len 0 n) i c (in_range n i less_i)
    (in_flat_map (λ j. Treat i j ∷ map (Skip i j) (range_with_len 0 n)) (range_with_len 0 n) j c (in_range n j less_j) h)

treat_below : (n i j : ℕ) → i < n → j < n → Contains (choices_below n) (Treat i j)
treat_below n i j less_i less_j = below n i j (Treat i j) less_i less_j (0, omega arith, refl)

skip_below : (n i j via : ℕ) → i < n → j < n → via < n → Contains (choices_below n) (Skip i j via)
skip_below n i j via less_i less_j less =
    below n i j (Skip i j via) less_i less_j (Contains-append_right (Treat i j ∷ []) (map (Skip i j) (range_with_len 0 n)) (Skip i j via) (in_map (Skip i j) (range_with_len 0 n) via (in_range n via less)))

lawful_below : (leads : List Term) (listed : List (ℕ × ℕ)) (c : Choice) → is_lawful leads listed c ≡ true → Contains (choices_below (length leads)) c
unfolding is_lawful
lawful_below leads listed (Treat i j) e = let h = treat_within leads listed i j e in treat_below _ i j h.0 h.1
lawful_below leads listed (Skip i j via) e = let h = skip_within leads listed i j via e in skip_below _ i j via h.0 h.1 h.2

module _ (K : Domain) (inverses : HasInverses K) (o : Order) (A : Arithmetic K) where
  no_next : {X : Type 0} {e : Refusal} {next : RunState K} → ◌≡◌ {A = Result (RunState K) Refusal} (Err e) (Ok next) → X
  no_next e = cc

  named : (st : RunState K) (c : Choice) (next : RunState K) → step K inverses o A st c ≡ Ok next → Contains (choices_below (length (leads_of st.basis))) c
  unfolding step
  named st c next e = by (is_lawful (leads_of st.basis) (pairs_of st.listed) c) refl e
    where
      by : (b : Bool) → is_lawful (leads_of st.basis) (pairs_of st.listed) c ≡ b → ◌≡◌ {A = Result (RunState K) Refusal} (cond b (as_refusal (follow K inverses o A st c)) (Err Unlawful)) (Ok next) → Contains (choices_below (length (leads_of st.basis))) c
      by false f g = no_next g
      by true f g = lawful_below (leads_of st.basis) (pairs_of st.listed) c f

  pub few_choices : HasFewChoices (runner K inverses o A)
  few_choices st = (choices_below (length (leads_of st.basis)), named st)
