-- What the tests of the rule for pairs say.
--     listed_first, listed_later, listed_split    a pair that is listed is the first of a list, or one of the rest
--     is_listed-push           one more pair at the end
--     either_from              a pair is listed in one order or in the other
--     pair_from, pair_to       two rows are a pair exactly where they stand in order, with leads in one column
--     CanTreat                 what is known where a pair may be treated
--     treat_from, treat_to     the test passes exactly there
--     treat_none               where all pairs are listed none may be treated
--     all_from                 where none may be treated all pairs are listed
--     CanSkip, skip_from       what is known where a pair may be skipped
--     treat_same, skip_same, lawful_same    lists with the same pairs allow the same
--     SameLeads                the first leads are those of a longer list
--     treat_longer, skip_longer    what may be done by some leads may be done by more
use Rattle.std.proofs.Common.{◌≡◌, ◌≢◌, ◌⊎◌, inl, inr, ℕ, ◌<◌, ◌≤◌, Bool, true, false, List, [], ◌∷◌, ◌++◌, length, refl, sym, ap, ◌∙◌, true≢false, arith}
use Rattle.std.specs.Prelude.{◌&&◌, ◌||◌, not, nat_eq, nat_lt}
use Rattle.std.proofs.lemmas.Bool.{and_parts, not-true, or_right}
use Rattle.std.proofs.lemmas.Bool.Decides.{nat_tests}
use Rattle.ore_monomial.specs.Monomial.{Divides, lcm}
use Rattle.ore_monomial.specs.Term.{Term}
use Rattle.ore_leads.specs.FirstDivisor.{divides_term}
use Rattle.ore_leads.proofs.Dividing.{divides_term_true}
use Rattle.ore_rows.specs.declared.choices.Choice.{Choice}
use Rattle.ore_rows.specs.declared.choices.Choice.TheVariants.{Treat, Skip}
use Rattle.ore_pairs.specs.PairRule.{is_listed, either_listed, HaveSamePairs, is_pair, may_treat, may_skip, is_lawful, AreAllListed}
use Rattle.ore_pairs.specs.Steps.{lead_at, lcm_of_leads}

-- ---- listed pairs

pair_test : (i j x y : ℕ) (b : Bool) → ((nat_eq i x && nat_eq j y) || b) ≡ true → ((x ≡ i) × (y ≡ j)) ⊎ (b ≡ true)
pair_test i j x y b h = grind (arith, nat_tests)

same_pair : (i j x y : ℕ) (b : Bool) → x ≡ i → y ≡ j → ((nat_eq i x && nat_eq j y) || b) ≡ true
same_pair i j x y b e f = grind (arith, nat_tests)

or_from : (a b : Bool) → (a || b) ≡ true → (a ≡ true) ⊎ (b ≡ true)
or_from true b h = inl refl
or_from false b h = inr h

not_from : (b : Bool) → ¬ (b ≡ false) → b ≡ true
not_from true h = refl
not_from false h = absurd (h refl)

module _ (i j : ℕ) (p : ℕ × ℕ) (ps : List (ℕ × ℕ)) where
  pub listed_first : p.0 ≡ i → p.1 ≡ j → is_listed i j (p ∷ ps) ≡ true
  unfolding is_listed
  listed_first e f = same_pair i j p.0 p.1 (is_listed i j ps) e f

  pub listed_later : is_listed i j ps ≡ true → is_listed i j (p ∷ ps) ≡ true
  unfolding is_listed
  listed_later h = or_right (nat_eq i p.0 && nat_eq j p.1) (is_listed i j ps) h

  pub listed_split : is_listed i j (p ∷ ps) ≡ true → ((p.0 ≡ i) × (p.1 ≡ j)) ⊎ (is_listed i j ps ≡ true)
  unfolding is_listed
  listed_split h = pair_test i j p.0 p.1 (is_listed i j ps) h

pub is_listed-push : (i j : ℕ) (ps : List (ℕ × ℕ)) (p : ℕ × ℕ) → is_listed i j (ps ++ p ∷ []) ≡ ((nat_eq i p.0 && nat_eq j p.1) || is_listed i j ps)
unfolding is_listed
is_listed-push i j [] p = refl
is_listed-push i j (q ∷ ps) p = ap (λ b. (nat_eq i q.0 && nat_eq j q.1) || b) (is_listed-push i j ps p) ∙ or_turned (nat_eq i q.0 && nat_eq j q.1) (nat_eq i p.0 && nat_eq j p.1) (is_listed i j ps)
  where
    or_turned : (a b c : Bool) → (a || (b || c)) ≡ (b || (a || c))
    or_turned true true c = refl
    or_turned true false c = refl
    or_turned false b c = refl

pub either_from : (i j : ℕ) (ps : List (ℕ × ℕ)) → either_listed i j ps ≡ true → (is_listed i j ps ≡ true) ⊎ (is_listed j i ps ≡ true)
either_from i j ps h = or_from (is_listed i j ps) (is_listed j i ps) h

-- ---- treating

pub record CanTreat (leads : List Term) (listed : List (ℕ × ℕ)) (i j : ℕ) : Type 0 where
  pub ordered : i < j
  pub within : j < length leads
  pub columns : (lead_at leads i).column ≡ (lead_at leads j).column
  pub unlisted : is_listed i j listed ≡ false

tests_from : (i j n x y : ℕ) → (nat_lt i j && nat_lt j n && nat_eq x y) ≡ true → (i < j) × (j < n) × (x ≡ y)
tests_from i j n x y h = grind (arith, nat_tests)

tests_to : (i j n x y : ℕ) → i < j → j < n → x ≡ y → (nat_lt i j && nat_lt j n && nat_eq x y) ≡ true
tests_to i j n x y h k e = grind (arith, nat_tests)

module _ (leads : List Term) (i j : ℕ) where
  pub pair_from : is_pair leads i j ≡ true → (i < j) × (j < length leads) × ((lead_at leads i).column ≡ (lead_at leads j).column)
  pair_from h = tests_from i j (length leads) (lead_at leads i).column (lead_at leads j).column h

  pub pair_to : i < j → j < length leads → (lead_at leads i).column ≡ (lead_at leads j).column → is_pair leads i j ≡ true
  pair_to h k e = tests_to i j (length leads) (lead_at leads i).column (lead_at leads j).column h k e

module _ (leads : List Term) (listed : List (ℕ × ℕ)) (i j : ℕ) where
  pub treat_from : may_treat leads listed i j ≡ true → CanTreat leads listed i j
  unfolding may_treat
  treat_from h =
      let both = and_parts (is_pair leads i j) (not (is_listed i j listed)) h in
      let parts = pair_from leads i j both.0 in
      record { ordered = parts.0; within = parts.1; columns = parts.2; unlisted = not-true (is_listed i j listed) both.1 }

  pub treat_to : CanTreat leads listed i j → may_treat leads listed i j ≡ true
  unfolding may_treat
  treat_to h = λ n. pair_to leads i j h.ordered h.within h.columns n && not (h.unlisted n)

  pub treat_same : (others : List (ℕ × ℕ)) → is_listed i j listed ≡ is_listed i j others → may_treat leads listed i j ≡ may_treat leads others i j
  unfolding may_treat
  treat_same others e = λ n. is_pair leads i j && not (e n)

  pub treat_none : AreAllListed leads listed → may_treat leads listed i j ≡ false
  unfolding may_treat
  treat_none all = by (is_pair leads i j) refl
    where
      by : (b : Bool) → is_pair leads i j ≡ b → (b && not (is_listed i j listed)) ≡ false
      by true e = ap not (all i j e)
      by false e = refl

pub all_from : (leads : List Term) (listed : List (ℕ × ℕ)) → ((i j : ℕ) → may_treat leads listed i j ≡ false) → AreAllListed leads listed
unfolding may_treat
all_from leads listed none i j e = not_from (is_listed i j listed) (λ f. true≢false ((λ n. sym e n && not (sym f n)) ∙ none i j))

-- ---- skipping

pub record CanSkip (leads : List Term) (listed : List (ℕ × ℕ)) (i j via : ℕ) : Type 0 where
  pub within : via < length leads
  pub other : (via ≢ i) × (via ≢ j)
  pub column : (lead_at leads via).column ≡ (lead_at leads i).column
  pub divides : Divides (lead_at leads via).monomial (lcm_of_leads leads i j).monomial
  pub known : (either_listed i via listed ≡ true) × (either_listed j via listed ≡ true)

places_from : (k n i j : ℕ) → (nat_lt k n && not (nat_eq k i) && not (nat_eq k j)) ≡ true → (k < n) × ((k ≢ i) × (k ≢ j))
places_from k n i j h = (grind (arith, nat_tests), (λ e. grind (arith, nat_tests), λ e. grind (arith, nat_tests)))

within_test : (k n : ℕ) → k < n → nat_lt k n ≡ true
within_test k n h = grind (arith, nat_tests)

module _ (leads : List Term) (listed : List (ℕ × ℕ)) (i j via : ℕ) where
  abbrev third : Bool
  third = nat_lt via (length leads) && not (nat_eq via i) && not (nat_eq via j)

  abbrev divides : Bool
  divides = divides_term (lead_at leads via) (lcm_of_leads leads i j)

  pub skip_from : may_skip leads listed i j via ≡ true → CanSkip leads listed i j via
  unfolding may_skip
  skip_from h =
      let a = and_parts (third && divides && either_listed i via listed) (either_listed j via listed) h in
      let b = and_parts (third && divides) (either_listed i via listed) a.0 in
      let c = and_parts third divides b.0 in
      let places = places_from via (length leads) i j c.0 in
      let term = (divides_term_true (lead_at leads via) (lcm_of_leads leads i j)).0 c.1 in
      record { within = places.0; other = places.1; column = term.0; divides = term.1; known = (b.1, a.1) }

  pub skip_same : (others : List (ℕ × ℕ)) → HaveSamePairs listed others → may_skip leads listed i j via ≡ may_skip leads others i j via
  unfolding may_skip
  skip_same others h = λ n. third && divides && (h i via n || h via i n) && (h j via n || h via j n)

-- ---- lawful choices

pub lawful_same : (leads : List Term) (listed others : List (ℕ × ℕ)) → HaveSamePairs listed others → (c : Choice) → is_lawful leads listed c ≡ is_lawful leads others c
unfolding is_lawful
lawful_same leads listed others h (Treat i j) = treat_same leads listed i j others (h i j)
lawful_same leads listed others h (Skip i j via) = λ n. treat_same leads listed i j others (h i j) n && skip_same leads listed i j via others h n

-- ---- more leads

-- each of the first n leads is the same
abbrev pub SameLeads : ℕ → List Term → List Term → Type 0
SameLeads n leads more = (i : ℕ) → i < n → lead_at more i ≡ lead_at leads i

module _ (leads longer : List Term) (same : SameLeads (length leads) leads longer) (long : length leads ≤ length longer) (listed : List (ℕ × ℕ)) (i j : ℕ) where
  pub treat_longer : may_treat leads listed i j ≡ true → may_treat longer listed i j ≡ true
  treat_longer h =
      let can = treat_from leads listed i j h in
      let before = can.ordered in
      let inside = can.within in
      treat_to longer listed i j (record {
        ordered = can.ordered;
        within = omega arith;
        columns = ap (λ (t : Term). t.column) (same i (omega arith)) ∙ can.columns ∙ ap (λ (t : Term). t.column) (sym (same j inside));
        unlisted = can.unlisted;
      })

  pub skip_longer : i < length leads → j < length leads → (via : ℕ) → may_skip leads listed i j via ≡ true → may_skip longer listed i j via ≡ true
  unfolding may_skip
  skip_longer il jl via h =
      let inside = (skip_from leads listed i j via h).within in
      (λ n.
      (within_test via (length longer) (omega arith) ∙ sym (within_test via (length leads) inside)) n && not (nat_eq via i) && not (nat_eq via j)
      && divides_term (same via inside n) (record { monomial = lcm (same i il n).monomial (same j jl n).monomial; column = (same i il n).column })
      && either_listed i via listed && either_listed j via listed)
      ∙ h
