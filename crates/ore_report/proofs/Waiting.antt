-- What a queue holds, as pairs enter it and leave it.
--     eq_reversed, eq_back              the test of two places, turned round
--     both_equal, equal_both    two places of rows, each the same
--     at_pair, pair_at          whether a place is that of a pair, by its rows
--     entered_test, entered     one more pair has entered
--     left_test, listed_test, left      one more pair is listed, and its place is gone
--     waiting_same              which pairs have entered counts only for those that may be treated
--     waiting_others            a list with the same pairs has the same queue
--     waiting_none              before any row has entered there is no place
--     waiting_there             a pair that has entered and may be treated has its place
--     first_kept, may_kept, term_kept, place_kept     what leads that are added leave as it was
--     grown_test, not_empty, within_rows, waiting_grown     a queue goes on where leads are added
use Rattle.std.proofs.Common.{◌≡◌, ◌≢◌, ℕ, ◌<◌, ◌≤◌, Bool, true, false, cond, List, [], ◌∷◌, ◌++◌, length, refl, sym, ap, ap₂, ◌∙◌, true≢false, arith}
use Rattle.std.specs.Prelude.{◌&&◌, ◌||◌, not, nat_eq, nat_lt}
use Rattle.ore_algebra.specs.Limits.{program, is_within}
use Rattle.std.specs.BTreeMap.{is_at}
use Rattle.std.specs.BTreeSet.{BTreeSet, contains}
use Rattle.std.specs.List.{list_any}
use Rattle.std.specs.Cmp.{both_ways, tied_itself, Equal-is}
use Rattle.std.specs.Ordering.{is_eq, ordering_reverse}
use Rattle.std.specs.declared.cmp.Ordering.{Ordering}
use Rattle.std.specs.declared.cmp.Ordering.TheVariants.{Less, Equal, Greater}
use Rattle.std.proofs.lemmas.Bool.Decides.{nat_tests}
use Rattle.std.proofs.lemmas.List.{get_or_append_left, length-append}
use Rattle.ore_monomial.specs.Monomial.{degree, lcm}
use Rattle.ore_monomial.specs.Term.{Term}
use Rattle.ore_monomial.specs.declared.order.Order.{Order}
use Rattle.ore_rows.specs.Reduction.{origin}
use Rattle.ore_pairs.specs.PairRule.{is_listed, is_pair, may_treat}
use Rattle.ore_pairs.specs.Steps.{lead_at, lcm_of_leads}
use Rattle.ore_pairs.proofs.PairRuleLaws.{treat_from, treat_to}
use Rattle.ore_report.specs.Queue.{place_cmp, place_at, is_waiting, AreWaiting, IsPlace}
use Rattle.ore_report.specs.declared.queue.QueuedPair.{QueuedPair}
use Rattle.ore_report.proofs.Places.{plain_place, past_place, place_total, tied_pair, rows_are}

eq_reversed : (r : Ordering) → is_eq r ≡ is_eq (ordering_reverse r)
eq_reversed Less = refl
eq_reversed Equal = refl
eq_reversed Greater = refl

eq_back : (p q : QueuedPair) → is_eq (place_cmp p q) ≡ is_eq (place_cmp q p)
eq_back p q = eq_reversed (place_cmp p q) ∙ ap is_eq (sym (place_total.antisymm q p))

both_equal : (x i y j : ℕ) → (nat_eq x i && nat_eq y j) ≡ true → (x ≡ i) × (y ≡ j)
both_equal x i y j h = grind (arith, nat_tests)

equal_both : (x i y j : ℕ) → x ≡ i → y ≡ j → (nat_eq x i && nat_eq y j) ≡ true
equal_both x i y j e f = grind (arith, nat_tests)

module _ (o : Order) (leads : List Term) where
  -- where a place has the rows of a pair, it is that of the pair or of none
  at_pair : (i j : ℕ) (p : QueuedPair) → (nat_eq p.first i && nat_eq p.second j) ≡ true → is_eq (place_cmp p (place_at o leads p.first p.second)) ≡ is_eq (place_cmp (place_at o leads i j) p)
  at_pair i j p h =
      let rows = both_equal p.first i p.second j h in
      ap₂ (λ x y. is_eq (place_cmp p (place_at o leads x y))) rows.0 rows.1 ∙ eq_back p (place_at o leads i j)

  -- and where it isn't told apart from that of a pair, it has the rows
  pair_at : (i j : ℕ) (p : QueuedPair) → is_eq (place_cmp (place_at o leads i j) p) ≡ true → (nat_eq p.first i && nat_eq p.second j) ≡ true
  pair_at i j p h =
      let tied = tied_pair (place_at o leads i j) p ((Equal-is _).0 h) in
      let rows = rows_are o leads i j in
      equal_both p.first i p.second j (sym tied.0 ∙ rows.0) (sym tied.1 ∙ rows.1)

entered_test : (e f m w n a b : Bool) → f ≡ (e || b) → (b ≡ true → m ≡ n) → (b ≡ true → w ≡ a) → (a ≡ true → b ≡ true) → ((e && m && w) || (n && a)) ≡ (f && m && w)
entered_test e f m w n a true g h k l = let x = h refl in let y = k refl in grind arith
entered_test e f m w n true false g h k l = absurd (true≢false (sym (l refl)))
entered_test e f m w n false false g h k l = grind arith

left_test : (e m n w a b : Bool) → n ≡ (m && not b) → (b ≡ true → w ≡ a) → (a ≡ true → b ≡ true) → cond a false (e && m && w) ≡ (e && n && w)
left_test e m n w true true g k l = grind arith
left_test e m n w false true g k l = let x = k refl in grind arith
left_test e m n w true false g k l = absurd (true≢false (sym (l refl)))
left_test e m n w false false g k l = grind arith

listed_test : (p b i k : Bool) → i ≡ (b || k) → (p && not i) ≡ ((p && not k) && not b)
listed_test p b i k h = grind arith

module _ (o : Order) (leads : List Term) (ps : List (ℕ × ℕ)) where
  -- one more pair has entered
  pub entered : (E F : ℕ → ℕ → Bool) (i j : ℕ) (old new : BTreeSet QueuedPair) → ((x y : ℕ) → F x y ≡ (E x y || (nat_eq x i && nat_eq y j))) → AreWaiting o leads ps E old
      → ((p : QueuedPair) → contains place_cmp new p ≡ (contains place_cmp old p || (may_treat leads ps i j && is_eq (place_cmp (place_at o leads i j) p)))) → AreWaiting o leads ps F new
  unfolding is_waiting
  entered E F i j old new more held now p =
      now p ∙ ap (λ b. b || (may_treat leads ps i j && is_eq (place_cmp (place_at o leads i j) p))) (held p)
      ∙ entered_test (E p.first p.second) (F p.first p.second) (may_treat leads ps p.first p.second) (is_eq (place_cmp p (place_at o leads p.first p.second))) (may_treat leads ps i j) (is_eq (place_cmp (place_at o leads i j) p)) (nat_eq p.first i && nat_eq p.second j)
      (more p.first p.second)
      (λ h. let rows = both_equal p.first i p.second j h in ap₂ (may_treat leads ps) rows.0 rows.1)
      (at_pair o leads i j p) (pair_at o leads i j p)

  -- one more pair is listed, and its place is gone
  pub left : (E : ℕ → ℕ → Bool) (qs : List (ℕ × ℕ)) (place : QueuedPair) (old new : BTreeSet QueuedPair) → IsPlace o leads place → ((x y : ℕ) → is_listed x y qs ≡ ((nat_eq x place.first && nat_eq y place.second) || is_listed x y ps)) → AreWaiting o leads ps E old
      → ((p : QueuedPair) → contains place_cmp new p ≡ cond (is_eq (place_cmp place p)) false (contains place_cmp old p)) → AreWaiting o leads qs E new
  unfolding is_waiting may_treat
  left E qs place old new is listed held now p =
      let at = place_at o leads place.first place.second in
      let same : is_eq (place_cmp at p) ≡ is_eq (place_cmp place p) = ap is_eq (sym (place_total.congr place at p is)) in
      now p ∙ ap (cond (is_eq (place_cmp place p)) false) (held p)
      ∙ left_test (E p.first p.second) (may_treat leads ps p.first p.second) (may_treat leads qs p.first p.second) (is_eq (place_cmp p (place_at o leads p.first p.second))) (is_eq (place_cmp place p)) (nat_eq p.first place.first && nat_eq p.second place.second)
      (listed_test (is_pair leads p.first p.second) (nat_eq p.first place.first && nat_eq p.second place.second) (is_listed p.first p.second qs) (is_listed p.first p.second ps) (listed p.first p.second))
      (λ h. at_pair o leads place.first place.second p h ∙ same)
      (λ h. pair_at o leads place.first place.second p (same ∙ h))

  -- which pairs have entered counts only for those that may be treated
  pub waiting_same : (E F : ℕ → ℕ → Bool) (places : BTreeSet QueuedPair) → ((x y : ℕ) → may_treat leads ps x y ≡ true → E x y ≡ F x y) → AreWaiting o leads ps E places → AreWaiting o leads ps F places
  unfolding is_waiting
  waiting_same E F places same held p = held p ∙ by (may_treat leads ps p.first p.second) (same p.first p.second)
    where
      by : (m : Bool) → (m ≡ true → E p.first p.second ≡ F p.first p.second) → (E p.first p.second && m && is_eq (place_cmp p (place_at o leads p.first p.second))) ≡ (F p.first p.second && m && is_eq (place_cmp p (place_at o leads p.first p.second)))
      by true h = let e = h refl in grind arith
      by false h = grind arith

  pub waiting_others : (E : ℕ → ℕ → Bool) (qs : List (ℕ × ℕ)) (places : BTreeSet QueuedPair) → ((x y : ℕ) → may_treat leads ps x y ≡ may_treat leads qs x y) → AreWaiting o leads ps E places → AreWaiting o leads qs E places
  unfolding is_waiting
  waiting_others E qs places same held p = held p ∙ ap (λ m. E p.first p.second && m && is_eq (place_cmp p (place_at o leads p.first p.second))) (same p.first p.second)

  pub waiting_none : (places : BTreeSet QueuedPair) → places.keys ≡ [] → AreWaiting o leads ps (λ i j. nat_lt j 0) places
  unfolding is_waiting
  waiting_none places e p = ap (list_any (is_at (place_cmp p))) e ∙ sym (none (may_treat leads ps p.first p.second) _ p.second)
    where
      none : (m w : Bool) (n : ℕ) → (nat_lt n 0 && m && w) ≡ false
      none m w n = grind (arith, nat_tests)

  -- a pair that has entered and may be treated has its place
  pub waiting_there : (E : ℕ → ℕ → Bool) (places : BTreeSet QueuedPair) (i j : ℕ) → AreWaiting o leads ps E places → E i j ≡ true → may_treat leads ps i j ≡ true → contains place_cmp places (place_at o leads i j) ≡ true
  unfolding is_waiting
  waiting_there E places i j held e m =
      let at = place_at o leads i j in
      let rows = rows_are o leads i j in
      held at ∙ ap₂ (λ x y. E x y && may_treat leads ps x y && is_eq (place_cmp at (place_at o leads x y))) rows.0 rows.1
      ∙ all_true (E i j) (may_treat leads ps i j) (is_eq (place_cmp at at)) e m (ap is_eq (tied_itself place_total at))
    where
      all_true : (a b d : Bool) → a ≡ true → b ≡ true → d ≡ true → (a && b && d) ≡ true
      all_true a b d e f g = grind arith

-- ---- leads that are added

first_kept : (leads rest : List Term) (i : ℕ) → i < length leads → lead_at (leads ++ rest) i ≡ lead_at leads i
first_kept leads rest i l = get_or_append_left leads rest origin i l

grown_test : (e m n w v : Bool) → (e ≡ true → m ≡ n) → (e ≡ true → m ≡ true → w ≡ v) → (e && m && w) ≡ (e && n && v)
grown_test false m n w v h k = refl
grown_test true true n w v h k = let x = h refl in let y = k refl refl in grind arith
grown_test true false n w v h k = let x = h refl in grind arith

not_empty : (leads : List Term) (j : ℕ) → j < length leads → leads ≢ []
not_empty [] j l = absurd (omega arith)
not_empty (t ∷ leads) j l = λ e. cc

within_rows : (j rows : ℕ) → nat_lt j rows ≡ true → j < rows
within_rows j rows h = grind (arith, nat_tests)

module _ (o now : Order) (leads rest : List Term) (ps : List (ℕ × ℕ)) where
  may_kept : (i j : ℕ) → j < length leads → may_treat leads ps i j ≡ may_treat (leads ++ rest) ps i j
  may_kept i j l = both_ways _ _ there back
    where
      kept : (k : ℕ) → k < length leads → (lead_at (leads ++ rest) k).column ≡ (lead_at leads k).column
      kept k m = ap (λ (t : Term). t.column) (first_kept leads rest k m)

      there : may_treat leads ps i j ≡ true → may_treat (leads ++ rest) ps i j ≡ true
      there h =
          let can = treat_from leads ps i j h in
          let before = can.ordered in
          treat_to (leads ++ rest) ps i j (record { ordered = before; within = omega (arith, length-append leads rest); columns = kept i (omega arith) ∙ can.columns ∙ sym (kept j l); unlisted = can.unlisted })

      back : may_treat (leads ++ rest) ps i j ≡ true → may_treat leads ps i j ≡ true
      back h =
          let can = treat_from (leads ++ rest) ps i j h in
          let before = can.ordered in
          treat_to leads ps i j (record { ordered = before; within = l; columns = sym (kept i (omega arith)) ∙ can.columns ∙ kept j l; unlisted = can.unlisted })

  term_kept : (i j : ℕ) → i < length leads → j < length leads → lcm_of_leads (leads ++ rest) i j ≡ lcm_of_leads leads i j
  term_kept i j l m = ap₂ (λ (t u : Term). record { monomial = lcm t.monomial u.monomial; column = t.column }) (first_kept leads rest i l) (first_kept leads rest j m)

  place_kept : (i j : ℕ) → i < length leads → j < length leads → place_at o leads i j ≡ place_at o (leads ++ rest) i j
  unfolding place_at
  place_kept i j l m = ap (λ t. cond (not (is_within program.degree (degree t.monomial))) (past_place i j) (plain_place o t i j)) (sym (term_kept i j l m))

  -- a queue goes on where leads are added
  pub waiting_grown : (rows : ℕ) (places : BTreeSet QueuedPair) → rows ≤ length leads → (leads ≢ [] → now ≡ o) → AreWaiting o leads ps (λ i j. nat_lt j rows) places → AreWaiting now (leads ++ rest) ps (λ i j. nat_lt j rows) places
  unfolding is_waiting
  waiting_grown rows places few same held p =
      held p ∙ grown_test (nat_lt p.second rows) (may_treat leads ps p.first p.second) (may_treat (leads ++ rest) ps p.first p.second) (is_eq (place_cmp p (place_at o leads p.first p.second))) (is_eq (place_cmp p (place_at now (leads ++ rest) p.first p.second)))
      (λ h. may_kept p.first p.second (inside h))
      (λ h m.
      let before = (treat_from leads ps p.first p.second m).ordered in
      let last = inside h in
      ap (λ at. is_eq (place_cmp p at)) (place_kept p.first p.second (omega arith) last ∙ ap (λ by. place_at by (leads ++ rest) p.first p.second) (sym (same (not_empty leads p.second last)))))
    where
      inside : nat_lt p.second rows ≡ true → p.second < length leads
      inside h = let l = within_rows p.second rows h in omega arith
