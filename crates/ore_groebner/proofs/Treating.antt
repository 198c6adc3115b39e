-- What treating or skipping a pair makes of a state.
--     advance, advance_same    a state with one more entry, more basis rows and more syzygies holds; without more rows
--     may_now, skip_holds      so does a state with a skipped pair
--     IsPairReduction          steps lead from the pair's rows to what is left, below their common multiple
--     part_start, reduced_part    so it is before a reduction and after it
--     syzygy_holds             where nothing is left, the next state holds
--     row_holds                where something is left, it does too
use Rattle.std.proofs.Common.{◌≡◌, ◌⊎◌, inl, inr, ⊎_elim, true, ℕ, suc, ◌+◌, ◌<◌, ◌≤◌, List, [], ◌∷◌, ◌++◌, length, map, get_or, refl, sym, ap, ◌∙◌, subst, append-nil, arith}
use Rattle.std.specs.declared.option.Option.{Option}
use Rattle.std.specs.declared.option.Option.TheVariants.{None, Some}
use Rattle.std.specs.declared.result.Result.TheVariants.{Ok}
use Rattle.std.specs.List.{AllByRecursion}
use Rattle.std.proofs.ByRecursion.{All-append, All-push, All-get_or}
use Rattle.std.proofs.lemmas.List.{length-map, length-append, get_or_push, map-append}
use Rattle.ore_algebra.specs.Domain.{Domain, HasInverses}
use Rattle.ore_monomial.specs.Monomial.{unit}
use Rattle.ore_monomial.specs.Signature.{Signature, MonomialOf, IsLawful}
use Rattle.ore_monomial.specs.Term.{Term, term_cmp, shift}
use Rattle.ore_monomial.specs.declared.order.Order.{Order}
use Rattle.ore_monomial.proofs.Declared.{MonomialOf-unit, MonomialOf-lcm}
use Rattle.ore_monomial.specs.LetterRule.{constant}
use Rattle.ore_rows.specs.Rows.{Row, RowOf, AreLong, zero_row, row_minus, row_scale, combine, matrix_times}
use Rattle.ore_rows.specs.RowLead.{coefficient_at, row_lead}
use Rattle.ore_rows.specs.Arithmetic.{exact}
use Rattle.ore_rows.specs.Reduction.{BasisRow, Step, ReductionState, basis_rows, cofactors_of, leads_of, origin, remainder_after, reduce}
use Rattle.ore_pairs.specs.PairRule.{may_treat, may_skip}
use Rattle.ore_pairs.specs.Run.{RunState, entries_with, unless_zero, with_syzygy}
use Rattle.ore_pairs.proofs.PairRuleLaws.{CanTreat, SameLeads, treat_to, treat_same, skip_same, treat_longer}
use Rattle.ore_pairs.proofs.SRows.{of_s_row, below_s_row}
use Rattle.ore_rows.specs.declared.choices.Origin.{Origin}
use Rattle.ore_rows.specs.declared.choices.Origin.TheVariants.{Event}
use Rattle.ore_rows.proofs.BasisParts.{long_at}
use Rattle.ore_rows.proofs.Differences.{row_minus_self}
use Rattle.ore_rows.proofs.GreatestTerms.{row_lead-Some, zero_from}
use Rattle.ore_division.proofs.Reductions.{remainder_after-push}
use Rattle.ore_pairs.specs.Steps.{lead_at, lcm_of_leads, s_row, AreLeads}
use Rattle.ore_pairs.specs.PairList.{DealtPair, pairs_of, IsBelowStep, IsTreated, IsLawfulEntry, AreLawful, AreEntriesOf}
use Rattle.ore_pairs.specs.PairList as pair
use Rattle.ore_pairs.proofs.Syzygies.{AreStepsWithin, within_lawful, length-remainder_after, length-s_row, combine-remainder_after, combine-s_row}
use Rattle.ore_groebner.specs.RunLaws.{IsBasisRow, IsSyzygy, IsNone, IsFrom, IsPlaceIn, HasItsSyzygy}
use Rattle.ore_groebner.proofs.Limited.{monic_of, start_of, state_with}
use Rattle.ore_groebner.proofs.Growing.{SameRows, within_steps, left_same, pair_same, below_same, lawful_same, shown_same, shown_push, inside_map, map_inside, map_longer, map_grow}
use Rattle.ore_groebner.proofs.Sources.{none_more, from_new, from_zeros, no_event, Grown, grown_none, grown_many, grown_places}
use Rattle.ore_groebner.proofs.Holding.{back_more, Holds, are_monic, are_wide, leads_are, long_rows, wide_cofactors, of_rows, of_cofactors, to_right}
use Rattle.ore_groebner.proofs.Listing.{latest, latest_same, entries_of_push, lawful_push}
use Rattle.ore_groebner.proofs.Monics.{shift-unit, monic_good, monic_row, monic_cofactor}
use Rattle.ore_groebner.proofs.Parts.{lead_of_signature, IsPart, part_reduced}

-- ---- one more entry

module _ (K : Domain) (s : Signature) (o : Order) (n : ℕ) (a : List (Row K)) (st : RunState K) (holds : Holds K s o n a st) where
  abbrev q : ℕ
  q = length a

  pub advance : (more : List (BasisRow (Row K))) (syzygies : List (Row K)) (origins : List Origin) (l : DealtPair K) → Grown K (length st.listed) st.origins st.syzygies origins syzygies
      → AllByRecursion (IsBasisRow K s o n a) (st.basis ++ more) → AllByRecursion (IsSyzygy K s o n a) syzygies
      → IsLawfulEntry K s o n (basis_rows (st.basis ++ more)) (leads_of (st.basis ++ more)) (latest [] st.listed) l
      → (AllByRecursion (RowOf K s) a → AreEntriesOf K s (l ∷ [])) → HasItsSyzygy K s q (leads_of (st.basis ++ more)) (cofactors_of (st.basis ++ more)) origins syzygies (length st.listed) l
      → Holds K s o n a (record { basis = st.basis ++ more; listed = st.listed ++ l ∷ []; syzygies = syzygies; origins = origins })
  advance more syzygies origins l grown good all entry of shows = record {
    basis = good;
    syzygies = all;
    entries = record {
      lawful = lawful_push K s o n (basis_rows longer) (leads_of longer) [] st.listed l
          (lawful_same K s (leads_of st.basis) (leads_of longer) same_leads long o n (basis_rows st.basis) (basis_rows longer) (same (λ b. b.row)) [] st.listed holds.entries.lawful) entry;
      entries = λ d. entries_of_push K s st.listed l (holds.entries.entries d) (of d);
      syzygies = shown_push K s q (leads_of longer) (cofactors_of longer) origins syzygies 0 st.listed l
          (shown_same K s (leads_of st.basis) (leads_of longer) same_leads long q (length st.listed) st.origins st.syzygies origins syzygies grown (cofactors_of st.basis) (cofactors_of longer) (same (λ b. b.cofactor)) 0 st.listed (omega arith)
          (within_lawful K s o n (basis_rows st.basis) (leads_of st.basis) [] st.listed holds.entries.lawful) holds.entries.syzygies)
          (subst (λ k. HasItsSyzygy K s q (leads_of longer) (cofactors_of longer) origins syzygies k l) (let z : length st.listed ≡ 0 + length st.listed = omega arith in z) shows);
    };
    back = back_more K s o q st.basis more (length st.listed) st.origins st.syzygies origins syzygies grown 0 0 a holds.back;
    many = grown_many K q (length st.listed) st.origins st.syzygies origins syzygies grown holds.many;
    places = subst (λ k. AllByRecursion (IsPlaceIn q k) origins) (let e = length-append st.listed (l ∷ []) in let z : suc (length st.listed) ≡ length (st.listed ++ l ∷ []) = omega arith in z) (grown_places K q (length st.listed) st.origins st.syzygies origins syzygies grown holds.places);
  }
    where
      longer : List (BasisRow (Row K))
      longer = st.basis ++ more

      long : length (leads_of st.basis) ≤ length (leads_of (st.basis ++ more))
      long = map_longer (λ (b : BasisRow (Row K)). b.lead) st.basis more

      same_leads : SameLeads (length (leads_of st.basis)) (leads_of st.basis) (leads_of (st.basis ++ more))
      same_leads i h = map_grow (λ (b : BasisRow (Row K)). b.lead) origin st.basis more i (map_inside (λ (b : BasisRow (Row K)). b.lead) st.basis i h)

      same : (f : BasisRow (Row K) → Row K) → SameRows (length (leads_of st.basis)) (map f st.basis) (map f (st.basis ++ more))
      same f i h = map_grow f [] st.basis more i (map_inside (λ (b : BasisRow (Row K)). b.lead) st.basis i h)

  -- with no more basis rows
  pub advance_same : (syzygies : List (Row K)) (origins : List Origin) (l : DealtPair K) → Grown K (length st.listed) st.origins st.syzygies origins syzygies → AllByRecursion (IsSyzygy K s o n a) syzygies
      → IsLawfulEntry K s o n (basis_rows st.basis) (leads_of st.basis) (latest [] st.listed) l
      → (AllByRecursion (RowOf K s) a → AreEntriesOf K s (l ∷ [])) → HasItsSyzygy K s q (leads_of st.basis) (cofactors_of st.basis) origins syzygies (length st.listed) l
      → Holds K s o n a (record { basis = st.basis; listed = st.listed ++ l ∷ []; syzygies = syzygies; origins = origins })
  advance_same syzygies origins l grown all entry of shows =
      let e = sym (append-nil st.basis) in
      subst (λ basis. Holds K s o n a (record { basis = basis; listed = st.listed ++ l ∷ []; syzygies = syzygies; origins = origins })) (append-nil st.basis)
      (advance [] syzygies origins l grown
      (subst (AllByRecursion (IsBasisRow K s o n a)) e holds.basis) all
      (subst (λ (basis : List (BasisRow (Row K))). IsLawfulEntry K s o n (basis_rows basis) (leads_of basis) (latest [] st.listed) l) e entry) of
      (subst (λ (basis : List (BasisRow (Row K))). HasItsSyzygy K s q (leads_of basis) (cofactors_of basis) origins syzygies (length st.listed) l) e shows))

  -- the pair may be treated by the same pairs with the latest first
  pub may_now : (i j : ℕ) → may_treat (leads_of st.basis) (pairs_of st.listed) i j ≡ true → may_treat (leads_of st.basis) (pairs_of (latest [] st.listed)) i j ≡ true
  may_now i j h = sym (treat_same (leads_of st.basis) (pairs_of st.listed) i j (pairs_of (latest [] st.listed)) (latest_same st.listed i j)) ∙ h

  pub skip_holds : (i j via : ℕ) → may_treat (leads_of st.basis) (pairs_of st.listed) i j ≡ true → may_skip (leads_of st.basis) (pairs_of st.listed) i j via ≡ true → Holds K s o n a (record st { listed = entries_with K st (pair.Skip i j via) })
  skip_holds i j via allowed skipped = advance_same st.syzygies st.origins (pair.Skip i j via) (grown_none K (length st.listed) st.origins st.syzygies) holds.syzygies
      (may_now i j allowed, sym (skip_same (leads_of st.basis) (pairs_of st.listed) i j via (pairs_of (latest [] st.listed)) (latest_same st.listed)) ∙ skipped) (λ d. tt) (no_event q (length st.listed) st.origins holds.places)

-- ---- a treated pair

module _ (K : Domain) (inverses : HasInverses K) (s : Signature) (lawful : IsLawful s) (o : Order) (n : ℕ) (a : List (Row K)) (st : RunState K) (holds : Holds K s o n a st) (i j : ℕ) (can : CanTreat (leads_of st.basis) (pairs_of st.listed) i j) where
  abbrev width : ℕ
  width = length a

  abbrev leads : List Term
  leads = leads_of st.basis

  abbrev start : ReductionState K
  start = start_of K inverses s o st.basis i j

  abbrev pub IsPairReduction : ReductionState K → Type 0
  IsPairReduction w = IsPart K s lawful o n st.basis (are_monic K s o n a st.basis holds.basis) (are_wide K s o n a st.basis holds.basis) (long_at K st.basis n (are_wide K s o n a st.basis holds.basis)) (AllByRecursion (RowOf K s) a) (of_rows K s o n a st.basis holds.basis) (of_cofactors K s o n a st.basis holds.basis)
      start.row start.cofactor (lcm_of_leads leads i j) w

  second_inside : j < length st.basis
  second_inside = map_inside (λ (b : BasisRow (Row K)). b.lead) st.basis j can.within

  first_inside : i < length st.basis
  first_inside = let l = can.ordered in let m = second_inside in omega arith

  inside_of : {X : Type 0} (f : BasisRow (Row K) → X) (k : ℕ) → k < length st.basis → k < length (map f st.basis)
  inside_of f k h = inside_map f st.basis k h

  long_basis : AreLong K n (basis_rows st.basis)
  long_basis = long_rows K s o n a st.basis holds.basis

  wide_rows : AreLong K width (cofactors_of st.basis)
  wide_rows = wide_cofactors K s o n a st.basis holds.basis

  leads_here : AreLeads K o (basis_rows st.basis) leads
  leads_here = leads_are K s o n a st.basis holds.basis

  -- the pair's common multiple is of the signature
  declared : AllByRecursion (RowOf K s) a → MonomialOf s (lcm_of_leads leads i j).monomial
  declared d = MonomialOf-lcm s _ _ (of_lead i first_inside) (of_lead j second_inside)
    where
      of_lead : (k : ℕ) → k < length st.basis → MonomialOf s (lead_at leads k).monomial
      of_lead k h = lead_of_signature K s o _ _ K.one (All-get_or (RowOf K s) (basis_rows st.basis) k [] (inside_of (λ b. b.row) k h) (of_rows K s o n a st.basis holds.basis d)) (leads_here.monic k (inside_of (λ b. b.row) k h))

  -- the pair may be treated
  allowed : may_treat leads (pairs_of (latest [] st.listed)) i j ≡ true
  allowed = may_now K s o n a st holds i j (treat_to leads (pairs_of st.listed) i j can)

  none_after : (rows : List (Row K)) (z : Row K) → remainder_after K s rows [] z ≡ z
  unfolding remainder_after
  none_after rows z = refl

  pub part_start : IsPairReduction start
  part_start = record {
    row = none_after (basis_rows st.basis) start.row;
    cofactor = none_after (cofactors_of st.basis) start.cofactor;
    of_row = λ d. of_s_row K s lawful leads i j (declared d) (basis_rows st.basis) (inside_of (λ b. b.row) i first_inside) (inside_of (λ b. b.row) j second_inside) (of_rows K s o n a st.basis holds.basis d);
    of_cofactor = λ d. of_s_row K s lawful leads i j (declared d) (cofactors_of st.basis) (inside_of (λ b. b.cofactor) i first_inside) (inside_of (λ b. b.cofactor) j second_inside) (of_cofactors K s o n a st.basis holds.basis d);
    steps_of = λ d. tt;
    low = tt;
    below = below_s_row K s lawful leads i j o n (basis_rows st.basis) long_basis leads_here (inside_of (λ b. b.row) i first_inside) (inside_of (λ b. b.row) j second_inside) can.columns;
  }

  pub start_long : length start.row ≡ n
  start_long = length-s_row K s lawful n (basis_rows st.basis) long_basis leads i j (inside_of (λ b. b.row) i first_inside) (inside_of (λ b. b.row) j second_inside)

  start_wide : length start.cofactor ≡ width
  start_wide = length-s_row K s lawful width (cofactors_of st.basis) wide_rows leads i j (inside_of (λ b. b.cofactor) i first_inside) (inside_of (λ b. b.cofactor) j second_inside)

  pub reduced_part : (rest : ReductionState K) → reduce K o (exact K s) st.basis start ≡ Ok rest → (length rest.row ≡ n) × IsPairReduction rest
  reduced_part rest = part_reduced K s lawful o n st.basis (are_monic K s o n a st.basis holds.basis) (are_wide K s o n a st.basis holds.basis) (long_at K st.basis n (are_wide K s o n a st.basis holds.basis)) (AllByRecursion (RowOf K s) a) (of_rows K s o n a st.basis holds.basis) (of_cofactors K s o n a st.basis holds.basis)
      start.row start.cofactor (lcm_of_leads leads i j) start rest start_long part_start

  module _ (w : ReductionState K) (long : length w.row ≡ n) (p : IsPairReduction w) where
    within : AreStepsWithin K (length leads) w.steps
    within = within_steps K o leads (lcm_of_leads leads i j) w.steps p.low

    within_cofactors : AreStepsWithin K (length (cofactors_of st.basis)) w.steps
    within_cofactors = subst (λ k. AreStepsWithin K k w.steps) (length-map st.basis (λ b. b.lead) ∙ sym (length-map st.basis (λ b. b.cofactor))) within

    wide : length w.cofactor ≡ width
    wide = sym (ap length p.cofactor) ∙ length-remainder_after K s lawful width (cofactors_of st.basis) wide_rows w.steps _ start_wide within_cofactors

    made : combine K s n w.cofactor a ≡ w.row
    made =
        ap (λ c. combine K s n c a) (sym p.cofactor)
        ∙ combine-remainder_after K s lawful width n (cofactors_of st.basis) a wide_rows w.steps _ start_wide within_cofactors
        ∙ ap (remainder_after K s (matrix_times K s n (cofactors_of st.basis) a) w.steps) (combine-s_row K s lawful width n (cofactors_of st.basis) a wide_rows leads i j (inside_of (λ b. b.cofactor) i first_inside) (inside_of (λ b. b.cofactor) j second_inside))
        ∙ ap (λ m. remainder_after K s m w.steps (s_row K s leads m i j)) (to_right K s o n a st.basis holds.basis)
        ∙ p.row

    -- ---- nothing is left

    module _ (nothing : row_lead K o w.row ≡ None) where
      zeros : w.row ≡ zero_row K n
      zeros = zero_from K o w.row nothing ∙ ap (zero_row K) long

      syzygy : IsSyzygy K s o n a w.cofactor
      syzygy = record { wide = wide; vanishes = made ∙ zeros; of_row = p.of_cofactor }

      -- the cofactor row is among the others, or is zeros
      kept_others : AllByRecursion (IsSyzygy K s o n a) (unless_zero K o w.cofactor) × ((unless_zero K o w.cofactor ≡ w.cofactor ∷ []) ⊎ ((unless_zero K o w.cofactor ≡ []) × (w.cofactor ≡ zero_row K width)))
      unfolding unless_zero
      kept_others = by (row_lead K o w.cofactor) refl
        where
          by : (t : Option Term) → row_lead K o w.cofactor ≡ t → AllByRecursion (IsSyzygy K s o n a) (elim t [ None ↦ [] | Some t ↦ w.cofactor ∷ [] ]) × ((elim t [ None ↦ [] | Some t ↦ w.cofactor ∷ [] ] ≡ w.cofactor ∷ []) ⊎ ((elim t [ None ↦ [] | Some t ↦ w.cofactor ∷ [] ] ≡ []) × (w.cofactor ≡ zero_row K width)))
          by None e = (tt, inr (refl, zero_from K o w.cofactor e ∙ ap (zero_row K) wide))
          by (Some t) e = ((syzygy, tt), inl refl)

      all_syzygies : AllByRecursion (IsSyzygy K s o n a) (st.syzygies ++ unless_zero K o w.cofactor)
      all_syzygies = All-append (IsSyzygy K s o n a) st.syzygies (unless_zero K o w.cofactor) holds.syzygies kept_others.0

      abbrev here : Origin
      here = Event (length st.listed)

      abbrev sources : List (Row K) → List Origin
      sources rows = map (λ c. here) rows

      all_here : (rows : List (Row K)) → AllByRecursion (λ x. x ≡ here) (sources rows)
      all_here [] = tt
      all_here (r ∷ rows) = (refl, all_here rows)

      grown : Grown K (length st.listed) st.origins st.syzygies (st.origins ++ sources (unless_zero K o w.cofactor)) (st.syzygies ++ unless_zero K o w.cofactor)
      grown = record { sources = sources (unless_zero K o w.cofactor); others = unless_zero K o w.cofactor; origins_are = refl; syzygies_are = refl; all = all_here (unless_zero K o w.cofactor); many = length-map (unless_zero K o w.cofactor) (λ c. here) }

      -- none came from the pair before
      fresh : IsNone st.origins here
      fresh = no_event width (length st.listed) st.origins holds.places

      from : IsFrom K width (st.origins ++ sources (unless_zero K o w.cofactor)) (st.syzygies ++ unless_zero K o w.cofactor) here w.cofactor
      from = ⊎_elim
          (λ e. subst (λ rows. IsFrom K width (st.origins ++ sources rows) (st.syzygies ++ rows) here w.cofactor) (sym e) (from_new K width here st.origins st.syzygies w.cofactor fresh holds.many))
          (λ e. subst (λ rows. IsFrom K width (st.origins ++ sources rows) (st.syzygies ++ rows) here w.cofactor) (sym e.0) (from_zeros K width here (st.origins ++ []) (st.syzygies ++ []) w.cofactor (none_more K width here st.origins [] fresh tt) e.1))
          kept_others.1

      pub syzygy_holds : Holds K s o n a (with_syzygy K o st i j w)
      unfolding with_syzygy
      syzygy_holds = advance_same K s o n a st holds (st.syzygies ++ unless_zero K o w.cofactor) (st.origins ++ map (λ c. Event (length st.listed)) (unless_zero K o w.cofactor)) (pair.Pair i j w.steps)
          grown all_syzygies
          (allowed, record { low = p.low; nothing = p.row ∙ zeros })
          (λ d. (p.steps_of d, tt))
          (subst (IsFrom K width (st.origins ++ sources (unless_zero K o w.cofactor)) (st.syzygies ++ unless_zero K o w.cofactor) here) (sym p.cofactor) from)

    -- ---- something is left

    module _ (t : Term) (something : row_lead K o w.row ≡ Some t) where
      abbrev number : K.Number
      number = coefficient_at K w.row t

      abbrev b : BasisRow (Row K)
      b = monic_of K inverses s o w.row w.cofactor t

      abbrev longer : List (BasisRow (Row K))
      longer = st.basis ++ b ∷ []

      abbrev last : Step K
      last = record { index = length st.basis; monomial = unit; number = number }

      good : IsBasisRow K s o n a b
      good = monic_good K inverses s lawful o w.row w.cofactor t something n a long wide made p.of_row p.of_cofactor

      same_leads : SameLeads (length leads) leads (leads_of longer)
      same_leads k h = map_grow (λ (b : BasisRow (Row K)). b.lead) origin st.basis (b ∷ []) k (map_inside (λ (b : BasisRow (Row K)). b.lead) st.basis k h)

      same : (f : BasisRow (Row K) → Row K) → SameRows (length leads) (map f st.basis) (map f longer)
      same f k h = map_grow f [] st.basis (b ∷ []) k (map_inside (λ (b : BasisRow (Row K)). b.lead) st.basis k h)

      at_last : {Y : Type 0} (f : BasisRow (Row K) → Y) (d : Y) → get_or (map f longer) (length st.basis) d ≡ f b
      at_last f d = ap (λ ys. get_or ys (length st.basis) d) (map-append f st.basis (b ∷ [])) ∙ get_or_push (map f st.basis) (f b) d (length st.basis) (length-map st.basis f)

      -- the last step takes away what is left, of rows as of cofactor rows
      leaves : (f : BasisRow (Row K) → Row K) (r : Row K) → remainder_after K s (map f st.basis) w.steps (s_row K s leads (map f st.basis) i j) ≡ r → row_scale K s (constant K number) (f b) ≡ r
          → remainder_after K s (map f longer) (w.steps ++ last ∷ []) (s_row K s (leads_of longer) (map f longer) i j) ≡ zero_row K (length r)
      leaves f r e g =
          remainder_after-push K s (map f longer) w.steps last _
          ∙ (λ k. row_minus K (before k) (row_scale K s (constant K number) (at_last f [] k)))
          ∙ ap (row_minus K r) g ∙ row_minus_self K r
        where
          before : remainder_after K s (map f longer) w.steps (s_row K s (leads_of longer) (map f longer) i j) ≡ r
          before = left_same K s (length leads) (map f st.basis) (map f longer) leads (leads_of longer) (same f) same_leads i j w.steps
              (inside_of (λ b. b.lead) i first_inside) (inside_of (λ b. b.lead) j second_inside) within ∙ e

      longer_leads : length leads ≤ length (leads_of longer)
      longer_leads = map_longer (λ (b : BasisRow (Row K)). b.lead) st.basis (b ∷ [])

      pair_is : lcm_of_leads (leads_of longer) i j ≡ lcm_of_leads leads i j
      pair_is = pair_same K s leads (leads_of longer) same_leads longer_leads i j (inside_of (λ b. b.lead) i first_inside) (inside_of (λ b. b.lead) j second_inside)

      last_low : IsBelowStep K o (leads_of longer) (lcm_of_leads leads i j) last
      last_low = record {
        within = let e = length-map longer (λ (b : BasisRow (Row K)). b.lead) in let l = length-append st.basis (b ∷ []) in omega arith;
        low = ap (λ (u : Term). term_cmp o (shift unit u) (lcm_of_leads leads i j)) (at_last (λ (b : BasisRow (Row K)). b.lead) origin) ∙ ap (λ (u : Term). term_cmp o u (lcm_of_leads leads i j)) (shift-unit t)
            ∙ p.below t (row_lead-Some K o w.row t something).apart;
      }

      treated : IsTreated K s o n (basis_rows longer) (leads_of longer) i j (w.steps ++ last ∷ [])
      treated = record {
        low = subst (λ t. AllByRecursion (IsBelowStep K o (leads_of longer) t) (w.steps ++ last ∷ [])) (sym pair_is)
            (All-push (IsBelowStep K o (leads_of longer) (lcm_of_leads leads i j)) w.steps last (below_same K s leads (leads_of longer) same_leads longer_leads o (lcm_of_leads leads i j) w.steps p.low) last_low);
        nothing = leaves (λ b. b.row) w.row p.row (monic_row K inverses s lawful o w.row w.cofactor t something) ∙ ap (zero_row K) long;
      }

      pub row_holds : Holds K s o n a (state_with K inverses s o st i j w t)
      row_holds = advance K s o n a st holds (b ∷ []) st.syzygies st.origins (pair.Pair i j (w.steps ++ last ∷ [])) (grown_none K (length st.listed) st.origins st.syzygies)
          (All-push (IsBasisRow K s o n a) st.basis b holds.basis good) holds.syzygies
          (treat_longer leads (leads_of longer) same_leads longer_leads (pairs_of (latest [] st.listed)) i j allowed, treated)
          (λ d. (All-push (λ (t : Step K). MonomialOf s t.monomial) w.steps last (p.steps_of d) (MonomialOf-unit s), tt))
          (from_zeros K width (Event (length st.listed)) st.origins st.syzygies _ (no_event width (length st.listed) st.origins holds.places)
          (leaves (λ b. b.cofactor) w.cofactor p.cofactor (monic_cofactor K inverses s lawful o w.row w.cofactor t something) ∙ ap (zero_row K) wide))
