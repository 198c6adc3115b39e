-- Each run ends, however it is chosen: no lead of the basis divides a later new lead, and while the basis stays there are
-- finitely many pairs. (Buchberger 1965.)
--     new_from, new_parts      no lead of some divides a term: place by place; with one more
--     listed_more, listed_last    a pair that is listed stays so, and the last one is
--     Covers                   what no lead of the basis divides is new to some leads
--     fewer_left               where the basis stays, fewer pairs aren't listed
--     new_column               the lead of a new row stands in a column of the matrix
--     covers_more              with a new row and its lead
--     advanced, by_pairs, by_leads    from states to which choices lead the run ends, and so from this state
--     run_ends, run_ends_within    each run has a number that its choices don't reach
use Rattle.std.proofs.Common.{◌≡◌, ⊎_elim, ℕ, zero, suc, ◌<◌, ◌≤◌, true, false, List, [], ◌∷◌, ◌++◌, length, map, get_or, sym, ap, ◌∙◌, subst, arith}
use Rattle.std.specs.Prelude.{◌&&◌, ◌||◌, nat_eq}
use Rattle.std.specs.List.{AllByRecursion}
use Rattle.std.specs.declared.result.Result.TheVariants.{Ok}
use Rattle.std.proofs.lemmas.Bool.Decides.{nat_tests}
use Rattle.std.proofs.lemmas.List.{map-append}
use Rattle.std.proofs.lemmas.Bool.{or_right}
use Rattle.ore_algebra.specs.Domain.{Domain, HasInverses}
use Rattle.ore_course.specs.Bounded.{IsShort}
use Rattle.ore_course.specs.Choices.{Runner}
use Rattle.ore_course.proofs.Endings.{IsEnding, ending, ending_short}
use Rattle.ore_monomial.specs.Signature.{Signature, IsLawful}
use Rattle.ore_monomial.specs.Term.{Term}
use Rattle.ore_monomial.specs.declared.order.Order.{Order}
use Rattle.ore_leads.specs.FirstDivisor.{divides_term}
use Rattle.ore_leads.proofs.Dividing.{first_divisor-None}
use Rattle.ore_leads.proofs.LeadsEnd.{IsNewLead, LeadsEnd, leads_end, every_leads_end}
use Rattle.ore_rows.specs.Arithmetic.{Arithmetic, exact, IsSoundArithmetic}
use Rattle.ore_rows.specs.Reduction.{BasisRow, leads_of, origin}
use Rattle.ore_rows.specs.Rows.{Row, AreLong}
use Rattle.ore_rows.specs.declared.choices.Choice.{Choice}
use Rattle.ore_rows.proofs.LeadAppend.{within_row}
use Rattle.ore_pairs.specs.PairRule.{is_listed}
use Rattle.ore_pairs.specs.PairList.{first, second, pairs_of}
use Rattle.ore_pairs.specs.Run.{RunState, begin}
use Rattle.ore_pairs.specs.Runner.{runner}
use Rattle.ore_pairs.proofs.FewChoices.{few_choices}
use Rattle.ore_pairs.proofs.PairRuleLaws.{is_listed-push, treat_from}
use Rattle.ore_groebner.specs.RunLaws.{IsBasisRow}
use Rattle.ore_groebner.proofs.Advancing.{Advances, step_advances}
use Rattle.ore_groebner.proofs.FirstStates.{begin_holds}
use Rattle.ore_groebner.proofs.Holding.{Holds}
use Rattle.ore_groebner.proofs.Limited.{follows_most, begin_most, run_follows}
use Rattle.ore_groebner.proofs.Running.{step_holds}
use Rattle.ore_groebner.proofs.Unlisted.{Keeps, unlisted, unlisted-smaller}

-- ---- leads

new_from : (q : Term) (ts : List Term) → ((k : ℕ) → k < length ts → divides_term (get_or ts k origin) q ≡ false) → IsNewLead q ts
new_from q [] h = tt
new_from q (t ∷ ts) h = (h 0 (omega arith), new_from q ts (λ k less. h (suc k) (omega (arith, less))))

new_parts : (q : Term) (ts : List Term) (t : Term) → IsNewLead q (ts ++ t ∷ []) → (divides_term t q ≡ false) × IsNewLead q ts
new_parts q [] t h = (h.0, tt)
new_parts q (u ∷ ts) t h = let more = new_parts q ts t h.1 in (more.0, (h.0, more.1))

-- ---- pairs

itself : (n : ℕ) → nat_eq n n ≡ true
itself n = grind (arith, nat_tests)

listed_more : (ps : List (ℕ × ℕ)) (i j : ℕ) → Keeps ps (ps ++ (i, j) ∷ [])
listed_more ps i j x y e = is_listed-push x y ps (i, j) ∙ or_right (nat_eq x i && nat_eq y j) (is_listed x y ps) e

listed_last : (ps : List (ℕ × ℕ)) (i j : ℕ) → is_listed i j (ps ++ (i, j) ∷ []) ≡ true
listed_last ps i j = is_listed-push i j ps (i, j) ∙ (λ k. (itself i k && itself j k) || is_listed i j ps)

-- ---- runs

module _ (K : Domain) (inverses : HasInverses K) (s : Signature) (lawful : IsLawful s) (o : Order) (n : ℕ) (a : List (Row K)) where
  abbrev exactly : Arithmetic K
  exactly = exact K s

  abbrev R : Runner (RunState K) Choice
  R = runner K inverses o exactly

  abbrev Good : RunState K → Type 0
  Good st = Holds K s o n a st

  abbrev pairs : RunState K → List (ℕ × ℕ)
  pairs st = pairs_of st.listed

  abbrev pairs_left : RunState K → ℕ
  pairs_left st = unlisted (pairs st) (length (leads_of st.basis))

  abbrev Covers : List Term → RunState K → Type 0
  Covers leads st = (q : Term) → IsNewLead q (leads_of st.basis) → IsNewLead q leads

  fewer_left : (st next : RunState K) → Advances K st next → next.basis ≡ st.basis → pairs_left next < pairs_left st
  fewer_left st next v same =
      let h = treat_from (leads_of st.basis) (pairs st) (first v.entry) (second v.entry) v.treatable in
      let more : pairs next ≡ pairs st ++ (first v.entry, second v.entry) ∷ [] = ap (map (λ e. (first e, second e))) v.listed ∙ map-append (λ e. (first e, second e)) st.listed (v.entry ∷ []) in
      subst (λ ps. unlisted ps (length (leads_of next.basis)) < pairs_left st) (sym more)
      (unlisted-smaller (pairs st) (pairs st ++ (first v.entry, second v.entry) ∷ []) (first v.entry) (second v.entry) (length (leads_of next.basis)) (length (leads_of st.basis))
      (listed_more (pairs st) (first v.entry) (second v.entry)) h.unlisted (listed_last (pairs st) (first v.entry) (second v.entry)) h.ordered h.within (upto (λ k. length (leads_of (same k)))))
    where
      upto : {m n : ℕ} → m ≡ n → m ≤ n
      upto e = omega (arith, e)

  last_row : (basis : List (BasisRow (Row K))) (b : BasisRow (Row K)) → AllByRecursion (IsBasisRow K s o n a) (basis ++ b ∷ []) → IsBasisRow K s o n a b
  last_row [] b h = h.0
  last_row (x ∷ basis) b h = last_row basis b h.1

  new_column : (st next : RunState K) (b : BasisRow (Row K)) → Good next → next.basis ≡ st.basis ++ b ∷ [] → (b.lead).column < n
  new_column st next b good grows =
      let row = last_row st.basis b (subst (AllByRecursion (IsBasisRow K s o n a)) grows good.basis) in
      subst (λ m. (b.lead).column < m) row.long (within_row K b.row b.lead (λ e. row.monic.apart (sym row.monic.stands ∙ e)))

  covers_more : (leads : List Term) (st next : RunState K) (b : BasisRow (Row K)) → next.basis ≡ st.basis ++ b ∷ [] → Covers leads st → Covers (b.lead ∷ leads) next
  covers_more leads st next b grows covers q new =
      let longer : leads_of next.basis ≡ leads_of st.basis ++ b.lead ∷ [] = ap leads_of grows ∙ map-append (λ (m : BasisRow (Row K)). m.lead) st.basis (b ∷ []) in
      let parts = new_parts q (leads_of st.basis) b.lead (subst (IsNewLead q) longer new) in
      (parts.0, covers q parts.1)

  -- one lead more, and any number of pairs that aren't listed
  abbrev Longer : List Term → Type 0
  Longer leads = (q : Term) → q.column < n → IsNewLead q leads → (next : RunState K) → Good next → Covers (q ∷ leads) next → IsEnding R next

  advanced : (leads : List Term) → Longer leads → (st : RunState K) → Covers leads st → (next : RunState K) → Good next → Advances K st next → (Covers leads next → pairs_left next < pairs_left st → IsEnding R next) → IsEnding R next
  advanced leads longer st covers next good v shorter = ⊎_elim
      (λ same. shorter (λ q new. covers q (subst (λ basis. IsNewLead q (leads_of basis)) same new)) (fewer_left st next v same))
      (λ (b, grows, none). longer b.lead (new_column st next b good grows) (covers b.lead (new_from b.lead (leads_of st.basis) (first_divisor-None (leads_of st.basis) b.lead origin none))) next good (covers_more leads st next b grows covers))
      v.basis

  by_pairs : (leads : List Term) → Longer leads → (m : ℕ) (st : RunState K) → Good st → Covers leads st → pairs_left st < m → IsEnding R st
  by_pairs leads longer zero st good covers less = absurd (omega (arith, less))
  by_pairs leads longer (suc m) st good covers less = ending (λ c next e.
      let kept = step_holds K inverses s lawful o n a st next c good e in
      advanced leads longer st covers next kept (step_advances K inverses s lawful o n a st next c good e) (λ covers_next fewer. by_pairs leads longer m next kept covers_next (omega (arith, less, fewer))))

  by_leads : (leads : List Term) → LeadsEnd n leads → (st : RunState K) → Good st → Covers leads st → IsEnding R st
  by_leads leads (leads_end h) st good covers = by_pairs leads (λ q column new next kept covers_next. by_leads (q ∷ leads) (h q column new) next kept covers_next) (suc (pairs_left st)) st good covers (omega arith)

  pub run_ends : AreLong K n a → (first : RunState K) → begin K inverses o exactly a ≡ Ok first → (m : ℕ) × IsShort R m first
  run_ends long first e = ending_short R (few_choices K inverses o exactly) first (by_leads [] (every_leads_end n []) first (begin_holds K inverses s lawful o n a long first e) (λ q new. tt))

  -- choices that lead somewhere by other arithmetic lead there exactly
  pub run_ends_within : AreLong K n a → (A : Arithmetic K) → IsSoundArithmetic K s A → (first : RunState K) → begin K inverses o A a ≡ Ok first → (m : ℕ) × IsShort (runner K inverses o A) m first
  run_ends_within long A sound first e =
      let h = run_ends long first (follows_most _ _ (begin_most K inverses s o A sound a) first e) in
      (h.0, λ cs last f. h.1 cs last (run_follows K inverses s o A sound first cs last f))
