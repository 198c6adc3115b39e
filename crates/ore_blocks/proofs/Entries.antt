-- The pairs of a basis, from a place on.
--     treated, treated_next, treated_end       how many are treated
--     more_same                        lists with the same pairs, with one more pair in front
--     entry_same, entries_same         so pairs are right by those of the one as by those of the other
--     entries_next, entries_end        a pair and those behind it
--     steps_inside, fitted             steps that are right name basis rows; a common multiple that may be formed
--                                      has its degree
--     entry_fits, entries_fit                  the pairs that are right can be treated
use Rattle.std.proofs.Common.{◌≡◌, ℕ, suc, ◌+◌, ◌<◌, ◌≤◌, Bool, true, false, cond, ◌&&◌, ◌||◌, nat_eq, nat_lt, List, [], ◌∷◌, drop, length, refl, sym, ap, ◌∙◌, Some, arith}
use Rattle.std.specs.Prelude.{nat_le}
use Rattle.std.specs.List.{All, slice_get}
use Rattle.std.specs.declared.result.Result.{Result}
use Rattle.std.specs.declared.result.Result.TheVariants.{Ok, Err}
use Rattle.std.proofs.lemmas.List.{at_drop_all}
use Rattle.std.proofs.lemmas.List.Elements.{All-cons, All-nil}
use Rattle.std.proofs.lemmas.Bool.{and_parts}
use Rattle.ore_algebra.specs.Limits.{Limits, Cause, Degree, program}
use Rattle.ore_rational.specs.Field.{rationals}
use Rattle.ore_monomial.specs.Monomial.{degree}
use Rattle.ore_monomial.specs.Signature.{Signature}
use Rattle.ore_monomial.specs.Term.{Term}
use Rattle.ore_rows.specs.Arithmetic.{within}
use Rattle.ore_rows.specs.Reduction.{Step}
use Rattle.ore_rows.specs.Rows.{Row}
use Rattle.ore_pairs.specs.PairList.{treated_count}
use Rattle.ore_pairs.specs.PairRule.{is_listed, HaveSamePairs, may_treat, may_skip}
use Rattle.ore_pairs.specs.Steps.{lcm_of_leads, s_row_within, common_fits}
use Rattle.ore_pairs.proofs.PairRuleLaws.{treat_from, treat_same, skip_same}
use Rattle.ore_parts.specs.declared.block.PairEntry.{PairEntry}
use Rattle.ore_parts.specs.declared.block.PairEntry.TheVariants.{Pair, Skip}
use Rattle.ore_blocks.specs.declared.place.Section.{Section}
use Rattle.ore_blocks.specs.declared.place.Place.TheVariants as place
use Rattle.ore_blocks.specs.declared.reason.Reason.TheVariants as reason
use Rattle.ore_blocks.specs.Conditions.{formed, required}
use Rattle.ore_algebra.specs.Results.{◌>>=◌}
use Rattle.ore_blocks.specs.CheckBlock.{check_entries, check_entry, check_steps, dealt_pairs, pair_of, rows_taken}
use Rattle.ore_blocks.specs.InnerContracts.{FitsLeads}
use Rattle.ore_blocks.specs.PlaceConditions.{check_step}
use Rattle.ore_blocks.proofs.Passed.{formed_then, nat_lt_true, required_then, required_true}
use Rattle.ore_algebra.proofs.ResultLaws.{bound}
use Rattle.ore_algebra.proofs.ListLaws.{drop_read}

-- ---- numbers

abbrev treated : List PairEntry → ℕ
treated es = treated_count (dealt_pairs es)

pub treated_next : (es : List PairEntry) (k : ℕ) (e : PairEntry) → slice_get es k ≡ Some e → treated (drop k es) ≡ rows_taken e + treated (drop (k + 1) es)
unfolding treated_count
treated_next es k e at = ap treated (drop_read es k e at) ∙ by e
  where
    by : (e : PairEntry) → treated (e ∷ drop (k + 1) es) ≡ rows_taken e + treated (drop (k + 1) es)
    by (Pair i j steps) = omega arith
    by (Skip i j via) = omega arith

pub treated_end : (es : List PairEntry) (k : ℕ) → length es ≤ k → treated (drop k es) ≡ 0
unfolding treated_count
treated_end es k h = at_drop_all treated es k h

-- ---- lists with the same pairs

pub more_same : (p : ℕ × ℕ) (before others : List (ℕ × ℕ)) → HaveSamePairs before others → HaveSamePairs (p ∷ before) (p ∷ others)
unfolding is_listed
more_same p before others h x y = ap (λ t. (nat_eq x p.0 && nat_eq y p.1) || t) (h x y)

module _ (l : Limits) (s : Signature) (basis : List (Row rationals)) (leads : List Term) where
  pub entry_same : (at : Section) (k : ℕ) (before others : List (ℕ × ℕ)) (e : PairEntry) → HaveSamePairs before others → check_entry l s basis leads at k before e ≡ check_entry l s basis leads at k others e
  unfolding check_entry
  entry_same at k before others (Pair i j steps) h = ap (λ t. required (place.Pair at k 0) reason.Pair t >>= λ u. formed (place.Pair at k 0) (common_fits rationals (within l s) (lcm_of_leads leads i j)) >>= λ u. formed (place.Pair at k 0) (s_row_within rationals (within l s) leads basis i j) >>= λ r. check_steps l s basis leads (lcm_of_leads leads i j) at k 0 r steps) (treat_same leads before i j others (h i j))
  entry_same at k before others (Skip i j via) h = λ n. required (place.Pair at k 0) reason.Skip (treat_same leads before i j others (h i j) n && skip_same leads before i j via others h n)

  pub entries_same : (at : Section) (k : ℕ) (before others : List (ℕ × ℕ)) (es : List PairEntry) → HaveSamePairs before others → check_entries l s basis leads at k before es ≡ check_entries l s basis leads at k others es
  unfolding check_entries
  entries_same at k before others [] h = refl
  entries_same at k before others (e ∷ es) h = λ n. entry_same at k before others e h n >>= λ u. entries_same at (suc k) (pair_of e ∷ before) (pair_of e ∷ others) es (more_same (pair_of e) before others h) n

  pub entries_next : (at : Section) (before others : List (ℕ × ℕ)) (es : List PairEntry) (k : ℕ) (e : PairEntry) → slice_get es k ≡ Some e → HaveSamePairs others (pair_of e ∷ before)
      → check_entries l s basis leads at k before (drop k es) ≡ (check_entry l s basis leads at k before e >>= λ u. check_entries l s basis leads at (k + 1) others (drop (k + 1) es))
  unfolding check_entries
  entries_next at before others es k e here h =
      ap (check_entries l s basis leads at k before) (drop_read es k e here)
      ∙ (λ i. check_entry l s basis leads at k before e >>= λ u. (entries_same at (suc k) (pair_of e ∷ before) others (drop (k + 1) es) (λ x y. sym (h x y)) ∙ ap (λ m. check_entries l s basis leads at m others (drop (k + 1) es)) (let n : suc k ≡ k + 1 = omega arith in n)) i)

  pub entries_end : (at : Section) (before : List (ℕ × ℕ)) (es : List PairEntry) (k : ℕ) → length es ≤ k → check_entries l s basis leads at k before (drop k es) ≡ Ok tt
  unfolding check_entries
  entries_end at before es k h = at_drop_all (check_entries l s basis leads at k before) es k h

-- ---- what right pairs are

module _ (s : Signature) (basis : List (Row rationals)) (leads : List Term) where
  steps_inside : (t : Term) (at : Section) (k n : ℕ) (r : Row rationals) (steps : List (Step rationals)) → check_steps program s basis leads t at k n r steps ≡ Ok tt → All (λ (t : Step rationals). t.index < length leads) steps
  unfolding check_steps check_step
  steps_inside t at k n r [] h = All-nil (λ (t : Step rationals). t.index < length leads)
  steps_inside t at k n r (step ∷ steps) h =
      let next = bound (check_step program s basis leads t (place.Pair at k (suc n)) r step) _ tt h in
      let place = required_then (place.Pair at k (suc n)) reason.Step (nat_lt step.index (length leads)) _ next.0 next.1 in
      All-cons (λ (t : Step rationals). t.index < length leads) step steps (nat_lt_true step.index (length leads) place.0) (steps_inside t at k (suc n) next.0 steps next.2)

  fitted : (t : Term) (u : Unit {0}) → common_fits rationals (within program s) t ≡ Ok u → degree t.monomial ≤ 32767
  fitted t u h = by (nat_le (degree t.monomial) 32767) refl
    where
      by : (b : Bool) → nat_le (degree t.monomial) 32767 ≡ b → degree t.monomial ≤ 32767
      by true e = grind (arith, e)
      by false e = let apart : ◌≡◌ {A = Result (Unit {0}) Cause} (Err Degree) (Ok u) = sym (ap (λ b. cond b (Ok tt) (Err Degree)) e) ∙ h in absurd cc

  pub entry_fits : (at : Section) (k : ℕ) (before : List (ℕ × ℕ)) (e : PairEntry) → check_entry program s basis leads at k before e ≡ Ok tt → FitsLeads leads e
  unfolding check_entry
  entry_fits at k before (Pair i j steps) h =
      let first = required_then (place.Pair at k 0) reason.Pair (may_treat leads before i j) _ tt h in
      let second = formed_then (place.Pair at k 0) (common_fits rationals (within program s) (lcm_of_leads leads i j)) _ tt first.1 in
      let third = formed_then (place.Pair at k 0) (s_row_within rationals (within program s) leads basis i j) _ tt second.2 in
      let new = treat_from leads before i j first.0 in
      (new.ordered, new.within, fitted (lcm_of_leads leads i j) second.0 second.1, steps_inside (lcm_of_leads leads i j) at k 0 third.0 steps third.2)
  entry_fits at k before (Skip i j via) h = (treat_from leads before i j (and_parts (may_treat leads before i j) (may_skip leads before i j via) (required_true (place.Pair at k 0) reason.Skip _ tt h)).0).ordered

  pub entries_fit : (at : Section) (k : ℕ) (before : List (ℕ × ℕ)) (es : List PairEntry) → check_entries program s basis leads at k before es ≡ Ok tt → All (FitsLeads leads) es
  unfolding check_entries
  entries_fit at k before [] h = All-nil (FitsLeads leads)
  entries_fit at k before (e ∷ es) h =
      let first = bound (check_entry program s basis leads at k before e) _ tt h in
      All-cons (FitsLeads leads) e es (entry_fits at k before e first.1) (entries_fit at (suc k) (pair_of e ∷ before) es first.2)
