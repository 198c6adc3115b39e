-- The places of pairs are right where the list of pairs is lawful, and has them all.
--     step_iff                     a step of a pair is below its common multiple; what it leaves
--     AreRight, steps_iff          the steps of a pair are, and leave a row with no lead
--     within_basis, length-pair_row     they name basis rows; the row of a pair has as many entries as these
--     treated_from                 a treated pair
--     treated_iff, skipped_iff     an entry is lawful by those before it
--     entries_iff, pairs_iff       all entries are; and there are as many as pairs
use Rattle.std.proofs.Common.{◌≡◌, ◌↔◌, ℕ, suc, ◌<◌, true, ◌&&◌, nat_eq, nat_lt, List, [], ◌∷◌, length, refl, sym, ap, ◌∙◌, subst, arith}
use Rattle.std.specs.List.{AllByRecursion}
use Rattle.std.specs.declared.option.Option.TheVariants.{None}
use Rattle.std.specs.declared.result.Result.TheVariants.{Ok}
use Rattle.std.proofs.ByRecursion.{All-weaker}
use Rattle.std.proofs.lemmas.List.{length-map}
use Rattle.ore_algebra.specs.Limits.{unlimited}
use Rattle.ore_algebra.specs.Free.{single}
use Rattle.ore_rational.specs.Field.{rationals}
use Rattle.ore_monomial.specs.Monomial.{Monomial, plain_cmp}
use Rattle.ore_monomial.specs.Signature.{Signature}
use Rattle.ore_monomial.specs.Term.{Term, shift}
use Rattle.ore_monomial.proofs.Signatures.{lawful}
use Rattle.ore_rows.specs.Arithmetic.{within}
use Rattle.ore_rows.specs.Rows.{Row, AreLong, zero_row, row_scale}
use Rattle.ore_rows.specs.Reduction.{Step, row_at, remainder_after}
use Rattle.ore_rows.specs.RowLead.{row_lead}
use Rattle.ore_rows.proofs.Differences.{length-row_minus}
use Rattle.ore_rows.proofs.GreatestTerms.{zero_from, row_lead-zero}
use Rattle.ore_rows.proofs.RowLaws as Rows
use Rattle.ore_pairs.specs.PairList.{DealtPair, pairs_of, IsBelowStep, IsTreated, IsLawfulEntry, AreLawful, pair_count}
use Rattle.ore_pairs.specs.PairList as listed
use Rattle.ore_pairs.specs.PairRule.{may_treat, may_skip}
use Rattle.ore_pairs.specs.Steps.{lead_at, lcm_of_leads, s_row, s_row_within}
use Rattle.ore_pairs.proofs.PairRuleLaws.{treat_from}
use Rattle.ore_pairs.proofs.Syzygies.{AreStepsWithin, length-remainder_after}
use Rattle.ore_parts.specs.declared.block.PairEntry.{PairEntry}
use Rattle.ore_parts.specs.declared.block.PairEntry.TheVariants.{Pair, Skip}
use Rattle.ore_blocks.specs.declared.place.Section.{Section}
use Rattle.ore_blocks.specs.declared.place.Place.{Place}
use Rattle.ore_blocks.specs.declared.place.Place.TheVariants as place
use Rattle.ore_blocks.specs.declared.reason.Reason.TheVariants as reason
use Rattle.ore_blocks.specs.Conditions.{is_none}
use Rattle.ore_blocks.specs.CheckBlock.{pair_of, entry_of, dealt_pairs, check_steps, check_entry, check_entries, check_pairs}
use Rattle.ore_blocks.specs.PlaceConditions.{is_below, less_step, check_step}
use Rattle.ore_blocks.proofs.Equivalences.{same_claim, map_iff, goes_iff, gives_iff, required_iff, formed_iff, formed_value_iff, passes_iff, nat_eq_iff, nat_lt_iff, both_iff, below_iff, none_iff}
use Rattle.ore_blocks.proofs.RowConditions.{s_row_exact, stepped, step_exact}

module _ (s : Signature) (basis : List (Row rationals)) (leads : List Term) where
  -- ---- steps

  step_iff : (t : Term) (place : Place) (r : Row rationals) (step : Step rationals) (x : Row rationals) → (check_step unlimited s basis leads t place r step ≡ Ok x) ↔ (IsBelowStep rationals s.order leads t step × (stepped s basis step r ≡ x))
  unfolding check_step
  step_iff t place r step x = map_iff
      (required_iff place reason.Step (nat_lt step.index (length leads)) _ x (nat_lt_iff step.index (length leads)) (λ within.
      required_iff place reason.StepTooHigh (is_below s.order (shift step.monomial (lead_at leads step.index)) t) _ x (below_iff s.order (shift step.monomial (lead_at leads step.index)) t) (λ low.
      formed_value_iff place (less_step unlimited s basis step r) (stepped s basis step r) (step_exact s basis step r) x)))
      (λ h. (record { within = h.0; low = h.1.0 }, h.1.1), λ h. (h.0.within, (h.0.low, h.1)))

  -- the steps are below t, and leave of r a row with no lead
  abbrev AreRight : Term → List (Step rationals) → Row rationals → Type 0
  AreRight t steps r = AllByRecursion (IsBelowStep rationals s.order leads t) steps × (row_lead rationals s.order (remainder_after rationals s basis steps r) ≡ None)

  steps_iff : (t : Term) (at : Section) (k n : ℕ) (r : Row rationals) (steps : List (Step rationals)) → (check_steps unlimited s basis leads t at k n r steps ≡ Ok tt) ↔ AreRight t steps r
  unfolding check_steps remainder_after
  steps_iff t at k n r [] = map_iff
      (passes_iff (place.Pair at k n) reason.Remainder (is_none (row_lead rationals s.order r)) (none_iff (row_lead rationals s.order r)))
      (λ h. (tt, h), λ h. h.1)
  steps_iff t at k n r (step ∷ steps) = map_iff
      (gives_iff (check_step unlimited s basis leads t (place.Pair at k (suc n)) r step) _ (stepped s basis step r) tt (step_iff t (place.Pair at k (suc n)) r step) (λ low.
      steps_iff t at k (suc n) (stepped s basis step r) steps))
      (λ h. ((h.0, h.1.0), h.1.1), λ h. (h.0.0, (h.0.1, h.1)))

  -- ---- entries

  module _ (n : ℕ) (long : AreLong rationals n basis) (same : length leads ≡ length basis) where
    within_basis : (t : Term) (steps : List (Step rationals)) → AllByRecursion (IsBelowStep rationals s.order leads t) steps → AreStepsWithin rationals (length basis) steps
    within_basis t steps h = All-weaker (IsBelowStep rationals s.order leads t) (λ step. step.index < length basis) (λ step b. subst (λ k. step.index < k) same b.within) steps h

    length-multiple : (i : ℕ) (w : Monomial) → i < length basis → length (row_scale rationals s (single rationals plain_cmp w rationals.one) (row_at basis i)) ≡ n
    length-multiple i w h = Rows.length-row_scale rationals s (lawful s) _ _ ∙ Rows.row_at rationals s n basis i long h

    length-pair_row : (i j : ℕ) → i < length basis → j < length basis → length (s_row rationals s leads basis i j) ≡ n
    unfolding s_row
    length-pair_row i j h k = length-row_minus rationals s (lawful s) n _ _ (length-multiple i _ h) (length-multiple j _ k)

    treated_from : (before : List (ℕ × ℕ)) (i j : ℕ) (steps : List (Step rationals)) → may_treat leads before i j ≡ true → AreRight (lcm_of_leads leads i j) steps (s_row rationals s leads basis i j) → IsTreated rationals s s.order n basis leads i j steps
    treated_from before i j steps allowed (low, none) = let new = treat_from leads before i j allowed in record {
      low = low;
      nothing = zero_from rationals s.order _ none ∙ ap (zero_row rationals) (length-remainder_after rationals s (lawful s) n basis long steps _
          (length-pair_row i j (let a = new.ordered in let b = new.within in let c = same in omega arith) (subst (λ m. j < m) same new.within))
          (within_basis (lcm_of_leads leads i j) steps low));
    }

    treated_iff : (at : Section) (k : ℕ) (before : List (DealtPair rationals)) (i j : ℕ) (steps : List (Step rationals))
        → (check_entry unlimited s basis leads at k (pairs_of before) (Pair i j steps) ≡ Ok tt) ↔ IsLawfulEntry rationals s s.order n basis leads before (listed.Pair i j steps)
    unfolding check_entry
    treated_iff at k before i j steps = map_iff
        (required_iff (place.Pair at k 0) reason.Pair (may_treat leads (pairs_of before) i j) _ tt same_claim (λ new.
        formed_iff (place.Pair at k 0) (s_row_within rationals (within unlimited s) leads basis i j) _ (s_row rationals s leads basis i j) tt (s_row_exact s leads basis i j)
        (steps_iff (lcm_of_leads leads i j) at k 0 (s_row rationals s leads basis i j) steps))) (
          λ h. (h.0, treated_from (pairs_of before) i j steps h.0 h.1),
          λ h. (h.0, ((h.1).low, row_lead-zero rationals s.order n (remainder_after rationals s basis steps (s_row rationals s leads basis i j)) (h.1).nothing)),
        )

    skipped_iff : (at : Section) (k : ℕ) (before : List (DealtPair rationals)) (i j via : ℕ)
        → (check_entry unlimited s basis leads at k (pairs_of before) (Skip i j via) ≡ Ok tt) ↔ IsLawfulEntry rationals s s.order n basis leads before (listed.Skip i j via)
    unfolding check_entry
    skipped_iff at k before i j via =
        passes_iff (place.Pair at k 0) reason.Skip (may_treat leads (pairs_of before) i j && may_skip leads (pairs_of before) i j via)
        (both_iff (may_treat leads (pairs_of before) i j) (may_skip leads (pairs_of before) i j via) same_claim same_claim)

    entries_iff : (at : Section) (k : ℕ) (before : List (DealtPair rationals)) (es : List PairEntry) → (check_entries unlimited s basis leads at k (pairs_of before) es ≡ Ok tt) ↔ AreLawful rationals s s.order n basis leads before (dealt_pairs es)
    unfolding check_entries pair_of
    entries_iff at k before [] = (λ h. tt, λ h. refl)
    entries_iff at k before (Pair i j steps ∷ es) =
        goes_iff (check_entry unlimited s basis leads at k (pairs_of before) (Pair i j steps)) _ tt (treated_iff at k before i j steps) (λ here. entries_iff at (suc k) (listed.Pair i j steps ∷ before) es)
    entries_iff at k before (Skip i j via ∷ es) =
        goes_iff (check_entry unlimited s basis leads at k (pairs_of before) (Skip i j via)) _ tt (skipped_iff at k before i j via) (λ here. entries_iff at (suc k) (listed.Skip i j via ∷ before) es)

    pub pairs_iff : (at : Section) (es : List PairEntry) → (check_pairs unlimited s basis leads at es ≡ Ok tt) ↔ (AreLawful rationals s s.order n basis leads [] (dealt_pairs es) × (length (dealt_pairs es) ≡ pair_count leads))
    unfolding check_pairs
    pairs_iff at es = map_iff
        (required_iff (place.Pairs at) reason.Pairs (nat_eq (length es) (pair_count leads)) _ tt (nat_eq_iff (length es) (pair_count leads)) (λ counted. entries_iff at 0 [] es))
        (λ h. (h.1, length-map es entry_of ∙ h.0), λ h. (sym (length-map es entry_of) ∙ h.1, h.0))
