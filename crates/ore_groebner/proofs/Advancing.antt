-- What a choice changes of a state: one more listed pair, and one more basis row at most, whose lead is new.
--     Advances                 one state comes from another so
--     remainder_advances, treat_advances, step_advances    treating a pair, and a choice
use Rattle.std.proofs.Common.{◌≡◌, ◌⊎◌, inl, inr, ℕ, true, List, [], ◌∷◌, ◌++◌, refl, sym, ap, ◌∙◌, subst}
use Rattle.std.specs.declared.option.Option.{Option}
use Rattle.std.specs.declared.option.Option.TheVariants.{None, Some}
use Rattle.std.specs.declared.result.Result.{Result}
use Rattle.std.specs.declared.result.Result.TheVariants.{Ok, Err}
use Rattle.std.proofs.lemmas.Bool.{and_parts}
use Rattle.ore_algebra.specs.Domain.{Domain, HasInverses}
use Rattle.ore_algebra.specs.Limits.{Cause, ◌>>=◌}
use Rattle.ore_monomial.specs.Signature.{Signature, IsLawful}
use Rattle.ore_monomial.specs.Term.{Term}
use Rattle.ore_monomial.specs.declared.order.Order.{Order}
use Rattle.ore_leads.specs.FirstDivisor.{first_divisor}
use Rattle.ore_rows.specs.Arithmetic.{Arithmetic, exact}
use Rattle.ore_rows.specs.Reduction.{BasisRow, ReductionState, leads_of, next_step, reduce}
use Rattle.ore_rows.specs.RowLead.{row_lead}
use Rattle.ore_rows.specs.Rows.{Row}
use Rattle.ore_rows.specs.declared.choices.Choice.{Choice}
use Rattle.ore_rows.specs.declared.choices.Choice.TheVariants.{Treat, Skip}
use Rattle.ore_rows.proofs.SoundArithmetic.{exact_sound}
use Rattle.ore_division.proofs.Reductions.{reduced}
use Rattle.ore_division.proofs.Steps.{next_step-None}
use Rattle.ore_pairs.specs.PairList.{DealtPair, first, second, pairs_of}
use Rattle.ore_pairs.specs.PairList as pair
use Rattle.ore_pairs.specs.PairRule.{may_treat, may_skip, is_lawful}
use Rattle.ore_pairs.specs.Run.{RunState, with_syzygy, with_row, with_remainder, treat, follow, step}
use Rattle.ore_pairs.proofs.PairRuleLaws.{treat_from}
use Rattle.ore_groebner.proofs.Holding.{Holds, are_monic, are_wide}
use Rattle.ore_groebner.proofs.Limited.{step_given, start_of, s_rows_exact, with_row_exact}
use Rattle.ore_algebra.proofs.ResultLaws.{no_ok, same_ok}
use Rattle.ore_groebner.proofs.Treating.{start_long}

-- one pair is listed that might be treated; the basis is the same, or has one more row, whose lead no lead before divides
pub record Advances (K : Domain) (st next : RunState K) : Type 0 where
  pub entry : DealtPair K
  pub listed : next.listed ≡ st.listed ++ entry ∷ []
  pub treatable : may_treat (leads_of st.basis) (pairs_of st.listed) (first entry) (second entry) ≡ true
  pub basis : (next.basis ≡ st.basis) ⊎ ((b : BasisRow (Row K)) × (next.basis ≡ st.basis ++ b ∷ []) × (first_divisor (leads_of st.basis) b.lead ≡ None))

module _ (K : Domain) (inverses : HasInverses K) (s : Signature) (lawful : IsLawful s) (o : Order) (n : ℕ) (a : List (Row K)) where
  abbrev exactly : Arithmetic K
  exactly = exact K s

  abbrev MayTreat : RunState K → ℕ → ℕ → Type 0
  MayTreat st i j = may_treat (leads_of st.basis) (pairs_of st.listed) i j ≡ true

  syzygy_advances : (st : RunState K) (i j : ℕ) (w : ReductionState K) → MayTreat st i j → Advances K st (with_syzygy K o st i j w)
  unfolding with_syzygy
  syzygy_advances st i j w may = record { entry = pair.Pair i j w.steps; listed = refl; treatable = may; basis = inl refl }

  remainder_advances : (st next : RunState K) (i j : ℕ) (w : ReductionState K) → MayTreat st i j → next_step K o st.basis w.row ≡ None → with_remainder K inverses o exactly st i j w ≡ Ok next → Advances K st next
  unfolding with_remainder
  remainder_advances st next i j w may none e = by (row_lead K o w.row) refl e
    where
      by : (t : Option Term) → row_lead K o w.row ≡ t → ◌≡◌ {A = Result (RunState K) Cause} (elim t [ None ↦ Ok (with_syzygy K o st i j w) | Some t ↦ with_row K inverses exactly st i j w t ]) (Ok next) → Advances K st next
      by None l e = subst (Advances K st) (same_ok _ next e) (syzygy_advances st i j w may)
      by (Some t) l e = subst (Advances K st) (same_ok _ next (sym (with_row_exact K inverses s o st i j w t) ∙ e))
          (record { entry = _; listed = refl; treatable = may; basis = inr (_, refl, next_step-None K o st.basis w.row none t l) })

  treat_advances : (st next : RunState K) → Holds K s o n a st → (i j : ℕ) → MayTreat st i j → treat K inverses o exactly st i j ≡ Ok next → Advances K st next
  unfolding treat
  treat_advances st next holds i j may e = by (reduce K o exactly st.basis (start_of K inverses s o st.basis i j)) refl
      (sym (ap (λ (r : Result (ReductionState K) Cause). r >>= (λ start. reduce K o exactly st.basis start >>= (λ rest. with_remainder K inverses o exactly st i j rest))) (s_rows_exact K inverses s o st.basis i j)) ∙ e)
    where
      by : (r : Result (ReductionState K) Cause) → reduce K o exactly st.basis (start_of K inverses s o st.basis i j) ≡ r → ◌≡◌ {A = Result (RunState K) Cause} (r >>= (λ rest. with_remainder K inverses o exactly st i j rest)) (Ok next) → Advances K st next
      by (Err c) f e = absurd (no_ok e)
      by (Ok w) f e = remainder_advances st next i j w may
          (reduced K s lawful o exactly (exact_sound K s) st.basis n (are_monic K s o n a st.basis holds.basis) (are_wide K s o n a st.basis holds.basis) (start_of K inverses s o st.basis i j) w
          (start_long K inverses s lawful o n a st holds i j (treat_from (leads_of st.basis) (pairs_of st.listed) i j may)) f) e

  follow_advances : (st next : RunState K) (c : Choice) → Holds K s o n a st → is_lawful (leads_of st.basis) (pairs_of st.listed) c ≡ true → follow K inverses o exactly st c ≡ Ok next → Advances K st next
  unfolding follow is_lawful
  follow_advances st next (Treat i j) holds h e = treat_advances st next holds i j h e
  follow_advances st next (Skip i j via) holds h e =
      let may = (and_parts (may_treat (leads_of st.basis) (pairs_of st.listed) i j) (may_skip (leads_of st.basis) (pairs_of st.listed) i j via) h).0 in
      subst (Advances K st) (same_ok _ next e) (record { entry = pair.Skip i j via; listed = refl; treatable = may; basis = inl refl })

  pub step_advances : (st next : RunState K) (c : Choice) → Holds K s o n a st → step K inverses o exactly st c ≡ Ok next → Advances K st next
  step_advances st next c holds e = let parts = step_given K inverses o exactly st next c e in follow_advances st next c holds parts.0 parts.1
