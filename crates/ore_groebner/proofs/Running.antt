-- What choices make of a state that holds.
--     step_holds, run_holds    a choice, and choices, lead to states that hold
--     reached_holds            each state that is reached holds
use Rattle.std.proofs.Common.{◌≡◌, ℕ, true, List, [], ◌∷◌, length, refl, sym, ap, ◌∙◌, subst}
use Rattle.std.specs.declared.option.Option.{Option}
use Rattle.std.specs.declared.option.Option.TheVariants.{None, Some}
use Rattle.std.specs.declared.result.Result.{Result}
use Rattle.std.specs.declared.result.Result.TheVariants.{Ok, Err}
use Rattle.std.proofs.lemmas.Bool.{and_parts}
use Rattle.ore_algebra.specs.Domain.{Domain, HasInverses}
use Rattle.ore_algebra.specs.Limits.{Cause, ◌>>=◌}
use Rattle.ore_monomial.specs.Signature.{Signature, IsLawful}
use Rattle.ore_monomial.specs.Term.{Term}
use Rattle.ore_monomial.specs.declared.order.Order.{Order}
use Rattle.ore_rows.specs.Rows.{Row, AreLong}
use Rattle.ore_rows.specs.RowLead.{row_lead}
use Rattle.ore_rows.specs.Arithmetic.{Arithmetic, exact, IsSoundArithmetic}
use Rattle.ore_rows.specs.Reduction.{ReductionState, leads_of, reduce}
use Rattle.ore_pairs.specs.PairList.{pairs_of}
use Rattle.ore_pairs.specs.PairRule.{may_treat, may_skip, is_lawful}
use Rattle.ore_pairs.specs.Run.{RunState, Refusal, with_syzygy, with_row, with_remainder, treat, follow, step}
use Rattle.ore_pairs.proofs.PairRuleLaws.{CanTreat, treat_from}
use Rattle.ore_pairs.specs.Runner.{run}
use Rattle.ore_course.specs.Leading as course
use Rattle.ore_rows.specs.declared.choices.Choice.{Choice}
use Rattle.ore_rows.specs.declared.choices.Choice.TheVariants.{Treat, Skip}
use Rattle.ore_pairs.specs.Reached.{IsReachable}
use Rattle.ore_groebner.proofs.Limited.{follows_most, begin_most, run_follows, step_given, start_of, s_rows_exact, with_row_exact}
use Rattle.ore_algebra.proofs.ResultLaws.{no_ok, same_ok}
use Rattle.ore_groebner.proofs.FirstStates.{begin_holds}
use Rattle.ore_groebner.proofs.Holding.{Holds}
use Rattle.ore_groebner.proofs.Treating.{IsPairReduction, reduced_part, syzygy_holds, row_holds, skip_holds}

module _ (K : Domain) (inverses : HasInverses K) (s : Signature) (lawful : IsLawful s) (o : Order) (n : ℕ) (a : List (Row K)) where
  abbrev exactly : Arithmetic K
  exactly = exact K s

  abbrev Good : RunState K → Type 0
  Good st = Holds K s o n a st

  remainder_holds : (st next : RunState K) (holds : Good st) (i j : ℕ) (can : CanTreat (leads_of st.basis) (pairs_of st.listed) i j) (w : ReductionState K) → length w.row ≡ n → IsPairReduction K inverses s lawful o n a st holds i j can w → with_remainder K inverses o exactly st i j w ≡ Ok next → Good next
  unfolding with_remainder
  remainder_holds st next holds i j can w long p e = by (row_lead K o w.row) refl e
    where
      by : (t : Option Term) → row_lead K o w.row ≡ t → ◌≡◌ {A = Result (RunState K) Cause} (elim t [ None ↦ Ok (with_syzygy K o st i j w) | Some t ↦ with_row K inverses exactly st i j w t ]) (Ok next) → Good next
      by None l e = subst Good (same_ok _ next e) (syzygy_holds K inverses s lawful o n a st holds i j can w long p l)
      by (Some t) l e = subst Good (same_ok _ next (sym (with_row_exact K inverses s o st i j w t) ∙ e)) (row_holds K inverses s lawful o n a st holds i j can w long p t l)

  treat_holds : (st next : RunState K) → Good st → (i j : ℕ) → CanTreat (leads_of st.basis) (pairs_of st.listed) i j → treat K inverses o exactly st i j ≡ Ok next → Good next
  unfolding treat
  treat_holds st next holds i j can e = by (reduce K o exactly st.basis (start_of K inverses s o st.basis i j)) refl
      (sym (ap (λ (r : Result (ReductionState K) Cause). r >>= (λ start. reduce K o exactly st.basis start >>= (λ rest. with_remainder K inverses o exactly st i j rest))) (s_rows_exact K inverses s o st.basis i j)) ∙ e)
    where
      by : (r : Result (ReductionState K) Cause) → reduce K o exactly st.basis (start_of K inverses s o st.basis i j) ≡ r → ◌≡◌ {A = Result (RunState K) Cause} (r >>= (λ rest. with_remainder K inverses o exactly st i j rest)) (Ok next) → Good next
      by (Err c) f e = absurd (no_ok e)
      by (Ok w) f e =
          let part = reduced_part K inverses s lawful o n a st holds i j can w f in
          remainder_holds st next holds i j can w part.0 part.1 e

  follow_holds : (st next : RunState K) (c : Choice) → Good st → is_lawful (leads_of st.basis) (pairs_of st.listed) c ≡ true → follow K inverses o exactly st c ≡ Ok next → Good next
  unfolding follow is_lawful
  follow_holds st next (Treat i j) holds h e = treat_holds st next holds i j (treat_from (leads_of st.basis) (pairs_of st.listed) i j h) e
  follow_holds st next (Skip i j via) holds h e =
      let both = and_parts (may_treat (leads_of st.basis) (pairs_of st.listed) i j) (may_skip (leads_of st.basis) (pairs_of st.listed) i j via) h in
      subst Good (same_ok _ next e) (skip_holds K s o n a st holds i j via both.0 both.1)

  pub step_holds : (st next : RunState K) (c : Choice) → Good st → step K inverses o exactly st c ≡ Ok next → Good next
  step_holds st next c holds e = let parts = step_given K inverses o exactly st next c e in follow_holds st next c holds parts.0 parts.1

  pub run_holds : (st next : RunState K) (cs : List Choice) → Good st → run K inverses o exactly st cs ≡ Ok next → Good next
  unfolding course.run
  run_holds st next [] holds e = subst Good (same_ok st next e) holds
  run_holds st next (c ∷ cs) holds e = by (step K inverses o exactly st c) refl (λ between h. run_holds between next cs h) e
    where
      by : (r : Result (RunState K) Refusal) → step K inverses o exactly st c ≡ r → ((between : RunState K) → Good between → run K inverses o exactly between cs ≡ Ok next → Good next)
          → ◌≡◌ {A = Result (RunState K) Refusal} (elim r [ Ok next ↦ run K inverses o exactly next cs | Err refusal ↦ Err refusal ]) (Ok next) → Good next
      by (Ok between) f more e = more between (step_holds st between c holds f) e
      by (Err refusal) f more e = absurd (no_ok e)

  pub reached_holds : AreLong K n a → (A : Arithmetic K) → IsSoundArithmetic K s A → (st : RunState K) → IsReachable K inverses o A a st → Good st
  reached_holds long A sound st (choices, h) =
      run_holds h.start st choices
      (begin_holds K inverses s lawful o n a long h.start (follows_most _ _ (begin_most K inverses s o A sound a) h.start h.begun))
      (run_follows K inverses s o A sound h.start choices st h.led)
