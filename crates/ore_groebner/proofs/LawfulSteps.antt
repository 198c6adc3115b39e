-- What a lawful choice makes of the state that is kept of a run.
--     lawful_treat               the pair of a lawful choice may be treated
--     lawful_kept                a choice is lawful in the state that is kept where it is by what is kept
--     IsLawfulIn, step_lawful    a choice is lawful in a state; then it is followed
--     followed, stopped          what following it makes of the state, and why that stops
--     treat_followed, treat_stops, skip_followed    the same for a treatment and for a skip
use Rattle.std.proofs.Common.{◌≡◌, ℕ, Bool, true, cond, List, refl, sym, ap, ◌∙◌}
use Rattle.std.specs.declared.result.Result.{Result}
use Rattle.std.specs.declared.result.Result.TheVariants.{Ok, Err}
use Rattle.std.proofs.lemmas.Bool.{and_parts}
use Rattle.ore_algebra.specs.Limits.{Cause, program}
use Rattle.ore_rational.specs.Field.{rationals, rational_inverses}
use Rattle.ore_monomial.specs.Gives.{Fails}
use Rattle.ore_monomial.specs.Signature.{Signature}
use Rattle.ore_monomial.specs.Term.{Term}
use Rattle.ore_monomial.specs.declared.stop.RingStop.{RingStop}
use Rattle.ore_monomial.specs.declared.stop.RingStop.TheVariants as stop
use Rattle.ore_rows.specs.Arithmetic.{within}
use Rattle.ore_rows.specs.Reduction.{leads_of}
use Rattle.ore_rows.specs.declared.choices.Choice.{Choice}
use Rattle.ore_rows.specs.declared.choices.Choice.TheVariants.{Treat, Skip}
use Rattle.ore_rows.proofs.BasisParts.{leads_monics}
use Rattle.ore_pairs.specs.PairList as pair
use Rattle.ore_pairs.specs.PairList.{pairs_of}
use Rattle.ore_pairs.specs.PairRule.{may_treat, may_skip, is_lawful}
use Rattle.ore_pairs.specs.Run.{RunState, Unlawful, Stopped, entries_with, as_refusal, treat, follow, step}
use Rattle.ore_pairs.proofs.PairRuleLaws.{CanTreat, treat_from, lawful_same}
use Rattle.ore_groebner.specs.Choosing.{first_of, second_of}
use Rattle.ore_groebner.specs.Following.{state_after_choice, IsStopOf}
use Rattle.ore_groebner.specs.Halting.{halt_of}
use Rattle.ore_groebner.specs.RunProgress.{run_state, IsProgressOf}
use Rattle.ore_groebner.specs.declared.outcome.StopAt.TheVariants as at
use Rattle.ore_groebner.specs.declared.progress.Progress.{Progress}

pub lawful_treat : (leads : List Term) (listed : List (ℕ × ℕ)) (c : Choice) → is_lawful leads listed c ≡ true → CanTreat leads listed (first_of c) (second_of c)
unfolding is_lawful
lawful_treat leads listed (Treat i j) h = treat_from leads listed i j h
lawful_treat leads listed (Skip i j via) h = treat_from leads listed i j (and_parts (may_treat leads listed i j) (may_skip leads listed i j via) h).0

-- the choice is lawful in the state
abbrev pub IsLawfulIn : RunState rationals → Choice → Type 0
IsLawfulIn st c = is_lawful (leads_of st.basis) (pairs_of st.listed) c ≡ true

pub lawful_kept : (s : Signature) (p : Progress) (c : Choice) → IsProgressOf s p → is_lawful (leads_of p.basis.items) p.listed c ≡ true → IsLawfulIn (run_state p) c
lawful_kept s p c fits h = ap (λ leads. is_lawful leads (pairs_of (run_state p).listed) c) (leads_monics p.basis.items) ∙ sym (lawful_same (leads_of p.basis.items) p.listed (pairs_of (run_state p).listed) fits.listed c) ∙ h

module _ (s : Signature) (st : RunState rationals) (c : Choice) (lawful : IsLawfulIn st c) where
  abbrev outcome : Result (RunState rationals) Cause
  outcome = follow rationals rational_inverses s.order (within program s) st c

  step_lawful : state_after_choice s st c ≡ as_refusal outcome
  unfolding step
  step_lawful = ap (λ (b : Bool). cond b (as_refusal outcome) (Err Unlawful)) lawful

  pub followed : (next : RunState rationals) → outcome ≡ Ok next → state_after_choice s st c ≡ Ok next
  unfolding as_refusal
  followed next e = step_lawful ∙ ap (λ (r : Result (RunState rationals) Cause). as_refusal r) e

  pub stopped : (k : Cause) → outcome ≡ Err k → state_after_choice s st c ≡ Err (Stopped k)
  unfolding as_refusal
  stopped k e = step_lawful ∙ ap (λ (r : Result (RunState rationals) Cause). as_refusal r) e

module _ (s : Signature) (st : RunState rationals) (i j : ℕ) where
  abbrev treated : Result (RunState rationals) Cause
  treated = treat rationals rational_inverses s.order (within program s) st i j

  pub treat_followed : IsLawfulIn st (Treat i j) → (next : RunState rationals) → treated ≡ Ok next → state_after_choice s st (Treat i j) ≡ Ok next
  unfolding follow
  treat_followed lawful next e = followed s st (Treat i j) lawful next e

  pub treat_stops : IsLawfulIn st (Treat i j) → (e : RingStop) → Fails e treated → IsStopOf s st (Treat i j) (halt_of e (at.Treat i j))
  unfolding follow
  treat_stops lawful stop.Overflow f = (refl, stopped s st (Treat i j) lawful _ f)
  treat_stops lawful stop.Degree f = (refl, stopped s st (Treat i j) lawful _ f)
  treat_stops lawful stop.Memory f = tt

  pub skip_followed : (via : ℕ) → IsLawfulIn st (Skip i j via) → state_after_choice s st (Skip i j via) ≡ Ok (record st { listed = entries_with rationals st (pair.Skip i j via) })
  unfolding follow
  skip_followed via lawful = followed s st (Skip i j via) lawful _ refl
