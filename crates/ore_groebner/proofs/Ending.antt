-- How a run ends.
--     answered_in, refusal_halts    the chooser refuses
--     refusal_spent      it says that the budget is spent only where its rule allows it
--     stop_in, stop_halts    a choice stops
--     stop_not_spent     then the budget isn't spent
--     runs_after         which runs are given after a halt
--     all_complete       each pair is listed, so the state is complete
--     IsEnded            the parts of a complete run, made of the progress
--     led_honest         the parts of a complete run
use Rattle.std.proofs.Common.{◌≡◌, ℕ, ◌+◌, Bool, List, [], ◌∷◌, ◌++◌, length, sym, ap, ◌∙◌, subst}
use Rattle.std.proofs.Common.{inr}
use Rattle.std.specs.List.{All}
use Rattle.std.specs.declared.result.Result.TheVariants.{Ok, Err}
use Rattle.std.proofs.lemmas.List.{length-map}
use Rattle.ore_algebra.specs.Limits.{Cause}
use Rattle.ore_rational.specs.Field.{rationals}
use Rattle.ore_monomial.specs.Signature.{Signature}
use Rattle.ore_ring.specs.Belongs.{Belongs}
use Rattle.ore_rows.specs.Reduction.{leads_of}
use Rattle.ore_rows.proofs.BasisParts.{leads_monics}
use Rattle.ore_pairs.specs.PairList.{pairs_of}
use Rattle.ore_pairs.specs.PairRule.{AreAllListed}
use Rattle.ore_pairs.specs.Run.{RunState, Stopped, IsComplete, from_rows}
use Rattle.ore_rows.specs.Stored.{OperatorMatrix, rows_of}
use Rattle.ore_rows.specs.StoredBasis.{StoredBasis, BasisBelongs, HaveLeads, monic_of, monics}
use Rattle.ore_rows.specs.declared.choices.Choice.{Choice}
use Rattle.ore_groebner.specs.Choosing.{present, chosen_pairs, Settings, IsChooserAnswer}
use Rattle.ore_groebner.specs.Following.{state_after_choice, IsChooserRefusal, IsRefusalAllowed, IsStopIn, IsStopOf, IsLed}
use Rattle.ore_groebner.specs.Honest.{first_state, IsHonestRun, IsStoppedAt, IsHalted, MayBeSpent, HasOneMoreRun, HasRunsAfter}
use Rattle.ore_groebner.specs.RunProgress.{run_state, entries_from, new_rows, choices_of, IsProgressOf}
use Rattle.ore_groebner.specs.BasisLeads.{BasisLeads, basis_leads}
use Rattle.ore_groebner.specs.declared.chooser.Next.{Next}
use Rattle.ore_groebner.specs.declared.chooser.Next.TheVariants as next
use Rattle.ore_groebner.specs.declared.outcome.Finished.{Finished}
use Rattle.ore_groebner.specs.declared.outcome.Halt.{Halt}
use Rattle.ore_groebner.specs.declared.outcome.Halt.TheVariants as halt
use Rattle.ore_groebner.specs.declared.outcome.StopAt.{StopAt}
use Rattle.ore_groebner.specs.declared.outcome.StopAt.TheVariants as at
use Rattle.ore_groebner.specs.declared.progress.Progress.{Progress}
use Rattle.ore_groebner.proofs.Leading.{led_reached, spent_here}
use Rattle.ore_algebra.proofs.ResultLaws.{no_ok}
use Rattle.ore_groebner.proofs.SamePairs.{answer_same}

pub stop_not_spent : (s : Signature) (st : RunState rationals) (c : Choice) (h : Halt) → IsStopOf s st c h → h ≡ halt.Spent → ⊥
stop_not_spent s st c h stops e = subst (IsStopOf s st c) e stops

module _ (s : Signature) (a : OperatorMatrix) (allows : BasisLeads → List (ℕ × ℕ) → Choice → Bool) (p : Progress) where
  module _ (runs : List (List Choice)) (settings : Settings) where
    answered_in : IsLed s a allows (present runs) p → (x : Next) → IsChooserAnswer (leads_of p.basis.items) p.listed runs settings x → IsChooserAnswer (leads_of (run_state p).basis) (pairs_of (run_state p).listed) runs settings x
    answered_in led x h = subst (λ leads. IsChooserAnswer leads (pairs_of (run_state p).listed) runs settings x) (sym (leads_monics p.basis.items))
        (answer_same (leads_of p.basis.items) p.listed (pairs_of (run_state p).listed) led.fits.listed runs settings x h)

    pub refusal_halts : IsLed s a allows (present runs) p → (h : Halt) → IsChooserRefusal (leads_of p.basis.items) p.listed runs settings h → IsHalted s a runs settings h
    refusal_halts led halt.Spent r = record { last = run_state p; reached = led_reached s a allows (present runs) p led; answered = answered_in led next.Spent r }
    refusal_halts led halt.NoLawful r = record { last = run_state p; reached = led_reached s a allows (present runs) p led; answered = answered_in led next.NoLawful r }
    refusal_halts led halt.Memory r = tt
    refusal_halts led (halt.Overflow place) r = absurd r
    refusal_halts led (halt.Degree place) r = absurd r

    stop_in : (cs : List Choice) (c : Choice) → IsLed s a allows cs p → present runs ≡ cs ++ c ∷ [] → (k : Cause) (place : StopAt) → IsStopIn s (run_state p) c k place → IsStoppedAt s a (present runs) k place
    stop_in cs c led e k at.Forced h = absurd h
    stop_in cs c led e k (at.Treat i j) h = record { before = cs; choices_are = e ∙ ap (λ c. cs ++ c ∷ []) h.0; state = run_state p; reached = led_reached s a allows cs p led; stopped = subst (λ c. state_after_choice s (run_state p) c ≡ Err (Stopped k)) h.0 h.1 }

    pub stop_halts : (cs : List Choice) (c : Choice) → IsLed s a allows cs p → present runs ≡ cs ++ c ∷ [] → (h : Halt) → IsStopOf s (run_state p) c h → IsHalted s a runs settings h
    stop_halts cs c led e (halt.Overflow place) h = stop_in cs c led e _ place h
    stop_halts cs c led e (halt.Degree place) h = stop_in cs c led e _ place h
    stop_halts cs c led e halt.Spent h = absurd h
    stop_halts cs c led e halt.NoLawful h = absurd h
    stop_halts cs c led e halt.Memory h = tt

  -- where the first basis was made and one more run is given
  pub runs_after : (before given : List (List Choice)) (start : RunState rationals) → first_state s a ≡ Ok start → HasOneMoreRun before given → (settings : Settings) (h : Halt) → IsHalted s a given settings h → HasRunsAfter before given h
  runs_after before given start begun more settings (halt.Overflow at.Forced) h = absurd (no_ok (sym h ∙ begun))
  runs_after before given start begun more settings (halt.Overflow (at.Treat i j)) h = more
  runs_after before given start begun more settings (halt.Degree at.Forced) h = absurd (no_ok (sym h ∙ begun))
  runs_after before given start begun more settings (halt.Degree (at.Treat i j)) h = more
  runs_after before given start begun more settings halt.Spent h = more
  runs_after before given start begun more settings halt.NoLawful h = more
  runs_after before given start begun more settings halt.Memory h = inr more

  pub refusal_spent : (cs : List Choice) → IsLed s a allows cs p → HaveLeads p.basis.items → (allows_spent : BasisLeads → List (ℕ × ℕ) → Bool) (h : Halt) → IsRefusalAllowed allows_spent (basis_leads p.basis) (chosen_pairs cs) h → h ≡ halt.Spent → MayBeSpent s a allows_spent cs
  refusal_spent cs led have allows_spent h r e = spent_here s a allows cs p led have allows_spent (subst (IsRefusalAllowed allows_spent (basis_leads p.basis) (chosen_pairs cs)) e r)

  pub all_complete : IsProgressOf s p → AreAllListed (leads_of p.basis.items) p.listed → IsComplete rationals (run_state p)
  all_complete fits all = subst (λ leads. AreAllListed leads (pairs_of (run_state p).listed)) (sym (leads_monics p.basis.items)) (λ i j pair. sym (fits.listed i j) ∙ all i j pair)

  -- where the rows of the matrix are multiples of the n rows of the basis
  pub record IsEnded (n : ℕ) (f : Finished) : Type 0 where
    pub basis : f.basis ≡ p.basis
    pub events : f.events ≡ p.events.items
    pub syzygies : f.syzygies ≡ record { cols = p.basis.width; rows = p.syzygies.items }
    pub origins : f.origins ≡ p.origins.items
    pub from : rows_of f.from ≡ from_rows rationals s.order n 0 (rows_of a)
    pub from_cols : f.from.cols ≡ n
    pub from_of : All (All (Belongs s)) f.from.rows

  pub led_honest : (cs : List Choice) → IsLed s a allows cs p → AreAllListed (leads_of p.basis.items) p.listed → (n : ℕ) → n ≡ length p.basis.items → (f : Finished) → IsEnded n f → IsHonestRun s a cs f
  led_honest cs led all n size f e = record {
    start = led.start;
    last = run_state p;
    begun = led.begun;
    led = led.led;
    complete = all_complete led.fits all;
    basis = ap monics (sym e.basis);
    listed = (λ k. entries_from (led.first k) (sym e.events k));
    syzygies = ap rows_of (sym e.syzygies);
    origins = sym e.origins;
    events = ap choices_of e.events ∙ led.events;
    counted = length-map p.basis.items monic_of ∙ led.fits.counted ∙ (λ k. led.first k + new_rows (sym e.events k));
    from = e.from ∙ ap (λ m. from_rows rationals s.order m 0 (rows_of a)) (size ∙ sym (length-map p.basis.items monic_of));
    from_cols = e.from_cols ∙ size ∙ sym (length-map p.basis.items monic_of);
    syzygy_cols = ap (λ (m : OperatorMatrix). m.cols) e.syzygies ∙ led.width;
    cols = ap (λ (b : StoredBasis). b.cols) e.basis ∙ led.cols;
    width = ap (λ (b : StoredBasis). b.width) e.basis ∙ led.width;
    basis_of = subst (λ (b : StoredBasis). BasisBelongs s b.items) (sym e.basis) led.fits.belongs;
    from_of = e.from_of;
    syzygies_of = subst (λ (m : OperatorMatrix). All (All (Belongs s)) m.rows) (sym e.syzygies) led.fits.of;
  }
