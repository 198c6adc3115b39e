-- Runs within limits, and without.
--     GivesSameValue, follows_most  what the first gives, the second gives
--     begin_most               a beginning by sound arithmetic is the exact one, or stops
--     step_given               a choice that gives a state is lawful, and is followed
--     step_follows, run_follows    a choice, and choices, that give a state give the same exactly
--     monic_of, start_of, state_with    a row made monic, the S-row of a pair, and the state with a new row
--     monic_exact, s_rows_exact, with_row_exact    these are the values without limits
--     Comes, begin_comes, treat_comes    without limits there is a value
--     run_unlawful             without limits nothing but an unlawful choice ends a run
use Rattle.std.proofs.Common.{◌≡◌, ◌≢◌, ℕ, suc, Bool, true, false, cond, List, [], ◌∷◌, ◌++◌, length, refl, sym, ap, ◌∙◌}
use Rattle.std.specs.declared.option.Option.{Option}
use Rattle.std.specs.declared.option.Option.TheVariants.{None, Some}
use Rattle.std.specs.declared.result.Result.{Result}
use Rattle.std.specs.declared.result.Result.TheVariants.{Ok, Err}
use Rattle.ore_algebra.proofs.ResultLaws.{no_ok, same_ok}
use Rattle.ore_algebra.specs.Domain.{Domain, HasInverses}
use Rattle.ore_algebra.specs.Limits.{Cause, Degree, ◌>>=◌, IsAtMost}
use Rattle.ore_algebra.proofs.LimitLaws.{most_test, most_bind}
use Rattle.ore_monomial.specs.Monomial.{degree, unit}
use Rattle.ore_monomial.specs.Signature.{Signature}
use Rattle.ore_monomial.specs.Term.{Term}
use Rattle.ore_monomial.specs.declared.order.Order.{Order}
use Rattle.ore_monomial.specs.LetterRule.{constant}
use Rattle.ore_rows.specs.Rows.{Row, unit_row, row_scale}
use Rattle.ore_rows.specs.RowLead.{coefficient_at, row_lead}
use Rattle.ore_rows.specs.Arithmetic.{Arithmetic, exact, IsSoundArithmetic}
use Rattle.ore_rows.specs.Reduction.{BasisRow, ReductionState, basis_rows, cofactors_of, leads_of}
use Rattle.ore_pairs.specs.PairList.{pairs_of}
use Rattle.ore_pairs.specs.PairRule.{is_lawful}
use Rattle.ore_pairs.specs.Run.{RunState, Refusal, Unlawful, Stopped, entries_with, as_refusal, inverse_of, s_rows, with_syzygy, monic_multiple, with_row, with_remainder, treat, follow, step, begin_row, begin_rows, begin}
use Rattle.ore_pairs.specs.Steps.{lcm_of_leads, s_row}
use Rattle.ore_pairs.proofs.SRows.{s_row_exact, s_row_most}
use Rattle.ore_pairs.specs.Runner.{run}
use Rattle.ore_course.specs.Leading as course
use Rattle.ore_rows.specs.declared.choices.Choice.{Choice}
use Rattle.ore_pairs.specs.PairList as pair
use Rattle.ore_rows.specs.declared.choices.Choice.TheVariants.{Treat, Skip}
use Rattle.ore_rows.specs.declared.choices.Origin.TheVariants.{ZeroRow}
use Rattle.ore_rows.proofs.SoundArithmetic.{scaled_exact, scaled_most}
use Rattle.ore_division.proofs.Reductions.{reduce_most, reduce_comes}

abbrev pub GivesSameValue : {X E : Type 0} → Result X E → Result X E → Type 0
GivesSameValue {X} r t = (x : X) → r ≡ Ok x → t ≡ Ok x

pub follows_most : {X : Type 0} (r t : Result X Cause) → IsAtMost r t → GivesSameValue r t
follows_most (Ok y) t h x e = h ∙ e
follows_most (Err c) t h x e = absurd (no_ok e)

as_refusal_follows : {X : Type 0} (r t : Result X Cause) → IsAtMost r t → GivesSameValue (as_refusal r) (as_refusal t)
unfolding as_refusal
as_refusal_follows {X} (Ok y) t h x e = ap (λ (r : Result X Cause). as_refusal r) h ∙ e
as_refusal_follows (Err c) t h x e = absurd (no_ok e)

as_refusal_ok : {X : Type 0} (r : Result X Cause) (x : X) → as_refusal r ≡ Ok x → r ≡ Ok x
unfolding as_refusal
as_refusal_ok (Ok y) x e = ap Ok (same_ok y x e)
as_refusal_ok (Err c) x e = absurd (no_ok e)

-- a choice that makes a state is lawful, and is followed
pub step_given : (K : Domain) (inverses : HasInverses K) (o : Order) (A : Arithmetic K) (st next : RunState K) (c : Choice) → step K inverses o A st c ≡ Ok next → (is_lawful (leads_of st.basis) (pairs_of st.listed) c ≡ true) × (follow K inverses o A st c ≡ Ok next)
unfolding step
step_given K inverses o A st next c e = by (is_lawful (leads_of st.basis) (pairs_of st.listed) c) e
  where
    by : (b : Bool) → ◌≡◌ {A = Result (RunState K) Refusal} (cond b (as_refusal (follow K inverses o A st c)) (Err Unlawful)) (Ok next) → (b ≡ true) × (follow K inverses o A st c ≡ Ok next)
    by true e = (refl, as_refusal_ok _ next e)
    by false e = absurd (no_ok e)

-- ---- within limits

module _ (K : Domain) (inverses : HasInverses K) (s : Signature) (o : Order) (A : Arithmetic K) (sound : IsSoundArithmetic K s A) where
  abbrev E : Arithmetic K
  E = exact K s

  monic_most : (row cofactor : Row K) (t : Term) → IsAtMost (monic_multiple K inverses A row cofactor t) (monic_multiple K inverses E row cofactor t)
  unfolding monic_multiple
  monic_most row cofactor t = most_bind _ _ _ _ (scaled_most K s A sound _ row) (λ x. most_bind _ _ _ _ (scaled_most K s A sound _ cofactor) (λ y. refl))

  s_rows_most : (basis : List (BasisRow (Row K))) (i j : ℕ) → IsAtMost (s_rows K A basis i j) (s_rows K E basis i j)
  unfolding s_rows
  s_rows_most basis i j =
      most_bind _ _ _ _ (most_test (A.degree_fits (degree (lcm_of_leads (leads_of basis) i j).monomial)) tt Degree) (λ u.
      most_bind _ _ _ _ (s_row_most K s A sound (leads_of basis) (basis_rows basis) i j) (λ r. most_bind _ _ _ _ (s_row_most K s A sound (leads_of basis) (cofactors_of basis) i j) (λ q. refl)))

  with_row_most : (st : RunState K) (i j : ℕ) (w : ReductionState K) (t : Term) → IsAtMost (with_row K inverses A st i j w t) (with_row K inverses E st i j w t)
  unfolding with_row
  with_row_most st i j w t = most_bind _ _ _ _ (monic_most w.row w.cofactor t) (λ b. refl)

  remainder_most : (st : RunState K) (i j : ℕ) (w : ReductionState K) → IsAtMost (with_remainder K inverses o A st i j w) (with_remainder K inverses o E st i j w)
  unfolding with_remainder
  remainder_most st i j w = by (row_lead K o w.row)
    where
      by : (x : Option Term) → IsAtMost (elim x [ None ↦ Ok (with_syzygy K o st i j w) | Some t ↦ with_row K inverses A st i j w t ]) (elim x [ None ↦ Ok (with_syzygy K o st i j w) | Some t ↦ with_row K inverses E st i j w t ])
      by None = refl
      by (Some t) = with_row_most st i j w t

  treat_most : (st : RunState K) (i j : ℕ) → IsAtMost (treat K inverses o A st i j) (treat K inverses o E st i j)
  unfolding treat
  treat_most st i j = most_bind _ _ _ _ (s_rows_most st.basis i j) (λ start. most_bind _ _ _ _ (reduce_most K s o A sound st.basis start) (λ rest. remainder_most st i j rest))

  follow_most : (st : RunState K) (c : Choice) → IsAtMost (follow K inverses o A st c) (follow K inverses o E st c)
  unfolding follow
  follow_most st (Treat i j) = treat_most st i j
  follow_most st (Skip i j via) = refl

  pub step_follows : (st : RunState K) (c : Choice) → GivesSameValue (step K inverses o A st c) (step K inverses o E st c)
  unfolding step
  step_follows st c = by (is_lawful (leads_of st.basis) (pairs_of st.listed) c)
    where
      by : (b : Bool) → GivesSameValue {X = RunState K} {E = Refusal} (cond b (as_refusal (follow K inverses o A st c)) (Err Unlawful)) (cond b (as_refusal (follow K inverses o E st c)) (Err Unlawful))
      by true = as_refusal_follows _ _ (follow_most st c)
      by false = λ x e. e

  pub run_follows : (st : RunState K) (cs : List Choice) → GivesSameValue (run K inverses o A st cs) (run K inverses o E st cs)
  unfolding course.run
  run_follows st [] x e = e
  run_follows st (c ∷ cs) x e = by (step K inverses o A st c) (step K inverses o E st c) (step_follows st c) (λ next. run_follows next cs) e
    where
      by : (r t : Result (RunState K) Refusal) → GivesSameValue r t → ((next : RunState K) → GivesSameValue (run K inverses o A next cs) (run K inverses o E next cs))
          → ◌≡◌ {A = Result (RunState K) Refusal} (elim r [ Ok next ↦ run K inverses o A next cs | Err refusal ↦ Err refusal ]) (Ok x) → ◌≡◌ {A = Result (RunState K) Refusal} (elim t [ Ok next ↦ run K inverses o E next cs | Err refusal ↦ Err refusal ]) (Ok x)
      by (Ok next) t h more e = ap (λ (t : Result (RunState K) Refusal). elim t [ Ok next ↦ run K inverses o E next cs | Err refusal ↦ Err refusal ]) (h next refl) ∙ more next x e
      by (Err c) t h more e = absurd (no_ok e)

  begin_row_most : (q i : ℕ) (r : Row K) (st : RunState K) → IsAtMost (begin_row K inverses o A q i r st) (begin_row K inverses o E q i r st)
  unfolding begin_row
  begin_row_most q i r st = by (row_lead K o r)
    where
      by : (x : Option Term) → IsAtMost (elim x [ None ↦ Ok (record st { syzygies = st.syzygies ++ unit_row K q i ∷ []; origins = st.origins ++ ZeroRow i ∷ [] }) | Some t ↦ monic_multiple K inverses A r (unit_row K q i) t >>= (λ b. Ok (record st { basis = st.basis ++ b ∷ [] })) ])
          (elim x [ None ↦ Ok (record st { syzygies = st.syzygies ++ unit_row K q i ∷ []; origins = st.origins ++ ZeroRow i ∷ [] }) | Some t ↦ monic_multiple K inverses E r (unit_row K q i) t >>= (λ b. Ok (record st { basis = st.basis ++ b ∷ [] })) ])
      by None = refl
      by (Some t) = most_bind _ _ _ _ (monic_most r (unit_row K q i) t) (λ b. refl)

  begin_rows_most : (q i : ℕ) (rs : List (Row K)) (st : RunState K) → IsAtMost (begin_rows K inverses o A q i rs st) (begin_rows K inverses o E q i rs st)
  unfolding begin_rows
  begin_rows_most q i [] st = refl
  begin_rows_most q i (r ∷ rs) st = most_bind _ _ _ _ (begin_row_most q i r st) (λ next. begin_rows_most q (suc i) rs next)

  pub begin_most : (a : List (Row K)) → IsAtMost (begin K inverses o A a) (begin K inverses o E a)
  unfolding begin
  begin_most a = begin_rows_most (length a) 0 a (record { basis = []; listed = []; syzygies = []; origins = [] })

-- ---- without limits

abbrev pub Comes : {X E : Type 0} → Result X E → Type 0
Comes {X} r = (x : X) × (r ≡ Ok x)

module _ (K : Domain) (inverses : HasInverses K) (s : Signature) (o : Order) where
  abbrev exactly : Arithmetic K
  exactly = exact K s

  -- a row and its cofactor row times the inverse of the coefficient at t
  abbrev pub monic_of : Row K → Row K → Term → BasisRow (Row K)
  monic_of row cofactor t = record {
    row = row_scale K s (constant K (inverse_of K inverses (coefficient_at K row t))) row;
    cofactor = row_scale K s (constant K (inverse_of K inverses (coefficient_at K row t))) cofactor;
    lead = t;
  }

  pub monic_exact : (row cofactor : Row K) (t : Term) → monic_multiple K inverses exactly row cofactor t ≡ Ok (monic_of row cofactor t)
  unfolding monic_multiple
  monic_exact row cofactor t = λ i. scaled_exact K s (constant K (inverse_of K inverses (coefficient_at K row t))) row i >>= λ monic.
      scaled_exact K s (constant K (inverse_of K inverses (coefficient_at K row t))) cofactor i >>= λ scaled_cofactor.
      Ok (record { row = monic; cofactor = scaled_cofactor; lead = t })

  -- the S-row of a pair, with that of the cofactor rows
  abbrev pub start_of : List (BasisRow (Row K)) → ℕ → ℕ → ReductionState K
  start_of basis i j = record { row = s_row K s (leads_of basis) (basis_rows basis) i j; cofactor = s_row K s (leads_of basis) (cofactors_of basis) i j; steps = [] }

  pub s_rows_exact : (basis : List (BasisRow (Row K))) (i j : ℕ) → s_rows K exactly basis i j ≡ Ok (start_of basis i j)
  unfolding s_rows
  s_rows_exact basis i j = λ n.
      s_row_exact K s (leads_of basis) (basis_rows basis) i j n >>= λ row.
      s_row_exact K s (leads_of basis) (cofactors_of basis) i j n >>= λ cofactor.
      Ok (record { row = row; cofactor = cofactor; steps = [] })

  -- the state where something is left
  abbrev pub state_with : RunState K → ℕ → ℕ → ReductionState K → Term → RunState K
  state_with st i j w t = record {
    basis = st.basis ++ monic_of w.row w.cofactor t ∷ [];
    listed = entries_with K st (pair.Pair i j (w.steps ++ record { index = length st.basis; monomial = unit; number = coefficient_at K w.row t } ∷ []));
    syzygies = st.syzygies;
    origins = st.origins;
  }

  pub with_row_exact : (st : RunState K) (i j : ℕ) (w : ReductionState K) (t : Term) → with_row K inverses exactly st i j w t ≡ Ok (state_with st i j w t)
  unfolding with_row
  with_row_exact st i j w t = ap (λ (x : Result (BasisRow (Row K)) Cause). x >>= λ b. Ok (record {
    basis = st.basis ++ b ∷ [];
    listed = entries_with K st (pair.Pair i j (w.steps ++ record { index = length st.basis; monomial = unit; number = coefficient_at K w.row t } ∷ []));
    syzygies = st.syzygies;
    origins = st.origins;
  })) (monic_exact w.row w.cofactor t)

  comes_bind : {X Y : Type 0} (r : Result X Cause) (f : X → Result Y Cause) → Comes r → ((x : X) → Comes (f x)) → Comes (r >>= f)
  comes_bind {X} r f h more = let y = more h.0 in (y.0, ap (λ (r : Result X Cause). r >>= f) h.1 ∙ y.1)

  remainder_comes : (st : RunState K) (i j : ℕ) (w : ReductionState K) → Comes (with_remainder K inverses o exactly st i j w)
  unfolding with_remainder
  remainder_comes st i j w = by (row_lead K o w.row)
    where
      by : (x : Option Term) → Comes {X = RunState K} {E = Cause} (elim x [ None ↦ Ok (with_syzygy K o st i j w) | Some t ↦ with_row K inverses exactly st i j w t ])
      by None = (with_syzygy K o st i j w, refl)
      by (Some t) = (state_with st i j w t, with_row_exact st i j w t)

  treat_comes : (st : RunState K) (i j : ℕ) → Comes (treat K inverses o exactly st i j)
  unfolding treat
  treat_comes st i j = comes_bind _ _ (start_of st.basis i j, s_rows_exact st.basis i j) (λ start. comes_bind _ _ (reduce_comes K s o st.basis start) (λ rest. remainder_comes st i j rest))

  follow_comes : (st : RunState K) (c : Choice) → Comes (follow K inverses o exactly st c)
  unfolding follow
  follow_comes st (Treat i j) = treat_comes st i j
  follow_comes st (Skip i j via) = (record st { listed = entries_with K st (pair.Skip i j via) }, refl)

  begin_row_comes : (q i : ℕ) (r : Row K) (st : RunState K) → Comes (begin_row K inverses o exactly q i r st)
  unfolding begin_row
  begin_row_comes q i r st = by (row_lead K o r)
    where
      by : (x : Option Term) → Comes {X = RunState K} {E = Cause} (elim x [ None ↦ Ok (record st { syzygies = st.syzygies ++ unit_row K q i ∷ []; origins = st.origins ++ ZeroRow i ∷ [] }) | Some t ↦ monic_multiple K inverses exactly r (unit_row K q i) t >>= (λ b. Ok (record st { basis = st.basis ++ b ∷ [] })) ])
      by None = (record st { syzygies = st.syzygies ++ unit_row K q i ∷ []; origins = st.origins ++ ZeroRow i ∷ [] }, refl)
      by (Some t) = comes_bind _ _ (monic_of r (unit_row K q i) t, monic_exact r (unit_row K q i) t) (λ b. (record st { basis = st.basis ++ b ∷ [] }, refl))

  begin_rows_comes : (q i : ℕ) (rs : List (Row K)) (st : RunState K) → Comes (begin_rows K inverses o exactly q i rs st)
  unfolding begin_rows
  begin_rows_comes q i [] st = (st, refl)
  begin_rows_comes q i (r ∷ rs) st = comes_bind _ _ (begin_row_comes q i r st) (λ next. begin_rows_comes q (suc i) rs next)

  pub begin_comes : (a : List (Row K)) → Comes (begin K inverses o exactly a)
  unfolding begin
  begin_comes a = begin_rows_comes (length a) 0 a (record { basis = []; listed = []; syzygies = []; origins = [] })

  ok_not_stopped : {x : RunState K} {cause : Cause} → ◌≡◌ {A = Result (RunState K) Refusal} (Ok x) (Err (Stopped cause)) → ⊥
  ok_not_stopped e = cc

  unlawful_not_stopped : {cause : Cause} → ◌≡◌ {A = Result (RunState K) Refusal} (Err Unlawful) (Err (Stopped cause)) → ⊥
  unlawful_not_stopped e = cc

  as_refusal_comes : (r : Result (RunState K) Cause) → Comes r → (cause : Cause) → as_refusal r ≢ Err (Stopped cause)
  unfolding as_refusal
  as_refusal_comes r h cause e = ok_not_stopped (sym (ap (λ (r : Result (RunState K) Cause). as_refusal r) h.1) ∙ e)

  step_unlawful : (st : RunState K) (c : Choice) (cause : Cause) → step K inverses o exactly st c ≢ Err (Stopped cause)
  unfolding step
  step_unlawful st c cause = by (is_lawful (leads_of st.basis) (pairs_of st.listed) c)
    where
      by : (b : Bool) → ◌≢◌ {A = Result (RunState K) Refusal} (cond b (as_refusal (follow K inverses o exactly st c)) (Err Unlawful)) (Err (Stopped cause))
      by true = as_refusal_comes _ (follow_comes st c) cause
      by false = unlawful_not_stopped

  pub run_unlawful : (st : RunState K) (cs : List Choice) (cause : Cause) → run K inverses o exactly st cs ≢ Err (Stopped cause)
  unfolding course.run
  run_unlawful st [] cause = ok_not_stopped
  run_unlawful st (c ∷ cs) cause = by (step K inverses o exactly st c) refl (λ next. run_unlawful next cs cause)
    where
      by : (r : Result (RunState K) Refusal) → step K inverses o exactly st c ≡ r → ((next : RunState K) → run K inverses o exactly next cs ≢ Err (Stopped cause))
          → ◌≢◌ {A = Result (RunState K) Refusal} (elim r [ Ok next ↦ run K inverses o exactly next cs | Err refusal ↦ Err refusal ]) (Err (Stopped cause))
      by (Ok next) h more e = more next e
      by (Err refusal) h more e = step_unlawful st c cause (h ∙ e)
