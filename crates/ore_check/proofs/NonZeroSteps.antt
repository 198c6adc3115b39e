-- No step that a run takes, or that takes a lead away, has the fraction zero.
--     AreNonZeroSteps, IsNonZeroListed, HasNonZero      so it is with steps, a listed entry, and a state
--     subtracted, once, in_turn, reduced_nonzero        steps of a lead reduction
--     rest_nonzero                 the rest of rows that are reduced
--     started, remainder, treated, followed, stepped      treating a pair, and a choice
--     begun                        the state before the first choice
--     AnswersOnly                        whatever good states the runs of a course come to, its answer is good
--     run_kept, led                choices and courses
--     gives_bind, gives_forced, gives_run      parts of courses
--     listed_nonzero               the entries of a block
--     plans_form_nonzero           the law
use Rattle.std.proofs.Common.{◌≡◌, ◌≢◌, ℕ, zero, suc, List, [], ◌∷◌, ◌++◌, length, map, refl, sym, ap, ◌∙◌, subst}
use Rattle.std.specs.List.{AllByRecursion}
use Rattle.std.specs.declared.option.Option.{Option}
use Rattle.std.specs.declared.option.Option.TheVariants.{None, Some}
use Rattle.std.specs.declared.result.Result.{Result}
use Rattle.std.specs.declared.result.Result.TheVariants.{Ok, Err}
use Rattle.std.proofs.ByRecursion.{All-push}
use Rattle.ore_algebra.specs.Domain.{Domain, HasInverses}
use Rattle.ore_algebra.specs.Limits.{Cause, program}
use Rattle.ore_algebra.specs.Results.{◌>>=◌}
use Rattle.ore_algebra.proofs.ResultLaws.{no_ok, same_ok, bound}
use Rattle.ore_course.specs.Choices.{Refusal, Runner}
use Rattle.ore_course.specs.Course.{Course, Done, Stops, Runs}
use Rattle.ore_course.specs.Course as course
use Rattle.ore_course.specs.Leading.{LeadsTo, IsFormedBy, run}
use Rattle.ore_rational.specs.Field.{rationals, rational_inverses}
use Rattle.ore_monomial.specs.Monomial.{unit}
use Rattle.ore_monomial.specs.Signature.{Signature}
use Rattle.ore_monomial.specs.Term.{Term}
use Rattle.ore_monomial.specs.declared.order.Order.{Order}
use Rattle.ore_rows.specs.Rows.{Row, zero_row, unit_row, identity_rows}
use Rattle.ore_rows.specs.RowLead.{coefficient_at, row_lead}
use Rattle.ore_rows.specs.Arithmetic.{Arithmetic, within}
use Rattle.ore_rows.specs.Reduction.{BasisRow, Step, ReductionState, basis_rows, cofactors_of, row_at, leads_of, step_operator, next_step, less_multiple, subtract, reduce_once, reduce_in, reduce, room}
use Rattle.ore_rows.specs.ReduceRows.{Reductions, AllReduce, LeavesRest, negated, reduce_rows_from}
use Rattle.ore_rows.specs.declared.choices.Choice.{Choice}
use Rattle.ore_rows.specs.declared.choices.Choice.TheVariants.{Treat, Skip}
use Rattle.ore_rows.specs.declared.choices.Origin.TheVariants.{ZeroRow}
use Rattle.ore_rows.proofs.GreatestTerms.{row_lead-Some}
use Rattle.ore_division.proofs.Steps.{next_step-Some}
use Rattle.ore_pairs.specs.PairList.{DealtPair}
use Rattle.ore_pairs.specs.PairList as listed
use Rattle.ore_pairs.specs.Run.{RunState, entries_with, s_rows, monic_multiple, with_syzygy, with_row, with_remainder, treat, follow, step, begin_row, begin_rows, begin}
use Rattle.ore_pairs.specs.Steps.{lcm_of_leads, s_row_within, common_fits}
use Rattle.ore_blocks.specs.BlockOfRun.{ordered_row, stored_entry, exact_block_of, outside_block_of}
use Rattle.ore_blocks.specs.CheckBlock.{RowMatrix}
use Rattle.ore_blocks.specs.KernelCourse.{RunCourse, RightKernel, kernel_block, syzygies_of, run_on, transposed_adjoint_within, right_kernel}
use Rattle.ore_cert.specs.declared.certificate.Certificate.{Certificate}
use Rattle.ore_parts.specs.EachPart.{ExactMeets, OutsideMeets, LinkMeets}
use Rattle.ore_groebner.proofs.Limited.{step_given}
use Rattle.ore_parts.specs.declared.block.ExactBlock.{ExactBlock}
use Rattle.ore_cert.specs.declared.certificate.Side.TheVariants.{Left, Right}
use Rattle.ore_cert.specs.declared.certificate.Certificate.TheVariants.{Controllable, LeftInverse, RightInverse, NoLeftInverse, NoRightInverse, Kernel, Resolution as Resolved, ExtZero, ExtNonzero}
use Rattle.ore_blocks.specs.Conditions.{Checked, Trouble, Fails, Stops as Stopped}
use Rattle.ore_check.specs.Check.{check, IsNoReport}
use Rattle.ore_check.specs.Plans.{Resolution, stored, formed_as, first_nonzero, stacked, next_link, autonomous_element, certified, reduced, kernel_left, kernel_right, inverse_left, inverse_right, autonomous, analyse, links, resolution, resolve, ext}
use Rattle.ore_check.specs.NonZeroSteps.{IsNonZeroEntry, nonzero, HasNonZeroSteps, PlansFormNonZeroSteps}
use Rattle.ore_check.specs.Reports.{program_runner}

-- ---- steps of a reduction

module _ (K : Domain) where
  abbrev pub AreNonZeroSteps : List (Step K) → Type 0
  AreNonZeroSteps = AllByRecursion (λ (t : Step K). t.number ≢ K.zero)

  abbrev pub IsNonZeroListed : DealtPair K → Type 0
  IsNonZeroListed (listed.Pair i j steps) = AreNonZeroSteps steps
  IsNonZeroListed (listed.Skip i j via) = Unit {0}

  abbrev pub HasNonZero : RunState K → Type 0
  HasNonZero st = AllByRecursion IsNonZeroListed st.listed

  -- of what is left of a row, where something is
  abbrev pub RestIsNonZero : Reductions K → Type 0
  RestIsNonZero (AllReduce combinations) = Unit {0}
  RestIsNonZero (LeavesRest k w) = AreNonZeroSteps w.steps

module _ (K : Domain) (o : Order) (A : Arithmetic K) (basis : List (BasisRow (Row K))) where
  subtracted : (t : Step K) (w v : ReductionState K) → subtract K A basis t w ≡ Ok v → w.steps ++ t ∷ [] ≡ v.steps
  unfolding subtract
  subtracted t w v e =
      let x = bound (less_multiple K A (step_operator K t) (row_at (basis_rows basis) t.index) w.row) (λ row. less_multiple K A (step_operator K t) (row_at (cofactors_of basis) t.index) w.cofactor >>= λ cofactor. Ok (record { row = row; cofactor = cofactor; steps = w.steps ++ t ∷ [] })) v e in
      let y = bound (less_multiple K A (step_operator K t) (row_at (cofactors_of basis) t.index) w.cofactor) (λ cofactor. Ok (record { row = x.0; cofactor = cofactor; steps = w.steps ++ t ∷ [] })) v x.2 in
      ap (λ (w : ReductionState K). w.steps) (same_ok _ v y.2)

  step_nonzero : (r : Row K) (t : Step K) → next_step K o basis r ≡ Some t → t.number ≢ K.zero
  step_nonzero r t e = let s = next_step-Some K o basis r t e in λ z. (row_lead-Some K o r s.lead s.leads).apart (sym s.number ∙ z)

  once : (w v : ReductionState K) → reduce_once K o A basis w ≡ Ok v → AreNonZeroSteps K w.steps → AreNonZeroSteps K v.steps
  unfolding reduce_once
  once w v e h = by (next_step K o basis w.row) refl e
    where
      by : (x : Option (Step K)) → next_step K o basis w.row ≡ x → ◌≡◌ {A = Result (ReductionState K) Cause} (elim x [ None ↦ Ok w | Some t ↦ subtract K A basis t w ]) (Ok v) → AreNonZeroSteps K v.steps
      by None f e = subst (λ (w : ReductionState K). AreNonZeroSteps K w.steps) (same_ok w v e) h
      by (Some t) f e = subst (AreNonZeroSteps K) (subtracted t w v e) (All-push (λ (t : Step K). t.number ≢ K.zero) w.steps t h (step_nonzero w.row t f))

  in_turn : (k : ℕ) (w v : ReductionState K) → reduce_in K o A k basis w ≡ Ok v → AreNonZeroSteps K w.steps → AreNonZeroSteps K v.steps
  unfolding reduce_in
  in_turn zero w v e h = subst (λ (w : ReductionState K). AreNonZeroSteps K w.steps) (same_ok w v e) h
  in_turn (suc k) w v e h =
      let x = bound (reduce_once K o A basis w) (λ next. reduce_in K o A k basis next) v e in
      in_turn k x.0 v x.2 (once w x.0 x.1 h)

  pub reduced_nonzero : (w v : ReductionState K) → reduce K o A basis w ≡ Ok v → AreNonZeroSteps K w.steps → AreNonZeroSteps K v.steps
  unfolding reduce
  reduced_nonzero w v e h = in_turn (room K o w.row) w v e h

  pub rest_nonzero : (n k : ℕ) (combinations rows : List (Row K)) (x : Reductions K) → reduce_rows_from K o A n basis k combinations rows ≡ Ok x → RestIsNonZero K x
  unfolding reduce_rows_from
  rest_nonzero n k combinations [] x e = subst (RestIsNonZero K) (same_ok (AllReduce combinations) x e) tt
  rest_nonzero n k combinations (r ∷ rs) x e =
      let start : ReductionState K = record { row = r; cofactor = zero_row K n; steps = [] } in
      let after : ReductionState K → Result (Reductions K) Cause = λ w. elim (row_lead K o w.row) [ None ↦ reduce_rows_from K o A n basis (suc k) (combinations ++ negated K w.cofactor ∷ []) rs | Some t ↦ Ok (LeavesRest k w) ] in
      let y = bound (reduce K o A basis start) after x e in
      by y.0 (reduced_nonzero start y.0 y.1 tt) (row_lead K o y.0.row) y.2 (λ f. rest_nonzero n (suc k) (combinations ++ negated K y.0.cofactor ∷ []) rs x f)
    where
      by : (w : ReductionState K) → AreNonZeroSteps K w.steps → (t : Option Term) → ◌≡◌ {A = Result (Reductions K) Cause} (elim t [ None ↦ reduce_rows_from K o A n basis (suc k) (combinations ++ negated K w.cofactor ∷ []) rs | Some t ↦ Ok (LeavesRest k w) ]) (Ok x)
          → (reduce_rows_from K o A n basis (suc k) (combinations ++ negated K w.cofactor ∷ []) rs ≡ Ok x → RestIsNonZero K x) → RestIsNonZero K x
      by w h None e more = more e
      by w h (Some t) e more = subst (RestIsNonZero K) (same_ok (LeavesRest k w) x e) h

-- ---- choices

module _ (K : Domain) (inverses : HasInverses K) (o : Order) (A : Arithmetic K) where
  started : (basis : List (BasisRow (Row K))) (i j : ℕ) (w : ReductionState K) → s_rows K A basis i j ≡ Ok w → [] ≡ w.steps
  unfolding s_rows
  started basis i j w e =
      let x = bound (common_fits K A (lcm_of_leads (leads_of basis) i j)) (λ _. s_row_within K A (leads_of basis) (basis_rows basis) i j >>= λ row. s_row_within K A (leads_of basis) (cofactors_of basis) i j >>= λ cofactor. Ok (record { row = row; cofactor = cofactor; steps = [] })) w e in
      let y = bound (s_row_within K A (leads_of basis) (basis_rows basis) i j) (λ row. s_row_within K A (leads_of basis) (cofactors_of basis) i j >>= λ cofactor. Ok (record { row = row; cofactor = cofactor; steps = [] })) w x.2 in
      let z = bound (s_row_within K A (leads_of basis) (cofactors_of basis) i j) (λ cofactor. Ok (record { row = y.0; cofactor = cofactor; steps = [] })) w y.2 in
      ap (λ (w : ReductionState K). w.steps) (same_ok (record { row = y.0; cofactor = z.0; steps = [] }) w z.2)

  listed_more : (st : RunState K) (e : DealtPair K) → HasNonZero K st → IsNonZeroListed K e → AllByRecursion (IsNonZeroListed K) (entries_with K st e)
  listed_more st e h g = All-push (IsNonZeroListed K) st.listed e h g

  abbrev row_step : RunState K → ReductionState K → Term → Step K
  row_step st w t = record { index = length st.basis; monomial = unit; number = coefficient_at K w.row t }

  abbrev state_of : RunState K → ℕ → ℕ → ReductionState K → Term → BasisRow (Row K) → RunState K
  state_of st i j w t b = record { basis = st.basis ++ b ∷ []; listed = entries_with K st (listed.Pair i j (w.steps ++ row_step st w t ∷ [])); syzygies = st.syzygies; origins = st.origins }

  remainder : (st next : RunState K) (i j : ℕ) (w : ReductionState K) → HasNonZero K st → AreNonZeroSteps K w.steps → with_remainder K inverses o A st i j w ≡ Ok next → HasNonZero K next
  unfolding with_remainder with_row with_syzygy
  remainder st next i j w h steps e = by (row_lead K o w.row) refl e
    where
      by : (t : Option Term) → row_lead K o w.row ≡ t → ◌≡◌ {A = Result (RunState K) Cause} (elim t [ None ↦ Ok (with_syzygy K o st i j w) | Some t ↦ with_row K inverses A st i j w t ]) (Ok next) → HasNonZero K next
      by None f e = subst (HasNonZero K) (same_ok (with_syzygy K o st i j w) next e) (listed_more st (listed.Pair i j w.steps) h steps)
      by (Some t) f e =
          let x = bound (monic_multiple K inverses A w.row w.cofactor t) (λ b. Ok (state_of st i j w t b)) next e in
          subst (HasNonZero K) (same_ok (state_of st i j w t x.0) next x.2)
          (listed_more st (listed.Pair i j (w.steps ++ row_step st w t ∷ [])) h (All-push (λ (t : Step K). t.number ≢ K.zero) w.steps (row_step st w t) steps (row_lead-Some K o w.row t f).apart))

  treated : (st next : RunState K) (i j : ℕ) → HasNonZero K st → treat K inverses o A st i j ≡ Ok next → HasNonZero K next
  unfolding treat
  treated st next i j h e =
      let x = bound (s_rows K A st.basis i j) (λ start. reduce K o A st.basis start >>= λ rest. with_remainder K inverses o A st i j rest) next e in
      let y = bound (reduce K o A st.basis x.0) (λ rest. with_remainder K inverses o A st i j rest) next x.2 in
      remainder st next i j y.0 h (reduced_nonzero K o A st.basis x.0 y.0 y.1 (subst (AreNonZeroSteps K) (started st.basis i j x.0 x.1) tt)) y.2

  followed : (st next : RunState K) (c : Choice) → HasNonZero K st → follow K inverses o A st c ≡ Ok next → HasNonZero K next
  unfolding follow
  followed st next (Treat i j) h e = treated st next i j h e
  followed st next (Skip i j via) h e = subst (HasNonZero K) (same_ok (record st { listed = entries_with K st (listed.Skip i j via) }) next e) (listed_more st (listed.Skip i j via) h tt)

  pub stepped : (st next : RunState K) (c : Choice) → HasNonZero K st → step K inverses o A st c ≡ Ok next → HasNonZero K next
  stepped st next c h e = followed st next c h (step_given K inverses o A st next c e).1

  -- ---- the first basis

  begun_row : (q i : ℕ) (r : Row K) (st next : RunState K) → begin_row K inverses o A q i r st ≡ Ok next → HasNonZero K st → HasNonZero K next
  unfolding begin_row
  begun_row q i r st next e h = by (row_lead K o r) e
    where
      by : (t : Option Term) → ◌≡◌ {A = Result (RunState K) Cause} (elim t [
        | None ↦ Ok (record st { syzygies = st.syzygies ++ unit_row K q i ∷ []; origins = st.origins ++ ZeroRow i ∷ [] })
        | Some t ↦ monic_multiple K inverses A r (unit_row K q i) t >>= (λ b. Ok (record st { basis = st.basis ++ b ∷ [] }))
      ]) (Ok next) → HasNonZero K next
      by None e = subst (HasNonZero K) (same_ok (record st { syzygies = st.syzygies ++ unit_row K q i ∷ []; origins = st.origins ++ ZeroRow i ∷ [] }) next e) h
      by (Some t) e =
          let x = bound (monic_multiple K inverses A r (unit_row K q i) t) (λ b. Ok (record st { basis = st.basis ++ b ∷ [] })) next e in
          subst (HasNonZero K) (same_ok (record st { basis = st.basis ++ x.0 ∷ [] }) next x.2) h

  begun_rows : (q i : ℕ) (rows : List (Row K)) (st next : RunState K) → begin_rows K inverses o A q i rows st ≡ Ok next → HasNonZero K st → HasNonZero K next
  unfolding begin_rows
  begun_rows q i [] st next e h = subst (HasNonZero K) (same_ok st next e) h
  begun_rows q i (r ∷ rows) st next e h =
      let x = bound (begin_row K inverses o A q i r st) (λ next. begin_rows K inverses o A q (suc i) rows next) next e in
      begun_rows q (suc i) rows x.0 next x.2 (begun_row q i r st x.0 x.1 h)

  pub begun : (a : List (Row K)) (first : RunState K) → begin K inverses o A a ≡ Ok first → HasNonZero K first
  unfolding begin
  begun a first e = begun_rows (length a) 0 a (record { basis = []; listed = []; syzygies = []; origins = [] }) first e tt

-- ---- courses

module _ {S C : Type 0} (R : Runner S C) (P : S → Type 0) (kept : (st next : S) (c : C) → P st → R.step st c ≡ Ok next → P next) where
  run_kept : (st last : S) (cs : List C) → P st → run R st cs ≡ Ok last → P last
  unfolding run
  run_kept st last [] h e = subst P (same_ok st last e) h
  run_kept st last (c ∷ cs) h e = by (R.step st c) refl (λ next g. run_kept next last cs g) e
    where
      by : (r : Result S Refusal) → R.step st c ≡ r → ((next : S) → P next → run R next cs ≡ Ok last → P last) → ◌≡◌ {A = Result S Refusal} (elim r [ Ok next ↦ run R next cs | Err refusal ↦ Err refusal ]) (Ok last) → P last
      by (Ok next) f more e = more next (kept st next c h f) e
      by (Err refusal) f more e = absurd (no_ok e)

module _ {S : Type 0} (P : S → Type 0) where
  -- whatever good states the runs of a course come to, its answer is good
  abbrev pub AnswersOnly : {X : Type 0} → (X → Type 0) → Course S X → Type 0
  AnswersOnly Q (Done x) = Q x
  AnswersOnly Q (Stops c) = Unit {0}
  AnswersOnly Q (Runs first next) = P first × ((last : S) → P last → AnswersOnly Q (next last))

  gives_bind : {X Y : Type 0} (Q : X → Type 0) (G : Y → Type 0) (part : Course S X) (f : X → Course S Y) → AnswersOnly Q part → ((x : X) → Q x → AnswersOnly G (f x)) → AnswersOnly G (course.◌>>=◌ part f)
  unfolding course.◌>>=◌
  gives_bind Q G (Done x) f h more = more x h
  gives_bind Q G (Stops c) f h more = tt
  gives_bind Q G (Runs first next) f h more = (h.0, λ last g. gives_bind Q G (next last) f (h.1 last g) more)

  gives_forced : {X : Type 0} (Q : X → Type 0) (r : Result X Cause) → ((x : X) → r ≡ Ok x → Q x) → AnswersOnly Q (course.forced r)
  unfolding course.forced
  gives_forced Q (Ok x) h = h x refl
  gives_forced Q (Err c) h = tt

  gives_run : (starts : Result S Cause) → ((first : S) → starts ≡ Ok first → P first) → AnswersOnly P (course.run_from starts)
  unfolding course.run_from course.forced course.◌>>=◌
  gives_run (Ok first) h = (h first refl, λ last g. g)
  gives_run (Err c) h = tt

  no_answer : {X : Type 0} {c : Cause} {x : X} → ◌≡◌ {A = Course S X} (Stops c) (Done x) → ⊥
  no_answer e = cc

  no_run : {X : Type 0} {first : S} {next : S → Course S X} {x : X} → ◌≡◌ {A = Course S X} (Runs first next) (Done x) → ⊥
  no_run e = cc

  same_answer : {X : Type 0} (x y : X) → ◌≡◌ {A = Course S X} (Done x) (Done y) → x ≡ y
  same_answer x y e = cc

  led : {C X : Type 0} (R : Runner S C) → ((st next : S) (c : C) → P st → R.step st c ≡ Ok next → P next) → (Q : X → Type 0) (whole : Course S X) (runs : List (List C)) (x : X) → AnswersOnly Q whole → LeadsTo R whole runs (Done x) → Q x
  unfolding LeadsTo
  led R kept Q (Done y) [] x h e = subst Q (same_answer y x e) h
  led R kept Q (Done y) (cs ∷ runs) x h e = absurd e
  led R kept Q (Stops c) [] x h e = absurd (no_answer e)
  led R kept Q (Stops c) (cs ∷ runs) x h e = absurd e
  led R kept Q (Runs first next) [] x h e = absurd (no_run e)
  led R kept Q (Runs first next) (cs ∷ runs) x h (last, reached, complete, more) = led R kept Q (next last) runs x (h.1 last (run_kept R P kept first last cs h.0 reached)) more

-- ---- plans

listed_nonzero : (es : List (DealtPair rationals)) → AllByRecursion (IsNonZeroListed rationals) es → AllByRecursion IsNonZeroEntry (map stored_entry es)
listed_nonzero [] h = tt
listed_nonzero (listed.Pair i j steps ∷ es) h = (h.0, listed_nonzero es h.1)
listed_nonzero (listed.Skip i j via ∷ es) h = (tt, listed_nonzero es h.1)

formed_same : {X : Type 0} (x y : X) (checked : Checked (Unit {0})) → formed_as x checked ≡ Ok y → x ≡ y
unfolding formed_as
formed_same x y (Ok u) e = same_ok x y e
formed_same x y (Err failing) e = by failing.trouble e
  where
    by : (t : Trouble) → ◌≡◌ {A = Result _ Cause} (elim t [ Fails why ↦ Ok x | Stopped cause ↦ Err cause ]) (Ok y) → x ≡ y
    by (Fails why) e = same_ok x y e
    by (Stopped cause) e = absurd (no_ok e)

module _ (s : Signature) where
  abbrev Good : RunState rationals → Type 0
  Good = HasNonZero rationals

  abbrev Comes : {X : Type 0} → (X → Type 0) → RunCourse X → Type 0
  Comes = AnswersOnly Good

  ran : (a : RowMatrix) → Comes Good (run_on program s a)
  ran a = gives_run Good (begin rationals rational_inverses s.order (within program s) a.rows) (begun rationals rational_inverses s.order (within program s) a.rows)

  -- forced work of whose value nothing is asked
  worked : {X : Type 0} (r : Result X Cause) → Comes (λ _. Unit {0}) (course.forced r)
  worked r = gives_forced Good (λ _. Unit {0}) r (λ x e. tt)

  reduces : (a : RowMatrix) (st : RunState rationals) (rows : List (Row rationals)) → Comes (RestIsNonZero rationals) (course.forced (reduced program s a st rows))
  reduces a st rows = gives_forced Good (RestIsNonZero rationals) (reduced program s a st rows) (rest_nonzero rationals s.order (within program s) st.basis (length a.rows) 0 [] rows)

  certifies : (r : RowMatrix) (c : Certificate) (claims : IsNoReport c) → HasNonZeroSteps c → Comes HasNonZeroSteps (certified program s r c claims)
  certifies r c claims h = gives_forced Good HasNonZeroSteps (formed_as c (check program s r c claims)) (λ d e. subst HasNonZeroSteps (formed_same c d (check program s r c claims) e) h)

  exact : (a : RowMatrix) (st : RunState rationals) (inside : RowMatrix) → Good st → ExactMeets nonzero (exact_block_of s a st inside)
  exact a st inside h = record { basis = tt; from = tt; to = tt; pairs = listed_nonzero st.listed h; inside = tt }

  outside : (a : RowMatrix) (st : RunState rationals) (steps : List (Step rationals)) (rest : Row rationals) → Good st → AreNonZeroSteps rationals steps → OutsideMeets nonzero (outside_block_of s a st steps rest)
  outside a st steps rest h g = record { basis = tt; from = tt; pairs = listed_nonzero st.listed h; quotients = g; rest = tt }

  abbrev identity_of : RunState rationals → RowMatrix
  identity_of st = record { cols = length st.syzygies; rows = identity_rows rationals (length st.syzygies) }

  kernel_left_gives : (r : RowMatrix) → Comes HasNonZeroSteps (kernel_left program s r)
  unfolding kernel_left
  kernel_left_gives r = gives_bind Good Good HasNonZeroSteps (run_on program s r) (λ a. certified program s r (Kernel Left (stored s (syzygies_of r a)) (kernel_block s r a)) tt) (ran r)
      (λ a h. certifies r (Kernel Left (stored s (syzygies_of r a)) (kernel_block s r a)) tt (exact r a (identity_of a) h))

  abbrev LastIsGood : RightKernel → Type 0
  LastIsGood k = Good k.last

  right_gives : (r : RowMatrix) → Comes LastIsGood (right_kernel program s r)
  unfolding right_kernel course.◌>>=◌
  right_gives r = gives_bind Good (λ _. Unit {0}) LastIsGood (course.forced (transposed_adjoint_within program s r)) (λ adjoint. course.◌>>=◌ (run_on program s adjoint) (λ last. generated adjoint last)) (worked (transposed_adjoint_within program s r))
      (λ adjoint u. gives_bind Good Good LastIsGood (run_on program s adjoint) (generated adjoint) (ran adjoint)
      (λ last h. gives_bind Good (λ _. Unit {0}) LastIsGood (course.forced (transposed_adjoint_within program s (syzygies_of adjoint last))) (answered adjoint last) (worked (transposed_adjoint_within program s (syzygies_of adjoint last))) (λ generators v. h)))
    where
      answered : RowMatrix → RunState rationals → RowMatrix → RunCourse RightKernel
      answered adjoint last generators = Done (record { adjoint = adjoint; last = last; generators = generators })

      generated : RowMatrix → RunState rationals → RunCourse RightKernel
      generated adjoint last = course.◌>>=◌ (course.forced (transposed_adjoint_within program s (syzygies_of adjoint last))) (answered adjoint last)

  kernel_right_gives : (r : RowMatrix) → Comes HasNonZeroSteps (kernel_right program s r)
  unfolding kernel_right
  kernel_right_gives r = gives_bind Good LastIsGood HasNonZeroSteps (right_kernel program s r) (λ k. certified program s r (Kernel Right (stored s k.generators) (kernel_block s k.adjoint k.last)) tt) (right_gives r)
      (λ k h. certifies r (Kernel Right (stored s k.generators) (kernel_block s k.adjoint k.last)) tt (exact k.adjoint k.last (identity_of k.last) h))

  -- ---- inverses

  inverse_left_gives : (r : RowMatrix) → Comes HasNonZeroSteps (inverse_left program s r)
  unfolding inverse_left
  inverse_left_gives r = gives_bind Good Good HasNonZeroSteps (run_on program s r) (λ a. course.◌>>=◌ (course.forced (reduced program s r a units)) (ending a)) (ran r)
      (λ a h. gives_bind Good (RestIsNonZero rationals) HasNonZeroSteps (course.forced (reduced program s r a units)) (ending a) (reduces r a units) (by a h))
    where
      units : List (Row rationals)
      units = identity_rows rationals r.cols

      ending : RunState rationals → Reductions rationals → RunCourse Certificate
      ending a x = elim x [
        | AllReduce combinations ↦ certified program s r (LeftInverse (stored s (record { cols = length r.rows; rows = combinations }))) tt
        | LeavesRest k w ↦ certified program s r (NoLeftInverse k (outside_block_of s r a w.steps w.row)) tt
      ]

      by : (a : RunState rationals) → Good a → (x : Reductions rationals) → RestIsNonZero rationals x → Comes HasNonZeroSteps (ending a x)
      by a h (AllReduce combinations) g = certifies r (LeftInverse (stored s (record { cols = length r.rows; rows = combinations }))) tt tt
      by a h (LeavesRest k w) g = certifies r (NoLeftInverse k (outside_block_of s r a w.steps w.row)) tt (outside r a w.steps w.row h g)

  inverse_right_gives : (r : RowMatrix) → Comes HasNonZeroSteps (inverse_right program s r)
  unfolding inverse_right
  inverse_right_gives r = gives_bind Good (λ _. Unit {0}) HasNonZeroSteps (course.forced (transposed_adjoint_within program s r)) (λ adjoint. course.◌>>=◌ (run_on program s adjoint) (reducing adjoint)) (worked (transposed_adjoint_within program s r))
      (λ adjoint u. gives_bind Good Good HasNonZeroSteps (run_on program s adjoint) (reducing adjoint) (ran adjoint)
      (λ a h. gives_bind Good (RestIsNonZero rationals) HasNonZeroSteps (course.forced (reduced program s adjoint a units)) (ending adjoint a) (reduces adjoint a units) (by adjoint a h)))
    where
      units : List (Row rationals)
      units = identity_rows rationals (length r.rows)

      turned : List (Row rationals) → Result RowMatrix Cause
      turned combinations = transposed_adjoint_within program s (record { cols = r.cols; rows = combinations })

      inverse_of : RowMatrix → RunCourse Certificate
      inverse_of inverse = certified program s r (RightInverse (stored s inverse)) tt

      ending : RowMatrix → RunState rationals → Reductions rationals → RunCourse Certificate
      ending adjoint a x = elim x [
        | AllReduce combinations ↦ course.◌>>=◌ (course.forced (turned combinations)) inverse_of
        | LeavesRest k w ↦ certified program s r (NoRightInverse k (outside_block_of s adjoint a w.steps w.row)) tt
      ]

      reducing : RowMatrix → RunState rationals → RunCourse Certificate
      reducing adjoint a = course.◌>>=◌ (course.forced (reduced program s adjoint a units)) (ending adjoint a)

      by : (adjoint : RowMatrix) (a : RunState rationals) → Good a → (x : Reductions rationals) → RestIsNonZero rationals x → Comes HasNonZeroSteps (ending adjoint a x)
      by adjoint a h (AllReduce combinations) g = gives_bind Good (λ _. Unit {0}) HasNonZeroSteps (course.forced (turned combinations)) inverse_of (worked (turned combinations)) (λ inverse u. certifies r (RightInverse (stored s inverse)) tt tt)
      by adjoint a h (LeavesRest k w) g = certifies r (NoRightInverse k (outside_block_of s adjoint a w.steps w.row)) tt (outside adjoint a w.steps w.row h g)

  -- ---- the two verdicts

  autonomous_gives : (r : RowMatrix) (a : RunState rationals) (z : Row rationals) → Good a → Comes HasNonZeroSteps (autonomous program s r a z)
  unfolding autonomous
  autonomous_gives r a z h = gives_bind Good Good HasNonZeroSteps (run_on program s (stacked z r)) ending (ran (stacked z r))
      (λ d g. certifies r (found d) tt (outside r a [] z h tt))
    where
      found : RunState rationals → Certificate
      found d = autonomous_element s r a z (first_nonzero (length r.rows) d.syzygies)

      ending : RunState rationals → RunCourse Certificate
      ending d = certified program s r (found d) tt

  analyse_gives : (r : RowMatrix) → Comes HasNonZeroSteps (analyse program s r)
  unfolding analyse
  analyse_gives r = gives_bind Good Good HasNonZeroSteps (run_on program s r) (λ a. course.◌>>=◌ (right_kernel program s r) (behind a)) (ran r)
      (λ a h. gives_bind Good LastIsGood HasNonZeroSteps (right_kernel program s r) (behind a) (right_gives r)
      (λ k hk. gives_bind Good Good HasNonZeroSteps (run_on program s k.generators) (reducing a k) (ran k.generators)
      (λ c g. gives_bind Good (RestIsNonZero rationals) HasNonZeroSteps (course.forced (reduced program s r a c.syzygies)) (ending a k c) (reduces r a c.syzygies) (by a h k c g))))
    where
      block_of : RightKernel → RunState rationals → List (Row rationals) → Certificate
      block_of k c combinations = Controllable (stored s k.generators) (exact_block_of s k.generators c (record { cols = length r.rows; rows = combinations }))

      ending : RunState rationals → RightKernel → RunState rationals → Reductions rationals → RunCourse Certificate
      ending a k c x = elim x [
        | AllReduce combinations ↦ certified program s r (block_of k c combinations) tt
        | LeavesRest n w ↦ autonomous program s r a w.row
      ]

      reducing : RunState rationals → RightKernel → RunState rationals → RunCourse Certificate
      reducing a k c = course.◌>>=◌ (course.forced (reduced program s r a c.syzygies)) (ending a k c)

      behind : RunState rationals → RightKernel → RunCourse Certificate
      behind a k = course.◌>>=◌ (run_on program s k.generators) (reducing a k)

      by : (a : RunState rationals) → Good a → (k : RightKernel) (c : RunState rationals) → Good c → (x : Reductions rationals) → RestIsNonZero rationals x → Comes HasNonZeroSteps (ending a k c x)
      by a h k c g (AllReduce combinations) rest = certifies r (block_of k c combinations) tt (exact k.generators c (record { cols = length r.rows; rows = combinations }) g)
      by a h k c g (LeavesRest n w) rest = autonomous_gives r a w.row h

  -- ---- resolutions and extension modules

  abbrev LinksAreGood : Resolution → Type 0
  LinksAreGood x = AllByRecursion (LinkMeets nonzero) x.links

  links_give : (k : ℕ) (so_far : Resolution) → LinksAreGood so_far → Comes LinksAreGood (links program s k so_far)
  unfolding links
  links_give zero so_far h = h
  links_give (suc more) so_far h = gives_bind Good Good LinksAreGood (run_on program s so_far.last) (λ a. links program s more (next_link s so_far a)) (ran so_far.last)
      (λ a g. links_give more (next_link s so_far a) (All-push (LinkMeets nonzero) so_far.links (record { l = stored s (syzygies_of so_far.last a); block = kernel_block s so_far.last a }) h (record { l = tt; block = exact so_far.last a (identity_of a) g })))

  resolution_gives : (k : ℕ) (r : RowMatrix) → Comes LinksAreGood (resolution program s k r)
  resolution_gives k r = links_give k (record { links = []; before = r; last = r }) tt

  resolve_gives : (k : ℕ) (r : RowMatrix) → Comes HasNonZeroSteps (resolve program s k r)
  unfolding resolve
  resolve_gives k r = gives_bind Good LinksAreGood HasNonZeroSteps (resolution program s k r) (λ resolved. certified program s r (Resolved resolved.links) tt) (resolution_gives k r)
      (λ resolved h. certifies r (Resolved resolved.links) tt h)

  ext_gives : (k : ℕ) (r : RowMatrix) → Comes HasNonZeroSteps (ext program s k r)
  unfolding ext
  ext_gives k r = gives_bind Good LinksAreGood HasNonZeroSteps (resolution program s k r) first (resolution_gives k r)
      (λ x h. gives_bind Good (λ _. Unit {0}) HasNonZeroSteps (course.forced (transposed_adjoint_within program s x.last)) (second x) (worked (transposed_adjoint_within program s x.last))
      (λ last u. gives_bind Good Good HasNonZeroSteps (run_on program s last) (third x last) (ran last)
      (λ e he. gives_bind Good (λ _. Unit {0}) HasNonZeroSteps (course.forced (transposed_adjoint_within program s x.before)) (fourth x last e) (worked (transposed_adjoint_within program s x.before))
      (λ before v. gives_bind Good Good HasNonZeroSteps (run_on program s before) (fifth x last e before) (ran before)
      (λ f hf. gives_bind Good (RestIsNonZero rationals) HasNonZeroSteps (course.forced (reduced program s before f e.syzygies)) (ending x last e before f) (reduces before f e.syzygies) (by x h last e he before f hf))))))
    where
      exact_of : RowMatrix → RunState rationals → RowMatrix → List (Row rationals) → ExactBlock
      exact_of last e before combinations = exact_block_of s last e (record { cols = length before.rows; rows = combinations })

      ending : Resolution → RowMatrix → RunState rationals → RowMatrix → RunState rationals → Reductions rationals → RunCourse Certificate
      ending x last e before f elements = elim elements [
        | AllReduce combinations ↦ certified program s r (ExtZero x.links (exact_of last e before combinations)) tt
        | LeavesRest n w ↦ certified program s r (ExtNonzero x.links (ordered_row s.order w.row) (outside_block_of s before f [] w.row)) tt
      ]

      fifth : Resolution → RowMatrix → RunState rationals → RowMatrix → RunState rationals → RunCourse Certificate
      fifth x last e before f = course.◌>>=◌ (course.forced (reduced program s before f e.syzygies)) (ending x last e before f)

      fourth : Resolution → RowMatrix → RunState rationals → RowMatrix → RunCourse Certificate
      fourth x last e before = course.◌>>=◌ (run_on program s before) (fifth x last e before)

      third : Resolution → RowMatrix → RunState rationals → RunCourse Certificate
      third x last e = course.◌>>=◌ (course.forced (transposed_adjoint_within program s x.before)) (fourth x last e)

      second : Resolution → RowMatrix → RunCourse Certificate
      second x last = course.◌>>=◌ (run_on program s last) (third x last)

      first : Resolution → RunCourse Certificate
      first x = course.◌>>=◌ (course.forced (transposed_adjoint_within program s x.last)) (second x)

      by : (x : Resolution) → LinksAreGood x → (last : RowMatrix) (e : RunState rationals) → Good e → (before : RowMatrix) (f : RunState rationals) → Good f → (elements : Reductions rationals) → RestIsNonZero rationals elements → Comes HasNonZeroSteps (ending x last e before f elements)
      by x h last e he before f hf (AllReduce combinations) rest = certifies r (ExtZero x.links (exact_of last e before combinations)) tt (h, exact last e (record { cols = length before.rows; rows = combinations }) he)
      by x h last e he before f hf (LeavesRest n w) rest = certifies r (ExtNonzero x.links (ordered_row s.order w.row) (outside_block_of s before f [] w.row)) tt (h, outside before f [] w.row hf tt)

  -- ---- the law

  kept : (st next : RunState rationals) (c : Choice) → Good st → step rationals rational_inverses s.order (within program s) st c ≡ Ok next → Good next
  kept = stepped rationals rational_inverses s.order (within program s)

  formed : {X : Type 0} (Q : X → Type 0) (whole : RunCourse X) → Comes Q whole → (runs : List (List Choice)) (x : X) → IsFormedBy (program_runner s) whole runs x → Q x
  formed Q whole h runs x e = led Good (program_runner s) kept Q whole runs x h e

  pub plans_form_nonzero : PlansFormNonZeroSteps s
  plans_form_nonzero = record {
    kernel_left = λ r. formed HasNonZeroSteps (kernel_left program s r) (kernel_left_gives r);
    kernel_right = λ r. formed HasNonZeroSteps (kernel_right program s r) (kernel_right_gives r);
    inverse_left = λ r. formed HasNonZeroSteps (inverse_left program s r) (inverse_left_gives r);
    inverse_right = λ r. formed HasNonZeroSteps (inverse_right program s r) (inverse_right_gives r);
    analyse = λ r. formed HasNonZeroSteps (analyse program s r) (analyse_gives r);
    resolve = λ k r. formed HasNonZeroSteps (resolve program s k r) (resolve_gives k r);
    ext = λ k r. formed HasNonZeroSteps (ext program s k r) (ext_gives k r);
  }
