-- A budget that is enough for a plan: each run of it ends, and limits only stop it.
--     formed_most, certified_most     forming the identities of a certificate
--     run_most, adjoint_most, reduced_most, right_kernel_most     parts of plans
--     ends_most                       what follows reduced rows
--     plan_most                       within limits a plan is what it is without, or stops
--     after_work, after_run, after_kernel     a course is short behind forced work, a run, the search for a right kernel
--     adjoint_long, rest_wide         what is formed on the way has an entry for each column
--     ends_short, links_short         what follows reduced rows is short, and links are
--     plan_short                      each run of a plan has a number that its choices don't reach
--     budget_exists                   so some number is enough for the plan
use Rattle.std.proofs.Common.{◌≡◌, ℕ, zero, suc, ◌<◌, List, [], ◌∷◌, ◌++◌, length, refl, sym, ap, ◌∙◌, subst, inl, inr}
use Rattle.std.proofs.ByRecursion.{All-get_or}
use Rattle.std.specs.declared.option.Option.{Option}
use Rattle.std.specs.declared.option.Option.TheVariants.{None, Some}
use Rattle.std.specs.declared.result.Result.{Result}
use Rattle.std.specs.declared.result.Result.TheVariants.{Ok, Err}
use Rattle.ore_algebra.specs.Limits.{Limits, Cause, program, unlimited, IsAtMost}
use Rattle.ore_algebra.proofs.LimitLaws.{most_bind}
use Rattle.ore_course.specs.Bounded.{AreShort, HasBudget, IsCourseAtMost}
use Rattle.ore_course.specs.Choices.{Runner, treatment_count_in}
use Rattle.ore_course.specs.Course.{Done, ◌>>=◌, forced}
use Rattle.ore_course.specs.Leading.{LeadsTo}
use Rattle.ore_course.proofs.Budget as budgets
use Rattle.ore_course.proofs.Leads.{bind_done, bind_assoc, ran_split}
use Rattle.ore_rational.specs.Field.{rationals, rational_inverses}
use Rattle.ore_monomial.specs.Signature.{Signature}
use Rattle.ore_monomial.specs.Term.{Term}
use Rattle.ore_monomial.proofs.Signatures.{lawful}
use Rattle.ore_rows.specs.Arithmetic.{within}
use Rattle.ore_rows.specs.Reduction.{BasisRow, ReductionState, row_at}
use Rattle.ore_rows.specs.ReduceRows.{Reductions, AllReduce, LeavesRest, negated, reduce_row, reduce_rows_from}
use Rattle.ore_rows.specs.RowLead.{row_lead}
use Rattle.ore_rows.specs.Rows.{Row, AreLong, zero_row, identity_rows}
use Rattle.ore_rows.specs.declared.choices.Choice.{Choice}
use Rattle.ore_rows.proofs.RowLaws as Rows
use Rattle.ore_rows.proofs.SoundArithmetic.{within_sound, within_unlimited}
use Rattle.ore_division.proofs.Reductions.{reduce_most}
use Rattle.ore_pairs.specs.Laws.{HasFewChoicesWithin}
use Rattle.ore_pairs.specs.Run.{RunState, begin}
use Rattle.ore_pairs.specs.Runner.{treats_pair, runner_within}
use Rattle.ore_groebner.specs.RunLaws.{RunsEnd, ExactExtends}
use Rattle.ore_groebner.proofs.Holding.{Holds, wide_syzygies}
use Rattle.ore_groebner.proofs.Limited.{begin_most}
use Rattle.ore_groebner.proofs.ReducedRows.{rest_reduced, rows_reduced}
use Rattle.ore_groebner.proofs.Running.{reached_holds}
use Rattle.ore_cert.specs.CourseReport.{reported_as, course_report}
use Rattle.ore_cert.specs.declared.certificate.Certificate.{Certificate}
use Rattle.ore_cert.specs.declared.report.Cause.TheVariants.{Budget}
use Rattle.ore_cert.specs.declared.report.Plan.{Plan}
use Rattle.ore_cert.specs.declared.report.Plan.TheVariants as plan
use Rattle.ore_cert.specs.declared.report.Report.{Report}
use Rattle.ore_blocks.specs.CheckBlock.{RowMatrix}
use Rattle.ore_blocks.specs.Conditions.{Checked}
use Rattle.ore_blocks.specs.KernelCourse.{RunCourse, RightKernel, syzygies_of, run_on, transposed_adjoint_within, right_kernel}
use Rattle.ore_blocks.specs.WithinLimits.{IsCheckedAtMost}
use Rattle.ore_blocks.proofs.TransposedAdjoints.{adjoint_at_most}
use Rattle.ore_check.specs.Check.{IsNoReport, check}
use Rattle.ore_check.specs.PlanBudgets.{BudgetExists}
use Rattle.ore_check.specs.Plans.{formed_as, stacked, Resolution, next_link, certified, reduced, kernel_left, kernel_right, inverse_left, inverse_right, autonomous, analyse, links, resolution, resolve, ext, course_of}
use Rattle.ore_check.specs.Reports.{program_runner, plan_course, IsHonestReport}
use Rattle.ore_check.proofs.FormedKernels.{done_last, adjoint_within}
use Rattle.ore_check.proofs.KindsAtMost.{check_most}

most_self : {X : Type 0} (r : Result X Cause) → IsAtMost r r
most_self (Ok x) = refl
most_self (Err cause) = tt

formed_most : {X : Type 0} (x : X) (given without : Checked (Unit {0})) → IsCheckedAtMost given without → IsAtMost (formed_as x given) (formed_as x without)
unfolding formed_as
formed_most x given without (inl same) = subst (λ checked. IsAtMost (formed_as x given) (formed_as x checked)) same (most_self (formed_as x given))
formed_most x given without (inr (place, cause, stopped)) = subst (λ checked. IsAtMost (formed_as x checked) (formed_as x without)) (sym stopped) tt

-- ---- within limits

module _ (l : Limits) (s : Signature) where
  certified_most : (r : RowMatrix) (c : Certificate) (claims : IsNoReport c) → IsCourseAtMost (certified l s r c claims) (certified unlimited s r c claims)
  certified_most r c claims = budgets.most_forced (RunState rationals) _ _ (formed_most c (check l s r c claims) (check unlimited s r c claims) (check_most l s r c claims))

  run_most : (a : RowMatrix) → IsCourseAtMost (run_on l s a) (run_on unlimited s a)
  run_most a = budgets.most_run (begin rationals rational_inverses s.order (within l s) a.rows) (begin rationals rational_inverses s.order (within unlimited s) a.rows)
      (subst (λ A. IsAtMost (begin rationals rational_inverses s.order (within l s) a.rows) (begin rationals rational_inverses s.order A a.rows)) (sym (within_unlimited s)) (begin_most rationals rational_inverses s s.order (within l s) (within_sound l s) a.rows))

  adjoint_most : (m : RowMatrix) → IsCourseAtMost {S = RunState rationals} (forced (transposed_adjoint_within l s m)) (forced (transposed_adjoint_within unlimited s m))
  adjoint_most m = budgets.most_forced (RunState rationals) _ _ (adjoint_at_most l s m)

  row_most : (n : ℕ) (basis : List (BasisRow (Row rationals))) (z : Row rationals) → IsAtMost (reduce_row rationals s.order (within l s) n basis z) (reduce_row rationals s.order (within unlimited s) n basis z)
  row_most n basis z =
      subst (λ A. IsAtMost (reduce_row rationals s.order (within l s) n basis z) (reduce_row rationals s.order A n basis z)) (sym (within_unlimited s))
      (reduce_most rationals s s.order (within l s) (within_sound l s) basis (record { row = z; cofactor = zero_row rationals n; steps = [] }))

  rows_most : (n : ℕ) (basis : List (BasisRow (Row rationals))) (k : ℕ) (before rows : List (Row rationals))
      → IsAtMost (reduce_rows_from rationals s.order (within l s) n basis k before rows) (reduce_rows_from rationals s.order (within unlimited s) n basis k before rows)
  unfolding reduce_rows_from
  rows_most n basis k before [] = refl
  rows_most n basis k before (z ∷ rows) =
      most_bind _ _ _ _ (row_most n basis z) (λ w. by w (row_lead rationals s.order w.row) (rows_most n basis (suc k) (before ++ negated rationals w.cofactor ∷ []) rows))
    where
      by : (w : ReductionState rationals) (t : Option Term)
          → IsAtMost (reduce_rows_from rationals s.order (within l s) n basis (suc k) (before ++ negated rationals w.cofactor ∷ []) rows) (reduce_rows_from rationals s.order (within unlimited s) n basis (suc k) (before ++ negated rationals w.cofactor ∷ []) rows)
          → IsAtMost (elim t [ None ↦ reduce_rows_from rationals s.order (within l s) n basis (suc k) (before ++ negated rationals w.cofactor ∷ []) rows | Some u ↦ Ok (LeavesRest k w) ])
          (elim t [ None ↦ reduce_rows_from rationals s.order (within unlimited s) n basis (suc k) (before ++ negated rationals w.cofactor ∷ []) rows | Some u ↦ Ok (LeavesRest k w) ])
      by w None later = later
      by w (Some u) later = refl

  reduced_most : (a : RowMatrix) (st : RunState rationals) (rows : List (Row rationals)) → IsCourseAtMost {S = RunState rationals} (forced (reduced l s a st rows)) (forced (reduced unlimited s a st rows))
  reduced_most a st rows = budgets.most_forced (RunState rationals) _ _ (rows_most (length a.rows) st.basis 0 [] rows)

  right_kernel_most : (r : RowMatrix) → IsCourseAtMost (right_kernel l s r) (right_kernel unlimited s r)
  unfolding right_kernel IsCourseAtMost
  right_kernel_most r =
      budgets.IsCourseAtMost-bind _ _ _ _ (adjoint_most r) (λ adjoint.
      budgets.IsCourseAtMost-bind _ _ _ _ (run_most adjoint) (λ last.
      budgets.IsCourseAtMost-bind _ _ _ _ (adjoint_most (syzygies_of adjoint last)) (λ generators. refl)))

  -- the rows were reduced, or a rest was left
  ends_most : (f g : List (Row rationals) → RunCourse Certificate) (h k : ℕ → ReductionState rationals → RunCourse Certificate)
      → ((all : List (Row rationals)) → IsCourseAtMost (f all) (g all)) → ((n : ℕ) (w : ReductionState rationals) → IsCourseAtMost (h n w) (k n w)) → (found : Reductions rationals)
      → IsCourseAtMost (elim found [ AllReduce all ↦ f all | LeavesRest n w ↦ h n w ]) (elim found [ AllReduce all ↦ g all | LeavesRest n w ↦ k n w ])
  ends_most f g h k reduces leaves (AllReduce all) = reduces all
  ends_most f g h k reduces leaves (LeavesRest n w) = leaves n w

  links_most : (n : ℕ) (so_far : Resolution) → IsCourseAtMost (links l s n so_far) (links unlimited s n so_far)
  unfolding links IsCourseAtMost
  links_most zero so_far = refl
  links_most (suc n) so_far = budgets.IsCourseAtMost-bind _ _ _ _ (run_most so_far.last) (λ a. links_most n (next_link s so_far a))

  -- ---- the plans

  inverse_left_most : (r : RowMatrix) → IsCourseAtMost (inverse_left l s r) (inverse_left unlimited s r)
  unfolding inverse_left
  inverse_left_most r =
      budgets.IsCourseAtMost-bind _ _ _ _ (run_most r) (λ a.
      budgets.IsCourseAtMost-bind _ _ _ _ (reduced_most r a (identity_rows rationals r.cols)) (
      ends_most _ _ _ _ (λ all. certified_most r _ tt) (λ k w. certified_most r _ tt)))

  inverse_right_most : (r : RowMatrix) → IsCourseAtMost (inverse_right l s r) (inverse_right unlimited s r)
  unfolding inverse_right
  inverse_right_most r =
      budgets.IsCourseAtMost-bind _ _ _ _ (adjoint_most r) (λ adjoint.
      budgets.IsCourseAtMost-bind _ _ _ _ (run_most adjoint) (λ a.
      budgets.IsCourseAtMost-bind _ _ _ _ (reduced_most adjoint a (identity_rows rationals (length r.rows))) (
      ends_most _ _ _ _ (λ all. budgets.IsCourseAtMost-bind _ _ _ _ (adjoint_most (record { cols = r.cols; rows = all })) (λ inverse. certified_most r _ tt)) (λ k w. certified_most r _ tt))))

  autonomous_most : (r : RowMatrix) (a : RunState rationals) (z : Row rationals) → IsCourseAtMost (autonomous l s r a z) (autonomous unlimited s r a z)
  unfolding autonomous
  autonomous_most r a z = budgets.IsCourseAtMost-bind _ _ _ _ (run_most (stacked z r)) (λ d. certified_most r _ tt)

  analyse_most : (r : RowMatrix) → IsCourseAtMost (analyse l s r) (analyse unlimited s r)
  unfolding analyse
  analyse_most r =
      budgets.IsCourseAtMost-bind _ _ _ _ (run_most r) (λ a.
      budgets.IsCourseAtMost-bind _ _ _ _ (right_kernel_most r) (λ k.
      budgets.IsCourseAtMost-bind _ _ _ _ (run_most k.generators) (λ c.
      budgets.IsCourseAtMost-bind _ _ _ _ (reduced_most r a c.syzygies) (
      ends_most _ _ _ _ (λ all. certified_most r _ tt) (λ n w. autonomous_most r a w.row)))))

  ext_most : (k : ℕ) (r : RowMatrix) → IsCourseAtMost (ext l s k r) (ext unlimited s k r)
  unfolding ext
  ext_most k r =
      budgets.IsCourseAtMost-bind _ _ _ _ (links_most k (record { links = []; before = r; last = r })) (λ resolved.
      budgets.IsCourseAtMost-bind _ _ _ _ (adjoint_most resolved.last) (λ last.
      budgets.IsCourseAtMost-bind _ _ _ _ (run_most last) (λ e.
      budgets.IsCourseAtMost-bind _ _ _ _ (adjoint_most resolved.before) (λ before.
      budgets.IsCourseAtMost-bind _ _ _ _ (run_most before) (λ f.
      budgets.IsCourseAtMost-bind _ _ _ _ (reduced_most before f e.syzygies) (
      ends_most _ _ _ _ (λ all. certified_most r _ tt) (λ n w. certified_most r _ tt)))))))

  plan_most : (named : Plan) (r : RowMatrix) → IsCourseAtMost (course_of l s named r) (course_of unlimited s named r)
  unfolding kernel_left kernel_right resolve
  plan_most plan.Analyse r = analyse_most r
  plan_most plan.KernelLeft r = budgets.IsCourseAtMost-bind _ _ _ _ (run_most r) (λ a. certified_most r _ tt)
  plan_most plan.KernelRight r = budgets.IsCourseAtMost-bind _ _ _ _ (right_kernel_most r) (λ k. certified_most r _ tt)
  plan_most plan.InverseLeft r = inverse_left_most r
  plan_most plan.InverseRight r = inverse_right_most r
  plan_most (plan.Resolve k) r = budgets.IsCourseAtMost-bind _ _ _ _ (links_most k (record { links = []; before = r; last = r })) (λ resolved. certified_most r _ tt)
  plan_most (plan.Ext k) r = ext_most k r
  plan_most plan.Adjoint r = adjoint_most r

-- ---- each run ends

module _ (s : Signature) (ends : RunsEnd s) (l : Limits) where
  abbrev runner : Runner (RunState rationals) Choice
  runner = runner_within l s

  after_work : {X Y : Type 0} (r : Result X Cause) (f : X → RunCourse Y) → ((x : X) → r ≡ Ok x → AreShort runner (f x)) → AreShort runner (forced r >>= f)
  unfolding AreShort ◌>>=◌ forced
  after_work (Ok x) f more = more x refl
  after_work (Err cause) f more = tt

  -- a matrix with an entry for each column, and what the last state of a run on it holds
  module _ {X : Type 0} (a : RowMatrix) (f : RunState rationals → RunCourse X) (long : AreLong rationals a.cols a.rows) where
    reached : (runs : List (List Choice)) (last : RunState rationals) → LeadsTo runner (run_on l s a) runs (Done last) → Holds rationals s s.order a.cols a.rows last
    reached runs last led =
        let (first, choices, after, end, begun, joined, by, over, rest) =
        ran_split runner (begin rationals rational_inverses s.order (within l s) a.rows) Done runs last (subst (λ (course : RunCourse (RunState rationals)). LeadsTo runner course runs (Done last)) (sym (bind_done (run_on l s a))) led) in
        subst (Holds rationals s s.order a.cols a.rows) (done_last runner end after last rest)
        (reached_holds rationals rational_inverses s (lawful s) s.order a.cols a.rows long (within l s) (within_sound l s) end (choices, record { start = first; begun = begun; led = by }))

    after_run : ((last : RunState rationals) → Holds rationals s s.order a.cols a.rows last → AreShort runner (f last)) → AreShort runner (run_on l s a >>= f)
    after_run more =
        budgets.short_bind runner (run_on l s a) f
        (budgets.short_run runner (begin rationals rational_inverses s.order (within l s) a.rows) (λ first begun. ends l a.cols a.rows first long begun))
        (λ runs last led. more last (reached runs last led))

  adjoint_long : (m x : RowMatrix) → transposed_adjoint_within l s m ≡ Ok x → AreLong rationals x.cols x.rows
  adjoint_long m x e = subst (λ (x : RowMatrix). AreLong rationals x.cols x.rows) (sym (adjoint_within s l m x e)) (Rows.long_adjoint rationals s m.cols m.rows)

  adjoint_count : (m x : RowMatrix) → transposed_adjoint_within l s m ≡ Ok x → length x.rows ≡ m.cols
  adjoint_count m x e = ap (λ (x : RowMatrix). length x.rows) (adjoint_within s l m x e) ∙ Rows.length-adjoint rationals s m.cols m.rows

  -- the generators have a row for each column of r
  after_kernel : {X : Type 0} (r : RowMatrix) (f : RightKernel → RunCourse X) → ((k : RightKernel) → AreLong rationals k.generators.cols k.generators.rows → length k.generators.rows ≡ r.cols → AreShort runner (f k)) → AreShort runner (right_kernel l s r >>= f)
  unfolding right_kernel ◌>>=◌
  after_kernel r f more =
      subst (AreShort runner) (sym (bind_assoc (forced (transposed_adjoint_within l s r)) on_adjoint f))
      (after_work (transposed_adjoint_within l s r) (λ adjoint. on_adjoint adjoint >>= f) (λ adjoint is_adjoint.
      subst (AreShort runner) (sym (bind_assoc (run_on l s adjoint) (generated adjoint) f))
      (after_run adjoint (λ last. generated adjoint last >>= f) (adjoint_long r adjoint is_adjoint) (λ last holds.
      subst (AreShort runner) (sym (bind_assoc (forced (transposed_adjoint_within l s (syzygies_of adjoint last))) (found adjoint last) f))
      (after_work (transposed_adjoint_within l s (syzygies_of adjoint last)) (λ generators. found adjoint last generators >>= f) (λ generators are_generators.
      more (record { adjoint = adjoint; last = last; generators = generators }) (adjoint_long (syzygies_of adjoint last) generators are_generators)
      (adjoint_count (syzygies_of adjoint last) generators are_generators ∙ adjoint_count r adjoint is_adjoint)))))))
    where
      found : RowMatrix → RunState rationals → RowMatrix → RunCourse RightKernel
      found adjoint last generators = Done (record { adjoint = adjoint; last = last; generators = generators })

      generated : RowMatrix → RunState rationals → RunCourse RightKernel
      generated adjoint last = forced (transposed_adjoint_within l s (syzygies_of adjoint last)) >>= found adjoint last

      on_adjoint : RowMatrix → RunCourse RightKernel
      on_adjoint adjoint = run_on l s adjoint >>= generated adjoint

  ends_short : {X : Type 0} (f : List (Row rationals) → RunCourse X) (h : ℕ → ReductionState rationals → RunCourse X) (found : Reductions rationals)
      → ((all : List (Row rationals)) → AreShort runner (f all)) → ((n : ℕ) (w : ReductionState rationals) → found ≡ LeavesRest n w → AreShort runner (h n w)) → AreShort runner (elim found [ AllReduce all ↦ f all | LeavesRest n w ↦ h n w ])
  ends_short f h (AllReduce all) reduces leaves = reduces all
  ends_short f h (LeavesRest n w) reduces leaves = leaves n w refl

  -- a rest of a row has as many entries as the row
  rest_wide : (a : RowMatrix) (long : AreLong rationals a.cols a.rows) (st : RunState rationals) → Holds rationals s s.order a.cols a.rows st → (rows : List (Row rationals)) → AreLong rationals a.cols rows
      → (n : ℕ) (w : ReductionState rationals) → reduced l s a st rows ≡ Ok (LeavesRest n w) → length w.row ≡ a.cols
  rest_wide a long st holds rows wide n w e =
      let (j, place, less, there, t, lead) = rows_reduced rationals s (lawful s) a.cols a.rows long st holds (within l s) (within_sound l s) 0 [] rows (LeavesRest n w) wide e in
      (rest_reduced rationals s (lawful s) a.cols a.rows long st holds (within l s) (within_sound l s) (row_at rows j) w (All-get_or (λ (z : Row rationals). length z ≡ a.cols) rows j [] less wide) there).0

  links_short : (n : ℕ) (so_far : Resolution) → AreLong rationals so_far.last.cols so_far.last.rows → AreShort runner (links l s n so_far)
  unfolding links AreShort
  links_short zero so_far long = tt
  links_short (suc n) so_far long =
      after_run so_far.last (λ a. links l s n (next_link s so_far a)) long (λ a holds.
      links_short n (next_link s so_far a) (wide_syzygies rationals s s.order so_far.last.cols so_far.last.rows a.syzygies holds.syzygies))

  -- ---- the plans

  module _ (r : RowMatrix) (long : AreLong rationals r.cols r.rows) where
    inverse_left_short : AreShort runner (inverse_left l s r)
    unfolding inverse_left
    inverse_left_short =
        after_run r _ long (λ a holds.
        after_work (reduced l s r a (identity_rows rationals r.cols)) _ (λ units e.
        ends_short _ _ units (λ all. budgets.short_forced runner _) (λ n w is. budgets.short_forced runner _)))

    inverse_right_short : AreShort runner (inverse_right l s r)
    unfolding inverse_right
    inverse_right_short =
        after_work (transposed_adjoint_within l s r) _ (λ adjoint is_adjoint.
        after_run adjoint _ (adjoint_long r adjoint is_adjoint) (λ a holds.
        after_work (reduced l s adjoint a (identity_rows rationals (length r.rows))) _ (λ units e.
        ends_short _ _ units (λ all. after_work (transposed_adjoint_within l s (record { cols = r.cols; rows = all })) _ (λ inverse e. budgets.short_forced runner _)) (λ n w is. budgets.short_forced runner _))))

    autonomous_short : (a : RunState rationals) (z : Row rationals) → length z ≡ r.cols → AreShort runner (autonomous l s r a z)
    unfolding autonomous
    autonomous_short a z wide = after_run (stacked z r) _ (wide, long) (λ d holds. budgets.short_forced runner _)

    analyse_short : AreShort runner (analyse l s r)
    unfolding analyse
    analyse_short =
        after_run r _ long (λ a holds.
        after_kernel r _ (λ k long_generators count.
        after_run k.generators _ long_generators (λ c of_kernel.
        let wide : AreLong rationals r.cols c.syzygies = subst (λ n. AreLong rationals n c.syzygies) count (wide_syzygies rationals s s.order k.generators.cols k.generators.rows c.syzygies of_kernel.syzygies) in
        after_work (reduced l s r a c.syzygies) _ (λ elements e.
        ends_short _ _ elements (λ all. budgets.short_forced runner _) (λ n w is. autonomous_short a w.row (rest_wide r long a holds c.syzygies wide n w (e ∙ ap Ok is)))))))

    ext_short : (k : ℕ) → AreShort runner (ext l s k r)
    unfolding ext
    ext_short k =
        budgets.short_bind runner (resolution l s k r) _ (links_short k (record { links = []; before = r; last = r }) long) (λ runs resolved led.
        after_work (transposed_adjoint_within l s resolved.last) _ (λ last is_last.
        after_run last _ (adjoint_long resolved.last last is_last) (λ e of_last.
        after_work (transposed_adjoint_within l s resolved.before) _ (λ before is_before.
        after_run before _ (adjoint_long resolved.before before is_before) (λ f of_before.
        after_work (reduced l s before f e.syzygies) _ (λ elements is_elements.
        ends_short _ _ elements (λ all. budgets.short_forced runner _) (λ n w is. budgets.short_forced runner _)))))))

    plan_short : (named : Plan) → AreShort runner (course_of l s named r)
    unfolding kernel_left kernel_right resolve
    plan_short plan.Analyse = analyse_short
    plan_short plan.KernelLeft = after_run r _ long (λ a holds. budgets.short_forced runner _)
    plan_short plan.KernelRight = after_kernel r _ (λ k long_generators count. budgets.short_forced runner _)
    plan_short plan.InverseLeft = inverse_left_short
    plan_short plan.InverseRight = inverse_right_short
    plan_short (plan.Resolve k) = budgets.short_bind runner (resolution l s k r) _ (links_short k (record { links = []; before = r; last = r }) long) (λ runs resolved led. budgets.short_forced runner _)
    plan_short (plan.Ext k) = ext_short k
    plan_short plan.Adjoint = budgets.short_forced runner (transposed_adjoint_within l s r)

-- ---- the law

module _ (s : Signature) (extends : ExactExtends s) where
  abbrev ExactBudget : RowMatrix → Plan → Type 0
  ExactBudget r named = HasBudget (runner_within unlimited s) (course_of unlimited s named r)

  fewer_treated : (r : RowMatrix) (report : Report) (named : Plan) → report.plan ≡ named → (budget : ExactBudget r named) → IsHonestReport s r report → treatment_count_in treats_pair report.runs < budget.0
  fewer_treated r report named is = subst (λ named. (budget : ExactBudget r named) → IsHonestReport s r report → treatment_count_in treats_pair report.runs < budget.0) is
      (λ budget honest. budgets.fewer (program_runner s) (runner_within unlimited s) (extends program) (plan_course s report.plan r) (course_of unlimited s report.plan r) (plan_most program s report.plan r) budget (course_report report) honest)

  none_spent : (r : RowMatrix) (report : Report) (named : Plan) → report.plan ≡ named → (budget : ExactBudget r named) → IsHonestReport s r report → (n : ℕ) → report.cause ≡ Budget n → n < budget.0
  none_spent r report named is = subst (λ named. (budget : ExactBudget r named) → IsHonestReport s r report → (n : ℕ) → report.cause ≡ Budget n → n < budget.0) is
      (λ budget honest n cause. budgets.no_budget (program_runner s) (runner_within unlimited s) (extends program) (plan_course s report.plan r) (course_of unlimited s report.plan r) (plan_most program s report.plan r) budget (course_report report) honest n (ap reported_as cause))

  pub budget_exists : RunsEnd s → HasFewChoicesWithin s → BudgetExists s
  budget_exists ends few named r long =
      let budget : ExactBudget r named = budgets.budget_exists (runner_within unlimited s) (few unlimited) (course_of unlimited s named r) (plan_short s ends unlimited r long named) in (
        budget.0,
        record {
          exact = budget.1;
          fewer = λ report is honest. fewer_treated r report named is budget honest;
          unspent = λ report is honest n cause. none_spent r report named is budget honest n cause;
        },
      )
