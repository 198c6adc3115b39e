-- A plan of a small matrix, by computing; and a report of a stopped plan.
--     no_rows, empty    a matrix of one column and no rows; stored matrices without rows
--     kernel_formed     its left kernel has no generators: plan kernel left forms this certificate, by one run without choices
--     spent_at_once     the report that plan analyse stopped in its second run, by a budget of no pairs
--     spent_is_true     it is true where nothing is to be chosen in the first run, but in the second, as for the row `d, -t`
use Rattle.std.proofs.Common.{◌≡◌, ℕ, true, false, List, [], ◌∷◌, refl, sym, subst}
use Rattle.std.specs.declared.result.Result.{Result}
use Rattle.std.specs.declared.result.Result.TheVariants.{Ok}
use Rattle.ore_algebra.specs.Limits.{Cause, program}
use Rattle.ore_course.specs.Course.{◌>>=◌, forced, run_from}
use Rattle.ore_course.specs.Choices.{treatment_count, treatment_count_in}
use Rattle.ore_course.specs.Leading.{run, LeadsTo, IsIn, IsFormedBy}
use Rattle.ore_course.specs.Report.{IsHonestAt}
use Rattle.ore_course.proofs.Leads.{in_bind}
use Rattle.ore_rational.specs.Field.{rationals, rational_inverses}
use Rattle.ore_monomial.specs.Signature.{Signature}
use Rattle.ore_rows.specs.Arithmetic.{within}
use Rattle.ore_pairs.specs.PairRule.{none_treatable, some_pair}
use Rattle.ore_pairs.specs.Run.{RunState, begin, begin_rows, from_rows}
use Rattle.ore_pairs.specs.PairList.{pair_count, treated_count}
use Rattle.ore_pairs.specs.RunBlocks.{pair_origins}
use Rattle.ore_cert.specs.declared.certificate.Side.TheVariants.{Left}
use Rattle.ore_cert.specs.declared.certificate.Certificate.TheVariants.{Kernel, Halted}
use Rattle.ore_cert.specs.declared.report.Cause.TheVariants.{Budget}
use Rattle.ore_cert.specs.declared.report.Plan.TheVariants.{Analyse}
use Rattle.ore_cert.specs.declared.report.Report.{Report}
use Rattle.ore_cert.specs.declared.report.Stop.TheVariants as stop
use Rattle.ore_rows.specs.Stored.{OperatorMatrix}
use Rattle.ore_rows.specs.declared.choices.Choice.{Choice}
use Rattle.ore_blocks.specs.CheckBlock.{RowMatrix, are_zero, monic_leads, rows_give, check_entries, check_pairs, rows_inside, pairs_inside, check_basis, check_to, check_inside, check_exact}
use Rattle.ore_check.specs.Check.{check}
use Rattle.ore_blocks.specs.KernelCourse.{RunCourse, RightKernel, run_on, transposed_adjoint_within, right_kernel}
use Rattle.ore_pairs.specs.Runner.{is_complete}
use Rattle.ore_check.specs.Meaning.{Means}
use Rattle.ore_check.specs.Plans.{formed_as, kernel_left, analyse}
use Rattle.ore_check.specs.Reports.{program_runner}

abbrev pub no_rows : RowMatrix
no_rows = record { cols = 1; rows = [] }

-- a matrix without rows
abbrev pub empty : ℕ → OperatorMatrix
empty n = record { cols = n; rows = [] }

module _ (s : Signature) where
  pub kernel_formed : IsFormedBy (program_runner s) (kernel_left program s no_rows) ([] ∷ [])
      (Kernel Left (empty 0) (record { basis = empty 1; from = empty 0; to = empty 0; pairs = []; inside = empty 0 }))
  unfolding kernel_left LeadsTo ◌>>=◌ forced run_from run begin begin_rows from_rows none_treatable some_pair pair_origins pair_count treated_count formed_as check check_exact are_zero monic_leads rows_give check_entries check_pairs rows_inside pairs_inside check_basis check_to check_inside
  kernel_formed = (record { basis = []; listed = []; syzygies = []; origins = [] }, refl, refl, refl)

-- halted budget 0, plan analyse, run 0, run 0, stop budget
abbrev pub spent_at_once : Report
spent_at_once = record { cause = Budget 0; plan = Analyse; runs = [] ∷ [] ∷ []; stop = stop.Budget }

module _ (s : Signature) (r adjoint : RowMatrix) (a b : RunState rationals) (begun : begin rationals rational_inverses s.order (within program s) r.rows ≡ Ok a) (over : is_complete rationals a ≡ true)
    (adjoint_is : transposed_adjoint_within program s r ≡ Ok adjoint) (second : begin rationals rational_inverses s.order (within program s) adjoint.rows ≡ Ok b) (left : is_complete rationals b ≡ false) where
  -- a course that begins with forced work, and with a run
  in_forced : {X Y : Type 0} (work : Result X Cause) (x : X) (f : X → RunCourse Y) (runs : List (List Choice)) → work ≡ Ok x → IsIn (program_runner s) (f x) runs b → IsIn (program_runner s) (forced work >>= f) runs b
  unfolding ◌>>=◌ forced
  in_forced {X} work x f runs e h = subst (λ (w : Result X Cause). IsIn (program_runner s) (forced w >>= f) runs b) (sym e) h

  in_next_run : {Y : Type 0} (f : RunState rationals → RunCourse Y) → IsIn (program_runner s) (f a) ([] ∷ []) b → IsIn (program_runner s) (run_on program s r >>= f) ([] ∷ [] ∷ []) b
  unfolding IsIn ◌>>=◌ forced run_from run
  in_next_run f h = subst (λ (w : Result (RunState rationals) Cause). IsIn (program_runner s) (run_from w >>= f) ([] ∷ [] ∷ []) b) (sym begun) (a, refl, over, h)

  in_this_run : {Y : Type 0} (f : RunState rationals → RunCourse Y) → IsIn (program_runner s) (run_on program s adjoint >>= f) ([] ∷ []) b
  unfolding IsIn ◌>>=◌ forced run_from run
  in_this_run f = subst (λ (w : Result (RunState rationals) Cause). IsIn (program_runner s) (run_from w >>= f) ([] ∷ []) b) (sym second) refl

  in_second : {Y : Type 0} (f : RightKernel → RunCourse Y) → IsIn (program_runner s) (right_kernel program s r >>= f) ([] ∷ []) b
  unfolding right_kernel
  in_second f = in_bind (program_runner s) (right_kernel program s r) ([] ∷ []) b f
      (in_forced (transposed_adjoint_within program s r) adjoint _ ([] ∷ []) adjoint_is (in_this_run _))

  pub spent_is_true : Means s r (Halted spent_at_once)
  unfolding IsHonestAt treatment_count_in treatment_count analyse
  spent_is_true = (refl, b, in_next_run _ (in_second _), left)
