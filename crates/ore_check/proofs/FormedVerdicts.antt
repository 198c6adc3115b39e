-- Certificates that plan analyse forms.
--     found_nonzero         the first row with a first entry that isn't zero, where there is one
--     rest_block_valid, rest_block_of     what is left of a row has a block without steps
--     found_syzygy          where what is left is torsion, a syzygy has a first entry that isn't zero
--     autonomous_right      a certificate of an autonomous element is right
--     kernel_exact          the columns of the right kernel generate what the matrix takes to zeros
--     rest_taken            what is left of a syzygy takes them to zeros
--     verdict_ended         a certificate of either verdict is right
--     analyse_right         plan analyse forms verdicts that are right
use Rattle.std.proofs.Common.{◌≡◌, ◌≢◌, ℕ, zero, suc, pred, Bool, true, false, cond, List, [], ◌∷◌, length, refl, sym, ap, ◌∙◌, subst, arith}
use Rattle.std.specs.List.{AllByRecursion}
use Rattle.std.specs.declared.option.Option.TheVariants.{Some}
use Rattle.std.specs.declared.result.Result.TheVariants.{Ok}
use Rattle.std.proofs.ByRecursion.{All-get_or}
use Rattle.std.proofs.lemmas.List.{length-map}
use Rattle.ore_algebra.specs.Free.{empty_sum}
use Rattle.ore_algebra.specs.Limits.{program}
use Rattle.ore_course.specs.Course.{Done, ◌>>=◌, forced}
use Rattle.ore_course.specs.Leading.{LeadsTo}
use Rattle.ore_course.proofs.Leads.{worked_split}
use Rattle.ore_rational.specs.Field.{rationals, rational_inverses}
use Rattle.ore_monomial.specs.LetterRule.{Operator}
use Rattle.ore_monomial.specs.Monomial.{plain_cmp}
use Rattle.ore_monomial.specs.Signature.{Signature}
use Rattle.ore_monomial.specs.Term.{Term}
use Rattle.ore_monomial.proofs.Signatures.{lawful}
use Rattle.ore_rows.specs.Arithmetic.{within}
use Rattle.ore_rows.specs.Reduction.{ReductionState, remainder_after, row_at}
use Rattle.ore_rows.specs.ReduceRows.{Reductions, AllReduce, LeavesRest, negated, reduce_row}
use Rattle.ore_rows.specs.RowLead.{row_lead}
use Rattle.ore_rows.specs.Rows.{Row, RowOf, AreLong, zero_row, row_plus, row_scale, combine, matrix_times, transpose_adjoint, IsExact, IsTorsion}
use Rattle.ore_rows.proofs.RowLaws as Rows
use Rattle.ore_rows.proofs.SoundArithmetic.{within_sound}
use Rattle.ore_rows.specs.declared.choices.Choice.{Choice}
use Rattle.ore_laws.specs.Columns.{HasNonzeroFirst}
use Rattle.ore_laws.proofs.KernelTorsion.{torsion_of_kernel, nonzero_first}
use Rattle.ore_pairs.specs.Blocks.{IsValidExact, IsValidOutside}
use Rattle.ore_pairs.specs.Run.{RunState}
use Rattle.ore_pairs.specs.RunBlocks.{exact_of_run, outside_of_run}
use Rattle.ore_pairs.proofs.Generate.{combination_vanishes}
use Rattle.ore_groebner.proofs.Blocks.{exact_valid}
use Rattle.ore_groebner.proofs.BlocksOf.{of_exact_of_run, of_outside_of_run}
use Rattle.ore_groebner.proofs.Complete.{complete_exact}
use Rattle.ore_groebner.proofs.Holding.{vanishing}
use Rattle.ore_groebner.proofs.ReducedRows.{rest_reduced, opposite_unique, combine-negated, of_negated}
use Rattle.ore_cert.specs.declared.certificate.Certificate.{Certificate}
use Rattle.ore_cert.specs.declared.certificate.Certificate.TheVariants.{Controllable}
use Rattle.ore_parts.specs.OfSignature.{IsOutsideOf}
use Rattle.ore_blocks.specs.BlockOfRun.{ordered_row, exact_block_of, outside_block_of}
use Rattle.ore_blocks.specs.CheckBlock.{RowMatrix}
use Rattle.ore_blocks.specs.Conditions.{is_same}
use Rattle.ore_blocks.specs.KernelCourse.{RunCourse, RightKernel, run_on, right_kernel}
use Rattle.ore_blocks.specs.Same.{operator_discrete}
use Rattle.ore_blocks.specs.Valid.{IsValidExactFor, IsValidOutsideFor}
use Rattle.ore_blocks.proofs.Passed.{same_true, same_false}
use Rattle.ore_blocks.proofs.StoredBlocks.{sums_of-ordered_row, row_stored, matrix_stored, exact_block-valid, exact_block-of, outside_block-valid, outside_block-of}
use Rattle.ore_check.specs.Plans.{stored, stacked, first_nonzero, autonomous_element, certified, reduced, autonomous, analyse}
use Rattle.ore_check.specs.PlanLaws.{IsCorrect, FormsCorrect}
use Rattle.ore_check.specs.Reports.{program_runner}
use Rattle.ore_check.proofs.FormedInverses.{IsReducedOn, rows_are_reduced, AreFound, found_wide, found_of, found_product, left_wide, left_of, left_outside}
use Rattle.ore_check.proofs.FormedResolutions.{stored_back}
use Rattle.ore_check.proofs.FormedKernels.{formed_right, IsEndOf, ran, holds, complete, wide_generators, of_generators, IsFoundRightKernel, searched, adjoint_long, adjoint_of_signature, generators_wide, generators_of_signature, generators_count}
use Rattle.ore_check.proofs.TurnedProducts.{AreTakenToZeros, turned}

-- ---- the first row with a first entry that isn't zero

-- a row with this property, whose first entry isn't zero
abbrev IsFound : (Row rationals → Type 0) → Operator rationals × Row rationals → Type 0
IsFound P found = P (found.0 ∷ found.1) × (found.0 ≢ empty_sum rationals plain_cmp)

found_nonzero : (P : Row rationals → Type 0) (n : ℕ) (rows : List (Row rationals)) → AllByRecursion P rows → HasNonzeroFirst rationals rows → IsFound P (first_nonzero n rows)
unfolding first_nonzero
found_nonzero P n [] h (k, less, apart) = absurd (omega (arith, less))
found_nonzero P n ([] ∷ rows) h (zero, less, apart) = absurd (apart refl)
found_nonzero P n ([] ∷ rows) h (suc k, less, apart) = found_nonzero P n rows h.1 (k, omega (arith, less), apart)
found_nonzero P n ((f ∷ others) ∷ rows) h there = by (is_same operator_discrete f (empty_sum rationals plain_cmp)) refl there (found_nonzero P n rows h.1)
  where
    by : (b : Bool) → is_same operator_discrete f (empty_sum rationals plain_cmp) ≡ b → HasNonzeroFirst rationals ((f ∷ others) ∷ rows) → (HasNonzeroFirst rationals rows → IsFound P (first_nonzero n rows)) → IsFound P (cond b (first_nonzero n rows) (f, others))
    by true g (zero, less, apart) later = absurd (apart (same_true operator_discrete f (empty_sum rationals plain_cmp) g))
    by true g (suc k, less, apart) later = later (k, omega (arith, less), apart)
    by false g there later = (h.0, same_false operator_discrete f (empty_sum rationals plain_cmp) g)

module _ (s : Signature) where
  abbrev verdicts_of : RowMatrix → RunState rationals → RightKernel → RunState rationals → Reductions rationals → RunCourse Certificate
  verdicts_of r a k c elements = elim elements [
    | AllReduce combinations ↦ certified program s r (Controllable (stored s k.generators) (exact_block_of s k.generators c (record { cols = length r.rows; rows = combinations }))) tt
    | LeavesRest n w ↦ autonomous program s r a w.row
  ]

  module _ (r : RowMatrix) (long : AreLong rationals r.cols r.rows) (of_r : AllByRecursion (RowOf rationals s) r.rows) (a : RunState rationals) (end : IsEndOf s r a) where
    -- ---- an element outside

    module _ (y : Row rationals) (wide : length y ≡ r.cols) (of_y : RowOf rationals s y) (w : ReductionState rationals) (e : reduce_row rationals s.order (within program s) (length r.rows) a.basis y ≡ Ok w) (t : Term) (lead : row_lead rationals s.order w.row ≡ Some t) where
      abbrev z : Row rationals
      z = w.row

      pub z_wide : length z ≡ r.cols
      z_wide = left_wide s r long of_r a end y wide of_y w e t lead

      pub z_of : RowOf rationals s z
      z_of = left_of s r long of_r a end y wide of_y w e t lead

      -- no steps are needed for what is left
      rest_outside : IsValidOutside rationals s s.order r.cols r.rows z (outside_of_run rationals s.order r.rows a [] z)
      unfolding remainder_after
      rest_outside =
          let h = left_outside s r long of_r a end y wide of_y w e t lead in
          record { leads = h.leads; is_basis = h.is_basis; steps_within = tt; rest_is = refl; rest_lead = h.rest_lead; rest_number = h.rest_number; leads_rest = h.leads_rest; irreducible = h.irreducible }

      pub rest_block_valid : IsValidOutsideFor s r z (outside_block_of s r a [] z)
      rest_block_valid = outside_block-valid s r a [] z z z_wide rest_outside

      pub rest_block_of : IsOutsideOf s (outside_block_of s r a [] z)
      rest_block_of = outside_block-of s r a [] z z z_wide rest_outside (of_outside_of_run rationals s (lawful s) s.order r.cols r.rows of_r a (holds s r long of_r a end) [] z tt) z_of

      stacked_long : AreLong rationals r.cols (z ∷ r.rows)
      stacked_long = (z_wide, long)

      stacked_of : AllByRecursion (RowOf rationals s) (z ∷ r.rows)
      stacked_of = (z_of, of_r)

      -- the operator takes z into the row module
      taken_inside : (f : Operator rationals) (others : Row rationals) → combine rationals s r.cols (f ∷ others) (z ∷ r.rows) ≡ zero_row rationals r.cols → row_scale rationals s f z ≡ combine rationals s r.cols (negated rationals others) r.rows
      unfolding combine
      taken_inside f others e =
          let scaled = Rows.length-row_scale rationals s (lawful s) f z ∙ z_wide in
          let rest = Rows.length-combine rationals s (lawful s) r.cols others r.rows long in
          sym (opposite_unique rationals (row_scale rationals s f z) (combine rationals s r.cols others r.rows) (scaled ∙ sym rest) (e ∙ ap (zero_row rationals) (sym scaled))) ∙ sym (combine-negated rationals s (lawful s) r.cols others r.rows)

      -- where z is torsion, the operator and the cofactors are found
      module _ (torsion : IsTorsion rationals s r.cols r.rows w.row) where
        found_syzygy : (d : RunState rationals) → IsEndOf s (stacked z r) d → HasNonzeroFirst rationals d.syzygies
        found_syzygy d over =
            nonzero_first rationals s (lawful s) r.cols r.rows d.syzygies z z_wide torsion
            (complete_exact rationals s (lawful s) s.order r.cols (z ∷ r.rows) stacked_long stacked_of d (holds s (stacked z r) stacked_long stacked_of d over) (complete s (stacked z r) stacked_long stacked_of d over))

        autonomous_ended : (d : RunState rationals) → IsEndOf s (stacked z r) d → (runs : List (List Choice)) (c : Certificate)
            → LeadsTo (program_runner s) (certified program s r (autonomous_element s r a z (first_nonzero (length r.rows) d.syzygies)) tt) runs (Done c) → IsCorrect s r c
        autonomous_ended d over runs c h =
            let found = first_nonzero (length r.rows) d.syzygies in
            let there = found_syzygy d over in
            let element = autonomous_element s r a z found in
            let of_syzygy = (found_nonzero (RowOf rationals s) (length r.rows) d.syzygies (of_generators s (stacked z r) stacked_long stacked_of d over) there).0 in
            let syzygy_wide = (found_nonzero (λ (c : Row rationals). length c ≡ suc (length r.rows)) (length r.rows) d.syzygies (wide_generators s (stacked z r) stacked_long stacked_of d over) there).0 in
            let vanishes = found_nonzero (λ (c : Row rationals). combine rationals s r.cols c (z ∷ r.rows) ≡ zero_row rationals r.cols) (length r.rows) d.syzygies
            (vanishing rationals s s.order r.cols (z ∷ r.rows) d.syzygies (holds s (stacked z r) stacked_long stacked_of d over).syzygies) there in
            let z_sums = sums_of-ordered_row s.order z in
            let cofactor = negated rationals found.1 in
            let cofactor_sums = sums_of-ordered_row s.order cofactor in
            formed_right s r long element c tt
            (row_stored s z z_of, record { order = refl; variables = of_syzygy.0 }, row_stored s cofactor (of_negated rationals s (lawful s) found.1 of_syzygy.1), rest_block_of) (
              length-map z (λ f. record { by = s.order; sum = f }) ∙ z_wide,
              vanishes.1,
              length-map cofactor (λ f. record { by = s.order; sum = f }) ∙ length-map found.1 _ ∙ ap pred syzygy_wide,
              ap (row_scale rationals s found.0) z_sums ∙ taken_inside found.0 found.1 vanishes.0 ∙ ap (λ (c : Row rationals). combine rationals s r.cols c r.rows) (sym cofactor_sums),
              subst (λ z. IsValidOutsideFor s r z (outside_block_of s r a [] w.row)) (sym z_sums) rest_block_valid,
            ) runs h

        autonomous_right : (runs : List (List Choice)) (c : Certificate) → LeadsTo (program_runner s) (autonomous program s r a z) runs (Done c) → IsCorrect s r c
        unfolding autonomous
        autonomous_right runs c h =
            let (d, rest, over, more) = ran s (stacked z r) (λ d. certified program s r (autonomous_element s r a z (first_nonzero (length r.rows) d.syzygies)) tt) runs c h in
            autonomous_ended d over rest c more

  -- ---- both verdicts

  module _ (r : RowMatrix) (long : AreLong rationals r.cols r.rows) (of_r : AllByRecursion (RowOf rationals s) r.rows) (a : RunState rationals) (end : IsEndOf s r a) (k : RightKernel) (found : IsFoundRightKernel s r k) (c : RunState rationals) (over : IsEndOf s k.generators c) where
    abbrev q : RowMatrix
    q = k.generators

    q_wide : AreLong rationals k.generators.cols k.generators.rows
    q_wide = generators_wide s r of_r k found

    q_of : AllByRecursion (RowOf rationals s) k.generators.rows
    q_of = generators_of_signature s r of_r k found

    q_count : length k.generators.rows ≡ r.cols
    q_count = generators_count s r of_r k found

    -- r takes q to zeros
    annihilated : AreTakenToZeros s k.generators.cols r.rows k.generators.rows
    annihilated =
        let wide = adjoint_long s r of_r k found in
        let of_adjoint = adjoint_of_signature s r of_r k found in
        let zeros = vanishing rationals s s.order k.adjoint.cols k.adjoint.rows k.last.syzygies (holds s k.adjoint wide of_adjoint k.last found.end).syzygies in
        let turned_zeros = turned s k.adjoint.cols k.adjoint.rows k.last.syzygies wide (wide_generators s k.adjoint wide of_adjoint k.last found.end) zeros in
        let back = ap (λ (m : RowMatrix). transpose_adjoint rationals s m.cols m.rows) found.adjoint_is ∙ Rows.adjoint_twice rationals s (lawful s) r.cols r.rows long in
        subst (λ (m : RowMatrix). AreTakenToZeros s m.cols r.rows m.rows) (sym found.generators_are)
        (subst (λ rows. AreTakenToZeros s (length k.last.syzygies) rows (transpose_adjoint rationals s (length k.adjoint.rows) k.last.syzygies)) back turned_zeros)

    elements_wide : AreLong rationals r.cols c.syzygies
    elements_wide = subst (λ n. AreLong rationals n c.syzygies) q_count (wide_generators s k.generators q_wide q_of c over)

    elements_of : AllByRecursion (RowOf rationals s) c.syzygies
    elements_of = of_generators s k.generators q_wide q_of c over

    controllable_valid : (all : List (Row rationals)) → AreFound s r long of_r a end c.syzygies all
        → IsValidExact rationals s s.order k.generators.cols k.generators.rows r.rows (exact_of_run rationals s.order k.generators.rows c (length r.rows) all)
    controllable_valid all here =
        exact_valid rationals s (lawful s) s.order k.generators.cols k.generators.rows q_wide c (holds s k.generators q_wide q_of c over) (complete s k.generators q_wide q_of c over) r.rows all
        (subst (λ n. AreLong rationals n r.rows) (sym q_count) long) annihilated (found_wide s r long of_r a end c.syzygies all here)
        (subst (λ n. matrix_times rationals s n all r.rows ≡ c.syzygies) (sym q_count) (found_product s r long of_r a end c.syzygies all here))

    abbrev inside_rows : List (Row rationals) → RowMatrix
    inside_rows all = record { cols = length r.rows; rows = all }

    kernel_exact : IsExact rationals s (length r.rows) (transpose_adjoint rationals s r.cols r.rows) (transpose_adjoint rationals s k.generators.cols k.generators.rows)
    kernel_exact =
        let wide = adjoint_long s r of_r k found in
        let of_adjoint = adjoint_of_signature s r of_r k found in
        let exact = complete_exact rationals s (lawful s) s.order k.adjoint.cols k.adjoint.rows wide of_adjoint k.last (holds s k.adjoint wide of_adjoint k.last found.end) (complete s k.adjoint wide of_adjoint k.last found.end) in
        let back = ap (λ (m : RowMatrix). transpose_adjoint rationals s m.cols m.rows) found.generators_are ∙ Rows.adjoint_twice rationals s (lawful s) (length k.adjoint.rows) k.last.syzygies (wide_generators s k.adjoint wide of_adjoint k.last found.end) in
        subst (IsExact rationals s (length r.rows) (transpose_adjoint rationals s r.cols r.rows)) (sym back) (subst (λ (m : RowMatrix). IsExact rationals s m.cols m.rows k.last.syzygies) found.adjoint_is exact)

    -- a syzygy y of the generators, and what is left of it
    module _ (y : Row rationals) (wide : length y ≡ r.cols) (of_y : RowOf rationals s y) (vanishes : combine rationals s k.generators.cols y k.generators.rows ≡ zero_row rationals k.generators.cols)
        (w : ReductionState rationals) (reduces : reduce_row rationals s.order (within program s) (length r.rows) a.basis y ≡ Ok w) where
      rest_taken : combine rationals s k.generators.cols w.row k.generators.rows ≡ zero_row rationals k.generators.cols
      rest_taken =
          let rest = rest_reduced rationals s (lawful s) r.cols r.rows long a (holds s r long of_r a end) (within program s) (within_sound program s) y w wide reduces in
          let part = combine rationals s r.cols w.cofactor r.rows in
          let part_wide = Rows.length-combine rationals s (lawful s) r.cols w.cofactor r.rows long in
          let part_taken = subst (λ n. combine rationals s k.generators.cols (combine rationals s n w.cofactor r.rows) k.generators.rows ≡ zero_row rationals k.generators.cols) q_count
          (combination_vanishes rationals s (lawful s) (length k.generators.rows) k.generators.cols k.generators.rows w.cofactor r.rows q_wide (subst (λ n. AreLong rationals n r.rows) (sym q_count) long) annihilated) in
          ap (λ (c : Row rationals). combine rationals s k.generators.cols c k.generators.rows) (sym rest.1.sum)
          ∙ Rows.combine-plus rationals s k.generators.cols y part k.generators.rows (wide ∙ sym part_wide)
          ∙ (λ i. row_plus rationals (vanishes i) (part_taken i))
          ∙ Rows.zero_row_twice rationals k.generators.cols

      rest_torsion : (t : Term) → row_lead rationals s.order w.row ≡ Some t → IsTorsion rationals s r.cols r.rows w.row
      rest_torsion t lead =
          torsion_of_kernel rationals s (lawful s) r.cols k.generators.cols r.rows k.generators.rows long q_wide q_count kernel_exact rational_inverses of_r w.row
          (z_wide r long of_r a end y wide of_y w reduces t lead) (z_of r long of_r a end y wide of_y w reduces t lead) rest_taken

    verdict_ended : (elements : Reductions rationals) → IsReducedOn s r long of_r a end c.syzygies elements → (runs : List (List Choice)) (d : Certificate) → LeadsTo (program_runner s) (verdicts_of r a k c elements) runs (Done d) → IsCorrect s r d
    verdict_ended (AllReduce all) (more, same, reduced) runs d formed =
        let here : AreFound s r long of_r a end c.syzygies all = subst (AreFound s r long of_r a end c.syzygies) (sym same) reduced in
        let block = exact_block_of s q c (inside_rows all) in
        let valid = controllable_valid all here in
        formed_right s r long (Controllable (stored s q) block) d tt (
          matrix_stored s k.generators.cols k.generators.rows q_wide q_of,
          exact_block-of s q c (inside_rows all) r refl valid
              (of_exact_of_run rationals s (lawful s) s.order k.generators.cols k.generators.rows q_of c (holds s k.generators q_wide q_of c over) (length r.rows) all (found_of s r long of_r a end c.syzygies all elements_of here)),
        )
        (length-map k.generators.rows (ordered_row s.order) ∙ q_count, subst (λ m. IsValidExactFor s m r block) (sym (stored_back s q)) (exact_block-valid s q c (inside_rows all) r refl valid)) runs formed
    verdict_ended (LeavesRest n w) (j, place, less, e, t, lead) runs d formed =
        let y = row_at c.syzygies j in
        let wide = All-get_or (λ (y : Row rationals). length y ≡ r.cols) c.syzygies j [] less elements_wide in
        let of_y = All-get_or (RowOf rationals s) c.syzygies j [] less elements_of in
        let vanishes = All-get_or (λ (y : Row rationals). combine rationals s k.generators.cols y k.generators.rows ≡ zero_row rationals k.generators.cols) c.syzygies j [] less
        (vanishing rationals s s.order k.generators.cols k.generators.rows c.syzygies (holds s k.generators q_wide q_of c over).syzygies) in
        autonomous_right r long of_r a end y wide of_y w e t lead (rest_torsion y wide of_y vanishes w e t lead) runs d formed

  abbrev after_kernel : RowMatrix → RunState rationals → RightKernel → RunCourse Certificate
  after_kernel r a k = run_on program s k.generators >>= (λ c. forced (reduced program s r a c.syzygies) >>= verdicts_of r a k c)

  pub analyse_right : FormsCorrect s (analyse program s)
  unfolding analyse
  analyse_right r long of_r runs d h =
      let (a, rest, end, h1) = ran s r (λ a. right_kernel program s r >>= after_kernel r a) runs d h in
      let (k, behind, found, h2) = searched s r (after_kernel r a) rest d h1 in
      let (c, later, over, h3) = ran s k.generators (λ c. forced (reduced program s r a c.syzygies) >>= verdicts_of r a k c) behind d h2 in
      let (elements, e, h4) = worked_split (program_runner s) (reduced program s r a c.syzygies) (verdicts_of r a k c) later d h3 in
      verdict_ended r long of_r a end k found c over elements (rows_are_reduced s r long of_r a end c.syzygies elements (elements_wide r long of_r a end k found c over) e) later d h4
