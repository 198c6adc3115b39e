-- Certificates that plans of inverses form.
--     left_outside, left_block_of, left_block_valid     what is left of a row has a block that is valid, and of the signature
--     IsReducedOn, rows_are_reduced     what reducing rows gives
--     AreFound, found_wide, found_of, found_product, found_count     rows by which the reduced ones are combined
--     unit_less, unit_block_valid, unit_block_of     the first unit row that leaves a rest has such a block
--     inverse_left_right, inverse_right_right     the plans of inverses form certificates that are right
use Rattle.std.proofs.Common.{◌≡◌, ◌≢◌, ℕ, ◌<◌, List, [], length, refl, sym, ap, ◌∙◌, subst, arith}
use Rattle.std.specs.List.{AllByRecursion}
use Rattle.std.specs.declared.option.Option.TheVariants.{Some}
use Rattle.std.specs.declared.result.Result.TheVariants.{Ok}
use Rattle.std.proofs.lemmas.Option.{none-some}
use Rattle.ore_algebra.specs.Limits.{program}
use Rattle.ore_course.specs.Course.{Done, ◌>>=◌, forced}
use Rattle.ore_course.specs.Leading.{LeadsTo}
use Rattle.ore_course.proofs.Leads.{worked_split}
use Rattle.ore_rational.specs.Field.{rationals}
use Rattle.ore_monomial.specs.Signature.{Signature}
use Rattle.ore_monomial.specs.Term.{Term}
use Rattle.ore_monomial.proofs.Signatures.{lawful}
use Rattle.ore_rows.specs.Arithmetic.{within}
use Rattle.ore_rows.specs.Reduction.{ReductionState, row_at}
use Rattle.ore_rows.specs.ReduceRows.{Reductions, AllReduce, LeavesRest, reduce_row}
use Rattle.ore_rows.specs.RowLead.{row_lead}
use Rattle.ore_rows.specs.Rows.{Row, RowOf, AreLong, zero_row, unit_row, identity_rows, matrix_times, transpose_adjoint}
use Rattle.ore_rows.proofs.GreatestTerms.{row_lead-zero}
use Rattle.ore_rows.proofs.RowLaws as Rows
use Rattle.ore_rows.proofs.SoundArithmetic.{within_sound}
use Rattle.ore_rows.proofs.UnitRows.{length-unit_row, of_unit_row, length-identity_rows, row-identity_rows, long_identity}
use Rattle.ore_rows.specs.declared.choices.Choice.{Choice}
use Rattle.ore_pairs.specs.Blocks.{IsValidOutside}
use Rattle.ore_pairs.specs.Run.{RunState}
use Rattle.ore_pairs.specs.RunBlocks.{outside_of_run}
use Rattle.ore_groebner.proofs.Blocks.{outside_valid}
use Rattle.ore_groebner.proofs.BlocksOf.{of_outside_of_run}
use Rattle.ore_groebner.proofs.ReducedRows.{IsReducedTo, AreCombinations, rest_reduced, rows_reduced, long_combinations, of_combinations, product_combinations, count_combinations}
use Rattle.ore_cert.specs.declared.certificate.Certificate.{Certificate}
use Rattle.ore_cert.specs.declared.certificate.Certificate.TheVariants.{LeftInverse, RightInverse, NoLeftInverse, NoRightInverse}
use Rattle.ore_parts.specs.OfSignature.{IsOutsideOf}
use Rattle.ore_blocks.specs.BlockOfRun.{outside_block_of}
use Rattle.ore_blocks.specs.CheckBlock.{RowMatrix}
use Rattle.ore_blocks.specs.KernelCourse.{RunCourse, run_on, transposed_adjoint_within}
use Rattle.ore_blocks.specs.Valid.{IsValidOutsideFor}
use Rattle.ore_blocks.proofs.StoredBlocks.{rows_of-stored, matrix_stored, outside_block-valid, outside_block-of}
use Rattle.ore_check.specs.Meaning.{transposed_adjoint}
use Rattle.ore_check.specs.Plans.{stored, certified, reduced, inverse_left, inverse_right}
use Rattle.ore_check.specs.PlanLaws.{IsCorrect, FormsCorrect}
use Rattle.ore_check.specs.Reports.{program_runner}
use Rattle.ore_check.proofs.FormedKernels.{formed_right, of_units, IsEndOf, ran, holds, complete, adjoint_value}
use Rattle.ore_check.proofs.Inverses.{of_adjoint_rows, adjoint-identity}

module _ (s : Signature) where
  module _ (a : RowMatrix) (long : AreLong rationals a.cols a.rows) (of_a : AllByRecursion (RowOf rationals s) a.rows) (last : RunState rationals) (end : IsEndOf s a last) where
    -- a row, what is left of it, and that this isn't zero
    module _ (z : Row rationals) (wide : length z ≡ a.cols) (of_z : RowOf rationals s z) (w : ReductionState rationals) (e : reduce_row rationals s.order (within program s) (length a.rows) last.basis z ≡ Ok w) (t : Term) (lead : row_lead rationals s.order w.row ≡ Some t) where
      pub left_wide : length w.row ≡ a.cols
      left_wide = (rest_reduced rationals s (lawful s) a.cols a.rows long last (holds s a long of_a last end) (within program s) (within_sound program s) z w wide e).0

      pub left_of : RowOf rationals s w.row
      left_of = (rest_reduced rationals s (lawful s) a.cols a.rows long last (holds s a long of_a last end) (within program s) (within_sound program s) z w wide e).1.of_row of_a of_z

      more : w.row ≢ zero_row rationals a.cols
      more zero = none-some t (sym (row_lead-zero rationals s.order a.cols w.row zero) ∙ lead)

      pub left_outside : IsValidOutside rationals s s.order a.cols a.rows z (outside_of_run rationals s.order a.rows last w.steps w.row)
      left_outside =
          outside_valid rationals s (lawful s) (within program s) (within_sound program s) a.cols a.rows long last (holds s a long of_a last end) (complete s a long of_a last end) z (zero_row rationals (length a.rows)) wide w e more

      pub left_block_valid : IsValidOutsideFor s a z (outside_block_of s a last w.steps w.row)
      left_block_valid = outside_block-valid s a last w.steps w.row z left_wide left_outside

      pub left_block_of : IsOutsideOf s (outside_block_of s a last w.steps w.row)
      left_block_of =
          outside_block-of s a last w.steps w.row z left_wide left_outside
          (of_outside_of_run rationals s (lawful s) s.order a.cols a.rows of_a last (holds s a long of_a last end) w.steps w.row
          ((rest_reduced rationals s (lawful s) a.cols a.rows long last (holds s a long of_a last end) (within program s) (within_sound program s) z w wide e).1.of_steps of_a of_z)) left_of

    -- rows that were reduced in order
    abbrev pub IsReducedOn : List (Row rationals) → Reductions rationals → Type 0
    IsReducedOn rows result = IsReducedTo rationals s (lawful s) a.cols a.rows long last (holds s a long of_a last end) (within program s) (within_sound program s) 0 [] rows result

    pub rows_are_reduced : (rows : List (Row rationals)) (result : Reductions rationals) → AreLong rationals a.cols rows → reduced program s a last rows ≡ Ok result → IsReducedOn rows result
    rows_are_reduced rows result wide e = rows_reduced rationals s (lawful s) a.cols a.rows long last (holds s a long of_a last end) (within program s) (within_sound program s) 0 [] rows result wide e

    -- such combinations
    abbrev pub AreFound : List (Row rationals) → List (Row rationals) → Type 0
    AreFound rows all = AreCombinations rationals s (lawful s) a.cols a.rows long last (holds s a long of_a last end) (within program s) (within_sound program s) rows all

    pub found_wide : (rows all : List (Row rationals)) → AreFound rows all → AreLong rationals (length a.rows) all
    found_wide rows all c = long_combinations rationals s (lawful s) a.cols a.rows long last (holds s a long of_a last end) (within program s) (within_sound program s) rows all c

    pub found_of : (rows all : List (Row rationals)) → AllByRecursion (RowOf rationals s) rows → AreFound rows all → AllByRecursion (RowOf rationals s) all
    found_of rows all o c = of_combinations rationals s (lawful s) a.cols a.rows long last (holds s a long of_a last end) (within program s) (within_sound program s) rows all of_a o c

    pub found_product : (rows all : List (Row rationals)) → AreFound rows all → matrix_times rationals s a.cols all a.rows ≡ rows
    found_product rows all c = product_combinations rationals s (lawful s) a.cols a.rows long last (holds s a long of_a last end) (within program s) (within_sound program s) rows all c

    pub found_count : (rows all : List (Row rationals)) → AreFound rows all → length all ≡ length rows
    found_count rows all c = count_combinations rationals s (lawful s) a.cols a.rows long last (holds s a long of_a last end) (within program s) (within_sound program s) rows all c

    -- unit row j, of which something is left
    module _ (j : ℕ) (less : j < length (identity_rows rationals a.cols)) (w : ReductionState rationals) (e : reduce_row rationals s.order (within program s) (length a.rows) last.basis (row_at (identity_rows rationals a.cols) j) ≡ Ok w)
        (t : Term) (lead : row_lead rationals s.order w.row ≡ Some t) where
      pub unit_less : j < a.cols
      unit_less = subst (λ n. j < n) (length-identity_rows rationals a.cols) less

      unit_there : reduce_row rationals s.order (within program s) (length a.rows) last.basis (unit_row rationals a.cols j) ≡ Ok w
      unit_there = ap (reduce_row rationals s.order (within program s) (length a.rows) last.basis) (sym (row-identity_rows rationals a.cols j unit_less)) ∙ e

      pub unit_block_valid : IsValidOutsideFor s a (unit_row rationals a.cols j) (outside_block_of s a last w.steps w.row)
      unit_block_valid = left_block_valid (unit_row rationals a.cols j) (length-unit_row rationals a.cols j) (of_unit_row rationals s a.cols j) w unit_there t lead

      pub unit_block_of : IsOutsideOf s (outside_block_of s a last w.steps w.row)
      unit_block_of = left_block_of (unit_row rationals a.cols j) (length-unit_row rationals a.cols j) (of_unit_row rationals s a.cols j) w unit_there t lead

  -- ---- left inverses

  abbrev pub left_ends : RowMatrix → RunState rationals → Reductions rationals → RunCourse Certificate
  left_ends r a units = elim units [
    | AllReduce combinations ↦ certified program s r (LeftInverse (stored s (record { cols = length r.rows; rows = combinations }))) tt
    | LeavesRest k w ↦ certified program s r (NoLeftInverse k (outside_block_of s r a w.steps w.row)) tt
  ]

  module _ (r : RowMatrix) (long : AreLong rationals r.cols r.rows) (of_r : AllByRecursion (RowOf rationals s) r.rows) (a : RunState rationals) (end : IsEndOf s r a) where
    left_ended : (units : Reductions rationals) → IsReducedOn r long of_r a end (identity_rows rationals r.cols) units → (runs : List (List Choice)) (d : Certificate) → LeadsTo (program_runner s) (left_ends r a units) runs (Done d) → IsCorrect s r d
    left_ended (AllReduce all) (more, same, found) runs d h =
        let units = identity_rows rationals r.cols in
        let here : AreFound r long of_r a end units all = subst (AreFound r long of_r a end units) (sym same) found in
        let wide = found_wide r long of_r a end units all here in
        let stored_rows = rows_of-stored s.order (length r.rows) all in
        formed_right s r long (LeftInverse (stored s (record { cols = length r.rows; rows = all }))) d tt
        (matrix_stored s (length r.rows) all wide (found_of r long of_r a end units all (of_units s r.cols) here)) (
          record {
            rows = ap (λ (rows : List (Row rationals)). length rows) stored_rows ∙ found_count r long of_r a end units all here ∙ length-identity_rows rationals r.cols;
            columns = refl;
            long = subst (AreLong rationals (length r.rows)) (sym stored_rows) wide;
          },
          ap (λ rows. matrix_times rationals s r.cols rows r.rows) stored_rows ∙ found_product r long of_r a end units all here,
        ) runs h
    left_ended (LeavesRest k w) (j, place, less, e, t, lead) runs d h =
        let same : j ≡ k = omega (arith, place) in
        formed_right s r long (NoLeftInverse k (outside_block_of s r a w.steps w.row)) d tt (tt, unit_block_of r long of_r a end j less w e t lead)
        (subst (λ k. k < r.cols) same (unit_less r long of_r a end j less w e t lead), subst (λ k. IsValidOutsideFor s r (unit_row rationals r.cols k) (outside_block_of s r a w.steps w.row)) same (unit_block_valid r long of_r a end j less w e t lead)) runs h

  pub inverse_left_right : FormsCorrect s (inverse_left program s)
  unfolding inverse_left
  inverse_left_right r long of_r runs d h =
      let (a, rest, end, more) = ran s r (λ a. forced (reduced program s r a (identity_rows rationals r.cols)) >>= left_ends r a) runs d h in
      let (units, e, ends) = worked_split (program_runner s) (reduced program s r a (identity_rows rationals r.cols)) (left_ends r a) rest d more in
      left_ended r long of_r a end units (rows_are_reduced r long of_r a end (identity_rows rationals r.cols) units (long_identity rationals r.cols) e) rest d ends

  -- ---- right inverses

  abbrev pub right_ends : RowMatrix → RowMatrix → RunState rationals → Reductions rationals → RunCourse Certificate
  right_ends r adjoint a units = elim units [
    | AllReduce combinations ↦ forced (transposed_adjoint_within program s (record { cols = r.cols; rows = combinations })) >>= (λ inverse. certified program s r (RightInverse (stored s inverse)) tt)
    | LeavesRest k w ↦ certified program s r (NoRightInverse k (outside_block_of s adjoint a w.steps w.row)) tt
  ]

  abbrev pub right_runs : RowMatrix → RowMatrix → RunCourse Certificate
  right_runs r adjoint = run_on program s adjoint >>= (λ a. forced (reduced program s adjoint a (identity_rows rationals (length r.rows))) >>= right_ends r adjoint a)

  module _ (r : RowMatrix) (long : AreLong rationals r.cols r.rows) (of_r : AllByRecursion (RowOf rationals s) r.rows) where
    abbrev star : RowMatrix
    star = transposed_adjoint s r

    star_wide : AreLong rationals star.cols star.rows
    star_wide = Rows.long_adjoint rationals s r.cols r.rows

    star_of : AllByRecursion (RowOf rationals s) star.rows
    star_of = of_adjoint_rows s r.cols r.rows of_r

    -- where rows times the transposed adjoint are the identity, so is r times their transposed adjoint
    product_turned : (all : List (Row rationals)) → AreLong rationals r.cols all → matrix_times rationals s star.cols all star.rows ≡ identity_rows rationals star.cols
        → matrix_times rationals s (length all) r.rows (transpose_adjoint rationals s r.cols all) ≡ identity_rows rationals (length r.rows)
    product_turned all wide e =
        ap (λ rows. matrix_times rationals s (length all) rows (transpose_adjoint rationals s r.cols all)) (sym (Rows.adjoint_twice rationals s (lawful s) r.cols r.rows long))
        ∙ sym (Rows.adjoint-product rationals s (lawful s) r.cols (length r.rows) all star.rows wide star_wide)
        ∙ ap (transpose_adjoint rationals s (length r.rows)) e ∙ adjoint-identity s (length r.rows)

    right_ended : (a : RunState rationals) (end : IsEndOf s star a) (units : Reductions rationals) → IsReducedOn star star_wide star_of a end (identity_rows rationals star.cols) units
        → (runs : List (List Choice)) (d : Certificate) → LeadsTo (program_runner s) (right_ends r star a units) runs (Done d) → IsCorrect s r d
    right_ended a end (AllReduce all) (more, same, found) runs d h =
        let units = identity_rows rationals star.cols in
        let here : AreFound star star_wide star_of a end units all = subst (AreFound star star_wide star_of a end units) (sym same) found in
        let wide = subst (λ n. AreLong rationals n all) (Rows.length-adjoint rationals s r.cols r.rows) (found_wide star star_wide star_of a end units all here) in
        let (inverse, e, formed) = worked_split (program_runner s) (transposed_adjoint_within program s (record { cols = r.cols; rows = all })) (λ inverse. certified program s r (RightInverse (stored s inverse)) tt) runs d h in
        let value = transposed_adjoint s (record { cols = r.cols; rows = all }) in
        let is_value = adjoint_value s (record { cols = r.cols; rows = all }) inverse e in
        let stored_rows = rows_of-stored s.order value.cols value.rows in
        formed_right s r long (RightInverse (stored s value)) d tt
        (matrix_stored s value.cols value.rows (Rows.long_adjoint rationals s r.cols all) (of_adjoint_rows s r.cols all (found_of star star_wide star_of a end units all (of_units s star.cols) here))) (
          record {
            rows = ap (λ (rows : List (Row rationals)). length rows) stored_rows ∙ Rows.length-adjoint rationals s r.cols all;
            columns = found_count star star_wide star_of a end units all here ∙ length-identity_rows rationals star.cols;
            long = subst (AreLong rationals value.cols) (sym stored_rows) (Rows.long_adjoint rationals s r.cols all);
          },
          ap (λ rows. matrix_times rationals s (length all) r.rows rows) stored_rows ∙ product_turned all wide (found_product star star_wide star_of a end units all here),
        ) runs (subst (λ m. LeadsTo (program_runner s) (certified program s r (RightInverse (stored s m)) tt) runs (Done d)) is_value formed)
    right_ended a end (LeavesRest k w) (j, place, less, e, t, lead) runs d h =
        let same : j ≡ k = omega (arith, place) in
        formed_right s r long (NoRightInverse k (outside_block_of s star a w.steps w.row)) d tt (tt, unit_block_of star star_wide star_of a end j less w e t lead) (
          subst (λ k. k < length r.rows) same (unit_less star star_wide star_of a end j less w e t lead),
          subst (λ k. IsValidOutsideFor s star (unit_row rationals star.cols k) (outside_block_of s star a w.steps w.row)) same (unit_block_valid star star_wide star_of a end j less w e t lead),
        ) runs h

    right_ran : (runs : List (List Choice)) (d : Certificate) → LeadsTo (program_runner s) (right_runs r star) runs (Done d) → IsCorrect s r d
    right_ran runs d h =
        let (a, rest, end, more) = ran s star (λ a. forced (reduced program s star a (identity_rows rationals (length r.rows))) >>= right_ends r star a) runs d h in
        let (units, e, ends) = worked_split (program_runner s) (reduced program s star a (identity_rows rationals (length r.rows))) (right_ends r star a) rest d more in
        right_ended a end units (rows_are_reduced star star_wide star_of a end (identity_rows rationals star.cols) units (long_identity rationals star.cols) e) rest d ends

  pub inverse_right_right : FormsCorrect s (inverse_right program s)
  unfolding inverse_right
  inverse_right_right r long of_r runs d h =
      let (adjoint, e, more) = worked_split (program_runner s) (transposed_adjoint_within program s r) (right_runs r) runs d h in
      right_ran r long of_r runs d (subst (λ m. LeadsTo (program_runner s) (right_runs r m) runs (Done d)) (adjoint_value s r adjoint e) more)
