-- Certificates that plan ext forms.
--     last_star, before_star     the transposed adjoints of the last two matrices
--     before_taken               the one takes the other to zeros
--     ext_ended                  a certificate is right, whether the extension module is zero or not
--     ext_right                  plan ext forms certificates that are right
use Rattle.std.proofs.Common.{◌≡◌, ℕ, zero, suc, List, [], length, refl, sym, ap, ◌∙◌, subst, arith}
use Rattle.std.specs.List.{AllByRecursion}
use Rattle.std.specs.declared.result.Result.TheVariants.{Ok}
use Rattle.std.proofs.ByRecursion.{All-get_or}
use Rattle.std.proofs.lemmas.List.{length-map}
use Rattle.ore_algebra.specs.Limits.{program}
use Rattle.ore_course.specs.Course.{Done, ◌>>=◌, forced}
use Rattle.ore_course.specs.Leading.{LeadsTo}
use Rattle.ore_course.proofs.Leads.{leads_split, worked_split}
use Rattle.ore_rational.specs.Field.{rationals}
use Rattle.ore_monomial.specs.Signature.{Signature}
use Rattle.ore_monomial.proofs.Signatures.{lawful}
use Rattle.ore_rows.specs.Arithmetic.{within}
use Rattle.ore_rows.specs.Reduction.{ReductionState, row_at}
use Rattle.ore_rows.specs.ReduceRows.{Reductions, AllReduce, LeavesRest, reduce_row}
use Rattle.ore_rows.specs.Rows.{Row, RowOf, AreLong, zero_row, row_plus, combine, matrix_times, transpose_adjoint}
use Rattle.ore_rows.specs.Stored.{sums_of}
use Rattle.ore_rows.proofs.RowLaws as Rows
use Rattle.ore_rows.proofs.SoundArithmetic.{within_sound}
use Rattle.ore_rows.specs.declared.choices.Choice.{Choice}
use Rattle.ore_pairs.specs.Blocks.{IsValidExact}
use Rattle.ore_pairs.specs.Run.{RunState}
use Rattle.ore_pairs.specs.RunBlocks.{exact_of_run}
use Rattle.ore_pairs.proofs.Generate.{combination_vanishes}
use Rattle.ore_groebner.proofs.Blocks.{exact_valid}
use Rattle.ore_groebner.proofs.BlocksOf.{of_exact_of_run}
use Rattle.ore_groebner.proofs.Holding.{vanishing}
use Rattle.ore_groebner.proofs.ReducedRows.{rest_reduced}
use Rattle.ore_cert.specs.EachKind.{IsLength}
use Rattle.ore_cert.specs.declared.certificate.Certificate.{Certificate}
use Rattle.ore_cert.specs.declared.certificate.Certificate.TheVariants.{ExtZero, ExtNonzero}
use Rattle.ore_blocks.specs.BlockOfRun.{ordered_row, exact_block_of, outside_block_of}
use Rattle.ore_blocks.specs.CheckBlock.{RowMatrix}
use Rattle.ore_blocks.specs.KernelCourse.{RunCourse, run_on, transposed_adjoint_within}
use Rattle.ore_blocks.specs.Valid.{IsValidExactFor, IsValidOutsideFor}
use Rattle.ore_blocks.proofs.StoredBlocks.{sums_of-ordered_row, row_stored, exact_block-valid, exact_block-of}
use Rattle.ore_check.specs.Meaning.{transposed_adjoint}
use Rattle.ore_check.specs.Plans.{Resolution, reduced, resolution, extension_ends, extension, ext}
use Rattle.ore_check.specs.PlanLaws.{IsCorrect, FormsCorrect}
use Rattle.ore_check.specs.Reports.{program_runner}
use Rattle.ore_check.specs.Valid.{AreValidLinks}
use Rattle.ore_check.proofs.FormedInverses.{IsReducedOn, rows_are_reduced, AreFound, found_wide, found_of, found_product}
use Rattle.ore_check.proofs.FormedKernels.{formed_right, IsEndOf, ran, holds, complete, wide_generators, of_generators, adjoint_value}
use Rattle.ore_check.proofs.FormedResolutions.{AreLast, IsSoFar, IsBehind, valid_weaker, started, resolved, links_stand_behind}
use Rattle.ore_check.proofs.FormedVerdicts.{z_wide, z_of, rest_block_valid, rest_block_of}
use Rattle.ore_check.proofs.Inverses.{of_adjoint_rows}
use Rattle.ore_check.proofs.TurnedProducts.{AreTakenToZeros, turned}

module _ (s : Signature) where
  abbrev after_second : RowMatrix → Resolution → RowMatrix → RunState rationals → RowMatrix → RunCourse Certificate
  after_second r x last e before = run_on program s before >>= (λ f. forced (reduced program s before f e.syzygies) >>= extension_ends program s r x last e before f)

  abbrev after_first : RowMatrix → Resolution → RowMatrix → RunCourse Certificate
  after_first r x last = run_on program s last >>= (λ e. forced (transposed_adjoint_within program s x.before) >>= after_second r x last e)

  module _ (r : RowMatrix) (long : AreLong rationals r.cols r.rows) (x : Resolution) (few : IsLength (length x.links)) (h : IsSoFar s r x) (b : IsBehind s x) where
    abbrev last_star : RowMatrix
    last_star = transposed_adjoint s x.last

    abbrev before_star : RowMatrix
    before_star = transposed_adjoint s x.before

    last_wide : AreLong rationals last_star.cols last_star.rows
    last_wide = Rows.long_adjoint rationals s x.last.cols x.last.rows

    last_of : AllByRecursion (RowOf rationals s) last_star.rows
    last_of = of_adjoint_rows s x.last.cols x.last.rows h.of_last

    before_wide : AreLong rationals before_star.cols before_star.rows
    before_wide = Rows.long_adjoint rationals s x.before.cols x.before.rows

    before_of : AllByRecursion (RowOf rationals s) before_star.rows
    before_of = of_adjoint_rows s x.before.cols x.before.rows h.of_before

    -- a row has an entry for each row of the last
    same_width : before_star.cols ≡ length last_star.rows
    same_width = sym b.fits ∙ sym (Rows.length-adjoint rationals s x.last.cols x.last.rows)

    before_rows_wide : AreLong rationals (length last_star.rows) before_star.rows
    before_rows_wide = subst (λ n. AreLong rationals n before_star.rows) same_width before_wide

    before_taken : AreTakenToZeros s last_star.cols before_star.rows last_star.rows
    before_taken =
        subst (λ n. AreTakenToZeros s (length x.last.rows) before_star.rows (transpose_adjoint rationals s n x.last.rows)) (sym b.fits)
        (turned s x.before.cols x.before.rows x.last.rows h.long_before (subst (λ n. AreLong rationals n x.last.rows) b.fits h.long) b.vanishes)

    module _ (e : RunState rationals) (end : IsEndOf s last_star e) (f : RunState rationals) (over : IsEndOf s before_star f) where
      elements_wide : AreLong rationals before_star.cols e.syzygies
      elements_wide = subst (λ n. AreLong rationals n e.syzygies) (sym same_width) (wide_generators s last_star last_wide last_of e end)

      elements_of : AllByRecursion (RowOf rationals s) e.syzygies
      elements_of = of_generators s last_star last_wide last_of e end

      -- ---- the extension module is zero

      zero_valid : (all : List (Row rationals)) → AreFound s before_star before_wide before_of f over e.syzygies all
          → IsValidExact rationals s s.order last_star.cols last_star.rows before_star.rows (exact_of_run rationals s.order last_star.rows e (length before_star.rows) all)
      zero_valid all here =
          exact_valid rationals s (lawful s) s.order last_star.cols last_star.rows last_wide e (holds s last_star last_wide last_of e end) (complete s last_star last_wide last_of e end) before_star.rows all
          before_rows_wide before_taken (found_wide s before_star before_wide before_of f over e.syzygies all here)
          (subst (λ n. matrix_times rationals s n all before_star.rows ≡ e.syzygies) same_width (found_product s before_star before_wide before_of f over e.syzygies all here))

      -- what holds of these two matrices holds of the last two of the links
      at_last : (P : RowMatrix → RowMatrix → Type 0) → P x.before x.last → AreValidLinks s r r x.links P
      at_last P p = valid_weaker s r r x.links (AreLast s x) P h.valid (λ before last same. subst (λ m. P m last) (sym same.0) (subst (λ m. P x.before m) (sym same.1) p))

      -- ---- it isn't

      module _ (y : Row rationals) (wide : length y ≡ before_star.cols) (of_y : RowOf rationals s y) (vanishes : combine rationals s last_star.cols y last_star.rows ≡ zero_row rationals last_star.cols)
          (w : ReductionState rationals) (reduces : reduce_row rationals s.order (within program s) (length before_star.rows) f.basis y ≡ Ok w) where
        rest_taken : combine rationals s last_star.cols w.row last_star.rows ≡ zero_row rationals last_star.cols
        rest_taken =
            let rest = rest_reduced rationals s (lawful s) before_star.cols before_star.rows before_wide f (holds s before_star before_wide before_of f over) (within program s) (within_sound program s) y w wide reduces in
            let part = combine rationals s before_star.cols w.cofactor before_star.rows in
            let part_wide = Rows.length-combine rationals s (lawful s) before_star.cols w.cofactor before_star.rows before_wide in
            let part_taken = subst (λ n. combine rationals s last_star.cols (combine rationals s n w.cofactor before_star.rows) last_star.rows ≡ zero_row rationals last_star.cols) (sym same_width)
            (combination_vanishes rationals s (lawful s) (length last_star.rows) last_star.cols last_star.rows w.cofactor before_star.rows last_wide before_rows_wide before_taken) in
            ap (λ (c : Row rationals). combine rationals s last_star.cols c last_star.rows) (sym rest.1.sum)
            ∙ Rows.combine-plus rationals s last_star.cols y part last_star.rows (wide ∙ sym part_wide)
            ∙ (λ i. row_plus rationals (vanishes i) (part_taken i))
            ∙ Rows.zero_row_twice rationals last_star.cols

      ext_ended : (elements : Reductions rationals) → IsReducedOn s before_star before_wide before_of f over e.syzygies elements
          → (runs : List (List Choice)) (d : Certificate) → LeadsTo (program_runner s) (extension_ends program s r x last_star e before_star f elements) runs (Done d) → IsCorrect s r d
      ext_ended (AllReduce all) (more, same, found) runs d formed =
          let here : AreFound s before_star before_wide before_of f over e.syzygies all = subst (AreFound s before_star before_wide before_of f over e.syzygies) (sym same) found in
          let inside : RowMatrix = record { cols = length before_star.rows; rows = all } in
          let valid = zero_valid all here in
          let block = exact_block_of s last_star e inside in
          formed_right s r long (ExtZero x.links block) d tt (
            record { count = few; all = h.links_of },
            exact_block-of s last_star e inside before_star refl valid
                (of_exact_of_run rationals s (lawful s) s.order last_star.cols last_star.rows last_of e (holds s last_star last_wide last_of e end) (length before_star.rows) all (found_of s before_star before_wide before_of f over e.syzygies all elements_of here)),
          )
          (at_last (λ before last. IsValidExactFor s (transposed_adjoint s last) (transposed_adjoint s before) block) (exact_block-valid s last_star e inside before_star refl valid)) runs formed
      ext_ended (LeavesRest n w) (j, place, less, reduces, t, lead) runs d formed =
          let y = row_at e.syzygies j in
          let wide = All-get_or (λ (y : Row rationals). length y ≡ before_star.cols) e.syzygies j [] less elements_wide in
          let of_y = All-get_or (RowOf rationals s) e.syzygies j [] less elements_of in
          let vanishes = All-get_or (λ (y : Row rationals). combine rationals s last_star.cols y last_star.rows ≡ zero_row rationals last_star.cols) e.syzygies j [] less
          (vanishing rationals s s.order last_star.cols last_star.rows e.syzygies (holds s last_star last_wide last_of e end).syzygies) in
          let z = w.row in
          let sums = sums_of-ordered_row s.order z in
          let block = outside_block_of s before_star f [] z in
          formed_right s r long (ExtNonzero x.links (ordered_row s.order z) block) d tt
          (record { count = few; all = h.links_of }, row_stored s z (z_of s before_star before_wide before_of f over y wide of_y w reduces t lead), rest_block_of s before_star before_wide before_of f over y wide of_y w reduces t lead)
          (at_last
          (λ before last. (length (ordered_row s.order z) ≡ length before.rows)
          × (combine rationals s (length last.rows) (sums_of (ordered_row s.order z)) (transposed_adjoint s last).rows ≡ zero_row rationals (length last.rows))
          × IsValidOutsideFor s (transposed_adjoint s before) (sums_of (ordered_row s.order z)) block) (
            length-map z (λ g. record { by = s.order; sum = g }) ∙ z_wide s before_star before_wide before_of f over y wide of_y w reduces t lead,
            ap (λ (c : Row rationals). combine rationals s last_star.cols c last_star.rows) sums ∙ rest_taken y wide of_y vanishes w reduces,
            subst (λ c. IsValidOutsideFor s before_star c block) (sym sums) (rest_block_valid s before_star before_wide before_of f over y wide of_y w reduces t lead),
          )) runs formed

    links_ended : (runs : List (List Choice)) (d : Certificate) → LeadsTo (program_runner s) (extension program s r x) runs (Done d) → IsCorrect s r d
    links_ended runs d formed =
        let (star, is_star, h1) = worked_split (program_runner s) (transposed_adjoint_within program s x.last) (after_first r x) runs d formed in
        let here = subst (λ m. LeadsTo (program_runner s) (after_first r x m) runs (Done d)) (adjoint_value s x.last star is_star) h1 in
        let (e, rest, end, h2) = ran s last_star (λ e. forced (transposed_adjoint_within program s x.before) >>= after_second r x last_star e) runs d here in
        let (other, is_other, h3) = worked_split (program_runner s) (transposed_adjoint_within program s x.before) (after_second r x last_star e) rest d h2 in
        let there = subst (λ m. LeadsTo (program_runner s) (after_second r x last_star e m) rest (Done d)) (adjoint_value s x.before other is_other) h3 in
        let (f, later, over, h4) = ran s before_star (λ f. forced (reduced program s before_star f e.syzygies) >>= extension_ends program s r x last_star e before_star f) rest d there in
        let (elements, is_elements, h5) = worked_split (program_runner s) (reduced program s before_star f e.syzygies) (extension_ends program s r x last_star e before_star f) later d h4 in
        ext_ended e end f over elements (rows_are_reduced s before_star before_wide before_of f over e.syzygies elements (elements_wide e end f over) is_elements) later d h5

  pub ext_right : (k : ℕ) → IsLength k → FormsCorrect s (ext program s k)
  unfolding ext
  ext_right zero few r long of_r runs d formed = absurd (let least = few.0 in omega (arith, least))
  ext_right (suc n) few r long of_r runs d formed =
      let (x, before, after, joined, found, more) = leads_split (program_runner s) (resolution program s (suc n) r) (extension program s r) runs d formed in
      let (so_far, many) = resolved s (suc n) r long of_r before x found in
      let behind = links_stand_behind s r n (record { links = []; before = r; last = r }) x (started s r long of_r) before found in
      links_ended r long x (subst IsLength (sym many) few) so_far behind after d more
