-- Certificates that plans of kernels form.
--     formed_last, done_last     forced work that ends a course has its answer, and so has a course that is done
--     formed_right          a valid certificate whose identities are formed is right
--     IsEndOf, ran          a complete run on a matrix ends in a state; a course that begins with one
--     holds, complete       what that state holds
--     wide_generators, of_generators     its syzygies are as wide as its matrix is long, and of the signature
--     kernel_block_valid, kernel_block_of    the block of its syzygies is valid, and of the signature
--     adjoint_within, adjoint_value, adjoint_back     the transposed adjoint that is formed, within any limits and those of the program; its own
--     IsFoundRightKernel, searched    what a search for a right kernel finds; a course that begins with one
--     adjoint_long, adjoint_of_signature, generators_wide, generators_of_signature, generators_count, generators_back    of such
--     kernel_left_right, kernel_right_right     the plans of kernels form certificates that are right
use Rattle.std.proofs.Common.{◌≡◌, ◌⊎◌, inl, inr, ℕ, true, List, [], ◌∷◌, length, map, refl, sym, ap, ◌∙◌, subst}
use Rattle.std.specs.List.{AllByRecursion, range_with_len}
use Rattle.std.proofs.lemmas.List.{length-map}
use Rattle.std.specs.declared.result.Result.{Result}
use Rattle.std.specs.declared.result.Result.TheVariants.{Ok, Err}
use Rattle.ore_algebra.specs.Limits.{Limits, Cause, program, unlimited}
use Rattle.ore_course.specs.Choices.{Runner}
use Rattle.ore_course.specs.Course.{Course, Done, ◌>>=◌, forced}
use Rattle.ore_course.specs.Leading.{run, LeadsTo}
use Rattle.ore_algebra.proofs.LimitLaws.{value_from}
use Rattle.ore_algebra.proofs.ResultLaws.{same_ok, no_ok}
use Rattle.ore_course.proofs.Leads.{no_done, leads_split, worked_split, ran_split}
use Rattle.ore_rational.specs.Field.{rationals, rational_inverses}
use Rattle.ore_monomial.specs.Signature.{Signature}
use Rattle.ore_monomial.proofs.Signatures.{lawful}
use Rattle.ore_rows.specs.Arithmetic.{within}
use Rattle.ore_rows.specs.Rows.{Row, RowOf, AreLong, unit_row, identity_rows, transpose_adjoint}
use Rattle.ore_rows.proofs.RowLaws as Rows
use Rattle.ore_rows.proofs.SoundArithmetic.{within_sound}
use Rattle.ore_rows.proofs.UnitRows.{of_unit_row}
use Rattle.ore_rows.specs.declared.choices.Choice.{Choice}
use Rattle.ore_pairs.specs.Blocks.{IsValidExact}
use Rattle.ore_pairs.specs.Run.{RunState, IsComplete, begin}
use Rattle.ore_pairs.specs.RunBlocks.{exact_of_run}
use Rattle.ore_pairs.specs.Runner.{is_complete}
use Rattle.ore_pairs.proofs.CompleteStates.{tests}
use Rattle.ore_groebner.specs.RunLaws.{IsSyzygy}
use Rattle.ore_groebner.proofs.Blocks.{kernel_valid}
use Rattle.ore_groebner.proofs.BlocksOf.{of_exact_of_run}
use Rattle.ore_groebner.proofs.Holding.{Holds, wide_syzygies}
use Rattle.ore_groebner.proofs.Running.{reached_holds}
use Rattle.ore_cert.specs.CertificateOf.{IsCertificateOf}
use Rattle.ore_cert.specs.declared.certificate.Side.TheVariants.{Left, Right}
use Rattle.ore_cert.specs.declared.certificate.Certificate.{Certificate}
use Rattle.ore_cert.specs.declared.certificate.Certificate.TheVariants.{Kernel}
use Rattle.ore_parts.specs.OfSignature.{IsExactOf}
use Rattle.ore_blocks.specs.BlockOfRun.{ordered_row}
use Rattle.ore_blocks.specs.CheckBlock.{RowMatrix, row_matrix_of}
use Rattle.ore_blocks.specs.KernelCourse.{RunCourse, syzygies_of, kernel_block, RightKernel, run_on, transposed_adjoint_within, right_kernel}
use Rattle.ore_blocks.specs.Valid.{IsValidExactFor}
use Rattle.ore_blocks.proofs.StoredBlocks.{rows_of-stored, matrix_stored, exact_block-valid, exact_block-of}
use Rattle.ore_blocks.proofs.TransposedAdjoints.{adjoint_unlimited, adjoint_at_most}
use Rattle.ore_blocks.specs.Conditions.{Checked}
use Rattle.ore_blocks.specs.WithinLimits.{IsStopped}
use Rattle.ore_blocks.proofs.CheckedAtMost.{passes_or_stops}
use Rattle.ore_check.specs.Check.{check, IsNoReport}
use Rattle.ore_check.specs.Meaning.{transposed_adjoint}
use Rattle.ore_check.specs.Plans.{stored, formed_as, certified, kernel_left, kernel_right}
use Rattle.ore_check.specs.PlanLaws.{IsCorrect, FormsCorrect}
use Rattle.ore_check.specs.Reports.{program_runner}
use Rattle.ore_check.specs.Valid.{IsValid}
use Rattle.ore_check.proofs.CertificateKinds.{claims_same}
use Rattle.ore_check.proofs.Inverses.{of_adjoint_rows}
use Rattle.ore_check.proofs.KindsAtMost.{check_most}
use Rattle.ore_check.proofs.ValidKinds.{check_valid}
use Rattle.ore_check.proofs.ValidMeans.{valid_means}

-- ---- the last forced work of a course

done_same : {S X : Type 0} (x y : X) → ◌≡◌ {A = Course S X} (Done x) (Done y) → x ≡ y
done_same x y e = cc

pub formed_last : {S C X : Type 0} (R : Runner S C) (r : Result X Cause) (runs : List (List C)) (x : X) → LeadsTo R (forced {X = X} r) runs (Done x) → r ≡ Ok x
unfolding LeadsTo forced
formed_last R (Ok y) [] x h = ap Ok (done_same y x h)
formed_last R (Ok y) (cs ∷ runs) x h = absurd h
formed_last R (Err c) [] x h = absurd (no_done h)
formed_last R (Err c) (cs ∷ runs) x h = absurd h

-- the answer of a course that is done
pub done_last : {S C X : Type 0} (R : Runner S C) (y : X) (runs : List (List C)) (x : X) → LeadsTo R (Done y) runs (Done x) → y ≡ x
unfolding LeadsTo
done_last R y [] x h = done_same y x h
done_last R y (cs ∷ runs) x h = absurd h

formed_passed : {X : Type 0} (x y : X) (checked : Checked (Unit {0})) → (checked ≡ Ok tt) ⊎ IsStopped checked → formed_as x checked ≡ Ok y → (checked ≡ Ok tt) × (x ≡ y)
unfolding formed_as
formed_passed x y checked (inl e) h = (e, same_ok x y (sym (ap (formed_as x) e) ∙ h))
formed_passed x y checked (inr (place, cause, e)) h = absurd (no_ok (sym (ap (formed_as x) e) ∙ h))

module _ (s : Signature) (r : RowMatrix) (long : AreLong rationals r.cols r.rows) where
  pub formed_right : (c d : Certificate) (claims : IsNoReport c) → IsCertificateOf s c → IsValid s r c → (runs : List (List Choice)) → LeadsTo (program_runner s) (forced (formed_as c (check program s r c claims))) runs (Done d) → IsCorrect s r d
  formed_right c d claims of valid runs h =
      let passes = passes_or_stops (check program s r c claims) (check unlimited s r c claims) tt (check_most program s r c claims) ((check_valid s r c long of claims).1 valid) in
      let formed = formed_passed c d (check program s r c claims) passes (formed_last (program_runner s) (formed_as c (check program s r c claims)) runs d h) in
      subst (IsCorrect s r) formed.1 (record { of = of; valid = valid; means = valid_means s r c long of valid; accepted = λ other. ap (check program s r c) (claims_same c other claims) ∙ formed.0 })

-- ---- kernels

module _ (s : Signature) where
  pub of_units : (n : ℕ) → AllByRecursion (RowOf rationals s) (identity_rows rationals n)
  unfolding identity_rows
  of_units n = each (range_with_len 0 n)
    where
      each : (places : List ℕ) → AllByRecursion (RowOf rationals s) (map (unit_row rationals n) places)
      each [] = tt
      each (i ∷ places) = (of_unit_row rationals s n i, each places)

  -- choices lead from the beginning of a run on a to this state, which is complete
  pub record IsEndOf (a : RowMatrix) (last : RunState rationals) : Type 0 where
    pub first : RunState rationals
    pub choices : List Choice
    pub begun : begin rationals rational_inverses s.order (within program s) a.rows ≡ Ok first
    pub led : run (program_runner s) first choices ≡ Ok last
    pub over : is_complete rationals last ≡ true

  -- a course that begins with a run on a
  pub ran : {X : Type 0} (a : RowMatrix) (f : RunState rationals → RunCourse X) (runs : List (List Choice)) (x : X) → LeadsTo (program_runner s) (run_on program s a >>= f) runs (Done x)
      → (last : RunState rationals) × (rest : List (List Choice)) × IsEndOf a last × LeadsTo (program_runner s) (f last) rest (Done x)
  ran a f runs x h =
      let (first, choices, rest, last, begun, given, led, over, more) = ran_split (program_runner s) (begin rationals rational_inverses s.order (within program s) a.rows) f runs x h in
      (last, rest, record { first = first; choices = choices; begun = begun; led = led; over = over }, more)

  module _ (a : RowMatrix) (long : AreLong rationals a.cols a.rows) (of_a : AllByRecursion (RowOf rationals s) a.rows) (last : RunState rationals) (end : IsEndOf a last) where
    pub holds : Holds rationals s s.order a.cols a.rows last
    holds = reached_holds rationals rational_inverses s (lawful s) s.order a.cols a.rows long (within program s) (within_sound program s) last (end.choices, record { start = end.first; begun = end.begun; led = end.led })

    pub complete : IsComplete rationals last
    complete = tests rationals last end.over

    pub wide_generators : AreLong rationals (length a.rows) last.syzygies
    wide_generators = wide_syzygies rationals s s.order a.cols a.rows last.syzygies holds.syzygies

    pub of_generators : AllByRecursion (RowOf rationals s) last.syzygies
    of_generators = each last.syzygies holds.syzygies
      where
        each : (rows : List (Row rationals)) → AllByRecursion (IsSyzygy rationals s s.order a.cols a.rows) rows → AllByRecursion (RowOf rationals s) rows
        each [] h = tt
        each (c ∷ rows) h = (h.0.of_row of_a, each rows h.1)

    abbrev units : RowMatrix
    units = record { cols = length last.syzygies; rows = identity_rows rationals (length last.syzygies) }

    valid : IsValidExact rationals s s.order a.cols a.rows last.syzygies (exact_of_run rationals s.order a.rows last units.cols units.rows)
    valid = kernel_valid rationals s (lawful s) s.order a.cols a.rows long last holds complete

    pub kernel_block_valid : IsValidExactFor s a (syzygies_of a last) (kernel_block s a last)
    kernel_block_valid = exact_block-valid s a last units (syzygies_of a last) refl valid

    pub kernel_block_of : IsExactOf s (kernel_block s a last)
    kernel_block_of = exact_block-of s a last units (syzygies_of a last) refl valid (of_exact_of_run rationals s (lawful s) s.order a.cols a.rows of_a last holds units.cols units.rows (of_units units.cols))

  pub kernel_left_right : FormsCorrect s (kernel_left program s)
  unfolding kernel_left
  kernel_left_right r long of_r runs d h =
      let (last, rest, end, more) = ran r (λ a. certified program s r (Kernel Left (stored s (syzygies_of r a)) (kernel_block s r a)) tt) runs d h in
      formed_right s r long (Kernel Left (stored s (syzygies_of r last)) (kernel_block s r last)) d tt
      (matrix_stored s (length r.rows) last.syzygies (wide_generators r long of_r last end) (of_generators r long of_r last end), kernel_block_of r long of_r last end)
      (refl, subst (λ rows. IsValidExactFor s r (record { cols = length r.rows; rows = rows }) (kernel_block s r last)) (sym (rows_of-stored s.order (length r.rows) last.syzygies)) (kernel_block_valid r long of_r last end)) rest more

  -- ---- right kernels

  pub adjoint_within : (l : Limits) (m x : RowMatrix) → transposed_adjoint_within l s m ≡ Ok x → x ≡ transposed_adjoint s m
  adjoint_within l m x e = value_from (transposed_adjoint_within l s m) (transposed_adjoint_within unlimited s m) x (transposed_adjoint s m) (adjoint_at_most l s m) (adjoint_unlimited s m) e

  pub adjoint_value : (m x : RowMatrix) → transposed_adjoint_within program s m ≡ Ok x → x ≡ transposed_adjoint s m
  adjoint_value m x e = adjoint_within program m x e

  -- the transposed adjoint of a stored transposed adjoint
  pub adjoint_back : (m : RowMatrix) → AreLong rationals m.cols m.rows → transposed_adjoint s (row_matrix_of (stored s (transposed_adjoint s m))) ≡ m
  adjoint_back m long =
      let rows = rows_of-stored s.order (length m.rows) (transpose_adjoint rationals s m.cols m.rows) in
      ap (λ (rows : List (Row rationals)). transposed_adjoint s (record { cols = length m.rows; rows = rows })) rows
      ∙ (λ i. record { cols = Rows.length-adjoint rationals s m.cols m.rows i; rows = Rows.adjoint_twice rationals s (lawful s) m.cols m.rows long i })

  -- what a search for a right kernel finds
  pub record IsFoundRightKernel (r : RowMatrix) (k : RightKernel) : Type 0 where
    pub adjoint_is : k.adjoint ≡ transposed_adjoint s r
    pub end : IsEndOf k.adjoint k.last
    pub generators_are : k.generators ≡ transposed_adjoint s (syzygies_of k.adjoint k.last)

  pub searched : {X : Type 0} (r : RowMatrix) (f : RightKernel → RunCourse X) (runs : List (List Choice)) (x : X) → LeadsTo (program_runner s) (right_kernel program s r >>= f) runs (Done x)
      → (k : RightKernel) × (rest : List (List Choice)) × IsFoundRightKernel r k × LeadsTo (program_runner s) (f k) rest (Done x)
  unfolding right_kernel
  searched r f runs x h =
      let (k, before, after, joined, found, more) = leads_split (program_runner s) (right_kernel program s r) f runs x h in
      (k, after, found_is k before found, more)
    where
      behind : RowMatrix → RunState rationals → RunCourse RightKernel
      behind adjoint last = forced (transposed_adjoint_within program s (syzygies_of adjoint last)) >>= (λ generators. Done (record { adjoint = adjoint; last = last; generators = generators }))

      found_is : (k : RightKernel) (runs : List (List Choice)) → LeadsTo (program_runner s) (right_kernel program s r) runs (Done k) → IsFoundRightKernel r k
      found_is k runs h =
          let (adjoint, is_adjoint, h1) = worked_split (program_runner s) (transposed_adjoint_within program s r) (λ adjoint. run_on program s adjoint >>= behind adjoint) runs k h in
          let (last, rest, end, h2) = ran adjoint (behind adjoint) runs k h1 in
          let (generators, is_generators, h3) = worked_split (program_runner s) (transposed_adjoint_within program s (syzygies_of adjoint last)) (λ generators. Done (record { adjoint = adjoint; last = last; generators = generators })) rest k h2 in
          let same = done_last (program_runner s) (record { adjoint = adjoint; last = last; generators = generators }) rest k h3 in
          subst (IsFoundRightKernel r) {x = record { adjoint = adjoint; last = last; generators = generators }} same
          (record { adjoint_is = adjoint_value r adjoint is_adjoint; end = end; generators_are = adjoint_value (syzygies_of adjoint last) generators is_generators })

  module _ (r : RowMatrix) (of_r : AllByRecursion (RowOf rationals s) r.rows) (k : RightKernel) (h : IsFoundRightKernel r k) where
    pub adjoint_long : AreLong rationals k.adjoint.cols k.adjoint.rows
    adjoint_long = subst (λ (m : RowMatrix). AreLong rationals m.cols m.rows) (sym h.adjoint_is) (Rows.long_adjoint rationals s r.cols r.rows)

    pub adjoint_of_signature : AllByRecursion (RowOf rationals s) k.adjoint.rows
    adjoint_of_signature = subst (λ (m : RowMatrix). AllByRecursion (RowOf rationals s) m.rows) (sym h.adjoint_is) (of_adjoint_rows s r.cols r.rows of_r)

    pub generators_wide : AreLong rationals k.generators.cols k.generators.rows
    generators_wide = subst (λ (m : RowMatrix). AreLong rationals m.cols m.rows) (sym h.generators_are) (Rows.long_adjoint rationals s (length k.adjoint.rows) k.last.syzygies)

    pub generators_of_signature : AllByRecursion (RowOf rationals s) k.generators.rows
    generators_of_signature = subst (λ (m : RowMatrix). AllByRecursion (RowOf rationals s) m.rows) (sym h.generators_are)
        (of_adjoint_rows s (length k.adjoint.rows) k.last.syzygies (of_generators k.adjoint adjoint_long adjoint_of_signature k.last h.end))

    pub generators_count : length k.generators.rows ≡ r.cols
    generators_count =
        ap (λ (m : RowMatrix). length m.rows) h.generators_are ∙ Rows.length-adjoint rationals s (length k.adjoint.rows) k.last.syzygies
        ∙ ap (λ (m : RowMatrix). length m.rows) h.adjoint_is ∙ Rows.length-adjoint rationals s r.cols r.rows

    pub generators_back : transposed_adjoint s (row_matrix_of (stored s k.generators)) ≡ syzygies_of k.adjoint k.last
    generators_back =
        ap (λ (m : RowMatrix). transposed_adjoint s (row_matrix_of (stored s m))) h.generators_are ∙ adjoint_back (syzygies_of k.adjoint k.last) (wide_generators k.adjoint adjoint_long adjoint_of_signature k.last h.end)

  pub kernel_right_right : FormsCorrect s (kernel_right program s)
  unfolding kernel_right
  kernel_right_right r long of_r runs d h =
      let (k, rest, found, more) = searched r (λ k. certified program s r (Kernel Right (stored s k.generators) (kernel_block s k.adjoint k.last)) tt) runs d h in
      let wide = adjoint_long r of_r k found in
      let of_adjoint = adjoint_of_signature r of_r k found in
      let block = kernel_block s k.adjoint k.last in
      formed_right s r long (Kernel Right (stored s k.generators) block) d tt
      (matrix_stored s k.generators.cols k.generators.rows (generators_wide r of_r k found) (generators_of_signature r of_r k found), kernel_block_of k.adjoint wide of_adjoint k.last found.end) (
        length-map k.generators.rows (ordered_row s.order) ∙ generators_count r of_r k found,
        subst (λ a. IsValidExactFor s a (transposed_adjoint s (row_matrix_of (stored s k.generators))) block) found.adjoint_is
            (subst (λ m. IsValidExactFor s k.adjoint m block) (sym (generators_back r of_r k found)) (kernel_block_valid k.adjoint wide of_adjoint k.last found.end)),
      ) rest more
