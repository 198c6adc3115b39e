-- The code that finds links follows its course.
--     last_pushed, before_pushed     the last two matrices with one link more
--     fits_pushed            the last of them has a column for each row of the one before
--     link_is                the link that a run makes, as it is stored
--     begun, taken           before the first link; before one link more
--     link_halts, link_found that link halts; it is found
--     all_found              behind the last link
--     resolve_halts, ext_links_halt     the plans halt where their links do
--     resolve_found          the links of plan resolve are found
--     ext_halts, ext_answered     what plan ext does behind its links halts, or answers
--     resolved_right, extended_right     what the plans form is right
use Rattle.std.proofs.Common.{◌≡◌, ℕ, suc, ◌+◌, ◌-◌, ◌<◌, ◌≤◌, Bool, List, [], ◌∷◌, ◌++◌, length, refl, sym, ap, ◌∙◌, subst, arith}
use Rattle.std.proofs.lemmas.List.{length-append}
use Rattle.ore_algebra.specs.Limits.{program}
use Rattle.ore_course.specs.Choices.{Runner}
use Rattle.ore_course.specs.Course.{◌>>=◌}
use Rattle.ore_course.specs.Following.{Follows}
use Rattle.ore_course.specs.Leading.{Rule}
use Rattle.ore_course.proofs.Calls.{started, called, called_last}
use Rattle.ore_rational.specs.Field.{rationals}
use Rattle.ore_monomial.specs.Signature.{Signature}
use Rattle.ore_rows.specs.BasisLeads.{BasisLeads}
use Rattle.ore_rows.specs.Stored.{OperatorMatrix, rows_of}
use Rattle.ore_rows.specs.declared.choices.Choice.{Choice}
use Rattle.ore_pairs.specs.Reached.{rule_of}
use Rattle.ore_pairs.specs.Run.{RunState}
use Rattle.ore_pairs.specs.Runner.{runner_within}
use Rattle.ore_parts.specs.OfSignature.{MatrixOf}
use Rattle.ore_parts.specs.declared.block.ExactBlock.{ExactBlock}
use Rattle.ore_parts.specs.declared.block.Link.{Link}
use Rattle.ore_cert.specs.EachKind.{IsLength}
use Rattle.ore_cert.specs.declared.certificate.Certificate.{Certificate}
use Rattle.ore_cert.specs.declared.certificate.Certificate.TheVariants.{Resolution as Resolved}
use Rattle.ore_blocks.specs.CheckBlock.{row_matrix_of}
use Rattle.ore_blocks.specs.KernelCourse.{RunCourse, syzygies_of, run_on}
use Rattle.ore_blocks.proofs.Converted.{wide_rows, rows_are_of}
use Rattle.ore_groebner.specs.Choosing.{Settings}
use Rattle.ore_groebner.specs.Courses.{last_of, FollowsTo, HaltsIn}
use Rattle.ore_groebner.specs.Honest.{IsHonestRun}
use Rattle.ore_groebner.specs.declared.outcome.Finished.{Finished}
use Rattle.ore_groebner.specs.declared.outcome.Halt.{Halt}
use Rattle.ore_groebner.proofs.EngineCalls.{call_halts, call_halts_last}
use Rattle.ore_check.specs.InnerContracts.{matrix_before}
use Rattle.ore_check.specs.PlanLaws.{IsCorrect}
use Rattle.ore_check.specs.Plans.{Resolution, next_link, links, resolution, resolve, extension, ext, certified}
use Rattle.ore_check.proofs.FormedExtensions.{ext_right}
use Rattle.ore_check.proofs.FormedResolutions.{resolve_right, stored_back}
use Rattle.ore_kernels.specs.KernelPlans.{IsKernelBlockOf}
use Rattle.ore_inverse.proofs.FoundInverses.{stored_is}
use Rattle.ore_syzygy.proofs.RunKernels.{syzygies_width}
use Rattle.ore_resolution.specs.Stored.{resolution_of, link_of, IsNextLink}

pub last_pushed : (r : OperatorMatrix) (ks : List Link) (x : Link) → matrix_before r (ks ++ x ∷ []) (length (ks ++ x ∷ [])) ≡ x.l
unfolding matrix_before
last_pushed r [] x = refl
last_pushed r (k ∷ ks) x = last_pushed k.l ks x

pub before_pushed : (r : OperatorMatrix) (ks : List Link) (x : Link) → matrix_before r (ks ++ x ∷ []) (length (ks ++ x ∷ []) - 1) ≡ matrix_before r ks (length ks)
unfolding matrix_before
before_pushed r [] x = refl
before_pushed r (k ∷ ks) x =
    let many = length-append ks (x ∷ []) in
    let same : suc (length (ks ++ x ∷ [])) - 1 ≡ suc (length (ks ++ x ∷ []) - 1) = omega (arith, many) in
    ap (matrix_before r (k ∷ (ks ++ x ∷ []))) same ∙ before_pushed k.l ks x

pub fits_pushed : (r : OperatorMatrix) (ks : List Link) (x : Link) (more : List Link) → more ≡ ks ++ x ∷ [] → (last : OperatorMatrix) → last ≡ matrix_before r ks (length ks) → x.l.cols ≡ length last.rows
    → (matrix_before r more (length more)).cols ≡ length (matrix_before r more (length more - 1)).rows
fits_pushed r ks x more pushed last last_is fits =
    subst (λ (more : List Link). (matrix_before r more (length more)).cols ≡ length (matrix_before r more (length more - 1)).rows) (sym pushed)
    (ap (λ (m : OperatorMatrix). m.cols) (last_pushed r ks x) ∙ fits ∙ ap (λ (m : OperatorMatrix). length m.rows) (last_is ∙ sym (before_pushed r ks x)))

module _ (s : Signature) where
  pub link_is : (a : OperatorMatrix) (f : Finished) (choices : List Choice) (block : ExactBlock) → IsHonestRun s a choices f → IsKernelBlockOf s f block → record { l = f.syzygies; block = block } ≡ link_of s (row_matrix_of a) (last_of f)
  link_is a f choices block honest shown = λ i. record { l = sym (stored_is s f.syzygies (length (rows_of a)) honest.syzygies_of (syzygies_width s f a choices honest)) i; block = shown a choices honest i }

  next_is : (r : OperatorMatrix) (ks : List Link) (st : RunState rationals)
      → next_link s (resolution_of r ks) st ≡ resolution_of r (ks ++ link_of s (row_matrix_of (matrix_before r ks (length ks))) st ∷ [])
  next_is r ks st =
      let link = link_of s (row_matrix_of (matrix_before r ks (length ks))) st in
      λ i. record {
        links = ks ++ link ∷ [];
        before = row_matrix_of (sym (before_pushed r ks link) i);
        last = (sym (stored_back s (syzygies_of (row_matrix_of (matrix_before r ks (length ks))) st)) ∙ ap row_matrix_of (sym (last_pushed r ks link))) i;
      }

  module _ (allows : BasisLeads → List (ℕ × ℕ) → Choice → Bool) (allows_spent : BasisLeads → List (ℕ × ℕ) → Bool) where
    abbrev runner : Runner (RunState rationals) Choice
    runner = runner_within program s

    abbrev rule : Rule (RunState rationals) Choice
    rule = rule_of s allows allows_spent

    module _ (r : OperatorMatrix) (n : ℕ) (before : List (List Choice)) where
      abbrev course : RunCourse Resolution
      course = resolution program s n (row_matrix_of r)

      at_first : Follows runner rule course before before (links program s n (resolution_of r []))
      unfolding matrix_before
      at_first = started runner rule course before

      pub begun : (ks : List Link) → ks ≡ [] → Follows runner rule course before before (links program s (n - 0) (resolution_of r ks))
      begun ks none =
          subst (λ (ks : List Link). Follows runner rule course before before (links program s (n - 0) (resolution_of r ks))) (sym none)
          (subst (λ m. Follows runner rule course before before (links program s m (resolution_of r []))) (let all : n ≡ n - 0 = omega arith in all) at_first)

      pub all_found : (given : List (List Choice)) (k : ℕ) (ks all : List Link) → all ≡ ks → n ≤ k → Follows runner rule course before given (links program s (n - k) (resolution_of r ks)) → FollowsTo s allows allows_spent course before given (resolution_of r all)
      unfolding links
      all_found given k ks all is h led =
          subst (λ (ks : List Link). FollowsTo s allows allows_spent course before given (resolution_of r ks)) (sym is)
          (subst (λ m. Follows runner rule course before given (links program s m (resolution_of r ks))) (let none : n - k ≡ 0 = omega (arith, h) in none) led)

      module _ (mid : List (List Choice)) (k : ℕ) (ks : List Link) (less : k < n) (led : Follows runner rule course before mid (links program s (n - k) (resolution_of r ks))) (last : OperatorMatrix) (last_is : last ≡ matrix_before r ks (length ks)) where
        abbrev more : RunState rationals → RunCourse Resolution
        more st = links program s (n - (k + 1)) (next_link s (resolution_of r ks) st)

        taken : Follows runner rule course before mid (run_on program s (row_matrix_of (matrix_before r ks (length ks))) >>= more)
        unfolding links
        taken = subst (λ m. Follows runner rule course before mid (links program s m (resolution_of r ks))) (let one : n - k ≡ suc (n - (k + 1)) = omega (arith, less) in one) led

        taken_last : Follows runner rule course before mid (run_on program s (row_matrix_of last) >>= more)
        taken_last = subst (λ (m : OperatorMatrix). Follows runner rule course before mid (run_on program s (row_matrix_of m) >>= more)) (sym last_is) taken

        pub link_halts : (given : List (List Choice)) (settings : Settings) (halt : Halt) → HaltsIn s allows allows_spent (run_on program s (row_matrix_of last)) mid given settings halt → HaltsIn s allows allows_spent course before given settings halt
        link_halts given settings halt h = call_halts s allows allows_spent given settings (run_on program s (row_matrix_of last)) more halt h taken_last

        pub link_found : (given : List (List Choice)) (x : Link) → IsNextLink s allows allows_spent (row_matrix_of last) mid given x → (more_links : List Link) → more_links ≡ ks ++ x ∷ []
            → Follows runner rule course before given (links program s (n - (k + 1)) (resolution_of r more_links))
        link_found given x (st, h, same) more_links pushed =
            let is : x ≡ link_of s (row_matrix_of (matrix_before r ks (length ks))) st = same ∙ ap (λ (m : OperatorMatrix). link_of s (row_matrix_of m) st) last_is in
            subst (λ (y : Resolution). Follows runner rule course before given (links program s (n - (k + 1)) y))
            (next_is r ks st ∙ ap (λ (y : Link). resolution_of r (ks ++ y ∷ [])) (sym is) ∙ ap (resolution_of r) (sym pushed)) (called runner rule (run_on program s (row_matrix_of last)) st more h taken_last)

    -- ---- the plans

    module _ (r : OperatorMatrix) (n : ℕ) (before : List (List Choice)) where
      abbrev behind_resolve : Resolution → RunCourse Certificate
      behind_resolve x = certified program s (row_matrix_of r) (Resolved x.links) tt

      resolve_begun : Follows runner rule (resolve program s n (row_matrix_of r)) before before (resolution program s n (row_matrix_of r) >>= behind_resolve)
      unfolding resolve
      resolve_begun = started runner rule (resolve program s n (row_matrix_of r)) before

      pub resolve_halts : (given : List (List Choice)) (settings : Settings) (halt : Halt) → HaltsIn s allows allows_spent (resolution program s n (row_matrix_of r)) before given settings halt → HaltsIn s allows allows_spent (resolve program s n (row_matrix_of r)) before given settings halt
      resolve_halts given settings halt h = call_halts s allows allows_spent given settings (resolution program s n (row_matrix_of r)) behind_resolve halt h resolve_begun

      pub resolve_found : (given : List (List Choice)) (x : Resolution) → FollowsTo s allows allows_spent (resolution program s n (row_matrix_of r)) before given x
          → Follows runner rule (resolve program s n (row_matrix_of r)) before given (certified program s (row_matrix_of r) (Resolved x.links) tt)
      resolve_found given x h = called runner rule (resolution program s n (row_matrix_of r)) x behind_resolve h resolve_begun

      ext_begun : Follows runner rule (ext program s n (row_matrix_of r)) before before (resolution program s n (row_matrix_of r) >>= extension program s (row_matrix_of r))
      unfolding ext
      ext_begun = started runner rule (ext program s n (row_matrix_of r)) before

      pub ext_links_halt : (given : List (List Choice)) (settings : Settings) (halt : Halt) → HaltsIn s allows allows_spent (resolution program s n (row_matrix_of r)) before given settings halt → HaltsIn s allows allows_spent (ext program s n (row_matrix_of r)) before given settings halt
      ext_links_halt given settings halt h = call_halts s allows allows_spent given settings (resolution program s n (row_matrix_of r)) (extension program s (row_matrix_of r)) halt h ext_begun

      module _ (mid : List (List Choice)) (x : Resolution) (h : FollowsTo s allows allows_spent (resolution program s n (row_matrix_of r)) before mid x) where
        ext_found : Follows runner rule (ext program s n (row_matrix_of r)) before mid (extension program s (row_matrix_of r) x)
        ext_found = called runner rule (resolution program s n (row_matrix_of r)) x (extension program s (row_matrix_of r)) h ext_begun

        pub ext_halts : (given : List (List Choice)) (settings : Settings) (halt : Halt) → HaltsIn s allows allows_spent (extension program s (row_matrix_of r) x) mid given settings halt → HaltsIn s allows allows_spent (ext program s n (row_matrix_of r)) before given settings halt
        ext_halts given settings halt k = call_halts_last s allows allows_spent given settings (extension program s (row_matrix_of r) x) halt k ext_found

        pub ext_answered : (given : List (List Choice)) (c : Certificate) → FollowsTo s allows allows_spent (extension program s (row_matrix_of r) x) mid given c → FollowsTo s allows allows_spent (ext program s n (row_matrix_of r)) before given c
        ext_answered given c k = called_last runner rule (extension program s (row_matrix_of r) x) c k ext_found

      -- ---- what they form

      module _ (few : IsLength n) (of : MatrixOf s r) (given : List (List Choice)) (c : Certificate) where
        pub resolved_right : FollowsTo s allows allows_spent (resolve program s n (row_matrix_of r)) before given c → IsCorrect s (row_matrix_of r) c
        resolved_right h = resolve_right s n few (row_matrix_of r) (wide_rows s r of) (rows_are_of s r of) h.added c h.leads

        pub extended_right : FollowsTo s allows allows_spent (ext program s n (row_matrix_of r)) before given c → IsCorrect s (row_matrix_of r) c
        extended_right h = ext_right s n few (row_matrix_of r) (wide_rows s r of) (rows_are_of s r of) h.added c h.leads
