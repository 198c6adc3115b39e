-- Certificates that plan resolve forms.
--     valid_push            one link more
--     IsSoFar               a resolution so far: its links are valid and of the signature, and resolve r
--     IsBehind              its last matrix takes the one before to zeros
--     started, extended     so it is before the first link, and with one link more
--     links_extend, links_stand_behind    so it is with more links
--     resolve_right         plan resolve forms certificates that are right
use Rattle.std.proofs.Common.{◌≡◌, ℕ, zero, suc, ◌+◌, List, [], ◌∷◌, ◌++◌, length, refl, sym, ap, subst, arith}
use Rattle.std.specs.List.{All, AllByRecursion}
use Rattle.std.proofs.lemmas.List.{length-append}
use Rattle.std.proofs.lemmas.List.Elements.{All-nil, All-push}
use Rattle.ore_algebra.specs.Limits.{program}
use Rattle.ore_course.specs.Course.{Done}
use Rattle.ore_course.specs.Leading.{LeadsTo}
use Rattle.ore_course.proofs.Leads.{leads_split}
use Rattle.ore_rational.specs.Field.{rationals}
use Rattle.ore_monomial.specs.Signature.{Signature}
use Rattle.ore_rows.specs.Rows.{RowOf, AreLong, zero_row, combine}
use Rattle.ore_rows.specs.declared.choices.Choice.{Choice}
use Rattle.ore_pairs.specs.Run.{RunState}
use Rattle.ore_groebner.proofs.Holding.{vanishing}
use Rattle.ore_cert.specs.EachKind.{IsLength}
use Rattle.ore_cert.specs.declared.certificate.Certificate.TheVariants.{Resolution as Resolved}
use Rattle.ore_parts.specs.OfSignature.{IsLinkOf}
use Rattle.ore_parts.specs.declared.block.Link.{Link}
use Rattle.ore_blocks.specs.CheckBlock.{RowMatrix, row_matrix_of}
use Rattle.ore_blocks.specs.KernelCourse.{syzygies_of, kernel_block}
use Rattle.ore_blocks.specs.Valid.{IsValidExactFor}
use Rattle.ore_blocks.proofs.StoredBlocks.{rows_of-stored, matrix_stored}
use Rattle.ore_check.specs.Plans.{Resolution, stored, certified, next_link, links, resolution, resolve}
use Rattle.ore_check.specs.PlanLaws.{FormsCorrect}
use Rattle.ore_check.specs.Reports.{program_runner}
use Rattle.ore_check.specs.Valid.{AreValidLinks}
use Rattle.ore_check.proofs.FormedKernels.{formed_right, done_last, IsEndOf, ran, holds, wide_generators, of_generators, kernel_block_valid, kernel_block_of}

module _ (s : Signature) where
  -- one link more, for the last matrix
  valid_push : (before r : RowMatrix) (ks : List Link) (k : Link) (P Q : RowMatrix → RowMatrix → Type 0) → AreValidLinks s before r ks P
      → ((b last : RowMatrix) → P b last → (k.l.cols ≡ length last.rows) × IsValidExactFor s last (row_matrix_of k.l) k.block × Q last (row_matrix_of k.l)) → AreValidLinks s before r (ks ++ k ∷ []) Q
  valid_push before r [] k P Q h more = more before r h
  valid_push before r (x ∷ ks) k P Q (wide, valid, h) more = (wide, valid, valid_push r (row_matrix_of x.l) ks k P Q h more)

  pub valid_weaker : (before r : RowMatrix) (ks : List Link) (P Q : RowMatrix → RowMatrix → Type 0) → AreValidLinks s before r ks P → ((b last : RowMatrix) → P b last → Q b last) → AreValidLinks s before r ks Q
  valid_weaker before r [] P Q h more = more before r h
  valid_weaker before r (x ∷ ks) P Q (wide, valid, h) more = (wide, valid, valid_weaker r (row_matrix_of x.l) ks P Q h more)

  -- a stored matrix is what it was
  pub stored_back : (m : RowMatrix) → row_matrix_of (stored s m) ≡ m
  stored_back m = λ i. record { cols = m.cols; rows = rows_of-stored s.order m.cols m.rows i }

  -- these are the last two matrices
  abbrev pub AreLast : Resolution → RowMatrix → RowMatrix → Type 0
  AreLast x before last = (before ≡ x.before) × (last ≡ x.last)

  pub record IsSoFar (r : RowMatrix) (x : Resolution) : Type 0 where
    pub long : AreLong rationals x.last.cols x.last.rows
    pub of_last : AllByRecursion (RowOf rationals s) x.last.rows
    pub long_before : AreLong rationals x.before.cols x.before.rows
    pub of_before : AllByRecursion (RowOf rationals s) x.before.rows
    pub links_of : All (IsLinkOf s) x.links
    pub valid : AreValidLinks s r r x.links (AreLast x)

  pub record IsBehind (x : Resolution) : Type 0 where
    pub fits : x.last.cols ≡ length x.before.rows
    pub vanishes : AllByRecursion (λ c. combine rationals s x.before.cols c x.before.rows ≡ zero_row rationals x.before.cols) x.last.rows

  pub started : (r : RowMatrix) → AreLong rationals r.cols r.rows → AllByRecursion (RowOf rationals s) r.rows → IsSoFar r (record { links = []; before = r; last = r })
  started r long of_r = record { long = long; of_last = of_r; long_before = long; of_before = of_r; links_of = All-nil (IsLinkOf s); valid = (refl, refl) }

  module _ (r : RowMatrix) (x : Resolution) (h : IsSoFar r x) (a : RunState rationals) (end : IsEndOf s x.last a) where
    abbrev new_link : Link
    new_link = record { l = stored s (syzygies_of x.last a); block = kernel_block s x.last a }

    extended : IsSoFar r (next_link s x a)
    extended = record {
      long = wide_generators s x.last h.long h.of_last a end;
      of_last = of_generators s x.last h.long h.of_last a end;
      long_before = h.long;
      of_before = h.of_last;
      links_of = All-push (IsLinkOf s) x.links new_link h.links_of
          (record { l = matrix_stored s (length x.last.rows) a.syzygies (wide_generators s x.last h.long h.of_last a end) (of_generators s x.last h.long h.of_last a end); block = kernel_block_of s x.last h.long h.of_last a end });
      valid = valid_push r r x.links new_link (AreLast x) (AreLast (next_link s x a)) h.valid (λ b last e. link_fits last e.1);
    }
      where
        back : row_matrix_of (stored s (syzygies_of x.last a)) ≡ syzygies_of x.last a
        back = stored_back (syzygies_of x.last a)

        link_fits : (last : RowMatrix) → last ≡ x.last → (length x.last.rows ≡ length last.rows) × IsValidExactFor s last (row_matrix_of new_link.l) new_link.block × AreLast (next_link s x a) last (row_matrix_of new_link.l)
        link_fits last e = (
          ap (λ (m : RowMatrix). length m.rows) (sym e),
          subst (λ m. IsValidExactFor s m (row_matrix_of new_link.l) new_link.block) (sym e) (subst (λ m. IsValidExactFor s x.last m new_link.block) (sym back) (kernel_block_valid s x.last h.long h.of_last a end)),
          (e, back),
        )

    stands_behind : IsBehind (next_link s x a)
    stands_behind = record { fits = refl; vanishes = vanishing rationals s s.order x.last.cols x.last.rows a.syzygies (holds s x.last h.long h.of_last a end).syzygies }

  pub links_extend : (r : RowMatrix) (count : ℕ) (x y : Resolution) → IsSoFar r x → (runs : List (List Choice)) → LeadsTo (program_runner s) (links program s count x) runs (Done y) → IsSoFar r y × (length y.links ≡ length x.links + count)
  unfolding links
  links_extend r zero x y h runs e = subst (λ z. IsSoFar r z × (length z.links ≡ length x.links + 0)) (done_last (program_runner s) x runs y e) (h, omega arith)
  links_extend r (suc count) x y h runs e =
      let (a, rest, end, more) = ran s x.last (λ a. links program s count (next_link s x a)) runs y e in
      let (so_far, many) = links_extend r count (next_link s x a) y (extended r x h a end) rest more in
      let added = length-append x.links (new_link r x h a end ∷ []) in
      (so_far, omega (arith, many, added))

  links_keep : (r : RowMatrix) (count : ℕ) (x y : Resolution) → IsSoFar r x → IsBehind x → (runs : List (List Choice)) → LeadsTo (program_runner s) (links program s count x) runs (Done y) → IsBehind y
  unfolding links
  links_keep r zero x y h b runs e = subst IsBehind (done_last (program_runner s) x runs y e) b
  links_keep r (suc count) x y h b runs e =
      let (a, rest, end, more) = ran s x.last (λ a. links program s count (next_link s x a)) runs y e in
      links_keep r count (next_link s x a) y (extended r x h a end) (stands_behind r x h a end) rest more

  -- one link or more
  pub links_stand_behind : (r : RowMatrix) (count : ℕ) (x y : Resolution) → IsSoFar r x → (runs : List (List Choice)) → LeadsTo (program_runner s) (links program s (suc count) x) runs (Done y) → IsBehind y
  unfolding links
  links_stand_behind r count x y h runs e =
      let (a, rest, end, more) = ran s x.last (λ a. links program s count (next_link s x a)) runs y e in
      links_keep r count (next_link s x a) y (extended r x h a end) (stands_behind r x h a end) rest more

  -- what stands before anything else that is done with a resolution
  pub resolved : (k : ℕ) (r : RowMatrix) → AreLong rationals r.cols r.rows → AllByRecursion (RowOf rationals s) r.rows → (runs : List (List Choice)) (x : Resolution) → LeadsTo (program_runner s) (resolution program s k r) runs (Done x)
      → IsSoFar r x × (length x.links ≡ k)
  resolved k r long of_r runs x h =
      let (so_far, many) = links_extend r k (record { links = []; before = r; last = r }) x (started r long of_r) runs h in
      (so_far, omega (arith, many))

  pub resolve_right : (k : ℕ) → IsLength k → FormsCorrect s (resolve program s k)
  unfolding resolve
  resolve_right k few r long of_r runs d h =
      let (x, before, after, joined, found, more) = leads_split (program_runner s) (resolution program s k r) (λ x. certified program s r (Resolved x.links) tt) runs d h in
      let (so_far, many) = resolved k r long of_r before x found in
      formed_right s r long (Resolved x.links) d tt (record { count = subst IsLength (sym many) few; all = so_far.links_of }) (valid_weaker r r x.links (AreLast x) (λ before last. Unit {0}) so_far.valid (λ b last e. tt)) after more
