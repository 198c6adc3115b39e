-- The first basis of a run.
--     begin_none, begin_some     a row that is zero, and one that isn't
--     with_basis_row_stops, with_basis_row_gives   one more basis row
--     begun_entries, monic_fits    what is kept still fits together
--     begun_first                the number of rows that is kept
--     drop_at                    a list from a place in it on
--     rows_start, rows_next, rows_stop, rows_end     the rows from a place on
--     empty_fits                 before the first row
use Rattle.std.proofs.Common.{◌≡◌, ℕ, suc, ◌≤◌, ◌+◌, List, [], ◌∷◌, ◌++◌, length, map, drop, refl, sym, ap, ◌∙◌, subst, arith}
use Rattle.std.specs.List.{All, slice_get}
use Rattle.std.specs.declared.option.Option.{Option}
use Rattle.std.specs.declared.option.Option.TheVariants.{None, Some}
use Rattle.std.specs.declared.result.Result.{Result}
use Rattle.std.specs.declared.result.Result.TheVariants.{Ok, Err}
use Rattle.std.proofs.lemmas.List.Elements.{All-nil}
use Rattle.std.proofs.lemmas.Option.{get_or_from_slice_get, slice_get_within}
use Rattle.std.proofs.lemmas.List.{drop_all}
use Rattle.std.proofs.Math.Seq.{drop-cons}
use Rattle.ore_algebra.specs.Limits.{Cause, program, ◌>>=◌}
use Rattle.ore_rational.specs.Field.{rationals, rational_inverses}
use Rattle.ore_monomial.specs.Signature.{Signature}
use Rattle.ore_monomial.specs.Term.{Term}
use Rattle.ore_ring.specs.Belongs.{Belongs}
use Rattle.ore_ring.specs.Ordered.{Ordered}
use Rattle.ore_rows.specs.Arithmetic.{within}
use Rattle.ore_rows.specs.Reduction.{BasisRow}
use Rattle.ore_rows.specs.RowLead.{row_lead}
use Rattle.ore_rows.specs.Rows.{Row, unit_row}
use Rattle.ore_pairs.specs.PairRule.{is_listed}
use Rattle.ore_pairs.specs.PairList.{pairs_of}
use Rattle.ore_pairs.specs.Run.{RunState, monic_multiple}
use Rattle.ore_pairs.specs.Run as run
use Rattle.ore_rows.specs.Stored.{sums_of}
use Rattle.ore_rows.specs.StoredBasis.{StoredBasis, BasisBelongs, monics}
use Rattle.ore_rows.specs.declared.choices.Origin.TheVariants as origin
use Rattle.ore_groebner.specs.RunProgress.{entries_from, new_rows, basis_with, with_basis_row, run_state, IsBegun, IsProgressOf}
use Rattle.ore_groebner.specs.declared.progress.Progress.{Progress}

module _ (s : Signature) (q k : ℕ) (r : Row rationals) (st : RunState rationals) where
  abbrev begun : Result (RunState rationals) Cause
  begun = run.begin_row rationals rational_inverses s.order (within program s) q k r st

  pub begin_none : row_lead rationals s.order r ≡ None → begun ≡ Ok (record st { syzygies = st.syzygies ++ unit_row rationals q k ∷ []; origins = st.origins ++ origin.ZeroRow k ∷ [] })
  unfolding run.begin_row
  begin_none e = ap (λ (x : Option Term). elim x [ None ↦ Ok (record st { syzygies = st.syzygies ++ unit_row rationals q k ∷ []; origins = st.origins ++ origin.ZeroRow k ∷ [] }) | Some t ↦ with_basis_row st (monic_multiple rationals rational_inverses (within program s) r (unit_row rationals q k) t) ]) e

  pub begin_some : (t : Term) → row_lead rationals s.order r ≡ Some t → begun ≡ with_basis_row st (monic_multiple rationals rational_inverses (within program s) r (unit_row rationals q k) t)
  unfolding run.begin_row
  begin_some t e = ap (λ (x : Option Term). elim x [ None ↦ Ok (record st { syzygies = st.syzygies ++ unit_row rationals q k ∷ []; origins = st.origins ++ origin.ZeroRow k ∷ [] }) | Some t ↦ with_basis_row st (monic_multiple rationals rational_inverses (within program s) r (unit_row rationals q k) t) ]) e

-- ---- one more basis row

pub with_basis_row_stops : (st : RunState rationals) (made : Result (BasisRow (Row rationals)) Cause) (c : Cause) → basis_with st.basis made ≡ Err c → with_basis_row st made ≡ Err c
with_basis_row_stops st (Ok b) c e = absurd (ok_is_err e)
  where
    ok_is_err : {A : Type 0} {x : A} → ◌≡◌ {A = Result A Cause} (Ok x) (Err c) → ⊥
    ok_is_err e = cc
with_basis_row_stops st (Err d) c e = ap Err (same_err d c e)
  where
    same_err : (x y : Cause) → ◌≡◌ {A = Result (List (BasisRow (Row rationals))) Cause} (Err x) (Err y) → x ≡ y
    same_err x y e = cc

pub with_basis_row_gives : (st : RunState rationals) (made : Result (BasisRow (Row rationals)) Cause) (bs : List (BasisRow (Row rationals))) → basis_with st.basis made ≡ Ok bs → with_basis_row st made ≡ Ok (record st { basis = bs })
with_basis_row_gives st (Err d) bs e = absurd (err_is_ok e)
  where
    err_is_ok : {A : Type 0} {x : A} → ◌≡◌ {A = Result A Cause} (Err d) (Ok x) → ⊥
    err_is_ok e = cc
with_basis_row_gives st (Ok b) bs e = ap (λ bs. Ok (record st { basis = bs })) (same_ok _ _ e)
  where
    same_ok : (x y : List (BasisRow (Row rationals))) → ◌≡◌ {A = Result (List (BasisRow (Row rationals))) Cause} (Ok x) (Ok y) → x ≡ y
    same_ok x y e = cc

-- ---- what is kept

no_entries : (n : ℕ) → entries_from n [] ≡ []
unfolding entries_from
no_entries n = refl

none_new : new_rows [] ≡ 0
unfolding new_rows
none_new = refl

pub begun_entries : (p : Progress) (n : ℕ) → IsBegun p → entries_from n p.events.items ≡ []
begun_entries p n b = ap (entries_from n) b.events ∙ no_entries n

pub monic_fits : (s : Signature) (q : Progress) → IsBegun q → q.first ≡ length q.basis.items → BasisBelongs s q.basis.items → All (λ r. length r ≡ q.basis.width) q.syzygies.items → All (All (Belongs s)) q.syzygies.items → IsProgressOf s q
monic_fits s q begun first belongs wide of = record {
  belongs = belongs;
  listed = λ x y. ap (is_listed x y) begun.listed ∙ ap (λ es. is_listed x y (pairs_of es)) (sym (begun_entries q q.first begun));
  counted = counts (length q.basis.items) q.first (new_rows q.events.items) first (ap new_rows begun.events ∙ none_new);
  wide = wide;
  of = of;
}
  where
    counts : (a f n : ℕ) → f ≡ a → n ≡ 0 → a ≡ f + n
    counts a f n h k = omega arith

-- what a run begins with counts the rows of its basis
pub begun_first : (s : Signature) (p : Progress) → IsProgressOf s p → IsBegun p → p.first ≡ length p.basis.items
begun_first s p fits begun = counts (length p.basis.items) p.first (new_rows p.events.items) fits.counted (ap new_rows begun.events ∙ none_new)
  where
    counts : (a f n : ℕ) → a ≡ f + n → n ≡ 0 → f ≡ a
    counts a f n h k = omega arith

-- ---- the rows from a place on

pub drop_at : {A : Type 0} (xs : List A) (k : ℕ) (x : A) → slice_get xs k ≡ Some x → drop k xs ≡ x ∷ drop (suc k) xs
drop_at xs k x e = drop-cons xs k x (slice_get_within xs k x e) ∙ ap (λ y. y ∷ drop (suc k) xs) (get_or_from_slice_get xs k x x e)

module _ (s : Signature) (rows : List (Row rationals)) where
  abbrev begin_at : ℕ → ℕ → List (Row rationals) → RunState rationals → Result (RunState rationals) Cause
  begin_at q k rs st = run.begin_rows rationals rational_inverses s.order (within program s) q k rs st

  pub rows_end : (q k : ℕ) (st : RunState rationals) → length rows ≤ k → begin_at q k (drop k rows) st ≡ Ok st
  unfolding run.begin_rows
  rows_end q k st h = ap (λ rs. begin_at q k rs st) (drop_all k rows h)

  pub rows_next : (q k : ℕ) (r : Row rationals) (st next : RunState rationals) → slice_get rows k ≡ Some r → run.begin_row rationals rational_inverses s.order (within program s) q k r st ≡ Ok next → begin_at q k (drop k rows) st ≡ begin_at q (k + 1) (drop (k + 1) rows) next
  unfolding run.begin_rows
  rows_next q k r st next e f =
      let z : suc k ≡ k + 1 = omega arith in
      ap (λ rs. begin_at q k rs st) (drop_at rows k r e) ∙ (λ n. f n >>= λ st. begin_at q (suc k) (drop (suc k) rows) st) ∙ ap (λ m. begin_at q m (drop m rows) next) z

  pub rows_stop : (q k : ℕ) (r : Row rationals) (st : RunState rationals) (c : Cause) → slice_get rows k ≡ Some r → run.begin_row rationals rational_inverses s.order (within program s) q k r st ≡ Err c → begin_at q k (drop k rows) st ≡ Err c
  unfolding run.begin_rows
  rows_stop q k r st c e f = ap (λ rs. begin_at q k rs st) (drop_at rows k r e) ∙ (λ n. f n >>= λ st. begin_at q (suc k) (drop (suc k) rows) st)

  pub rows_start : (p : Progress) → monics p.basis ≡ [] → IsBegun p → p.syzygies.items ≡ [] → p.origins.items ≡ [] → run.begin rationals rational_inverses s.order (within program s) rows ≡ begin_at (length rows) 0 (drop 0 rows) (run_state p)
  unfolding run.begin
  rows_start p basis begun syzygies origins = λ n. begin_at (length rows) 0 rows (record { basis = sym basis n; listed = sym (begun_entries p p.first begun) n; syzygies = map sums_of (sym syzygies n); origins = sym origins n })

pub empty_fits : (s : Signature) (p : Progress) (n m : ℕ) → p.basis ≡ record { cols = n; width = m; items = [] } → p.first ≡ 0 → IsBegun p → p.syzygies.items ≡ [] → IsProgressOf s p
empty_fits s p n m basis first begun syzygies = monic_fits s p begun (first ∙ ap (λ (b : StoredBasis). length b.items) (sym basis)) (subst (λ (b : StoredBasis). BasisBelongs s b.items) (sym basis) (All-nil _)) (subst (All (λ (r : List Ordered). length r ≡ p.basis.width)) (sym syzygies) (All-nil _)) (subst (All (All (Belongs s))) (sym syzygies) (All-nil _))
