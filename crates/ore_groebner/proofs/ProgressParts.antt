-- What is kept of a run, with one more event.
--     unless_zero-zero, unless_zero-row    a cofactor row that is zero, and one that isn't
--     new_rows-push, entries_from-push, choices_push     one more event
--     length-entries_from, pairs_of-entries_from     there is an entry for each event, with the pair of its choice
--     entry_zero, entry_row, entry_skip     its entry
--     fits_more                  what is kept still fits together
use Rattle.std.proofs.Common.{◌≡◌, ℕ, suc, ◌+◌, List, [], ◌∷◌, ◌++◌, length, map, refl, sym, ap, ◌∙◌, subst, arith}
use Rattle.std.specs.Prelude.{◌&&◌, ◌||◌, nat_eq}
use Rattle.std.specs.List.{All}
use Rattle.std.specs.declared.result.Result.{Result}
use Rattle.std.specs.declared.result.Result.TheVariants.{Ok, Err}
use Rattle.std.specs.declared.option.Option.{Option}
use Rattle.std.specs.declared.option.Option.TheVariants.{None, Some}
use Rattle.std.proofs.lemmas.List.{map-append}
use Rattle.std.proofs.lemmas.List.Elements.{All-nil, All-cons, All-push}
use Rattle.ore_algebra.specs.Free.{empty_sum}
use Rattle.ore_algebra.proofs.ListLaws.{same_cons}
use Rattle.ore_algebra.specs.Limits.{Cause, program, ◌>>=◌}
use Rattle.ore_rational.specs.Fraction.{Fraction}
use Rattle.ore_rational.specs.Field.{rationals, rational_inverses}
use Rattle.ore_monomial.specs.Monomial.{unit, plain_cmp}
use Rattle.ore_monomial.specs.Signature.{Signature}
use Rattle.ore_monomial.specs.Term.{Term}
use Rattle.ore_monomial.specs.declared.order.Order.{Order}
use Rattle.ore_ring.specs.Belongs.{Belongs}
use Rattle.ore_ring.specs.Ordered.{Ordered}
use Rattle.ore_rows.specs.Arithmetic.{within}
use Rattle.ore_rows.specs.Reduction.{BasisRow, Step, ReductionState, reduce}
use Rattle.ore_rows.specs.RowLead.{coefficient_at, row_lead}
use Rattle.ore_rows.specs.Rows.{Row, zero_row}
use Rattle.ore_pairs.specs.PairRule.{is_listed, HaveSamePairs}
use Rattle.ore_pairs.specs.Run.{RunState, unless_zero, monic_multiple}
use Rattle.ore_pairs.specs.PairList.{DealtPair, pairs_of}
use Rattle.ore_pairs.proofs.PairRuleLaws.{is_listed-push}
use Rattle.ore_pairs.specs.PairList as pair
use Rattle.ore_pairs.specs.Run as run
use Rattle.ore_rows.specs.Stored.{IsZeroRow, sums_of}
use Rattle.ore_rows.specs.StoredBasis.{BasisBelongs, monics}
use Rattle.ore_rows.specs.declared.choices.Origin.TheVariants as origin
use Rattle.ore_rows.proofs.GreatestTerms.{zero_from}
use Rattle.ore_rows.proofs.StoredBases.{zeros_lead}
use Rattle.ore_groebner.specs.Choosing.{chosen_pairs}
use Rattle.ore_groebner.specs.RunProgress.{entries_from, new_rows, basis_with, run_state, choice_of, choices_of, IsProgressOf}
use Rattle.ore_groebner.specs.declared.outcome.Event.{Event}
use Rattle.ore_groebner.specs.declared.outcome.Event.TheVariants.{Treated, Skipped}
use Rattle.ore_groebner.specs.declared.outcome.Outcome.TheVariants.{Zero, NewRow}
use Rattle.ore_groebner.specs.declared.progress.Progress.{Progress}

pub unless_zero-zero : (o : Order) (r : List Ordered) → IsZeroRow r → unless_zero rationals o (sums_of r) ≡ []
unfolding unless_zero
unless_zero-zero o r z = ap (λ (x : Option Term). elim x [ None ↦ [] | Some t ↦ sums_of r ∷ [] ]) (zeros_lead o r z)

zeros : (q : List Ordered) → sums_of q ≡ zero_row rationals (length (sums_of q)) → IsZeroRow q
unfolding zero_row
zeros [] e = All-nil (λ (f : Ordered). f.sum ≡ empty_sum rationals plain_cmp)
zeros (f ∷ q) e = All-cons (λ (f : Ordered). f.sum ≡ empty_sum rationals plain_cmp) f q (same_cons _ _ _ _ e).0 (zeros q (same_cons _ _ _ _ e).1)

pub unless_zero-row : (o : Order) (r : List Ordered) → ¬ IsZeroRow r → unless_zero rationals o (sums_of r) ≡ sums_of r ∷ []
unfolding unless_zero
unless_zero-row o r n = by (row_lead rationals o (sums_of r)) refl
  where
    by : (x : Option Term) → row_lead rationals o (sums_of r) ≡ x → elim x [ None ↦ [] | Some t ↦ sums_of r ∷ [] ] ≡ sums_of r ∷ []
    by (Some t) e = refl
    by None e = absurd (n (zeros r (zero_from rationals o (sums_of r) e)))

-- ---- one more entry

none_more : (a : ℕ) → a ≡ 0 + a
none_more a = omega arith

one_more : (a b c : ℕ) → a ≡ b + c → suc a ≡ suc b + c
one_more a b c h = omega arith

pub new_rows-push : (es : List Event) (e : Event) → new_rows (es ++ e ∷ []) ≡ new_rows es + new_rows (e ∷ [])
unfolding new_rows
new_rows-push [] e = none_more (new_rows (e ∷ []))
new_rows-push (Treated i j steps Zero ∷ es) e = new_rows-push es e
new_rows-push (Treated i j steps (NewRow k) ∷ es) e = one_more _ (new_rows es) (new_rows (e ∷ [])) (new_rows-push es e)
new_rows-push (Skipped i j via ∷ es) e = new_rows-push es e

pub entries_from-push : (n : ℕ) (es : List Event) (e : Event) → entries_from n (es ++ e ∷ []) ≡ entries_from n es ++ entries_from (n + new_rows es) (e ∷ [])
unfolding entries_from new_rows
entries_from-push n [] e = let z : n + 0 ≡ n = omega arith in ap (λ m. entries_from m (e ∷ [])) (sym z)
entries_from-push n (Treated i j steps Zero ∷ es) e = λ k. pair.Pair i j steps ∷ entries_from-push n es e k
entries_from-push n (Treated i j steps (NewRow c) ∷ es) e =
    let z : suc n + new_rows es ≡ n + suc (new_rows es) = omega arith in
    λ k. pair.Pair i j (steps ++ record { index = n; monomial = unit; number = c } ∷ []) ∷ (entries_from-push (suc n) es e ∙ ap (λ m. entries_from (suc n) es ++ entries_from m (e ∷ [])) z) k
entries_from-push n (Skipped i j via ∷ es) e = λ k. pair.Skip i j via ∷ entries_from-push n es e k

module _ (m : ℕ) (i j : ℕ) where
  pub entry_zero : (steps : List (Step rationals)) → entries_from m (Treated i j steps Zero ∷ []) ≡ pair.Pair i j steps ∷ []
  unfolding entries_from
  entry_zero steps = refl

  pub entry_row : (steps : List (Step rationals)) (k : Fraction) → entries_from m (Treated i j steps (NewRow k) ∷ []) ≡ pair.Pair i j (steps ++ record { index = m; monomial = unit; number = k } ∷ []) ∷ []
  unfolding entries_from
  entry_row steps k = refl

  pub entry_skip : (via : ℕ) → entries_from m (Skipped i j via ∷ []) ≡ pair.Skip i j via ∷ []
  unfolding entries_from
  entry_skip via = refl

pub new_rows-zero : (i j : ℕ) (steps : List (Step rationals)) → new_rows (Treated i j steps Zero ∷ []) ≡ 0
unfolding new_rows
new_rows-zero i j steps = refl

pub new_rows-row : (i j : ℕ) (steps : List (Step rationals)) (k : Fraction) → new_rows (Treated i j steps (NewRow k) ∷ []) ≡ 1
unfolding new_rows
new_rows-row i j steps k = refl

pub new_rows-skip : (i j via : ℕ) → new_rows (Skipped i j via ∷ []) ≡ 0
unfolding new_rows
new_rows-skip i j via = refl

pub no_new_rows : (a n : ℕ) → n ≡ 0 → a ≡ a + n
no_new_rows a n h = omega arith

pub one_new_row : (a b n : ℕ) → a ≡ b + 1 → n ≡ 1 → a ≡ b + n
one_new_row a b n h k = omega arith

pub length-entries_from : (n : ℕ) (es : List Event) → length (entries_from n es) ≡ length es
unfolding entries_from
length-entries_from n [] = refl
length-entries_from n (Treated i j steps Zero ∷ es) = ap suc (length-entries_from n es)
length-entries_from n (Treated i j steps (NewRow k) ∷ es) = ap suc (length-entries_from (suc n) es)
length-entries_from n (Skipped i j via ∷ es) = ap suc (length-entries_from n es)

pub pairs_of-entries_from : (n : ℕ) (es : List Event) → pairs_of (entries_from n es) ≡ chosen_pairs (choices_of es)
unfolding entries_from
pairs_of-entries_from n [] = refl
pairs_of-entries_from n (Treated i j steps Zero ∷ es) = ap (λ ps. (i, j) ∷ ps) (pairs_of-entries_from n es)
pairs_of-entries_from n (Treated i j steps (NewRow k) ∷ es) = ap (λ ps. (i, j) ∷ ps) (pairs_of-entries_from (suc n) es)
pairs_of-entries_from n (Skipped i j via ∷ es) = ap (λ ps. (i, j) ∷ ps) (pairs_of-entries_from n es)

pub choices_push : (es : List Event) (e : Event) → choices_of (es ++ e ∷ []) ≡ choices_of es ++ choice_of e ∷ []
choices_push [] e = refl
choices_push (x ∷ es) e = ap (λ cs. choice_of x ∷ cs) (choices_push es e)

-- ---- what is kept

module _ (p q : Progress) (e : Event) (i j : ℕ) (entry : DealtPair rationals) (one : pair.first entry ≡ i) (other : pair.second entry ≡ j) (first : q.first ≡ p.first) (events : q.events.items ≡ p.events.items ++ e ∷ []) (entry_is : entries_from (p.first + new_rows p.events.items) (e ∷ []) ≡ entry ∷ []) where
  pub entries_more : entries_from q.first q.events.items ≡ entries_from p.first p.events.items ++ entry ∷ []
  entries_more = (λ k. entries_from (first k) (events k)) ∙ entries_from-push p.first p.events.items e ∙ ap (λ ls. entries_from p.first p.events.items ++ ls) entry_is

  pub fits_more : (s : Signature) → IsProgressOf s p → HaveSamePairs q.listed ((i, j) ∷ p.listed) → BasisBelongs s q.basis.items → length q.basis.items ≡ length p.basis.items + new_rows (e ∷ []) → q.basis.width ≡ p.basis.width → q.syzygies.items ≡ p.syzygies.items → IsProgressOf s q
  unfolding is_listed
  fits_more s fits adds belongs count width syzygies = record {
    belongs = belongs;
    listed = λ x y. adds x y ∙ ap (λ b. (nat_eq x i && nat_eq y j) || b) (fits.listed x y)
        ∙ sym (ap (is_listed x y) (ap pairs_of entries_more ∙ map-append (λ (e : DealtPair rationals). (pair.first e, pair.second e)) (entries_from p.first p.events.items) (entry ∷ []))
        ∙ is_listed-push x y (pairs_of (entries_from p.first p.events.items)) (pair.first entry, pair.second entry)
        ∙ (λ k. (nat_eq x (one k) && nat_eq y (other k)) || is_listed x y (pairs_of (entries_from p.first p.events.items))));
    counted = counts (length q.basis.items) (length p.basis.items) p.first (new_rows p.events.items) (new_rows (e ∷ [])) (new_rows q.events.items) count fits.counted (ap new_rows events ∙ new_rows-push p.events.items e) ∙ ap (λ n. n + new_rows q.events.items) (sym first);
    wide = subst (λ n. All (λ (r : List Ordered). length r ≡ n) q.syzygies.items) (sym width) (subst (λ rs. All (λ (r : List Ordered). length r ≡ p.basis.width) rs) (sym syzygies) fits.wide);
    of = subst (All (All (Belongs s))) (sym syzygies) fits.of;
  }
    where
      counts : (a b f m d n : ℕ) → a ≡ b + d → b ≡ f + m → n ≡ m + d → a ≡ f + n
      counts a b f m d n h k l = omega arith

pub more_syzygies : (s : Signature) (p q : Progress) (r : List Ordered) → IsProgressOf s p → q.first ≡ p.first → q.basis ≡ p.basis → q.listed ≡ p.listed → q.events.items ≡ p.events.items → q.syzygies.items ≡ p.syzygies.items ++ r ∷ [] → length r ≡ p.basis.width → All (Belongs s) r → IsProgressOf s q
more_syzygies s p q r fits first basis listed events syzygies wide of = record {
  belongs = subst (λ b. BasisBelongs s b.items) (sym basis) fits.belongs;
  listed = λ x y. ap (is_listed x y) listed ∙ fits.listed x y ∙ (λ k. is_listed x y (pairs_of (entries_from (sym first k) (sym events k))));
  counted = (λ k. length (basis k).items) ∙ fits.counted ∙ (λ k. sym first k + new_rows (sym events k));
  wide = subst (λ n. All (λ (r : List Ordered). length r ≡ n) q.syzygies.items) (λ k. (sym basis k).width) (subst (λ rs. All (λ (r : List Ordered). length r ≡ p.basis.width) rs) (sym syzygies) (All-push (λ (r : List Ordered). length r ≡ p.basis.width) p.syzygies.items r fits.wide wide));
  of = subst (All (All (Belongs s))) (sym syzygies) (All-push (All (Belongs s)) p.syzygies.items r fits.of of);
}

-- ---- the states of a run

pub zero_state : (o : Order) (p q : Progress) (i j n : ℕ) (w : ReductionState rationals) → n ≡ length p.events.items → entries_from q.first q.events.items ≡ entries_from p.first p.events.items ++ pair.Pair i j w.steps ∷ [] → q.basis ≡ p.basis → map sums_of q.syzygies.items ≡ map sums_of p.syzygies.items ++ unless_zero rationals o w.cofactor → q.origins.items ≡ p.origins.items ++ map (λ _. origin.Event n) (unless_zero rationals o w.cofactor) → run_state q ≡ run.with_syzygy rationals o (run_state p) i j w
unfolding run.with_syzygy
zero_state o p q i j n w place entries basis syzygies origins = λ k. record { basis = monics (basis k); listed = entries k; syzygies = syzygies k; origins = (origins ∙ ap (λ m. p.origins.items ++ map (λ _. origin.Event m) (unless_zero rationals o w.cofactor)) (place ∙ sym (length-entries_from p.first p.events.items))) k }

module _ (s : Signature) (p : Progress) (i j : ℕ) (w : ReductionState rationals) (t : Term) where
  abbrev made : Result (BasisRow (Row rationals)) Cause
  made = monic_multiple rationals rational_inverses (within program s) w.row w.cofactor t

  abbrev finish : BasisRow (Row rationals) → Result (RunState rationals) Cause
  finish b = Ok (record { basis = monics p.basis ++ b ∷ []; listed = run.entries_with rationals (run_state p) (pair.Pair i j (w.steps ++ record { index = length (monics p.basis); monomial = unit; number = coefficient_at rationals w.row t } ∷ [])); syzygies = map sums_of p.syzygies.items; origins = p.origins.items })

  pub row_stops : (c : Cause) → basis_with (monics p.basis) made ≡ Err c → run.with_row rationals rational_inverses (within program s) (run_state p) i j w t ≡ Err c
  unfolding run.with_row
  row_stops c e = by made refl e
    where
      by : (x : Result (BasisRow (Row rationals)) Cause) → made ≡ x → basis_with (monics p.basis) x ≡ Err c → (made >>= finish) ≡ Err c
      by (Ok b) f e = absurd (ok_is_err e)
        where
          ok_is_err : {A : Type 0} {x : A} → ◌≡◌ {A = Result A Cause} (Ok x) (Err c) → ⊥
          ok_is_err e = cc
      by (Err d) f e = ap (λ (x : Result (BasisRow (Row rationals)) Cause). x >>= finish) f ∙ ap Err (same_err d c e)
        where
          same_err : {A : Type 0} (x y : Cause) → ◌≡◌ {A = Result A Cause} (Err x) (Err y) → x ≡ y
          same_err x y e = cc

  pub row_state : (q : Progress) (k : Fraction) → coefficient_at rationals w.row t ≡ k → length (monics p.basis) ≡ p.first + new_rows p.events.items → entries_from q.first q.events.items ≡ entries_from p.first p.events.items ++ pair.Pair i j (w.steps ++ record { index = p.first + new_rows p.events.items; monomial = unit; number = k } ∷ []) ∷ [] → q.syzygies.items ≡ p.syzygies.items → q.origins.items ≡ p.origins.items → basis_with (monics p.basis) made ≡ Ok (monics q.basis) → run.with_row rationals rational_inverses (within program s) (run_state p) i j w t ≡ Ok (run_state q)
  unfolding run.with_row
  row_state q k stands place entries syzygies origins e = by made refl e
    where
      by : (x : Result (BasisRow (Row rationals)) Cause) → made ≡ x → basis_with (monics p.basis) x ≡ Ok (monics q.basis) → (made >>= finish) ≡ Ok (run_state q)
      by (Err d) f e = absurd (err_is_ok e)
        where
          err_is_ok : {A : Type 0} {x : A} → ◌≡◌ {A = Result A Cause} (Err d) (Ok x) → ⊥
          err_is_ok e = cc
      by (Ok b) f e =
          ap (λ (x : Result (BasisRow (Row rationals)) Cause). x >>= finish) f
          ∙ (λ n. Ok (record { basis = same_ok _ _ e n; listed = (as_entries ∙ sym entries) n; syzygies = map sums_of (sym syzygies n); origins = sym origins n }))
        where
          same_ok : (x y : List (BasisRow (Row rationals))) → ◌≡◌ {A = Result (List (BasisRow (Row rationals))) Cause} (Ok x) (Ok y) → x ≡ y
          same_ok x y e = cc

          as_entries : run.entries_with rationals (run_state p) (pair.Pair i j (w.steps ++ record { index = length (monics p.basis); monomial = unit; number = coefficient_at rationals w.row t } ∷ [])) ≡ entries_from p.first p.events.items ++ pair.Pair i j (w.steps ++ record { index = p.first + new_rows p.events.items; monomial = unit; number = k } ∷ []) ∷ []
          as_entries = λ n. entries_from p.first p.events.items ++ pair.Pair i j (w.steps ++ record { index = place n; monomial = unit; number = stands n } ∷ []) ∷ []

module _ (s : Signature) (st : RunState rationals) (i j : ℕ) (w : ReductionState rationals) where
  abbrev stepped : Result (RunState rationals) Cause
  stepped = run.with_remainder rationals rational_inverses s.order (within program s) st i j w

  pub remainder_none : row_lead rationals s.order w.row ≡ None → stepped ≡ Ok (run.with_syzygy rationals s.order st i j w)
  unfolding run.with_remainder
  remainder_none e = ap (λ (x : Option Term). elim x [ None ↦ Ok (run.with_syzygy rationals s.order st i j w) | Some t ↦ run.with_row rationals rational_inverses (within program s) st i j w t ]) e

  pub remainder_some : (t : Term) → row_lead rationals s.order w.row ≡ Some t → stepped ≡ run.with_row rationals rational_inverses (within program s) st i j w t
  unfolding run.with_remainder
  remainder_some t e = ap (λ (x : Option Term). elim x [ None ↦ Ok (run.with_syzygy rationals s.order st i j w) | Some t ↦ run.with_row rationals rational_inverses (within program s) st i j w t ]) e

module _ (s : Signature) (st : RunState rationals) (i j : ℕ) where
  abbrev treated : Result (RunState rationals) Cause
  treated = run.treat rationals rational_inverses s.order (within program s) st i j

  pub treat_first : (c : Cause) → run.s_rows rationals (within program s) st.basis i j ≡ Err c → treated ≡ Err c
  unfolding run.treat
  treat_first c e = λ n. e n >>= λ start. reduce rationals s.order (within program s) st.basis start >>= λ rest. run.with_remainder rationals rational_inverses s.order (within program s) st i j rest

  pub treat_second : (w : ReductionState rationals) (c : Cause) → run.s_rows rationals (within program s) st.basis i j ≡ Ok w → reduce rationals s.order (within program s) st.basis w ≡ Err c → treated ≡ Err c
  unfolding run.treat
  treat_second w c e f =
      (λ n. e n >>= λ start. reduce rationals s.order (within program s) st.basis start >>= λ rest. run.with_remainder rationals rational_inverses s.order (within program s) st i j rest)
      ∙ ap (λ (x : Result (ReductionState rationals) Cause). x >>= λ rest. run.with_remainder rationals rational_inverses s.order (within program s) st i j rest) f

  pub treat_last : (w v : ReductionState rationals) → run.s_rows rationals (within program s) st.basis i j ≡ Ok w → reduce rationals s.order (within program s) st.basis w ≡ Ok v → treated ≡ run.with_remainder rationals rational_inverses s.order (within program s) st i j v
  unfolding run.treat
  treat_last w v e f =
      (λ n. e n >>= λ start. reduce rationals s.order (within program s) st.basis start >>= λ rest. run.with_remainder rationals rational_inverses s.order (within program s) st i j rest)
      ∙ ap (λ (x : Result (ReductionState rationals) Cause). x >>= λ rest. run.with_remainder rationals rational_inverses s.order (within program s) st i j rest) f
