-- Runs up to the last line of a report are a format.
--     run_item, run_is         a run with its choices
--     finds_run                what follows is a run
--     runs_is                  the runs and the last line
--     report_parts             the plan, and then these
--     runs_found, runs_fault   what a reader answers that reads one run after the other
--     shorter                  a run takes some bytes
--     same_run, same_end, apart     runs and last lines
--     no_choices               a run of no choices
--     Runs, flat, end_text, tail_is     some runs, their text, the last line, and what follows the first run
--     runs_cancel, whole_runs     the runs that a text begins with; their number of lines
--     next_follows, next_strays     a fault of the first run, or of the last line behind no run
--     behind_runs, all_append, flat_append, to, from, behind_fault     what follows some of the runs
use Rattle.std.proofs.Common.{◌≡◌, ℕ, suc, ◌+◌, ◌<◌, ◌≤◌, List, [], ◌∷◌, ◌++◌, length, take, refl, sym, ap, subst, ◌∙◌, append_assoc, arith}
use Rattle.std.specs.List.{All, flat_map}
use Rattle.std.proofs.lemmas.List.{length-append}
use Rattle.std.proofs.lemmas.List.Elements.{All-nil, All-cons, All-head, All-tail}
use Rattle.ore_rows.specs.declared.choices.Choice.{Choice}
use Rattle.ore_parts.specs.declared.fault.CertFault.{CertFault}
use Rattle.ore_parts.specs.declared.fault.CertFault.TheVariants.{Malformed, Memory}
use Rattle.ore_cert.specs.declared.report.Plan.{Plan}
use Rattle.ore_cert.specs.declared.report.Stop.{Stop}
use Rattle.ore_cert.specs.declared.report.Stop.TheVariants.{Forced}
use Rattle.ore_cert.specs.declared.report_lines.Next.{Next}
use Rattle.ore_cert.specs.declared.report_lines.Next.TheVariants.{Run, End}
use Rattle.ore_parts.specs.FaultyLine.{IsFaultyLine, FollowedBy}
use Rattle.ore_parts.specs.Formats.{Format, IsTextOf, line_count, Finds, items}
use Rattle.ore_parts.specs.Lines.{Unread, raw_lines}
use Rattle.ore_parts.specs.Reading.{IsStartFault}
use Rattle.ore_cert.specs.ReportFormats.{stop_line, plan_format, next_text, next_format, runs_format}
use Rattle.ore_cert.specs.WholeText.{run_text, IsWrittenChoice, IsWrittenRun, IsWrittenStop}
use Rattle.ore_parts.proofs.FaultyLines.{IsWhole, whole_append, stray_faulty, faulty_stray, stray_behind, stray_same}
use Rattle.ore_parts.proofs.FormatFaults.{Strays, strays_faulty, faulty_strays, front_lines}
use Rattle.ore_parts.proofs.FormatLaws.{IsFormat, line_count-append, whole_text, items_is}
use Rattle.ore_parts.proofs.FormatReads.{finds}
use Rattle.ore_parts.proofs.TwoParts.{TwoParts, both}
use Rattle.ore_cert.proofs.ReportLaws.{plan_is, next_is}

-- ---- one run

abbrev pub run_item : Format (List Choice)
run_item = record { text = run_text; may = IsWrittenRun }

same_run : (c d : List Choice) → Run c ≡ Run d → c ≡ d
same_run c d e = cc

same_end : (s t : Stop) → End s ≡ End t → s ≡ t
same_end s t e = cc

apart : (c : List Choice) (s : Stop) → Run c ≡ End s → ⊥
apart c s e = cc

no_choices : IsWrittenRun []
no_choices = record { few = omega arith; all = All-nil IsWrittenChoice }

pub run_is : IsFormat run_item
run_is = record {
  some = ([], no_choices);
  whole = λ c h. next_is.whole (Run c) h;
  cancel = λ c d h k u v e. let r = next_is.cancel (Run c) (Run d) h k u v e in (same_run c d r.0, r.1);
}

pub finds_run : (old new : Unread) (c : List Choice) → Finds next_format old (Run c) new → Finds run_item old c new
finds_run old new c a = finds run_item run_is old c new a.may a.text a.at

pub shorter : (c : List Choice) (left new : List ℕ) → left ≡ run_text c ++ new → length new < length left
shorter c left new e = let n = ap length e ∙ length-append (run_text c) new in omega (arith, n)

-- ---- runs and the last line

abbrev Runs : Type 0
Runs = List (List Choice)

abbrev flat : Runs → List ℕ
flat rs = flat_map run_text rs

abbrev end_text : Stop → List ℕ
end_text s = stop_line s ++ 10 ∷ []

tail_is : (r : List Choice) (rs : Runs) (s : Stop) (u : List ℕ) → (flat (r ∷ rs) ++ end_text s) ++ u ≡ run_text r ++ ((flat rs ++ end_text s) ++ u)
tail_is r rs s u = ap (λ t. t ++ u) (append_assoc (run_text r) (flat rs) (end_text s)) ∙ append_assoc (run_text r) (flat rs ++ end_text s) u

runs_cancel : (rs qs : Runs) (s t : Stop) → All IsWrittenRun rs → All IsWrittenRun qs → IsWrittenStop s → IsWrittenStop t → (u v : List ℕ) → (flat rs ++ end_text s) ++ u ≡ (flat qs ++ end_text t) ++ v → (rs ≡ qs) × (s ≡ t) × (u ≡ v)
runs_cancel [] [] s t a b h k u v e = let r = next_is.cancel (End s) (End t) h k u v e in (refl, same_end s t r.0, r.1)
runs_cancel [] (q ∷ qs) s t a b h k u v e =
    let r = next_is.cancel (Run q) (End s) (All-head IsWrittenRun q qs b) h ((flat qs ++ end_text t) ++ v) u (sym (e ∙ tail_is q qs t v)) in
    absurd (apart q s r.0)
runs_cancel (r ∷ rs) [] s t a b h k u v e =
    let z = next_is.cancel (Run r) (End t) (All-head IsWrittenRun r rs a) k ((flat rs ++ end_text s) ++ u) v (sym (tail_is r rs s u) ∙ e) in
    absurd (apart r t z.0)
runs_cancel (r ∷ rs) (q ∷ qs) s t a b h k u v e =
    let z = next_is.cancel (Run r) (Run q) (All-head IsWrittenRun r rs a) (All-head IsWrittenRun q qs b) ((flat rs ++ end_text s) ++ u) ((flat qs ++ end_text t) ++ v) (sym (tail_is r rs s u) ∙ e ∙ tail_is q qs t v) in
    let more = runs_cancel rs qs s t (All-tail IsWrittenRun r rs a) (All-tail IsWrittenRun q qs b) h k u v z.1 in
    let same = same_run r q z.0 in
    (λ i. same i ∷ more.0 i, more.1, more.2)

whole_runs : (rs : Runs) → All IsWrittenRun rs → IsWhole (line_count (flat rs)) (flat rs)
whole_runs rs h = (items_is run_item run_is (length rs)).whole rs (refl, h)

pub runs_is : IsFormat runs_format
runs_is = record {
  some = (([], Forced), (All-nil IsWrittenRun, tt));
  whole = λ p h. whole_text (line_count (flat p.0) + line_count (end_text p.1)) (flat p.0 ++ end_text p.1) (whole_append (line_count (flat p.0)) (line_count (end_text p.1)) (flat p.0) (end_text p.1) (whole_runs p.0 h.0) (next_is.whole (End p.1) h.1));
  cancel = λ p q h k u v e. let r = runs_cancel p.0 q.0 p.1 q.1 h.0 k.0 h.1 k.1 u v e in (λ i. (r.0 i, r.1 i), r.2);
}

-- the plan, and then the runs and the last line
abbrev pub report_parts : TwoParts Plan (Runs × Stop) (Plan × (Runs × Stop))
report_parts = both plan_format (λ _. runs_format) plan_is (λ p h. runs_is)

pub runs_found : (old mid new : Unread) (k : ℕ) (rs : Runs) (s : Stop) → Finds (items run_item k) old rs mid → Finds next_format mid (End s) new → Finds runs_format old (rs, s) new
runs_found old mid new k rs s a b =
    let count : line_count (flat rs ++ end_text s) ≡ line_count (flat rs) + line_count (end_text s) = line_count-append (line_count (flat rs)) (line_count (end_text s)) (flat rs) (end_text s) (whole_runs rs a.may.1) (next_is.whole (End s) b.may) in
    let at : new.at ≡ old.at + line_count (flat rs ++ end_text s) = omega (arith, a.at, b.at, count) in
    finds runs_format runs_is old (rs, s) new (a.may.1, b.may) (a.text ∙ ap (λ t. flat rs ++ t) b.text ∙ sym (append_assoc (flat rs) (end_text s) new.left)) at

-- ---- faults

next_follows : (text : List ℕ) (n : ℕ) (x : Next) → next_format.may x → n < line_count (next_text x) → take n (raw_lines text) ≡ take n (raw_lines (next_text x))
    → (p : Runs × Stop) × runs_format.may p × (n < line_count (runs_format.text p)) × (take n (raw_lines text) ≡ take n (raw_lines (runs_format.text p)))
next_follows text n (End s) h lt e = (([], s), (All-nil IsWrittenRun, h), lt, e)
next_follows text n (Run c) h lt e =
    let one = All-cons IsWrittenRun c [] h (All-nil IsWrittenRun) in
    let assoc : flat (c ∷ []) ++ end_text Forced ≡ run_text c ++ end_text Forced = append_assoc (run_text c) [] (end_text Forced) in
    let count = line_count-append (line_count (run_text c)) (line_count (end_text Forced)) (run_text c) (end_text Forced) (next_is.whole (Run c) h) (next_is.whole (End Forced) tt) in
    let few : n < line_count (run_text c ++ end_text Forced) = omega (arith, count, lt) in
    let le : n ≤ line_count (run_text c) = omega (arith, lt) in (
      (c ∷ [], Forced),
      (one, tt),
      subst (λ t. n < line_count t) (sym assoc) few,
      e ∙ sym (front_lines (run_text c) (next_is.whole (Run c) h) n (end_text Forced) le) ∙ ap (λ t. take n (raw_lines t)) (sym assoc),
    )

next_strays : (text : List ℕ) (n : ℕ) → Strays next_format text n → Strays runs_format text n
next_strays text n s = record {
  follows = next_follows text n s.follows.0 s.follows.1 s.follows.2 s.follows.3;
  differs = λ p after h e. by p.0 p.1 h.0 h.1 after e;
}
  where
    by : (rs : Runs) (t : Stop) → All IsWrittenRun rs → IsWrittenStop t → (after : List ℕ) → take (suc n) (raw_lines text) ≡ take (suc n) (raw_lines ((flat rs ++ end_text t) ++ after)) → ⊥
    by [] t a h after e = s.differs (End t) after h e
    by (r ∷ rs) t a h after e = s.differs (Run r) ((flat rs ++ end_text t) ++ after) (All-head IsWrittenRun r rs a) (e ∙ ap (λ t. take (suc n) (raw_lines t)) (tail_is r rs t after))

-- what follows some of the runs
behind_runs : (rs qs : Runs) (t : Stop) → All IsWrittenRun rs → All IsWrittenRun qs → IsWrittenStop t → (text after : List ℕ) → flat rs ++ text ≡ (flat qs ++ end_text t) ++ after
    → (p : Runs × Stop) × runs_format.may p × (text ≡ runs_format.text p ++ after)
behind_runs [] qs t a b h text after e = ((qs, t), (b, h), e)
behind_runs (r ∷ rs) [] t a b h text after e =
    let z = next_is.cancel (Run r) (End t) (All-head IsWrittenRun r rs a) h (flat rs ++ text) after (sym (append_assoc (run_text r) (flat rs) text) ∙ e) in
    absurd (apart r t z.0)
behind_runs (r ∷ rs) (q ∷ qs) t a b h text after e =
    let z = next_is.cancel (Run r) (Run q) (All-head IsWrittenRun r rs a) (All-head IsWrittenRun q qs b) (flat rs ++ text) ((flat qs ++ end_text t) ++ after) (sym (append_assoc (run_text r) (flat rs) text) ∙ e ∙ tail_is q qs t after) in
    behind_runs rs qs t (All-tail IsWrittenRun r rs a) (All-tail IsWrittenRun q qs b) h text after z.1

all_append : (rs qs : Runs) → All IsWrittenRun rs → All IsWrittenRun qs → All IsWrittenRun (rs ++ qs)
all_append [] qs a b = b
all_append (r ∷ rs) qs a b = All-cons IsWrittenRun r (rs ++ qs) (All-head IsWrittenRun r rs a) (all_append rs qs (All-tail IsWrittenRun r rs a) b)

flat_append : (rs qs : Runs) → flat (rs ++ qs) ≡ flat rs ++ flat qs
flat_append [] qs = refl
flat_append (r ∷ rs) qs = ap (λ t. run_text r ++ t) (flat_append rs qs) ∙ sym (append_assoc (run_text r) (flat rs) (flat qs))

module _ (rs : Runs) (a : All IsWrittenRun rs) (after : List ℕ) where
  to : (t : List ℕ) → FollowedBy (IsTextOf runs_format) after t → FollowedBy (IsTextOf runs_format) after (flat rs ++ t)
  to t o =
      let p = o.1.0 in
      let text : flat rs ++ t ≡ runs_format.text (rs ++ p.0, p.1) ++ after =
      ap (λ u. flat rs ++ u) (o.2 ∙ ap (λ u. u ++ after) o.1.2) ∙ sym (append_assoc (flat rs) (runs_format.text p) after)
      ∙ ap (λ u. u ++ after) (sym (append_assoc (flat rs) (flat p.0) (end_text p.1)) ∙ ap (λ u. u ++ end_text p.1) (sym (flat_append rs p.0))) in
      (runs_format.text (rs ++ p.0, p.1), ((rs ++ p.0, p.1), (all_append rs p.0 a o.1.1.0, o.1.1.1), refl), text)

  from : (t : List ℕ) → FollowedBy (IsTextOf runs_format) after (flat rs ++ t) → FollowedBy (IsTextOf runs_format) after t
  from t o =
      let p = o.1.0 in
      let r = behind_runs rs p.0 p.1 a o.1.1.0 o.1.1.1 t after (o.2 ∙ ap (λ u. u ++ after) o.1.2) in
      (runs_format.text r.0, (r.0, r.1, refl), r.2)

  behind_fault : (text left : List ℕ) (n : ℕ) → text ≡ flat rs ++ left → IsFaultyLine (FollowedBy (IsTextOf runs_format) after) left (suc n) → IsFaultyLine (FollowedBy (IsTextOf runs_format) after) text (suc (line_count (flat rs) + n))
  behind_fault text left n is f =
      let q = faulty_stray (FollowedBy (IsTextOf runs_format) after) left (suc n) f in
      let c = line_count (flat rs) in
      let same : suc (c + q.0) ≡ suc (c + n) = omega (arith, q.1) in
      subst (IsFaultyLine (FollowedBy (IsTextOf runs_format) after) text) same
      (stray_faulty (FollowedBy (IsTextOf runs_format) after) text (c + q.0)
      (stray_behind (FollowedBy (IsTextOf runs_format) after) c q.0 (flat rs) left text (whole_runs rs a) is
      (stray_same (FollowedBy (IsTextOf runs_format) after) (λ t. FollowedBy (IsTextOf runs_format) after (flat rs ++ t)) left q.0 to from q.2)))

pub runs_fault : (old mid : Unread) (k : ℕ) (rs : Runs) (e : CertFault) → Finds (items run_item k) old rs mid → IsStartFault (IsTextOf next_format) mid e → IsStartFault (IsTextOf runs_format) old e
runs_fault old mid k rs (Malformed line) a s =
    let r = faulty_strays next_format next_is mid.left s.0 s.2 in
    let n = line_count (flat rs) + r.0 in
    let at : line + 1 ≡ old.at + suc n = omega (arith, s.1, r.1, a.at) in
    (suc n, at, λ after. behind_fault rs a.may.1 after old.left mid.left r.0 a.text (strays_faulty runs_format runs_is mid.left r.0 (next_strays mid.left r.0 r.2) after))
runs_fault old mid k rs Memory a s = tt
