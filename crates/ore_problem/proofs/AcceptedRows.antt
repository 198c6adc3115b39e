-- The rows that are read are those of an accepted text.
--     frame_of                         the names and the signature of a system
--     HaveValues                       each of some texts is an expression with its value in a row
--     entries_back, entries_due        the entries of a row that has some
--     all_back, all_due                the entries of a row
--     row_back, row_due                one row line
--     rows_back, rows_due              all row lines
use Rattle.std.proofs.Common.{◌≡◌, ℕ, zero, suc, Bool, true, false, cond, List, [], ◌∷◌, ◌++◌, length, take, drop, refl, sym, ap, ◌∙◌, subst, arith}
use Rattle.std.specs.Prelude.{if◌then◌else◌, nat_eq, codes}
use Rattle.std.specs.declared.result.Result.{Result}
use Rattle.std.specs.declared.result.Result.TheVariants.{Ok, Err}
use Rattle.std.specs.List.{AllZip, list_all}
use Rattle.std.specs.Str.{bytes_eq}
use Rattle.std.proofs.lemmas.Slice.Eq.{bytes_eq-Decides}
use Rattle.std.proofs.lemmas.Slice.Zip.{AllZip-long}
use Rattle.std.proofs.lemmas.List.{take-append-drop}
use Rattle.std.proofs.lemmas.Bool.Decides.{nat_tests}
use Rattle.ore_algebra.specs.Limits.{Cause, program}
use Rattle.ore_rational.specs.Field.{rationals}
use Rattle.ore_monomial.specs.Signature.{Signature}
use Rattle.ore_monomial.specs.LetterRule.{Operator}
use Rattle.ore_ring.proofs.Falls.{left_true, right_true}
use Rattle.ore_expr.specs.declared.fault.TextFault.{TextFault}
use Rattle.ore_expr.specs.declared.instruction.Instruction.{Instruction}
use Rattle.ore_expr.specs.Parsing.{parse}
use Rattle.ore_expr.specs.Evaluation.{value_of}
use Rattle.ore_expr.specs.Reading.{IsValue}
use Rattle.ore_expr.specs.Laws.{ReadsExpressions}
use Rattle.ore_expr.proofs.GrammarLaws.{reads_expressions}
use Rattle.ore_expr.proofs.Machine.{value_of-expression_code}
use Rattle.ore_rows.specs.Rows.{Row}
use Rattle.ore_problem.specs.declared.fault.ProblemReason.TheVariants as reason
use Rattle.ore_problem.specs.Lines.{Cursor, split_at}
use Rattle.ore_problem.specs.Problems.{System, Frame, fault_at, accepted_where, is_space, begins_with_space, is_row, text_read, value_read, parsed, evaluated, row_entries, line_due, row_after, rows_after}
use Rattle.ore_algebra.specs.Results.{◌>>=◌}
use Rattle.ore_problem.specs.Accepted.{AreEntries, IsRow}
use Rattle.ore_problem.proofs.AcceptedLines.{GoesFrom, goes_same, due, due_back}
use Rattle.ore_problem.proofs.AcceptedWords.{passed_test}
use Rattle.ore_algebra.proofs.ResultLaws.{bound, same_ok}

abbrev pub frame_of : System → Frame
frame_of p = record { names = p.names; signature = p.signature }

reads : ReadsExpressions
reads = reads_expressions value_of-expression_code

was_read : {A : Type 0} (line : ℕ) (r : Result A TextFault) (x : A) → text_read line r ≡ Ok x → r ≡ Ok x
was_read line (Ok y) x e = ap Ok (same_ok y x e)
was_read line (Err f) x e = cc

had_value : {A : Type 0} (line : ℕ) (r : Result A Cause) (x : A) → value_read line r ≡ Ok x → r ≡ Ok x
had_value line (Ok y) x e = ap Ok (same_ok y x e)
had_value line (Err f) x e = cc

-- ---- entries

module _ (names : List (List ℕ)) (s : Signature) (line : ℕ) where
  parsed_cons : (part : List ℕ) (parts : List (List ℕ)) (p : List Instruction) (ps : List (List Instruction)) → parsed names line (part ∷ parts) ≡ Ok (p ∷ ps) → (parse names part ≡ Ok p) × (parsed names line parts ≡ Ok ps)
  unfolding parsed
  parsed_cons part parts p ps e =
      let a = bound (text_read line (parse names part)) (λ q. parsed names line parts >>= λ qs. Ok (q ∷ qs)) (p ∷ ps) e in
      let b = bound (parsed names line parts) (λ qs. Ok (a.0 ∷ qs)) (p ∷ ps) a.2 in
      let same = same_ok (a.0 ∷ b.0) (p ∷ ps) b.2 in
      let first : a.0 ≡ p = cc in
      let rest : b.0 ≡ ps = cc in
      (was_read line (parse names part) p (a.1 ∙ ap Ok first), b.1 ∙ ap Ok rest)

  parsed_some : (part : List ℕ) (parts : List (List ℕ)) → parsed names line (part ∷ parts) ≡ Ok [] → ⊥
  unfolding parsed
  parsed_some part parts e =
      let a = bound (text_read line (parse names part)) (λ q. parsed names line parts >>= λ qs. Ok (q ∷ qs)) [] e in
      let b = bound (parsed names line parts) (λ qs. Ok (a.0 ∷ qs)) [] a.2 in
      let same = same_ok (a.0 ∷ b.0) [] b.2 in
      cc

  evaluated_cons : (p : List Instruction) (ps : List (List Instruction)) (f : Operator rationals) (fs : Row rationals) → evaluated s line (p ∷ ps) ≡ Ok (f ∷ fs) → (value_of program s p ≡ Ok f) × (evaluated s line ps ≡ Ok fs)
  unfolding evaluated
  evaluated_cons p ps f fs e =
      let a = bound (value_read line (value_of program s p)) (λ g. evaluated s line ps >>= λ gs. Ok (g ∷ gs)) (f ∷ fs) e in
      let b = bound (evaluated s line ps) (λ gs. Ok (a.0 ∷ gs)) (f ∷ fs) a.2 in
      let same = same_ok (a.0 ∷ b.0) (f ∷ fs) b.2 in
      let first : a.0 ≡ f = cc in
      let rest : b.0 ≡ fs = cc in
      (had_value line (value_of program s p) f (a.1 ∙ ap Ok first), b.1 ∙ ap Ok rest)

  evaluated_some : (p : List Instruction) (ps : List (List Instruction)) → evaluated s line (p ∷ ps) ≡ Ok [] → ⊥
  unfolding evaluated
  evaluated_some p ps e =
      let a = bound (value_read line (value_of program s p)) (λ g. evaluated s line ps >>= λ gs. Ok (g ∷ gs)) [] e in
      let b = bound (evaluated s line ps) (λ gs. Ok (a.0 ∷ gs)) [] a.2 in
      let same = same_ok (a.0 ∷ b.0) [] b.2 in
      cc

  abbrev pub HaveValues : List (List ℕ) → Row rationals → Type 0
  HaveValues parts row = AllZip (λ part f. IsValue s names part (Ok f)) parts row

  entries_back : (parts : List (List ℕ)) (ps : List (List Instruction)) (row : Row rationals) → parsed names line parts ≡ Ok ps → evaluated s line ps ≡ Ok row → HaveValues parts row
  unfolding parsed evaluated
  entries_back [] [] [] e f = tt
  entries_back [] [] (g ∷ row) e f = cc
  entries_back [] (p ∷ ps) row e f = cc
  entries_back (part ∷ parts) [] row e f = absurd (parsed_some part parts e)
  entries_back (part ∷ parts) (p ∷ ps) [] e f = absurd (evaluated_some p ps f)
  entries_back (part ∷ parts) (p ∷ ps) (g ∷ row) e f =
      let a = parsed_cons part parts p ps e in
      let b = evaluated_cons p ps g row f in
      let t = reads.found names part p a.0 in
      ((t.0, t.1, sym (t.2 program s) ∙ b.0), entries_back parts ps row a.1 b.1)

  entries_due : (parts : List (List ℕ)) (row : Row rationals) → HaveValues parts row → (ps : List (List Instruction)) × (parsed names line parts ≡ Ok ps) × (evaluated s line ps ≡ Ok row)
  unfolding parsed evaluated
  entries_due [] [] h = ([], refl, refl)
  entries_due [] (g ∷ row) h = absurd h
  entries_due (part ∷ parts) [] h = absurd h
  entries_due (part ∷ parts) (g ∷ row) h =
      let t = reads.only names part h.0.0 h.0.1 in
      let more = entries_due parts row h.1 in (
        t.0 ∷ more.0,
        (λ i. text_read line (t.1 i) >>= λ q. more.1 i >>= λ qs. Ok (q ∷ qs)),
        (λ i. value_read line ((t.2 program s ∙ h.0.2) i) >>= λ f. more.2 i >>= λ fs. Ok (f ∷ fs)),
      )

-- ---- one row

same_count : (n m : ℕ) → nat_eq n m ≡ true → n ≡ m
same_count n m h = grind (arith, nat_tests)

tests_same : (n m : ℕ) → n ≡ m → nat_eq n m ≡ true
tests_same n m h = grind (arith, nat_tests)

module _ (p : System) where
  all_back : (cols line : ℕ) (rest : List ℕ) (row : Row rationals) → row_entries (frame_of p) cols line rest ≡ Ok row → AreEntries p cols rest row
  unfolding row_entries
  all_back zero line rest row e = by (list_all is_space rest) e
    where
      by : (b : Bool) → cond b (Ok []) (fault_at line reason.WrongLength) ≡ Ok row → (b ≡ true) × (row ≡ [])
      by true e = (refl, sym (same_ok [] row e))
      by false e = cc
  all_back (suc n) line rest row e = by (nat_eq (length (split_at 44 rest)) (suc n)) refl e
    where
      by : (b : Bool) → nat_eq (length (split_at 44 rest)) (suc n) ≡ b
          → (if b then (parsed p.names line (split_at 44 rest) >>= λ ps. evaluated p.signature line ps) else fault_at line reason.WrongLength) ≡ Ok row → AreEntries p (suc n) rest row
      by true c e =
          let a = bound (parsed p.names line (split_at 44 rest)) (λ ps. evaluated p.signature line ps) row e in
          let all = entries_back p.names p.signature line (split_at 44 rest) a.0 row a.1 a.2 in
          (AllZip-long _ (split_at 44 rest) row all ∙ same_count (length (split_at 44 rest)) (suc n) c, all)
      by false c e = cc

  all_due : (cols line : ℕ) (rest : List ℕ) (row : Row rationals) → AreEntries p cols rest row → row_entries (frame_of p) cols line rest ≡ Ok row
  unfolding row_entries
  all_due zero line rest row h = λ i. cond (h.0 i) (Ok (sym h.1 i)) (fault_at line reason.WrongLength)
  all_due (suc n) line rest row h =
      let t = entries_due p.names p.signature line (split_at 44 rest) row h.1 in
      let c = tests_same (length (split_at 44 rest)) (suc n) (sym (AllZip-long _ (split_at 44 rest) row h.1) ∙ h.0) in
      (λ i. if c i then (t.1 i >>= λ ps. evaluated p.signature line ps) else fault_at line reason.WrongLength) ∙ t.2

  row_line : (line rest : List ℕ) → is_row line ≡ true → drop 3 line ≡ rest → (line ≡ codes "row" ++ rest) × (begins_with_space rest ≡ true)
  row_line line rest h e =
      let word = (bytes_eq-Decides (take 3 line) (codes "row")).0 (left_true (bytes_eq (take 3 line) (codes "row")) (begins_with_space (drop 3 line)) h) in (
        sym (take-append-drop 3 line) ∙ (λ i. word i ++ e i),
        ap begins_with_space (sym e) ∙ right_true (bytes_eq (take 3 line) (codes "row")) (begins_with_space (drop 3 line)) h,
      )

  row_back : (c : Cursor) (x : Row rationals × Cursor) (ls : List (List ℕ)) (goal : Cursor) → row_after (frame_of p) p.cols c ≡ Ok x → GoesFrom x.1 ls goal → (l : List ℕ) × IsRow p l x.0 × GoesFrom c (l ∷ ls) goal
  unfolding row_after
  row_back c x ls goal e g =
      let f = frame_of p in
      let a = bound (line_due c) (λ y. accepted_where (is_row y.0) y.1 reason.BadRow (drop 3 y.0) >>= λ rest. row_entries f p.cols y.1.line rest >>= λ r. Ok (r, y.1)) x e in
      let b = bound (accepted_where (is_row a.0.0) a.0.1 reason.BadRow (drop 3 a.0.0)) (λ rest. row_entries f p.cols a.0.1.line rest >>= λ r. Ok (r, a.0.1)) x a.2 in
      let d = bound (row_entries f p.cols a.0.1.line b.0) (λ r. Ok (r, a.0.1)) x b.2 in
      let same = same_ok (d.0, a.0.1) x d.2 in
      let test = passed_test (is_row a.0.0) a.0.1 reason.BadRow (drop 3 a.0.0) b.0 b.1 in
      let spelled = row_line a.0.0 b.0 test.0 test.1 in
      let all = all_back p.cols a.0.1.line b.0 d.0 d.1 in (
        a.0.0,
        (b.0, spelled.0, spelled.1, subst (λ (y : Row rationals × Cursor). AreEntries p p.cols b.0 y.0) {x = (d.0, a.0.1)} {y = x} same all),
        due_back c a.0.0 a.0.1 ls goal a.1 (goes_same d.0 a.0.1 x ls goal same g),
      )

  row_test : (l rest : List ℕ) → l ≡ codes "row" ++ rest → begins_with_space rest ≡ true → (is_row l ≡ true) × (drop 3 l ≡ rest)
  row_test l rest e h = (ap is_row e ∙ h, ap (drop 3) e)

  row_due : (c : Cursor) (l : List ℕ) (row : Row rationals) (ls : List (List ℕ)) (goal : Cursor) → IsRow p l row → GoesFrom c (l ∷ ls) goal → (d : Cursor) × (row_after (frame_of p) p.cols c ≡ Ok (row, d)) × GoesFrom d ls goal
  unfolding row_after
  row_due c l row ls goal h g =
      let a = due c l ls goal g in
      let t = row_test l h.0 h.1 h.2 in
      let e = all_due p.cols a.0.line h.0 row h.3 in
      (a.0, rw (a.1, t.0, t.1, e) refl, a.2)

  -- ---- all rows

  pub rows_back : (n : ℕ) (c : Cursor) (x : List (Row rationals) × Cursor) (ls : List (List ℕ)) (goal : Cursor) → rows_after (frame_of p) p.cols n c ≡ Ok x → GoesFrom x.1 ls goal
      → (lines : List (List ℕ)) × AllZip (IsRow p) lines x.0 × (length x.0 ≡ n) × GoesFrom c (lines ++ ls) goal
  unfolding rows_after
  rows_back zero c x ls goal e g =
      let same = same_ok ([], c) x e in
      ([], subst (λ (y : List (Row rationals) × Cursor). AllZip (IsRow p) [] y.0) same tt, ap (λ (y : List (Row rationals) × Cursor). length y.0) (sym same), goes_same [] c x ls goal same g)
  rows_back (suc n) c x ls goal e g =
      let f = frame_of p in
      let a = bound (row_after f p.cols c) (λ r. rows_after f p.cols n r.1 >>= λ rs. Ok (r.0 ∷ rs.0, rs.1)) x e in
      let b = bound (rows_after f p.cols n a.0.1) (λ rs. Ok (a.0.0 ∷ rs.0, rs.1)) x a.2 in
      let same = same_ok (a.0.0 ∷ b.0.0, b.0.1) x b.2 in
      let more = rows_back n a.0.1 b.0 ls goal b.1 (goes_same (a.0.0 ∷ b.0.0) b.0.1 x ls goal same g) in
      let first = row_back c a.0 (more.0 ++ ls) goal a.1 more.3 in (
        first.0 ∷ more.0,
        subst (λ (y : List (Row rationals) × Cursor). AllZip (IsRow p) (first.0 ∷ more.0) y.0) same (first.1, more.1),
        ap (λ (y : List (Row rationals) × Cursor). length y.0) (sym same) ∙ ap suc more.2,
        first.2,
      )

  pub rows_due : (n : ℕ) (c : Cursor) (lines : List (List ℕ)) (rows : List (Row rationals)) (ls : List (List ℕ)) (goal : Cursor) → AllZip (IsRow p) lines rows → length rows ≡ n → GoesFrom c (lines ++ ls) goal
      → (d : Cursor) × (rows_after (frame_of p) p.cols n c ≡ Ok (rows, d)) × GoesFrom d ls goal
  unfolding rows_after
  rows_due zero c [] [] ls goal h e g = (c, refl, g)
  rows_due zero c [] (row ∷ rows) ls goal h e g = absurd h
  rows_due zero c (l ∷ lines) [] ls goal h e g = absurd h
  rows_due zero c (l ∷ lines) (row ∷ rows) ls goal h e g = absurd (omega arith)
  rows_due (suc n) c [] [] ls goal h e g = absurd (omega arith)
  rows_due (suc n) c [] (row ∷ rows) ls goal h e g = absurd h
  rows_due (suc n) c (l ∷ lines) [] ls goal h e g = absurd h
  rows_due (suc n) c (l ∷ lines) (row ∷ rows) ls goal h e g =
      let a = row_due c l row (lines ++ ls) goal h.0 g in
      let k : length rows ≡ n = omega arith in
      let b = rows_due n a.0 lines rows ls goal h.1 k a.2 in
      (b.0, rw (a.1, b.1) refl, b.2)
