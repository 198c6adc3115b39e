-- The fault of a text names its faulty line.
--     text_of, lines_of-text_of      a text with these lines
--     lack_ends                      no line of a text has a line end in it
--     all_take, front_take           the first items of lists
--     found_stray                    the line of a fault is the first that no text of a set has
--     whole_closing, front_closing   nothing may follow a problem; anything may
--     finds_first_faulty_line        the law
use Rattle.std.proofs.Common.{◌≡◌, ◌≤◌, ℕ, zero, suc, ◌+◌, Bool, true, false, List, [], ◌∷◌, ◌++◌, length, map, take, refl, sym, ap, ◌∙◌, subst, arith, append_assoc}
use Rattle.std.specs.Prelude.{if◌then◌else◌, not, nat_eq, ◌&&◌}
use Rattle.std.specs.declared.result.Result.TheVariants.{Ok, Err}
use Rattle.std.specs.List.{AllByRecursion}
use Rattle.ore_text.specs.FaultyLine.{IsFaultyLine}
use Rattle.ore_text.proofs.FaultyLines.{stray_faulty, one_faulty_line}
use Rattle.ore_problem.specs.declared.fault.ProblemFault.{ProblemFault}
use Rattle.ore_problem.specs.declared.fault.ProblemReason.TheVariants.{AfterEnd}
use Rattle.ore_problem.specs.Lines.{Cursor, raw_lines, onto_first, is_line_end, content}
use Rattle.ore_problem.specs.Problems.{System, Read, fault_at, prefix_of, with_sizes, ends_there, problem_of}
use Rattle.ore_algebra.specs.Results.{◌>>=◌}
use Rattle.ore_problem.specs.Laws.{lines_of, IsProblemText, BeginsWithProblem, FindsFirstFaultyLine}
use Rattle.ore_problem.proofs.AgainBytes.{Lacks, all_append}
use Rattle.ore_problem.proofs.AgainLines.{raw_lines-append, lacks_append}
use Rattle.ore_problem.proofs.LineLemmas.{content-crlf}
use Rattle.ore_algebra.proofs.ResultLaws.{bound, same_err}
use Rattle.ore_problem.proofs.AcceptedReads.{accepted_prefix, reads_exactly}
use Rattle.ore_problem.proofs.FrontReads.{prefix_reads_exactly}
use Rattle.ore_problem.proofs.LineMachine.{Due, First, Closing, run, faulty}
use Rattle.ore_problem.proofs.MachineReads.{prefix_runs}

-- ---- texts and their lines

-- both bytes of a line end, so that a byte 13 at the end of a line stays in it
abbrev text_of : List (List ℕ) → List ℕ
text_of [] = []
text_of (x ∷ xs) = (x ++ 13 ∷ []) ++ 10 ∷ text_of xs

lines_of-text_of : (xs : List (List ℕ)) → AllByRecursion (Lacks 10) xs → lines_of (text_of xs) ≡ xs
unfolding raw_lines
lines_of-text_of [] h = refl
lines_of-text_of (x ∷ xs) h =
    ap (map content) (raw_lines-append (x ++ 13 ∷ []) (text_of xs) (lacks_append 10 x (13 ∷ []) h.0 refl))
    ∙ (λ i. (ap content (append_assoc x (13 ∷ []) (10 ∷ [])) ∙ content-crlf x) i ∷ lines_of-text_of xs h.1 i)

lacks_content : (b : ℕ) (raw : List ℕ) → nat_eq b 10 ≡ false → Lacks 10 (content raw) → Lacks 10 (content (b ∷ raw))
unfolding content
lacks_content b raw e h = by (is_line_end (b ∷ raw))
  where
    by : (t : Bool) → Lacks 10 (if t then [] else b ∷ content raw)
    by true = refl
    by false = λ i. not (e i) && h i

lack_ends : (text : List ℕ) → AllByRecursion (Lacks 10) (lines_of text)
unfolding raw_lines content
lack_ends [] = tt
lack_ends (b ∷ bs) = by (nat_eq b 10) refl (raw_lines bs) (lack_ends bs)
  where
    by : (t : Bool) → nat_eq b 10 ≡ t → (raws : List (List ℕ)) → AllByRecursion (Lacks 10) (map content raws) → AllByRecursion (Lacks 10) (map content (if t then (b ∷ []) ∷ raws else onto_first b raws))
    by true t raws h = (subst (λ c. Lacks 10 (if c then [] else b ∷ [])) (sym t) refl, h)
    by false t [] h = (lacks_content b [] t refl, tt)
    by false t (raw ∷ raws) h = (lacks_content b raw t h.0, h.1)

all_take : {A : Type 0} (P : A → Type 0) (n : ℕ) (xs : List A) → AllByRecursion P xs → AllByRecursion P (take n xs)
all_take P zero xs h = tt
all_take P (suc n) [] h = tt
all_take P (suc n) (x ∷ xs) h = (h.0, all_take P n xs h.1)

front_take : {A : Type 0} (n : ℕ) (xs more : List A) → n ≤ length xs → take n (take n xs ++ more) ≡ take n xs
front_take zero xs more h = refl
front_take (suc n) [] more h = absurd (let z : ⊥ = omega arith in z)
front_take (suc n) (x ∷ xs) more h = ap (λ t. x ∷ t) (front_take n xs more (let l : n ≤ length xs = omega arith in l))

-- ---- faulty lines

module _ (K : Closing) (T : List ℕ → Type 0)
    (back : (text : List ℕ) (p : System) → run K (Due First) 0 (lines_of text) ≡ Ok p → T text)
    (due : (text : List ℕ) → T text → (p : System) × (run K (Due First) 0 (lines_of text) ≡ Ok p)) where
  never : (p : System) (f : ProblemFault) (r : Read System) → r ≡ Ok p → r ≡ Err f → ⊥
  never p f r e h = cc

  found_stray : (text : List ℕ) (f : ProblemFault) → run K (Due First) 0 (lines_of text) ≡ Err f → IsFaultyLine lines_of T text f.line
  found_stray text f e =
      let m = faulty K (Due First) 0 (lines_of text) f e in
      let lines = take m.before (lines_of text) ++ m.more in
      let lack : AllByRecursion (Lacks 10) lines = all_append (Lacks 10) (take m.before (lines_of text)) m.more (all_take (Lacks 10) m.before (lines_of text) (lack_ends text)) m.lack in
      let same = lines_of-text_of lines lack in
      let place : f.line ≡ suc m.before = m.place ∙ (let z : suc (0 + m.before) ≡ suc m.before = omega arith in z) in
      subst (IsFaultyLine lines_of T text) (sym place) (stray_faulty lines_of T text m.before (record {
        follows = (
          text_of lines,
          back (text_of lines) m.problem (ap (run K (Due First) 0) same ∙ m.follows),
          sym (ap (take m.before) same ∙ front_take m.before (lines_of text) m.more m.within),
        );
        differs = λ other t h. let d = due other t in never d.0 f (run K (Due First) 0 (lines_of other)) d.1 (m.differs (lines_of other) h);
      }))

-- ---- whole texts

abbrev whole_closes : System → ℕ → List (List ℕ) → Read System
whole_closes p line [] = Ok p
whole_closes p line (x ∷ ls) = fault_at (suc line) AfterEnd

whole_fault : (p : System) (line : ℕ) (ls : List (List ℕ)) (f : ProblemFault) → whole_closes p line ls ≡ Err f → (f.line ≡ suc line) × ((ys : List (List ℕ)) → take 1 ls ≡ take 1 ys → whole_closes p line ys ≡ Err f)
whole_fault p line [] f e = cc
whole_fault p line (x ∷ ls) f e = (ap (λ (g : ProblemFault). g.line) (sym (same_err {A = System} (record { line = suc line; reason = AfterEnd }) f e)), by)
  where
    by : (ys : List (List ℕ)) → x ∷ [] ≡ take 1 ys → whole_closes p line ys ≡ Err f
    by [] h = cc
    by (y ∷ ys) h = e

whole_closing : Closing
whole_closing = record { closes = whole_closes; nothing = λ p line. refl; faulty = whole_fault }

abbrev whole_behind : System × Cursor → Read System
whole_behind x = ends_there x.0 x.1 x.1.left

whole_same : (p : System) (c : Cursor) → whole_behind (p, c) ≡ whole_closes p c.line (map content c.left)
whole_same p c = by c.left
  where
    by : (left : List (List ℕ)) → ends_there p c left ≡ whole_closes p c.line (map content left)
    by [] = refl
    by (raw ∷ left) = refl

whole_runs : (text : List ℕ) → problem_of text ≡ run whole_closing (Due First) 0 (lines_of text)
unfolding problem_of whole_closing
whole_runs text = prefix_runs whole_closing whole_behind whole_same text

-- ---- fronts

abbrev front_closes : System → ℕ → List (List ℕ) → Read System
front_closes p line ls = Ok p

front_fault : (p : System) (line : ℕ) (ls : List (List ℕ)) (f : ProblemFault) → front_closes p line ls ≡ Err f → (f.line ≡ suc line) × ((ys : List (List ℕ)) → take 1 ls ≡ take 1 ys → front_closes p line ys ≡ Err f)
front_fault p line ls f e = cc

front_closing : Closing
front_closing = record { closes = front_closes; nothing = λ p line. refl; faulty = front_fault }

abbrev front_behind : System × Cursor → Read System
front_behind x = Ok x.0

front_runs : (text : List ℕ) → (prefix_of text >>= front_behind) ≡ run front_closing (Due First) 0 (lines_of text)
unfolding front_closing
front_runs text = prefix_runs front_closing front_behind (λ p c. refl) text

sized : (text : List ℕ) (p : System) → (prefix_of text >>= front_behind) ≡ Ok p → BeginsWithProblem text
sized text p e =
    let a = bound (prefix_of text) front_behind p e in
    let h = (prefix_reads_exactly text a.0.0 a.0.1.used a.0.1.line).0 (ap (λ (r : Read (System × Cursor)). r >>= with_sizes) a.1) in
    (a.0.0, h.0, h.1, h.2)

front_read : (text : List ℕ) → BeginsWithProblem text → (p : System) × ((prefix_of text >>= front_behind) ≡ Ok p)
front_read text (p, front, rest, h) = (p, ap (λ (r : Read (System × Cursor)). r >>= front_behind) (accepted_prefix front text p (raw_lines rest) h.lines h.accepted))

sizes_fault : (r : Read (System × Cursor)) (f : ProblemFault) → (r >>= with_sizes) ≡ Err f → (r >>= front_behind) ≡ Err f
sizes_fault (Ok x) f e = cc
sizes_fault (Err g) f e = ap Err (same_err {A = System × (ℕ × ℕ)} g f e)

-- ---- the law

pub finds_first_faulty_line : FindsFirstFaultyLine
finds_first_faulty_line = record {
  one = one_faulty_line lines_of IsProblemText;
  one_front = one_faulty_line lines_of BeginsWithProblem;
  whole = λ text f e. found_stray whole_closing IsProblemText
      (λ t p h. (p, (reads_exactly t p).0 (whole_runs t ∙ h)))
      (λ t h. (h.0, sym (whole_runs t) ∙ (reads_exactly t h.0).1 h.1))
      text f (sym (whole_runs text) ∙ e);
  front = λ bytes f e. found_stray front_closing BeginsWithProblem
      (λ t p h. sized t p (front_runs t ∙ h))
      (λ t h. let r = front_read t h in (r.0, sym (front_runs t) ∙ r.1))
      bytes f (sym (front_runs bytes) ∙ sizes_fault (prefix_of bytes) f e);
}
