-- The declarations, line by line.
--     declared_words, declared_line    what words, and a line that is due, make of the declarations before them
--     declarations_of-due     the declarations from the line that is due on
--     declarations_stop, declarations_end, declarations_fail, declarations_more      the steps of a loop that reads them
use Rattle.std.proofs.Common.{◌≡◌, ℕ, suc, ◌+◌, Bool, true, false, cond, List, [], ◌∷◌, length, refl, sym, ap, ◌∙◌}
use Rattle.std.specs.declared.result.Result.TheVariants.{Ok, Err}
use Rattle.ore_problem.specs.declared.fault.ProblemFault.{ProblemFault}
use Rattle.ore_problem.specs.Lines.{Cursor, is_comment, words}
use Rattle.ore_problem.specs.Problems.{Frame, Declarations, Read, line_due, is_matrix, declared_frame, declarations_of}
use Rattle.ore_algebra.specs.Results.{◌>>=◌}
use Rattle.ore_problem.proofs.LineLemmas.{line_due-comment, line_due-line, line_due_none}

abbrev pub declared_words : Frame → Cursor → List (List ℕ) → Read Declarations
declared_words f c ws = cond (is_matrix ws) (Ok (record { frame = f; sizes = ws; cursor = c })) (declared_frame f c.line ws >>= λ g. declarations_of g c.line c.used c.left)

abbrev pub declared_line : Frame → List ℕ × Cursor → Read Declarations
declared_line f x = declared_words f x.1 (words x.0)

declarations_of-due : (f : Frame) (line used : ℕ) (left : List (List ℕ)) → declarations_of f line used left ≡ (line_due (record { line = line; used = used; left = left }) >>= declared_line f)
unfolding declarations_of
declarations_of-due f line used [] = sym (ap (λ r. r >>= declared_line f) (line_due_none line used))
declarations_of-due f line used (raw ∷ left) = by (is_comment raw) refl (declarations_of-due f (suc line) (used + length raw) left)
  where
    by : (b : Bool) → is_comment raw ≡ b
        → declarations_of f (suc line) (used + length raw) left ≡ (line_due (record { line = suc line; used = used + length raw; left = left }) >>= declared_line f)
        → declarations_of f line used (raw ∷ left) ≡ (line_due (record { line = line; used = used; left = raw ∷ left }) >>= declared_line f)
    by true e ih = rw e (ih ∙ sym (ap (λ r. r >>= declared_line f) (line_due-comment line used raw left e)))
    by false e ih = rw e (sym (ap (λ r. r >>= declared_line f) (line_due-line line used raw left e)))

-- ---- the steps of a loop, where the declarations from here on are all
module _ (f : Frame) (c : Cursor) (all : Read Declarations) (told : declarations_of f c.line c.used c.left ≡ all) where
  pub declarations_stop : (e : ProblemFault) → line_due c ≡ Err e → all ≡ Err e
  declarations_stop e h = sym told ∙ declarations_of-due f c.line c.used c.left ∙ ap (λ r. r >>= declared_line f) h

  module _ (line : List ℕ) (d : Cursor) (ws : List (List ℕ)) (found : line_due c ≡ Ok (line, d)) (same : ws ≡ words line) where
    read_on : all ≡ declared_words f d ws
    read_on = sym told ∙ declarations_of-due f c.line c.used c.left ∙ ap (λ r. r >>= declared_line f) found ∙ ap (declared_words f d) (sym same)

    pub declarations_end : is_matrix ws ≡ true → all ≡ Ok (record { frame = f; sizes = ws; cursor = d })
    declarations_end m = read_on ∙ rw m refl

    other : is_matrix ws ≡ false → all ≡ (declared_frame f d.line ws >>= λ g. declarations_of g d.line d.used d.left)
    other m = read_on ∙ rw m refl

    pub declarations_fail : is_matrix ws ≡ false → (e : ProblemFault) → declared_frame f d.line ws ≡ Err e → all ≡ Err e
    declarations_fail m e h = other m ∙ ap (λ r. r >>= λ g. declarations_of g d.line d.used d.left) h

    pub declarations_more : is_matrix ws ≡ false → (g : Frame) → declared_frame f d.line ws ≡ Ok g → declarations_of g d.line d.used d.left ≡ all
    declarations_more m g h = sym (other m ∙ ap (λ r. r >>= λ g. declarations_of g d.line d.used d.left) h)
