-- The laws of problem texts.
--     IsReadExactly    a text is read as a problem where it is accepted, and this is its problem
--     HasFront         some bytes begin with the text of a problem, which has so many bytes and lines
--     IsPrefixReadExactly     the front of a text is read as a problem where it is accepted, and this is its problem
--     lines_of         the lines of a text without their ends
--     IsProblemText, BeginsWithProblem      a text is that of a problem; its front is
--     FindsFirstFaultyLine                  the fault of a text names its faulty line, the only one
--     cursor_behind    the cursor behind the text of a problem, where some text follows
--     PrintedProblemIsRead  the text of a problem is read as the problem, alone and where some text follows
use Rattle.std.specs.Prelude.{◌≡◌, ◌↔◌, ℕ, List, ◌++◌, length, map}
use Rattle.std.specs.declared.result.Result.TheVariants.{Ok, Err}
use Rattle.ore_text.specs.FaultyLine.{IsFaultyLine, HasOneFaultyLine}
use Rattle.ore_problem.specs.declared.fault.ProblemFault.{ProblemFault}
use Rattle.ore_problem.specs.Lines.{Cursor, raw_lines, content}
use Rattle.ore_problem.specs.Problems.{System, prefix_of, prefix_sizes, problem_of}
use Rattle.ore_problem.specs.ProblemText.{problem_text}
use Rattle.ore_problem.specs.Stored.{IsPrintableSystem}
use Rattle.ore_problem.specs.Accepted.{Accepted, AcceptedFront}

-- a text is read as this problem exactly where it is accepted, and this is its problem
abbrev pub IsReadExactly : Type 0
IsReadExactly = (text : List ℕ) (p : System) → (problem_of text ≡ Ok p) ↔ Accepted text p

-- some front of the bytes is accepted, as the text of this problem, and has so many bytes and lines
abbrev pub HasFront : List ℕ → System → ℕ → ℕ → Type 0
HasFront bytes p used lines = (front : List ℕ) × (rest : List ℕ) × AcceptedFront bytes p front rest × (used ≡ length front) × (lines ≡ length (raw_lines front))

-- the front of some bytes is read as this problem, with these numbers of bytes and lines, exactly where there is such a front
abbrev pub IsPrefixReadExactly : Type 0
IsPrefixReadExactly = (bytes : List ℕ) (p : System) (used lines : ℕ) → (prefix_sizes bytes ≡ Ok (p, (used, lines))) ↔ HasFront bytes p used lines

-- without the ends that raw lines have
abbrev pub lines_of : List ℕ → List (List ℕ)
lines_of text = map content (raw_lines text)

-- it is accepted, as the text of some problem
abbrev pub IsProblemText : List ℕ → Type 0
IsProblemText text = (p : System) × Accepted text p

-- some front of the bytes is accepted
abbrev pub BeginsWithProblem : List ℕ → Type 0
BeginsWithProblem bytes = (p : System) × (front : List ℕ) × (rest : List ℕ) × AcceptedFront bytes p front rest

-- A text has at most one faulty line. The fault of a text that is no problem names it, and so does the fault of one that
-- doesn't begin with a problem.
pub record FindsFirstFaultyLine : Type 0 where
  pub one : HasOneFaultyLine lines_of IsProblemText
  pub one_front : HasOneFaultyLine lines_of BeginsWithProblem
  pub whole : (text : List ℕ) (f : ProblemFault) → problem_of text ≡ Err f → IsFaultyLine lines_of IsProblemText text f.line
  pub front : (bytes : List ℕ) (f : ProblemFault) → prefix_sizes bytes ≡ Err f → IsFaultyLine lines_of BeginsWithProblem bytes f.line

-- all lines and bytes of the text are passed
abbrev pub cursor_behind : System → List ℕ → Cursor
cursor_behind p rest = record { line = length (raw_lines (problem_text p)); used = length (problem_text p); left = raw_lines rest }

-- a problem that can be printed is read from its text, and from the front of any text that begins with that
pub record PrintedProblemIsRead : Type 0 where
  pub alone : (p : System) → IsPrintableSystem p → problem_of (problem_text p) ≡ Ok p
  pub before : (p : System) → IsPrintableSystem p → (rest : List ℕ) → prefix_of (problem_text p ++ rest) ≡ Ok (p, cursor_behind p rest)
