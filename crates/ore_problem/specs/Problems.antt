-- Problem texts: the lines in the order in which they are due, each with its faults. The first faulty line decides.
--     System                              names, signature, and a matrix by its columns and rows
--     Read                                a value, or the first faulty line with its fault
--     fault_at                            a fault of a line
--     accepted_where                      the value where a test passes, else a fault of the line before the cursor
--     found_or                            the value where there is one, else a fault of a line
--     line_due                            the next line, or none is left before the end
--     are_words                           the words of a line are these
--     order_named                         the order that words name
--     header_after, order_after           the first and the second line
--     Frame                               the names and the signature so far
--     fault_or                            the fault where there is one, else the value
--     with_declared, declared_frame       with one declaration more; with that of a line, if it has no fault
--     is_matrix                           a line is the matrix line
--     Declarations                        the names, the signature and the words of the matrix line
--     declarations_of, declarations_after
--                                         the declarations up to the matrix line, by the parts of a cursor; from a
--                                         cursor on
--     sizes_of                            the numbers of a matrix line
--     is_space, begins_with_space         a byte is a space; a text is empty or begins with one
--     is_row                              a line is a row line
--     text_read, value_read               a fault of an entry, and the stop of one, as a fault of its line
--     parsed, evaluated, row_entries      the entries of a row line: each is parsed before any is evaluated
--     row_after, rows_after, end_after    a row line; the row lines; the last line
--     prefix_of                           the problem at the front of a text
--     with_sizes                          a problem with the numbers of bytes and lines before a cursor
--     prefix_sizes                        the problem at the front of a text, with those that it takes
--     ends_there, problem_of              a problem is the whole text; the problem that is the whole text
use Rattle.std.specs.Prelude.{ℕ, zero, suc, ◌+◌, Bool, true, false, ◌&&◌, nat_lt, nat_eq, if◌then◌else◌, cond, List, [], ◌∷◌, ◌++◌, length, drop, take, codes}
use Rattle.std.specs.List.{list_all}
use Rattle.std.specs.Str.{bytes_eq}
use Rattle.std.specs.Str.Parse.{digits_value}
use Rattle.std.specs.declared.option.Option.{Option}
use Rattle.std.specs.declared.option.Option.TheVariants.{None, Some}
use Rattle.std.specs.declared.result.Result.{Result}
use Rattle.std.specs.declared.result.Result.TheVariants.{Ok, Err}
use Rattle.ore_algebra.specs.Limits.{Cause, program}
use Rattle.ore_algebra.specs.Results.{◌>>=◌}
use Rattle.ore_rational.specs.Field.{rationals}
use Rattle.ore_monomial.specs.declared.order.Order.{Order}
use Rattle.ore_monomial.specs.declared.order.Order.TheVariants.{DegLex, DegRevLex}
use Rattle.ore_monomial.specs.Signature.{Signature}
use Rattle.ore_monomial.specs.SignatureCode.{signature_of}
use Rattle.ore_expr.specs.declared.fault.TextFault.{TextFault}
use Rattle.ore_expr.specs.declared.instruction.Instruction.{Instruction}
use Rattle.ore_expr.specs.Parsing.{parse}
use Rattle.ore_expr.specs.Evaluation.{value_of}
use Rattle.ore_expr.specs.Reading.{stop_fault}
use Rattle.ore_rows.specs.Rows.{Row}
use Rattle.ore_problem.specs.declared.fault.ProblemFault.{ProblemFault}
use Rattle.ore_problem.specs.declared.fault.ProblemReason.{ProblemReason}
use Rattle.ore_problem.specs.declared.fault.ProblemReason.TheVariants as reason
use Rattle.ore_problem.specs.Lines.{Cursor, at_start, split_at, content, is_comment, next, words}
use Rattle.ore_problem.specs.Declarations.{Declared, declared_by, declaration_fault, is_count}

-- the names are in the order of the variables; the rows have cols entries each, which is also known without rows
pub record System : Type 0 where
  pub names : List (List ℕ)
  pub signature : Signature
  pub cols : ℕ
  pub rows : List (Row rationals)

-- a refusal has the number of a line
abbrev pub Read : Type 0 → Type 0
Read A = Result A ProblemFault

-- the line has this number, where the first line has number 1
abbrev pub fault_at : {A : Type 0} → ℕ → ProblemReason → Read A
fault_at line r = Err (record { line = line; reason = r })

-- what is given where the test passes, else a fault of the line before the cursor
abbrev pub accepted_where : {A : Type 0} → Bool → Cursor → ProblemReason → A → Read A
accepted_where b c r x = cond b (Ok x) (fault_at c.line r)

-- what was found, else a fault of this line
abbrev pub found_or : {A : Type 0} → Option A → ℕ → ProblemReason → Read A
found_or (Some x) line r = Ok x
found_or None line r = fault_at line r

-- where all that is left are comments, the end is missed behind them
unfoldable pub line_due : Cursor → Read (List ℕ × Cursor)
line_due c = found_or (next c) (suc (c.line + length c.left)) reason.NoEnd

-- the words are these
abbrev pub are_words : List (List ℕ) → List (List ℕ) → Bool
are_words [] [] = true
are_words (w ∷ ws) (v ∷ vs) = bytes_eq w v && are_words ws vs
are_words ws vs = false

-- ---- the first two lines

-- the words of the next line are `ore` and `1`
unfoldable pub header_after : Cursor → Read Cursor
header_after c = do
  x ← line_due c
  accepted_where (are_words (words x.0) (codes "ore" ∷ codes "1" ∷ [])) x.1 reason.Header x.1

-- the words are `order` and `deglex`, or `order` and `degrevlex`
abbrev pub order_named : List (List ℕ) → Option Order
order_named ws =
    if are_words ws (codes "order" ∷ codes "deglex" ∷ []) then Some DegLex
    else if are_words ws (codes "order" ∷ codes "degrevlex" ∷ []) then Some DegRevLex
    else None

-- the next line names an order, or is a faulty header
unfoldable pub order_after : Cursor → Read (Order × Cursor)
order_after c = do
  x ← line_due c
  o ← found_or (order_named (words x.0)) x.1.line reason.Header
  Ok (o, x.1)

-- ---- declarations

-- one name for each variable, in the order of declaration
pub record Frame : Type 0 where
  pub names : List (List ℕ)
  pub signature : Signature

-- the fault of the line where there is one, else what is given
abbrev pub fault_or : {A : Type 0} → Option ProblemReason → ℕ → A → Read A
fault_or None line x = Ok x
fault_or (Some r) line x = fault_at line r

-- the declared variable is the last one
abbrev pub with_declared : Frame → Declared → Frame
with_declared f d = record { names = f.names ++ d.name ∷ []; signature = signature_of (f.signature.kinds ++ d.kind ∷ []) f.signature.order }

-- the words of the line declare a variable, which has no fault behind those before it
unfoldable pub declared_frame : Frame → ℕ → List (List ℕ) → Read Frame
declared_frame f line ws = do
  d ← found_or (declared_by f.names ws) line reason.BadDeclaration
  fault_or (declaration_fault f.names f.signature.kinds d) line (with_declared f d)

-- the first word is `matrix`
abbrev pub is_matrix : List (List ℕ) → Bool
is_matrix [] = false
is_matrix (w ∷ ws) = bytes_eq w (codes "matrix")

-- what was read up to the matrix line
pub record Declarations : Type 0 where
  pub frame : Frame
  pub sizes : List (List ℕ)
  pub cursor : Cursor

-- up to the first line whose first word is `matrix`; that one's words are handed on
unfoldable pub declarations_of : Frame → ℕ → ℕ → List (List ℕ) → Read Declarations
declarations_of f line used [] = fault_at (suc line) reason.NoEnd
declarations_of f line used (raw ∷ left) =
    if is_comment raw then declarations_of f (suc line) (used + length raw) left
    else if is_matrix (words (content raw)) then Ok (record { frame = f; sizes = words (content raw); cursor = record { line = suc line; used = used + length raw; left = left } })
    else (declared_frame f (suc line) (words (content raw)) >>= λ g. declarations_of g (suc line) (used + length raw) left)

-- from the cursor on, where nothing is declared yet
abbrev pub declarations_after : Order → Cursor → Read Declarations
declarations_after o c = declarations_of (record { names = []; signature = signature_of [] o }) c.line c.used c.left

-- ---- the matrix

-- rows, then columns
unfoldable pub sizes_of : ℕ → List (List ℕ) → Read (ℕ × ℕ)
sizes_of line (word ∷ q ∷ p ∷ []) =
    if is_count q && is_count p then
    (if nat_lt 64 (digits_value 10 q) then fault_at line reason.TooManyRows
    else if nat_lt 64 (digits_value 10 p) then fault_at line reason.TooManyColumns
    else Ok (digits_value 10 q, digits_value 10 p))
    else fault_at line reason.BadMatrix
sizes_of line others = fault_at line reason.BadMatrix

-- the byte 32
abbrev pub is_space : ℕ → Bool
is_space b = nat_eq b 32

-- the first byte is a space, or there is none
abbrev pub begins_with_space : List ℕ → Bool
begins_with_space [] = true
begins_with_space (b ∷ bs) = is_space b

-- `row` alone, or before a space
abbrev pub is_row : List ℕ → Bool
is_row line = bytes_eq (take 3 line) (codes "row") && begins_with_space (drop 3 line)

-- a fault of the text of an entry is a fault of this line
abbrev pub text_read : {A : Type 0} → ℕ → Result A TextFault → Read A
text_read line (Ok x) = Ok x
text_read line (Err f) = fault_at line (reason.Text f)

-- the stop of an operation in an entry is a fault of this line
abbrev pub value_read : {A : Type 0} → ℕ → Result A Cause → Read A
value_read line (Ok x) = Ok x
value_read line (Err e) = fault_at line (reason.Text (stop_fault e))

-- the entries in order, up to the first that has a fault
unfoldable pub parsed : List (List ℕ) → ℕ → List (List ℕ) → Read (List (List Instruction))
parsed names line [] = Ok []
parsed names line (part ∷ parts) = do
  p ← text_read line (parse names part)
  ps ← parsed names line parts
  Ok (p ∷ ps)

-- the entries in order, up to the first that stops
unfoldable pub evaluated : Signature → ℕ → List (List Instruction) → Read (Row rationals)
evaluated s line [] = Ok []
evaluated s line (p ∷ ps) = do
  f ← value_read line (value_of program s p)
  fs ← evaluated s line ps
  Ok (f ∷ fs)

-- the entries stand between commas; where there are no columns, only spaces may stand
unfoldable pub row_entries : Frame → ℕ → ℕ → List ℕ → Read (Row rationals)
row_entries f zero line rest = cond (list_all is_space rest) (Ok []) (fault_at line reason.WrongLength)
row_entries f (suc p) line rest =
    if nat_eq (length (split_at 44 rest)) (suc p) then (parsed f.names line (split_at 44 rest) >>= λ ps. evaluated f.signature line ps)
    else fault_at line reason.WrongLength

-- the row of p entries in the next line
unfoldable pub row_after : Frame → ℕ → Cursor → Read (Row rationals × Cursor)
row_after f p c = do
  x ← line_due c
  rest ← accepted_where (is_row x.0) x.1 reason.BadRow (drop 3 x.0)
  r ← row_entries f p x.1.line rest
  Ok (r, x.1)

-- n rows of p entries, each in the next line
unfoldable pub rows_after : Frame → ℕ → ℕ → Cursor → Read (List (Row rationals) × Cursor)
rows_after f p zero c = Ok ([], c)
rows_after f p (suc n) c = do
  r ← row_after f p c
  rs ← rows_after f p n r.1
  Ok (r.0 ∷ rs.0, rs.1)

-- the next line is `end`
unfoldable pub end_after : Cursor → Read Cursor
end_after c = do
  x ← line_due c
  accepted_where (are_words (words x.0) (codes "end" ∷ [])) x.1 reason.NoEnd x.1

-- ---- texts

-- the problem at the front of a text, and the cursor behind it
unfoldable pub prefix_of : List ℕ → Read (System × Cursor)
prefix_of text = do
  c ← header_after (at_start text)
  o ← order_after c
  d ← declarations_after o.0 o.1
  n ← sizes_of d.cursor.line d.sizes
  r ← rows_after d.frame n.1 n.0 d.cursor
  e ← end_after r.1
  Ok (record { names = d.frame.names; signature = d.frame.signature; cols = n.1; rows = r.0 }, e)

-- the numbers of bytes and of lines before the cursor
abbrev pub with_sizes : System × Cursor → Read (System × (ℕ × ℕ))
with_sizes x = Ok (x.0, (x.1.used, x.1.line))

-- the problem at the front of a text, with the numbers of bytes and of lines that it takes
abbrev pub prefix_sizes : List ℕ → Read (System × (ℕ × ℕ))
prefix_sizes text = do
  x ← prefix_of text
  with_sizes x

-- no line is left, else the first one that is has a fault
abbrev pub ends_there : System → Cursor → List (List ℕ) → Read System
ends_there p e [] = Ok p
ends_there p e (raw ∷ left) = fault_at (suc e.line) reason.AfterEnd

-- nothing follows the problem at the front
unfoldable pub problem_of : List ℕ → Read System
problem_of text = do
  x ← prefix_of text
  ends_there x.0 x.1 x.1.left
