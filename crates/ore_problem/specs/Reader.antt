-- Where the reader of a text stands.
--     line_length      the number of bytes of the first line of a text, with its end
--     Position         a text, and how many of its lines and bytes were passed
--     cursor_of        the cursor there
--     declaration_view  a declaration that was read, with the bytes of its name
--     size_pair        the sizes that two words are
--     spaces_read      the entries of a row without columns
--     text_fault       a fault of an entry of a line; want of memory has line 0
--     problem_after    the problem that begins at a cursor
--     IsExtended       the signature with one kind more was made, or the kinds have a fault
use Rattle.std.specs.Prelude.{◌≡◌, ◌++◌, ℕ, suc, if◌then◌else◌, List, [], ◌∷◌, drop, nat_eq, codes}
use Rattle.std.specs.declared.option.Option.TheVariants.{None, Some}
use Rattle.std.specs.declared.result.Result.{Result}
use Rattle.std.specs.declared.result.Result.TheVariants.{Ok, Err}
use Rattle.ore_monomial.specs.declared.signature.SignatureFault.{SignatureFault}
use Rattle.ore_monomial.specs.declared.signature.VarKind.{VarKind}
use Rattle.ore_monomial.specs.Signature.{Signature, first_fault}
use Rattle.ore_monomial.specs.SignatureCode.{signature_of}
use Rattle.ore_rational.specs.Field.{rationals}
use Rattle.ore_rows.specs.Rows.{Row}
use Rattle.ore_monomial.specs.declared.order.Order.TheVariants.{DegLex}
use Rattle.ore_monomial.specs.declared.stop.RingStop.TheVariants as out_of
use Rattle.ore_expr.specs.declared.fault.TextFault.{TextFault}
use Rattle.ore_expr.specs.declared.fault.TextFault.TheVariants.{Stop}
use Rattle.ore_problem.specs.declared.fault.ProblemFault.{ProblemFault}
use Rattle.ore_problem.specs.declared.fault.ProblemReason.TheVariants.{Memory, Text}
use Rattle.ore_problem.specs.declared.frame.Declaration.{Declaration}
use Rattle.ore_problem.specs.Declarations.{Declared}
use Rattle.ore_problem.specs.Problems.{System, Read, header_after, order_after, declarations_after, sizes_of, row_entries, rows_after, end_after}
use Rattle.ore_algebra.specs.Results.{◌>>=◌}
use Rattle.ore_problem.specs.Lines.{Cursor, raw_lines}

-- up to the byte 10 and with it; all bytes where there is none
abbrev pub line_length : List ℕ → ℕ
line_length [] = 0
line_length (b ∷ bs) = if nat_eq b 10 then 1 else suc (line_length bs)

-- line is the number of lines, and used that of bytes, that were passed
pub record Position : Type 0 where
  pub text : List ℕ
  pub line : ℕ
  pub used : ℕ

-- the lines that are left are those of the text from there on
abbrev pub cursor_of : Position → Cursor
cursor_of p = record { line = p.line; used = p.used; left = raw_lines (drop p.used p.text) }

-- the bytes of the name, and the kind
abbrev pub declaration_view : Declaration → Declared
declaration_view d = record { name = d.name.now; kind = d.kind }

-- what is made has all the kinds in the order of s; a refusal is the fault that they have
abbrev pub IsExtended : Result Signature SignatureFault → Signature → VarKind → Type 0
IsExtended (Ok made) s kind = (first_fault (s.kinds ++ kind ∷ []) ≡ None) × (made ≡ signature_of (s.kinds ++ kind ∷ []) s.order)
IsExtended (Err fault) s kind = first_fault (s.kinds ++ kind ∷ []) ≡ Some fault

-- the words of two sizes behind the word `matrix`
abbrev pub size_pair : ℕ → List ℕ → List ℕ → Read (ℕ × ℕ)
size_pair line rows cols = sizes_of line (codes "matrix" ∷ rows ∷ cols ∷ [])

-- the entries of a row where there are no columns
abbrev pub spaces_read : ℕ → List ℕ → Read (Row rationals)
spaces_read line rest = row_entries (record { names = []; signature = signature_of [] DegLex }) 0 line rest

-- a fault of this line; but want of memory has line 0
abbrev pub text_fault : ℕ → TextFault → ProblemFault
text_fault line (Stop out_of.Memory) = record { line = 0; reason = Memory }
text_fault line f = record { line = line; reason = Text f }

-- the problem that begins where a cursor stands, and the cursor behind it
unfoldable pub problem_after : Cursor → Read (System × Cursor)
problem_after start = do
  c ← header_after start
  o ← order_after c
  d ← declarations_after o.0 o.1
  n ← sizes_of d.cursor.line d.sizes
  r ← rows_after d.frame n.1 n.0 d.cursor
  e ← end_after r.1
  Ok (record { names = d.frame.names; signature = d.frame.signature; cols = n.1; rows = r.0 }, e)
