-- The text of a problem: single spaces, no comments, the byte 10 after every line, and canonical entries.
--     order_word         the word of an order
--     declaration_word, declaration_words  the word of a kind, before the name; the words behind the name
--     declaration_text   the line of one variable
--     matrix_text        the sizes, and a line for each row
--     problem_text       all lines
use Rattle.std.specs.Prelude.{ℕ, List, [], ◌∷◌, ◌++◌, length, get_or, codes, decimal}
use Rattle.std.specs.List.{flat_map, zip}
use Rattle.ore_rational.specs.Field.{rationals}
use Rattle.ore_monomial.specs.declared.order.Order.{Order}
use Rattle.ore_monomial.specs.declared.order.Order.TheVariants.{DegLex, DegRevLex}
use Rattle.ore_monomial.specs.declared.signature.VarKind.{VarKind}
use Rattle.ore_monomial.specs.declared.signature.VarKind.TheVariants.{Coordinate, Constant, Plain, Differential, Shift, Delay}
use Rattle.ore_text.specs.Lines.{line}
use Rattle.ore_text.specs.RowText.{row_text}
use Rattle.ore_rows.specs.Rows.{Row}
use Rattle.ore_problem.specs.Problems.{System}

-- the word that names the order in the second line
abbrev pub order_word : Order → List ℕ
order_word DegLex = codes "deglex"
order_word DegRevLex = codes "degrevlex"

-- the kind's word before the name, and the words behind it
abbrev pub declaration_word : VarKind → List ℕ
declaration_word Coordinate = codes "coordinate"
declaration_word Constant = codes "constant"
declaration_word Plain = codes "plain"
declaration_word (Differential on) = codes "differential"
declaration_word (Shift on step) = codes "shift"
declaration_word (Delay on step) = codes "delay"

-- of an operator that acts on a coordinate, the name of that; of a shift and a delay, the step too
abbrev pub declaration_words : List (List ℕ) → VarKind → List (List ℕ)
declaration_words names (Differential on) = get_or names on [] ∷ []
declaration_words names (Shift on step) = get_or names on [] ∷ decimal step ∷ []
declaration_words names (Delay on step) = get_or names on [] ∷ decimal step ∷ []
declaration_words names kind = []

-- the line of a variable with its name and kind, where all names are given
abbrev pub declaration_text : List (List ℕ) → List ℕ × VarKind → List ℕ
declaration_text names d = line (declaration_word d.1 ∷ d.0 ∷ declaration_words names d.1)

-- the sizes, and a line for each row
abbrev pub matrix_text : List (List ℕ) → Order → ℕ → List (Row rationals) → List ℕ
matrix_text names o cols rows = line (codes "matrix" ∷ decimal (length rows) ∷ decimal cols ∷ []) ++ flat_map (row_text names o) rows

-- `ore 1`, the order, a line for each variable, the matrix, and `end`
unfoldable pub problem_text : System → List ℕ
problem_text p =
    codes "ore 1\n"
    ++ (line (codes "order" ∷ order_word p.signature.order ∷ [])
    ++ (flat_map (declaration_text p.names) (zip p.names p.signature.kinds)
    ++ (matrix_text p.names p.signature.order p.cols p.rows ++ codes "end\n")))
