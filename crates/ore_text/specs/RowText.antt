-- The line of a row of operators.
--     listed         pieces with a comma and a space between each two
--     row_text       `row`, the canonical texts of the entries where there are some, and a line end
use Rattle.std.specs.Prelude.{ℕ, List, [], ◌∷◌, ◌++◌, map, codes}
use Rattle.ore_rational.specs.Field.{rationals}
use Rattle.ore_monomial.specs.declared.order.Order.{Order}
use Rattle.ore_monomial.specs.LetterRule.{Operator}
use Rattle.ore_text.specs.CanonicalText.{operator_text}

-- no piece gives the empty text, and one piece stands alone
abbrev pub listed : List (List ℕ) → List ℕ
listed [] = []
listed (x ∷ []) = x
listed (x ∷ y ∷ xs) = x ++ (codes ", " ++ listed (y ∷ xs))

-- without entries the line is `row` and its end, the byte 10
abbrev pub row_text : List (List ℕ) → Order → List (Operator rationals) → List ℕ
row_text names o [] = codes "row\n"
row_text names o (f ∷ fs) = codes "row " ++ (listed (map (operator_text names o) (f ∷ fs)) ++ 10 ∷ [])
