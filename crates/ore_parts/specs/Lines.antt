-- The lines of a text. Each ends with the byte 10, which the last one may lack.
--     LacksByte       no byte of a text is this one
--     IsLine          one whole line with its end
--     onto_first      a byte before the first of some pieces (ore_text)
--     raw_lines       the lines of a text, each with its end (ore_text)
--     Unread          the text that is left, and the number of its first line
--     unread_code     a code of this value as numbers
use Rattle.std.specs.Prelude.{◌≡◌, ℕ, true, not, nat_eq, List, [], ◌∷◌, ◌++◌, refl}
use Rattle.std.specs.List.{list_all}
pub use Rattle.ore_text.specs.Lines.{onto_first}
unfoldable pub use Rattle.ore_text.specs.Lines.{raw_lines}
use Rattle.std.specs.Coded.{Coded, coded×, coded_list, coded_ℕ, code_by}

-- each byte of the text has another value
abbrev pub LacksByte : ℕ → List ℕ → Type 0
LacksByte byte text = list_all (λ b. not (nat_eq b byte)) text ≡ true

-- bytes that are no line end, and then the line end
abbrev pub IsLine : List ℕ → Type 0
IsLine line = (bytes : List ℕ) × LacksByte 10 bytes × (line ≡ bytes ++ 10 ∷ [])

-- `at` is the number of the line that is due, and `left` the text from there on
pub record Unread : Type 0 where
  pub at : ℕ
  pub left : List ℕ

-- it is stored as the number and the text
abbrev pub unread_code : Coded Unread
unread_code = code_by (ℕ × List ℕ) (coded× coded_ℕ (coded_list coded_ℕ)) (λ u. (u.at, u.left)) (λ p. record { at = p.0; left = p.1 }) (λ _. refl)
