-- The tokens of an expression: numbers and names, each as long as it reaches, and single bytes. Spaces stand between
-- tokens and mean nothing.
--     is_name_byte, IsName    the bytes of names, and their form (ore_text)
--     Token                   a number, a name, one of seven symbols, or a byte that begins no token
--     symbol, token_at        the token of one byte; the token at the front of a text
--     more_bytes              how many bytes a token has after its first
--     Lexeme                  a token and the place of its first byte
--     lexemes_from, lexemes   the tokens of a text; some bytes of a token are passed over first
--     tokens_of               the tokens of some lexemes
use Rattle.std.specs.Prelude.{ℕ, zero, suc, ◌-◌, nat_eq, if◌then◌else◌, List, [], ◌∷◌, length, map, take_while}
pub use Rattle.ore_text.specs.Names.{is_name_byte, IsName}
use Rattle.std.specs.Char.{is_ascii_digit, is_ascii_alphabetic}

-- a number and a name with their bytes; the symbols `+ - * / ^ ( )`; a byte that begins no token
pub data Token : Type 0 where
  Number : List ℕ → Token
  Name : List ℕ → Token
  Plus : Token
  Minus : Token
  Star : Token
  Slash : Token
  Caret : Token
  Open : Token
  Close : Token
  Stray : ℕ → Token

-- `+`, `-`, `*`, `/`, `^`, `(` and `)`
abbrev pub symbol : ℕ → Token
symbol b =
    if nat_eq b 43 then Plus else if nat_eq b 45 then Minus else if nat_eq b 42 then Star else if nat_eq b 47 then Slash
    else if nat_eq b 94 then Caret else if nat_eq b 40 then Open else if nat_eq b 41 then Close else Stray b

-- the token that begins with the byte b, where bs follows
abbrev pub token_at : ℕ → List ℕ → Token
token_at b bs =
    if is_ascii_digit b then Number (b ∷ take_while is_ascii_digit bs)
    else if is_ascii_alphabetic b then Name (b ∷ take_while is_name_byte bs)
    else symbol b

-- all bytes of the token but its first
abbrev pub more_bytes : Token → ℕ
more_bytes (Number digits) = length digits - 1
more_bytes (Name bytes) = length bytes - 1
more_bytes symbol = 0

-- the place is that of the first byte of the token in its text, where the first byte of the text has place 0
pub record Lexeme : Type 0 where
  pub place : ℕ
  pub token : Token

-- the tokens of a text whose first byte has this place, once so many bytes are passed over
unfoldable pub lexemes_from : ℕ → ℕ → List ℕ → List Lexeme
lexemes_from skipped place [] = []
lexemes_from (suc skipped) place (b ∷ bs) = lexemes_from skipped (suc place) bs
lexemes_from zero place (b ∷ bs) =
    if nat_eq b 32 then lexemes_from 0 (suc place) bs
    else record { place = place; token = token_at b bs } ∷ lexemes_from (more_bytes (token_at b bs)) (suc place) bs

-- the tokens of the whole text, with their places
abbrev pub lexemes : List ℕ → List Lexeme
lexemes text = lexemes_from 0 0 text

-- the tokens in order, without their places
abbrev pub tokens_of : List Lexeme → List Token
tokens_of ls = map (λ x. x.token) ls
