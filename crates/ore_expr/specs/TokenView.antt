-- The tokens of the code.
--     token_of        one as a token of the grammar
--     IsNumeric       the bytes of a number are digits
use Rattle.std.specs.List.{AllPass}
use Rattle.std.specs.Char.{is_ascii_digit}
use Rattle.ore_expr.specs.Tokens.{Token, Number, Name, Plus, Minus, Star, Slash, Caret, Open, Close, Stray}
use Rattle.ore_expr.specs.declared.token.Token.{Token as LentToken}
use Rattle.ore_expr.specs.declared.token.Token.TheVariants as lent

-- the token with the bytes of its text
abbrev pub token_of : LentToken → Token
token_of (lent.Number digits) = Number digits.now
token_of (lent.Name bytes) = Name bytes.now
token_of lent.Plus = Plus
token_of lent.Minus = Minus
token_of lent.Star = Star
token_of lent.Slash = Slash
token_of lent.Caret = Caret
token_of lent.Open = Open
token_of lent.Close = Close
token_of (lent.Stray b) = Stray b

-- each byte of a number is a digit; of any other token this says nothing
abbrev pub IsNumeric : Token → Type 0
IsNumeric (Number digits) = AllPass is_ascii_digit digits
IsNumeric token = Unit {0}
