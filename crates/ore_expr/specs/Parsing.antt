-- How an expression is read from the left, token by token, into instructions: the operations stand in the order in which
-- they are formed. `proofs/` shows that this is the grammar, and that its faults are those of the table.
--     State              what is due, the operations that wait at this depth and at each one outside, the instructions so far
--     no_level, start    where no operation waits; where nothing is read
--     ends_atom, ends_factor, ends_sum       instructions that are made once it is known that an atom, a factor, a term ends
--     ends_product, ends_term                all instructions so far then
--     has_value, wants_atom                  an operation may follow; an atom may
--     fault_where, taken_where               a fault where a test holds; a token where one holds
--     goes_on            the state with what is due next and its instructions
--     number_atom, takes_number              the state after a number that is an atom; after a number, by what is due
--     takes_name, takes_sum, takes_minus, takes_product, takes_slash, takes_caret, takes_open, takes_close
--                        the state after a name, a sum, a minus, a product and so on
--     takes_token, takes                     the state after a token, after a lexeme
--     takes_all          the state after some lexemes
--     is_empty           no parenthesis is open
--     ends               the instructions where the text ends here
--     parse              the instructions of a text
use Rattle.std.specs.Prelude.{ℕ, Bool, true, false, cond, nat_lt, nat_eq, not, ◌&&◌, List, [], ◌∷◌, ◌++◌, length, pos}
use Rattle.std.specs.declared.option.Option.{Option}
use Rattle.std.specs.declared.option.Option.TheVariants.{None, Some}
use Rattle.std.specs.declared.result.Result.{Result}
use Rattle.std.specs.declared.result.Result.TheVariants.{Ok, Err}
use Rattle.std.specs.Str.Parse.{digits_value}
use Rattle.ore_algebra.specs.Results.{◌>>=◌}
use Rattle.ore_rational.specs.Fraction.{whole, reduce}
use Rattle.ore_expr.specs.declared.fault.TextFault.{TextFault}
use Rattle.ore_expr.specs.declared.fault.TextFault.TheVariants as fault
use Rattle.ore_expr.specs.declared.instruction.Instruction.{Instruction}
use Rattle.ore_expr.specs.declared.instruction.Instruction.TheVariants as code
use Rattle.ore_expr.specs.declared.parser.Due.{Due}
use Rattle.ore_expr.specs.declared.parser.Due.TheVariants.{Start, Operand, AfterNumber, Denominator, AfterName, Exponent, AfterAtom, Power, AfterFactor}
use Rattle.ore_expr.specs.declared.parser.Waiting.{Waiting}
use Rattle.ore_expr.specs.declared.parser.Waiting.TheVariants as waiting
use Rattle.ore_expr.specs.declared.parser.Level.{Level}
use Rattle.ore_expr.specs.Tokens.{Token, Number, Name, Plus, Minus, Star, Slash, Caret, Open, Close, Stray, Lexeme, lexemes}
use Rattle.ore_expr.specs.Faults.{greatest_number, greatest_exponent, greatest_power, greatest_depth, index_of}

-- the levels outside stand innermost first
pub record State : Type 0 where
  pub due : Due
  pub level : Level
  pub outside : List Level
  pub made : List Instruction

-- no sum and no product waits
abbrev pub no_level : Level
no_level = record { sum = waiting.Nothing; product = false }

-- an expression is due, no parenthesis is open, and there are no instructions
abbrev pub start : State
start = record { due = Start; level = no_level; outside = []; made = [] }

-- a number, and a variable, that no slash and no power follows
abbrev pub ends_atom : Due → List Instruction
ends_atom (AfterNumber n) = code.Constant (whole n) ∷ []
ends_atom (AfterName x) = code.Power x 1 ∷ []
ends_atom due = []

-- a product that waits for this factor
abbrev pub ends_factor : Bool → List Instruction
ends_factor waits = cond waits (code.Multiply ∷ []) []

-- a sum that waits for this term
abbrev pub ends_sum : Waiting → List Instruction
ends_sum waiting.Nothing = []
ends_sum waiting.Add = code.Add ∷ []
ends_sum waiting.Subtract = code.Subtract ∷ []

-- the instructions so far, then those of the atom and of the product that waits
abbrev pub ends_product : State → List Instruction
ends_product s = s.made ++ (ends_atom s.due ++ ends_factor s.level.product)

-- the same, then that of the sum that waits
abbrev pub ends_term : State → List Instruction
ends_term s = ends_product s ++ ends_sum s.level.sum

-- a value stands before, so that an operation may follow
abbrev pub has_value : Due → Bool
has_value (AfterNumber n) = true
has_value (AfterName x) = true
has_value AfterAtom = true
has_value AfterFactor = true
has_value due = false

-- an atom may come
abbrev pub wants_atom : Due → Bool
wants_atom Start = true
wants_atom Operand = true
wants_atom due = false

-- the fault where the test holds, else what is given
abbrev pub fault_where : {A : Type 0} → Bool → TextFault → Result A TextFault → Result A TextFault
fault_where b e r = cond b (Err e) r

-- ---- tokens

-- this is due next, at the same depth, and these instructions were made
abbrev pub goes_on : State → Due → List Instruction → Result State TextFault
goes_on s due made = Ok (record { due = due; level = s.level; outside = s.outside; made = made })

-- a number as an atom, which a denominator or a power may follow
abbrev pub number_atom : State → ℕ → ℕ → Result State TextFault
number_atom s place n = fault_where (nat_lt greatest_number n) (fault.NumberTooWide place) (goes_on s (AfterNumber (pos n)) s.made)

-- a number, where this is due
abbrev pub takes_number : State → ℕ → ℕ → Due → Result State TextFault
takes_number s place n Start = number_atom s place n
takes_number s place n Operand = number_atom s place n
takes_number s place n (Denominator m) =
    fault_where (nat_eq n 0) (fault.ZeroDenominator place)
    (fault_where (nat_lt greatest_number n) (fault.NumberTooWide place) (goes_on s AfterAtom (s.made ++ code.Constant (reduce m n) ∷ [])))
takes_number s place n (Exponent x) = fault_where (nat_lt greatest_exponent n) (fault.PowerTooLarge place) (goes_on s AfterFactor (s.made ++ code.Power x n ∷ []))
takes_number s place n Power = fault_where (nat_lt greatest_power n) (fault.PowerTooLarge place) (goes_on s AfterFactor (s.made ++ code.Raise n ∷ []))
takes_number s place n due = Err (fault.Syntax place)

-- a name with this index, if it is declared
abbrev pub takes_name : State → ℕ → Option ℕ → Result State TextFault
takes_name s place None = Err (fault.UnknownName place)
takes_name s place (Some x) = goes_on s (AfterName x) s.made

-- a sum or a difference: the term before it ends
abbrev pub takes_sum : State → Waiting → Result State TextFault
takes_sum s sum = Ok (record { due = Operand; level = record { sum = sum; product = false }; outside = s.outside; made = ends_term s })

-- a minus before the first term subtracts from zero
abbrev pub takes_minus : State → ℕ → Due → Result State TextFault
takes_minus s place Start =
    Ok (record { due = Operand; level = record { sum = waiting.Subtract; product = false }; outside = s.outside; made = s.made ++ code.Constant (whole (pos 0)) ∷ [] })
takes_minus s place due = cond (has_value due) (takes_sum s waiting.Subtract) (Err (fault.Syntax place))

-- a product: the factor before it ends
abbrev pub takes_product : State → Result State TextFault
takes_product s = Ok (record { due = Operand; level = record { sum = s.level.sum; product = true }; outside = s.outside; made = ends_product s })

-- a slash behind a number, whose denominator is due then
abbrev pub takes_slash : State → ℕ → Due → Result State TextFault
takes_slash s place (AfterNumber n) = goes_on s (Denominator n) s.made
takes_slash s place due = Err (fault.Syntax place)

-- a caret behind an atom: the exponent of a name is due, or the power of another atom
abbrev pub takes_caret : State → ℕ → Due → Result State TextFault
takes_caret s place (AfterNumber n) = goes_on s Power (s.made ++ ends_atom (AfterNumber n))
takes_caret s place (AfterName x) = goes_on s (Exponent x) s.made
takes_caret s place AfterAtom = goes_on s Power s.made
takes_caret s place due = Err (fault.Syntax place)

-- a depth more
abbrev pub takes_open : State → ℕ → Result State TextFault
takes_open s place =
    fault_where (not (nat_lt (length s.outside) greatest_depth)) (fault.TooDeep place) (Ok (record { due = Start; level = no_level; outside = s.level ∷ s.outside; made = s.made }))

-- the expression in parentheses ends
abbrev pub takes_close : State → ℕ → List Level → Result State TextFault
takes_close s place [] = Err (fault.Syntax place)
takes_close s place (level ∷ outside) = Ok (record { due = AfterAtom; level = level; outside = outside; made = ends_term s })

-- the token is taken where the test holds, else it is a syntax fault
abbrev pub taken_where : Bool → ℕ → Result State TextFault → Result State TextFault
taken_where b place r = cond b r (Err (fault.Syntax place))

-- each kind of token as its own function says; a stray byte is a syntax fault
abbrev pub takes_token : List (List ℕ) → State → ℕ → Token → Result State TextFault
takes_token names s place (Number digits) = takes_number s place (digits_value 10 digits) s.due
takes_token names s place (Name name) = taken_where (wants_atom s.due) place (takes_name s place (index_of names name))
takes_token names s place Plus = taken_where (has_value s.due) place (takes_sum s waiting.Add)
takes_token names s place Minus = takes_minus s place s.due
takes_token names s place Star = taken_where (has_value s.due) place (takes_product s)
takes_token names s place Slash = takes_slash s place s.due
takes_token names s place Caret = takes_caret s place s.due
takes_token names s place Open = taken_where (wants_atom s.due) place (takes_open s place)
takes_token names s place Close = taken_where (has_value s.due) place (takes_close s place s.outside)
takes_token names s place (Stray b) = Err (fault.Syntax place)

-- the token of the lexeme, at its place
abbrev pub takes : List (List ℕ) → State → Lexeme → Result State TextFault
takes names s x = takes_token names s x.place x.token

-- ---- texts

-- the lexemes are taken in order, up to the first fault
abbrev pub takes_all : List (List ℕ) → State → List Lexeme → Result State TextFault
takes_all names s [] = Ok s
takes_all names s (x ∷ xs) = takes names s x >>= λ t. takes_all names t xs

-- no parenthesis is open
abbrev pub is_empty : List Level → Bool
is_empty [] = true
is_empty (level ∷ levels) = false

-- a whole expression ends where a value stands and no parenthesis is open
abbrev pub ends : ℕ → State → Result (List Instruction) TextFault
ends place s = cond (has_value s.due && is_empty s.outside) (Ok (ends_term s)) (Err (fault.Syntax place))

-- the lexemes of the text from the start, and the end at the length of the text
abbrev pub parse : List (List ℕ) → List ℕ → Result (List Instruction) TextFault
parse names text = takes_all names start (lexemes text) >>= λ s. ends (length text) s
