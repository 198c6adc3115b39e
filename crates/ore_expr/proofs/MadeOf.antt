-- The instructions that a text is read as are of the declared names, and their exponents within the limit.
--     IsDueOf, IsParserStateOf  a variable that is due to be used is declared; the instructions so far are such
--     takes_token-of            a token leaves that so
--     parse-of                  so the instructions of a text are such
--     Reads-ok                  a call that reads by a function answers with what holds of what the function gives
use Rattle.std.proofs.Common.{◌≡◌, ℕ, suc, ◌<◌, ◌≤◌, Bool, true, false, cond, nat_lt, ◌&&◌, if◌then◌else◌, List, [], ◌∷◌, ◌++◌, length, Option, None, Some, option_map, Ok, Err, pos, refl, subst, arith}
use Rattle.std.specs.declared.result.Result.{Result}
use Rattle.std.specs.List.{All}
use Rattle.std.specs.Option.{IfSome}
use Rattle.std.specs.Result.{IfOk}
use Rattle.std.specs.Str.{bytes_eq}
use Rattle.std.specs.Str.Parse.{digits_value}
use Rattle.std.proofs.lemmas.Bool.Decides.{nat_tests}
use Rattle.std.proofs.lemmas.List.Elements.{All-nil, All-push, All-append}
use Rattle.ore_rational.specs.Fraction.{reduce}
use Rattle.ore_expr.specs.declared.fault.TextFault.{TextFault}
use Rattle.ore_expr.specs.declared.fault.TextFault.TheVariants as fault
use Rattle.ore_expr.specs.declared.instruction.Instruction.{Instruction}
use Rattle.ore_expr.specs.declared.instruction.Instruction.TheVariants as code
use Rattle.ore_expr.specs.declared.parser.Due.{Due}
use Rattle.ore_expr.specs.declared.parser.Due.TheVariants.{Start, Operand, AfterNumber, Denominator, AfterName, Exponent, AfterAtom, Power, AfterFactor}
use Rattle.ore_expr.specs.declared.parser.Level.{Level}
use Rattle.ore_expr.specs.declared.parser.Waiting.{Waiting}
use Rattle.ore_expr.specs.declared.parser.Waiting.TheVariants as waiting
use Rattle.ore_expr.specs.Evaluation.{IsOf}
use Rattle.ore_expr.specs.Faults.{greatest_number, greatest_exponent, index_of}
use Rattle.ore_expr.specs.Parsing.{State, start, no_level, goes_on, ends_atom, ends_factor, ends_sum, ends_product, ends_term, has_value, wants_atom, fault_where, taken_where, number_atom, takes_number, takes_name, takes_sum, takes_minus, takes_slash, takes_caret, takes_open, takes_close, takes_token, takes_all, ends, parse, is_empty}
use Rattle.ore_algebra.specs.Results.{◌>>=◌}
use Rattle.ore_expr.specs.Reading.{Reads}
use Rattle.ore_expr.specs.Tokens.{Token, Number, Name, Plus, Minus, Star, Slash, Caret, Open, Close, Stray, Lexeme, lexemes}

-- ---- results

fault_where-ok : {A : Type 0} (P : A → Type 0) (b : Bool) (f : TextFault) (r : Result A TextFault) → (b ≡ false → IfOk r P) → IfOk (fault_where b f r) P
fault_where-ok P true f r h = tt
fault_where-ok P false f r h = h refl

taken_where-ok : (P : State → Type 0) (b : Bool) (place : ℕ) (r : Result State TextFault) → IfOk r P → IfOk (taken_where b place r) P
taken_where-ok P true place r h = h
taken_where-ok P false place r h = tt

bind-ok : {A B : Type 0} (P : A → Type 0) (Q : B → Type 0) (r : Result A TextFault) (g : A → Result B TextFault) → IfOk r P → ((a : A) → P a → IfOk (g a) Q) → IfOk (r >>= g) Q
bind-ok P Q (Ok a) g h step = step a h
bind-ok P Q (Err e) g h step = tt

nat_lt_false : (n limit : ℕ) → nat_lt limit n ≡ false → n ≤ limit
nat_lt_false n limit h = grind (arith, nat_tests)

-- ---- names

index_of-below : (names : List (List ℕ)) (name : List ℕ) → IfSome (index_of names name) (λ x. x < length names)
index_of-below [] name = tt
index_of-below (n ∷ names) name = by (bytes_eq n name) (index_of names name) (index_of-below names name)
  where
    by : (b : Bool) (o : Option ℕ) → IfSome o (λ x. x < length names) → IfSome (if b then Some 0 else option_map suc o) (λ x. x < suc (length names))
    by true o h = omega arith
    by false None h = tt
    by false (Some x) h = omega (arith, h)

-- ---- states

module _ (count : ℕ) where
  abbrev pub IsDueOf : Due → Type 0
  IsDueOf (AfterName x) = x < count
  IsDueOf (Exponent x) = x < count
  IsDueOf due = Unit {0}

  pub record IsParserStateOf (s : State) : Type 0 where
    pub due : IsDueOf s.due
    pub made : All (IsOf count) s.made

  All-one : (i : Instruction) → IsOf count i → All (IsOf count) (i ∷ [])
  All-one i h = All-push (IsOf count) [] i (All-nil (IsOf count)) h

  ends_atom-of : (due : Due) → IsDueOf due → All (IsOf count) (ends_atom due)
  ends_atom-of (AfterNumber n) h = All-one (code.Constant _) tt
  ends_atom-of (AfterName x) h = All-one (code.Power x 1) (h, omega arith)
  ends_atom-of Start h = All-nil (IsOf count)
  ends_atom-of Operand h = All-nil (IsOf count)
  ends_atom-of (Denominator n) h = All-nil (IsOf count)
  ends_atom-of (Exponent x) h = All-nil (IsOf count)
  ends_atom-of AfterAtom h = All-nil (IsOf count)
  ends_atom-of Power h = All-nil (IsOf count)
  ends_atom-of AfterFactor h = All-nil (IsOf count)

  ends_factor-of : (waits : Bool) → All (IsOf count) (ends_factor waits)
  ends_factor-of true = All-one code.Multiply tt
  ends_factor-of false = All-nil (IsOf count)

  ends_sum-of : (sum : Waiting) → All (IsOf count) (ends_sum sum)
  ends_sum-of waiting.Nothing = All-nil (IsOf count)
  ends_sum-of waiting.Add = All-one code.Add tt
  ends_sum-of waiting.Subtract = All-one code.Subtract tt

  module _ (s : State) (of : IsParserStateOf s) where
    ends_product-of : All (IsOf count) (ends_product s)
    ends_product-of =
        All-append (IsOf count) s.made (ends_atom s.due ++ ends_factor s.level.product) of.made
        (All-append (IsOf count) (ends_atom s.due) (ends_factor s.level.product) (ends_atom-of s.due of.due) (ends_factor-of s.level.product))

    ends_term-of : All (IsOf count) (ends_term s)
    ends_term-of = All-append (IsOf count) (ends_product s) (ends_sum s.level.sum) ends_product-of (ends_sum-of s.level.sum)

    number_atom-of : (place n : ℕ) → IfOk (number_atom s place n) IsParserStateOf
    number_atom-of place n = fault_where-ok IsParserStateOf _ _ (goes_on s (AfterNumber (pos n)) s.made) (λ small. record { due = tt; made = of.made })

    takes_number-of : (place n : ℕ) (due : Due) → IsDueOf due → IfOk (takes_number s place n due) IsParserStateOf
    takes_number-of place n Start h = number_atom-of place n
    takes_number-of place n Operand h = number_atom-of place n
    takes_number-of place n (Denominator m) h =
        fault_where-ok IsParserStateOf _ _ (fault_where (nat_lt greatest_number n) (fault.NumberTooWide place) (goes_on s AfterAtom (s.made ++ code.Constant (reduce m n) ∷ [])))
        (λ above. fault_where-ok IsParserStateOf _ _ (goes_on s AfterAtom (s.made ++ code.Constant (reduce m n) ∷ [])) (λ small. record { due = tt; made = All-push (IsOf count) s.made (code.Constant _) of.made tt }))
    takes_number-of place n (Exponent x) h =
        fault_where-ok IsParserStateOf _ _ (goes_on s AfterFactor (s.made ++ code.Power x n ∷ []))
        (λ small. record { due = tt; made = All-push (IsOf count) s.made (code.Power x n) of.made (h, nat_lt_false n greatest_exponent small) })
    takes_number-of place n Power h = fault_where-ok IsParserStateOf _ _ (goes_on s AfterFactor (s.made ++ code.Raise n ∷ [])) (λ small. record { due = tt; made = All-push (IsOf count) s.made (code.Raise n) of.made tt })
    takes_number-of place n (AfterNumber m) h = tt
    takes_number-of place n (AfterName x) h = tt
    takes_number-of place n AfterAtom h = tt
    takes_number-of place n AfterFactor h = tt

    takes_name-of : (place : ℕ) (o : Option ℕ) → IfSome o (λ x. x < count) → IfOk (takes_name s place o) IsParserStateOf
    takes_name-of place None h = tt
    takes_name-of place (Some x) h = record { due = h; made = of.made }

    takes_sum-of : (sum : Waiting) → IfOk (takes_sum s sum) IsParserStateOf
    takes_sum-of sum = record { due = tt; made = ends_term-of }

    takes_minus-of : (place : ℕ) (due : Due) → IfOk (takes_minus s place due) IsParserStateOf
    takes_minus-of place Start = record { due = tt; made = All-push (IsOf count) s.made (code.Constant _) of.made tt }
    takes_minus-of place Operand = tt
    takes_minus-of place (AfterNumber n) = takes_sum-of waiting.Subtract
    takes_minus-of place (Denominator n) = tt
    takes_minus-of place (AfterName x) = takes_sum-of waiting.Subtract
    takes_minus-of place (Exponent x) = tt
    takes_minus-of place AfterAtom = takes_sum-of waiting.Subtract
    takes_minus-of place Power = tt
    takes_minus-of place AfterFactor = takes_sum-of waiting.Subtract

    takes_slash-of : (place : ℕ) (due : Due) → IfOk (takes_slash s place due) IsParserStateOf
    takes_slash-of place (AfterNumber n) = record { due = tt; made = of.made }
    takes_slash-of place Start = tt
    takes_slash-of place Operand = tt
    takes_slash-of place (Denominator n) = tt
    takes_slash-of place (AfterName x) = tt
    takes_slash-of place (Exponent x) = tt
    takes_slash-of place AfterAtom = tt
    takes_slash-of place Power = tt
    takes_slash-of place AfterFactor = tt

    takes_caret-of : (place : ℕ) (due : Due) → IsDueOf due → IfOk (takes_caret s place due) IsParserStateOf
    takes_caret-of place (AfterNumber n) h = record { due = tt; made = All-push (IsOf count) s.made (code.Constant _) of.made tt }
    takes_caret-of place (AfterName x) h = record { due = h; made = of.made }
    takes_caret-of place AfterAtom h = record { due = tt; made = of.made }
    takes_caret-of place Start h = tt
    takes_caret-of place Operand h = tt
    takes_caret-of place (Denominator n) h = tt
    takes_caret-of place (Exponent x) h = tt
    takes_caret-of place Power h = tt
    takes_caret-of place AfterFactor h = tt

    takes_open-of : (place : ℕ) → IfOk (takes_open s place) IsParserStateOf
    takes_open-of place =
        fault_where-ok IsParserStateOf _ _ (Ok (record { due = Start; level = no_level; outside = s.level ∷ s.outside; made = s.made })) (λ room. record { due = tt; made = of.made })

    takes_close-of : (place : ℕ) (outside : List Level) → IfOk (takes_close s place outside) IsParserStateOf
    takes_close-of place [] = tt
    takes_close-of place (level ∷ outside) = record { due = tt; made = ends_term-of }

    ends-of : (place : ℕ) → IfOk (ends place s) (All (IsOf count))
    ends-of place = by (has_value s.due && is_empty s.outside)
      where
        by : (b : Bool) → IfOk (cond b (Ok (ends_term s)) (Err (fault.Syntax place))) (All (IsOf count))
        by true = ends_term-of
        by false = tt

module _ (names : List (List ℕ)) where
  pub takes_token-of : (s : State) → IsParserStateOf (length names) s → (place : ℕ) (token : Token) → IfOk (takes_token names s place token) (IsParserStateOf (length names))
  takes_token-of s of place (Number digits) = takes_number-of (length names) s of place (digits_value 10 digits) s.due of.due
  takes_token-of s of place (Name name) = taken_where-ok (IsParserStateOf (length names)) (wants_atom s.due) place _ (takes_name-of (length names) s of place (index_of names name) (index_of-below names name))
  takes_token-of s of place Plus = taken_where-ok (IsParserStateOf (length names)) (has_value s.due) place _ (takes_sum-of (length names) s of waiting.Add)
  takes_token-of s of place Minus = takes_minus-of (length names) s of place s.due
  takes_token-of s of place Star = taken_where-ok (IsParserStateOf (length names)) (has_value s.due) place _ (record { due = tt; made = ends_product-of (length names) s of })
  takes_token-of s of place Slash = takes_slash-of (length names) s of place s.due
  takes_token-of s of place Caret = takes_caret-of (length names) s of place s.due of.due
  takes_token-of s of place Open = taken_where-ok (IsParserStateOf (length names)) (wants_atom s.due) place _ (takes_open-of (length names) s of place)
  takes_token-of s of place Close = taken_where-ok (IsParserStateOf (length names)) (has_value s.due) place _ (takes_close-of (length names) s of place s.outside)
  takes_token-of s of place (Stray b) = tt

  takes_all-of : (xs : List Lexeme) (s : State) → IsParserStateOf (length names) s → IfOk (takes_all names s xs) (IsParserStateOf (length names))
  takes_all-of [] s of = of
  takes_all-of (x ∷ xs) s of = bind-ok (IsParserStateOf (length names)) (IsParserStateOf (length names)) _ _ (takes_token-of s of x.place x.token) (λ t after. takes_all-of xs t after)

  pub parse-of : (text : List ℕ) → IfOk (parse names text) (All (IsOf (length names)))
  parse-of text =
      bind-ok (IsParserStateOf (length names)) (All (IsOf (length names))) _ _ (takes_all-of (lexemes text) start (record { due = tt; made = All-nil (IsOf (length names)) }))
      (λ s of. ends-of (length names) s of (length text))

-- what a call answers has what the function that it reads by gives
pub Reads-ok : {X Y : Type 0} (P : Y → Type 0) (view : X → Y) (r : Result X TextFault) (given : Result Y TextFault) → Reads view r given → IfOk given P → IfOk r (λ x. P (view x))
Reads-ok P view (Ok x) given reads h = let at : IfOk {E = TextFault} (Ok (view x)) P = subst (λ g. IfOk g P) reads h in at
Reads-ok P view (Err e) given reads h = tt
