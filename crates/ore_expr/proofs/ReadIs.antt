-- What a text of an operator is read as, by the laws of its parsing.
--     IsToken          a fault is one of a token, and no stop of an operation
--     AllToken         a fault is one of a token, where there is one
--     number_fault_token, name_fault_token, own_fault_token, first_fault_token     so are those of the table
--     no_stop          a text has no stop as its fault
--     as_fault         a stop as a fault of a text
--     then_evaluated   what is answered where the one call is followed by the other
--     read_fault       a fault that parsing answers is that of the text
--     read_value       a value of the instructions is that of the text
--     read_stop        where they stop, so does the value of the text, with the same cause
--     read_is          what both calls answer is what the text is read as
use Rattle.std.proofs.Common.{◌≡◌, inl, inr, ℕ, Bool, true, false, nat_lt, nat_eq, if◌then◌else◌, List, [], ◌∷◌, length, sym, ◌∙◌, subst}
use Rattle.std.specs.declared.option.Option.{Option}
use Rattle.std.specs.declared.option.Option.TheVariants.{None, Some}
use Rattle.std.specs.declared.result.Result.{Result}
use Rattle.std.specs.declared.result.Result.TheVariants.{Ok, Err}
use Rattle.std.specs.Str.Parse.{digits_value}
use Rattle.ore_algebra.specs.Limits.{program}
use Rattle.ore_monomial.specs.Gives.{Gives, Fails}
use Rattle.ore_monomial.specs.Signature.{Signature}
use Rattle.ore_monomial.specs.declared.stop.RingStop.{RingStop}
use Rattle.ore_monomial.specs.declared.stop.RingStop.TheVariants as stop
use Rattle.ore_ring.specs.Ordered.{Ordered}
use Rattle.ore_expr.specs.declared.fault.TextFault.{TextFault}
use Rattle.ore_expr.specs.declared.fault.TextFault.TheVariants as fault
use Rattle.ore_expr.specs.declared.instruction.Instruction.{Instruction}
use Rattle.ore_expr.specs.Tokens.{Token, Number, Name, Plus, Minus, Star, Slash, Caret, Open, Close, Stray, Lexeme, lexemes}
use Rattle.ore_expr.specs.Faults.{number_fault, name_fault, own_fault, open_count, power_limit, greatest_number, greatest_depth, index_of, IsFirstFault, IsFault}
use Rattle.ore_expr.specs.Parsing.{parse}
use Rattle.ore_expr.specs.Evaluation.{value_of}
use Rattle.ore_expr.specs.Reading.{Reads, FaultReads, IsRead}
use Rattle.ore_expr.specs.Laws.{ReadsExpressions, FindsFaults}

abbrev IsToken : TextFault → Type 0
IsToken (fault.Stop x) = ⊥
IsToken f = Unit {0}

abbrev AllToken : Option TextFault → Type 0
AllToken None = Unit {0}
AllToken (Some f) = IsToken f

either : (b : Bool) (r q : Option TextFault) → AllToken r → AllToken q → AllToken (if b then r else q)
either true r q h k = h
either false r q h k = k

wide_token : (place n : ℕ) → AllToken (if nat_lt greatest_number n then Some (fault.NumberTooWide place) else None)
wide_token place n = either (nat_lt greatest_number n) (Some (fault.NumberTooWide place)) None tt tt

number_fault_token : (before : List Token) (place n : ℕ) → AllToken (number_fault before place n)
number_fault_token [] place n = wide_token place n
number_fault_token (Caret ∷ before) place n = either (nat_lt (power_limit before) n) (Some (fault.PowerTooLarge place)) None tt tt
number_fault_token (Slash ∷ before) place n =
    either (nat_eq n 0) (Some (fault.ZeroDenominator place)) (if nat_lt greatest_number n then Some (fault.NumberTooWide place) else None) tt (wide_token place n)
number_fault_token (Number digits ∷ before) place n = wide_token place n
number_fault_token (Name name ∷ before) place n = wide_token place n
number_fault_token (Plus ∷ before) place n = wide_token place n
number_fault_token (Minus ∷ before) place n = wide_token place n
number_fault_token (Star ∷ before) place n = wide_token place n
number_fault_token (Open ∷ before) place n = wide_token place n
number_fault_token (Close ∷ before) place n = wide_token place n
number_fault_token (Stray b ∷ before) place n = wide_token place n

name_fault_token : (place : ℕ) (index : Option ℕ) → AllToken (name_fault place index)
name_fault_token place None = tt
name_fault_token place (Some x) = tt

own_fault_token : (names : List (List ℕ)) (before : List Token) (place : ℕ) (t : Token) → AllToken (own_fault names before place t)
own_fault_token names before place (Number digits) = number_fault_token before place (digits_value 10 digits)
own_fault_token names before place (Name name) = name_fault_token place (index_of names name)
own_fault_token names before place Plus = tt
own_fault_token names before place Minus = tt
own_fault_token names before place Star = tt
own_fault_token names before place Slash = tt
own_fault_token names before place Caret = tt
own_fault_token names before place Open = either (nat_lt (open_count before) greatest_depth) None (Some (fault.TooDeep place)) tt tt
own_fault_token names before place Close = tt
own_fault_token names before place (Stray b) = tt

first_fault_token : (names : List (List ℕ)) (end : ℕ) (before : List Token) (xs : List Lexeme) (f : TextFault) → IsFirstFault names end before xs f → IsToken f
first_fault_token names end before [] f h = subst IsToken (sym h.1) tt
first_fault_token names end before (x ∷ xs) f (inl (inl h)) = subst IsToken (sym h.1) tt
first_fault_token names end before (x ∷ xs) f (inl (inr h)) = subst AllToken h.1 (own_fault_token names before x.place x.token)
first_fault_token names end before (x ∷ xs) f (inr h) = first_fault_token names end (x.token ∷ before) xs f h.1

pub no_stop : (names : List (List ℕ)) (text : List ℕ) (x : RingStop) → ¬ (IsFault names text (fault.Stop x))
no_stop names text x h = first_fault_token names (length text) [] (lexemes text) (fault.Stop x) h

-- a stop as a fault of a text
abbrev pub as_fault : Result Ordered RingStop → Result Ordered TextFault
as_fault (Ok f) = Ok f
as_fault (Err x) = Err (fault.Stop x)

-- the one call, and then the other on what it answered
abbrev pub then_evaluated : {X : Type 0} → Result X TextFault → (X → Result Ordered RingStop) → Result Ordered TextFault
then_evaluated (Ok x) q = as_fault (q x)
then_evaluated (Err f) q = Err f

module _ (reads : ReadsExpressions) (finds : FindsFaults) (s : Signature) (names : List (List ℕ)) (text : List ℕ) where
  pub read_fault : (f : TextFault) → FaultReads f (parse names text) → IsRead s names text (Err f)
  read_fault (fault.Stop stop.Overflow) h = absurd (no_stop names text stop.Overflow (finds.found names text _ h))
  read_fault (fault.Stop stop.Degree) h = absurd (no_stop names text stop.Degree (finds.found names text _ h))
  read_fault (fault.Stop stop.Memory) h = tt
  read_fault (fault.Syntax place) h = finds.found names text _ h
  read_fault (fault.UnknownName place) h = finds.found names text _ h
  read_fault (fault.NumberTooWide place) h = finds.found names text _ h
  read_fault (fault.ZeroDenominator place) h = finds.found names text _ h
  read_fault (fault.PowerTooLarge place) h = finds.found names text _ h
  read_fault (fault.TooDeep place) h = finds.found names text _ h

  pub read_value : (p : List Instruction) (f : Ordered) → parse names text ≡ Ok p → value_of program s p ≡ Ok f.sum → IsRead s names text (Ok f)
  read_value p f h k = let found = reads.found names text p h in (found.0, found.1, sym (found.2 program s) ∙ k)

  pub read_stop : (p : List Instruction) (x : RingStop) → parse names text ≡ Ok p → Fails x (value_of program s p) → IsRead s names text (Err (fault.Stop x))
  read_stop p stop.Overflow h k = let found = reads.found names text p h in (found.0, found.1, sym (found.2 program s) ∙ k)
  read_stop p stop.Degree h k = let found = reads.found names text p h in (found.0, found.1, sym (found.2 program s) ∙ k)
  read_stop p stop.Memory h k = tt

  -- of both calls: the first answered r, and the second, where there was one, answered q
  pub read_is : {X : Type 0} (view : X → List Instruction) (r : Result X TextFault) (q : X → Result Ordered RingStop)
      → Reads view r (parse names text) → ((x : X) → Gives (λ (f : Ordered). f.sum) (q x) (value_of program s (view x))) → IsRead s names text (then_evaluated r q)
  read_is view (Err f) q h k = read_fault f h
  read_is view (Ok x) q h k = evaluated (q x) (k x)
    where
      evaluated : (a : Result Ordered RingStop) → Gives (λ (f : Ordered). f.sum) a (value_of program s (view x)) → IsRead s names text (as_fault a)
      evaluated (Ok f) g = read_value (view x) f h g
      evaluated (Err e) g = read_stop (view x) e h g
