-- The state of the automaton that stands for partial trees, and that it goes on as they do.
--     sum_waits, product_waits   the sum, and the product, that waits
--     level_of, levels           what waits at one depth, and at each depth outside
--     operand_due, ending_due, place_due    what is due: where an atom is wanted, behind a factor, at any place
--     sum_code, product_code, ending_code, place_code, outside_code    the instructions of each part so far
--     made                       all of them, with others behind
--     state_of                   the state
--     outcome                    the state after a token, or its fault, by the trees after it and its own fault
--     stated                     a state by its parts
--     ends_term-state_of         the instructions where the expression at one depth ends
--     takes-state_of             that is what the automaton does
--     ends-state_of              the instructions where a whole expression ends
use Rattle.std.proofs.Common.{◌≡◌, ℕ, suc, ◌-◌, Bool, true, false, cond, not, ◌&&◌, nat_lt, nat_eq, if◌then◌else◌, List, [], ◌∷◌, ◌++◌, length, pos, sym, refl, ap, ◌∙◌, append_assoc, append-nil, arith}
use Rattle.std.specs.declared.option.Option.{Option}
use Rattle.std.specs.declared.option.Option.TheVariants.{None, Some}
use Rattle.std.specs.declared.result.Result.{Result}
use Rattle.std.specs.declared.result.Result.TheVariants.{Ok, Err}
use Rattle.std.specs.Option.{unwrap_or}
use Rattle.std.specs.Str.Parse.{digits_value}
use Rattle.ore_rational.specs.Fraction.{whole, reduce}
use Rattle.ore_expr.specs.declared.fault.TextFault.{TextFault}
use Rattle.ore_expr.specs.declared.fault.TextFault.TheVariants as fault
use Rattle.ore_expr.specs.declared.instruction.Instruction.{Instruction}
use Rattle.ore_expr.specs.declared.instruction.Instruction.TheVariants as code
use Rattle.ore_expr.specs.declared.parser.Due.{Due}
use Rattle.ore_expr.specs.declared.parser.Due.TheVariants as due
use Rattle.ore_expr.specs.declared.parser.Waiting.{Waiting}
use Rattle.ore_expr.specs.declared.parser.Waiting.TheVariants as waiting
use Rattle.ore_expr.specs.declared.parser.Level.{Level}
use Rattle.ore_expr.specs.Tokens.{Token, Number, Name, Plus, Minus, Star, Slash, Caret, Open, Close, Stray}
use Rattle.ore_expr.specs.Grammar.{Expression, Single, Negated, Sum, Difference, Term, Alone, Product, Factor, Bare, Power, Atom, Whole, Quotient, Variable, Group}
use Rattle.ore_expr.specs.Faults.{greatest_number, greatest_exponent, greatest_power, greatest_depth, index_of, open_count, power_limit, number_fault, name_fault, own_fault}
use Rattle.ore_expr.specs.Values.{variable_index}
use Rattle.ore_expr.specs.Evaluation.{expression_code, term_code, factor_code, atom_code}
use Rattle.ore_expr.specs.Parsing.{State, ends_atom, ends_factor, ends_sum, ends_product, ends_term, fault_where, takes_number, takes_name, takes_slash, takes_caret, takes_minus, taken_where, takes_sum, takes_product, takes_open, takes_close, takes_token, has_value, wants_atom, is_empty, ends}
use Rattle.ore_expr.proofs.PartialTrees.{SumSide, NoTerm, Negative, SumWith, DifferenceWith, ProductSide, NoFactor, ProductWith, Outer, outer, Base, WholeBase, QuotientBase, GroupBase, Ending, NumberEnds, NameEnds, BaseEnds, FactorEnds, Place, WantsOperand, Ended, WantsDenominator, WantsExponent, WantsPower, Partial, partial, atom_of, factor_of, term_of, expression_of, whole_of, expression_before, term_before, factor_before, atom_before, sum_before, product_before, place_before, outside_before, before, moves_number, moves_name, moves_sum, moves_sign, moves_minus, moves_star, slash_after, caret_after, where_ended, moves_open, close_after, moves}
use Rattle.ore_expr.proofs.Moves.{ended}
use Rattle.ore_expr.proofs.Begun.{is_whole}

-- ---- what waits, and what is due

abbrev pub sum_waits : SumSide → Waiting
sum_waits NoTerm = waiting.Nothing
sum_waits Negative = waiting.Subtract
sum_waits (SumWith e) = waiting.Add
sum_waits (DifferenceWith e) = waiting.Subtract

abbrev pub product_waits : ProductSide → Bool
product_waits NoFactor = false
product_waits (ProductWith t) = true

abbrev pub level_of : SumSide → ProductSide → Level
level_of s p = record { sum = sum_waits s; product = product_waits p }

abbrev pub levels : List Outer → List Level
levels [] = []
levels (outer s p ∷ cs) = level_of s p ∷ levels cs

-- at the front a minus may come too
abbrev pub operand_due : ProductSide → SumSide → Due
operand_due NoFactor NoTerm = due.Start
operand_due NoFactor s = due.Operand
operand_due (ProductWith t) s = due.Operand

operand_due-both : {A : Type 0} {r : A} (f : Due → A) (p : ProductSide) (s : SumSide) → f due.Start ≡ r → f due.Operand ≡ r → f (operand_due p s) ≡ r
operand_due-both f NoFactor NoTerm e g = e
operand_due-both f NoFactor s e g = g
operand_due-both f (ProductWith t) s e g = g

-- ---- what a token's own fault depends on

abbrev wide_fault : ℕ → ℕ → Option TextFault
wide_fault place n = if nat_lt greatest_number n then Some (fault.NumberTooWide place) else None

operand-number_fault : (cs : List Outer) (s : SumSide) (p : ProductSide) (place n : ℕ) → number_fault (product_before p (sum_before s (outside_before cs))) place n ≡ wide_fault place n
operand-number_fault cs s (ProductWith t) place n = refl
operand-number_fault cs Negative NoFactor place n = refl
operand-number_fault cs (SumWith e) NoFactor place n = refl
operand-number_fault cs (DifferenceWith e) NoFactor place n = refl
operand-number_fault [] NoTerm NoFactor place n = refl
operand-number_fault (outer s p ∷ cs) NoTerm NoFactor place n = refl

power_limit-base : (b : Base) (others : List Token) → power_limit (atom_before (atom_of b) others) ≡ greatest_power
power_limit-base (WholeBase n) others = refl
power_limit-base (QuotientBase n m) others = refl
power_limit-base (GroupBase e) others = refl

one_less : (n : ℕ) → suc n - 1 ≡ n
one_less n = omega arith

mutual
  open_count-expression : (e : Expression) (others : List Token) → open_count (expression_before e others) ≡ open_count others
  open_count-expression (Single t) others = open_count-term t others
  open_count-expression (Negated t) others = open_count-term t (Minus ∷ others)
  open_count-expression (Sum e t) others = open_count-term t (Plus ∷ expression_before e others) ∙ open_count-expression e others
  open_count-expression (Difference e t) others = open_count-term t (Minus ∷ expression_before e others) ∙ open_count-expression e others

  open_count-term : (t : Term) (others : List Token) → open_count (term_before t others) ≡ open_count others
  open_count-term (Alone f) others = open_count-factor f others
  open_count-term (Product t f) others = open_count-factor f (Star ∷ term_before t others) ∙ open_count-term t others

  open_count-factor : (f : Factor) (others : List Token) → open_count (factor_before f others) ≡ open_count others
  open_count-factor (Bare a) others = open_count-atom a others
  open_count-factor (Power a digits) others = open_count-atom a others

  open_count-atom : (a : Atom) (others : List Token) → open_count (atom_before a others) ≡ open_count others
  open_count-atom (Whole n) others = refl
  open_count-atom (Quotient n m) others = refl
  open_count-atom (Variable n) others = refl
  open_count-atom (Group e) others = ap (λ n. n - 1) (open_count-expression e (Open ∷ others)) ∙ one_less (open_count others)

open_count-sum : (s : SumSide) (others : List Token) → open_count (sum_before s others) ≡ open_count others
open_count-sum NoTerm others = refl
open_count-sum Negative others = refl
open_count-sum (SumWith e) others = open_count-expression e others
open_count-sum (DifferenceWith e) others = open_count-expression e others

open_count-product : (p : ProductSide) (others : List Token) → open_count (product_before p others) ≡ open_count others
open_count-product NoFactor others = refl
open_count-product (ProductWith t) others = open_count-term t others

open_count-outside : (cs : List Outer) → open_count (outside_before cs) ≡ length (levels cs)
open_count-outside [] = refl
open_count-outside (outer s p ∷ cs) = ap suc (open_count-product p (sum_before s (outside_before cs)) ∙ open_count-sum s (outside_before cs) ∙ open_count-outside cs)

open_count-sides : (cs : List Outer) (s : SumSide) (p : ProductSide) → open_count (product_before p (sum_before s (outside_before cs))) ≡ length (levels cs)
open_count-sides cs s p = open_count-product p (sum_before s (outside_before cs)) ∙ open_count-sum s (outside_before cs) ∙ open_count-outside cs

module _ (names : List (List ℕ)) where
  abbrev pub ending_due : Ending → Due
  ending_due (NumberEnds digits) = due.AfterNumber (pos (digits_value 10 digits))
  ending_due (NameEnds name) = due.AfterName (variable_index names name)
  ending_due (BaseEnds b) = due.AfterAtom
  ending_due (FactorEnds f) = due.AfterFactor

  abbrev pub place_due : ProductSide → SumSide → Place → Due
  place_due p s WantsOperand = operand_due p s
  place_due p s (Ended x) = ending_due x
  place_due p s (WantsDenominator digits) = due.Denominator (pos (digits_value 10 digits))
  place_due p s (WantsExponent name) = due.Exponent (variable_index names name)
  place_due p s (WantsPower b) = due.Power

  -- ---- the instructions

  abbrev pub sum_code : SumSide → List Instruction
  sum_code NoTerm = []
  sum_code Negative = code.Constant (whole (pos 0)) ∷ []
  sum_code (SumWith e) = expression_code names e
  sum_code (DifferenceWith e) = expression_code names e

  abbrev pub product_code : ProductSide → List Instruction
  product_code NoFactor = []
  product_code (ProductWith t) = term_code names t

  abbrev pub ending_code : Ending → List Instruction
  ending_code (NumberEnds digits) = []
  ending_code (NameEnds name) = []
  ending_code (BaseEnds b) = atom_code names (atom_of b)
  ending_code (FactorEnds f) = factor_code names f

  abbrev pub place_code : Place → List Instruction
  place_code (Ended x) = ending_code x
  place_code (WantsPower b) = atom_code names (atom_of b)
  place_code place = []

  abbrev pub outside_code : List Outer → List Instruction
  outside_code [] = []
  outside_code (outer s p ∷ cs) = outside_code cs ++ (sum_code s ++ product_code p)

  abbrev pub made : List Outer → SumSide → ProductSide → List Instruction → List Instruction
  made cs s p last = outside_code cs ++ (sum_code s ++ (product_code p ++ last))

  abbrev pub state_of : Partial → State
  state_of (partial cs s p place) = record { due = place_due p s place; level = level_of s p; outside = levels cs; made = made cs s p (place_code place) }

  made-append : (cs : List Outer) (s : SumSide) (p : ProductSide) (last more : List Instruction) → made cs s p last ++ more ≡ made cs s p (last ++ more)
  made-append cs s p last more =
      append_assoc (outside_code cs) (sum_code s ++ (product_code p ++ last)) more
      ∙ ap (λ is. outside_code cs ++ is) (append_assoc (sum_code s) (product_code p ++ last) more ∙ ap (λ is. sum_code s ++ is) (append_assoc (product_code p) last more))

  ending_code-append : (x : Ending) → ending_code x ++ ends_atom (ending_due x) ≡ factor_code names (factor_of x)
  unfolding expression_code
  ending_code-append (NumberEnds digits) = refl
  ending_code-append (NameEnds name) = refl
  ending_code-append (BaseEnds b) = append-nil (atom_code names (atom_of b))
  ending_code-append (FactorEnds f) = append-nil (factor_code names f)

  product_code-append : (p : ProductSide) (f : Factor) → product_code p ++ (factor_code names f ++ ends_factor (product_waits p)) ≡ term_code names (term_of p f)
  unfolding expression_code
  product_code-append NoFactor f = append-nil (factor_code names f)
  product_code-append (ProductWith t) f = refl

  sum_code-append : (s : SumSide) (t : Term) → sum_code s ++ (term_code names t ++ ends_sum (sum_waits s)) ≡ expression_code names (expression_of s t)
  unfolding expression_code
  sum_code-append NoTerm t = append-nil (term_code names t)
  sum_code-append Negative t = refl
  sum_code-append (SumWith e) t = refl
  sum_code-append (DifferenceWith e) t = refl

  module _ (cs : List Outer) (s : SumSide) (p : ProductSide) where
    abbrev at : Place → State
    at place = state_of (partial cs s p place)

    ends_product-state_of : (x : Ending) → ends_product (at (Ended x)) ≡ outside_code cs ++ (sum_code s ++ term_code names (term_of p (factor_of x)))
    ends_product-state_of x =
        made-append cs s p (ending_code x) (ends_atom (ending_due x) ++ ends_factor (product_waits p))
        ∙ ap (made cs s p) (sym (append_assoc (ending_code x) (ends_atom (ending_due x)) (ends_factor (product_waits p))) ∙ ap (λ is. is ++ ends_factor (product_waits p)) (ending_code-append x))
        ∙ ap (λ is. outside_code cs ++ (sum_code s ++ is)) (product_code-append p (factor_of x))

    pub ends_term-state_of : (x : Ending) → ends_term (at (Ended x)) ≡ outside_code cs ++ expression_code names (whole_of s p x)
    ends_term-state_of x =
        ap (λ is. is ++ ends_sum (sum_waits s)) (ends_product-state_of x)
        ∙ append_assoc (outside_code cs) (sum_code s ++ term_code names (term_of p (factor_of x))) (ends_sum (sum_waits s))
        ∙ ap (λ is. outside_code cs ++ is) (append_assoc (sum_code s) (term_code names (term_of p (factor_of x))) (ends_sum (sum_waits s)) ∙ sum_code-append s (term_of p (factor_of x)))

  -- ---- a token more

  abbrev pub outcome : ℕ → Option Partial → Option TextFault → Result State TextFault
  outcome place None own = Err (fault.Syntax place)
  outcome place (Some z) None = Ok (state_of z)
  outcome place (Some z) (Some f) = Err f

  -- a state by its parts, since steps differ in how the instructions are put together
  abbrev stated : Due → Level → List Level → List Instruction → Result State TextFault
  stated d l ls made = Ok (record { due = d; level = l; outside = ls; made = made })

  where_fault : (place : ℕ) (b : Bool) (f : TextFault) (z : Partial) → fault_where b f (Ok (state_of z)) ≡ outcome place (Some z) (if b then Some f else None)
  where_fault place true f z = refl
  where_fault place false f z = refl

  where_faults : (place : ℕ) (b c : Bool) (f g : TextFault) (z : Partial) →
      fault_where b f (fault_where c g (Ok (state_of z))) ≡ outcome place (Some z) (if b then Some f else if c then Some g else None)
  where_faults place true c f g z = refl
  where_faults place false true f g z = refl
  where_faults place false false f g z = refl

  where_deep : (place : ℕ) (b : Bool) (f : TextFault) (z : Partial) → fault_where (not b) f (Ok (state_of z)) ≡ outcome place (Some z) (if b then None else Some f)
  where_deep place true f z = refl
  where_deep place false f z = refl

  power_code : (b : Base) (digits : List ℕ) → factor_code names (Power (atom_of b) digits) ≡ atom_code names (atom_of b) ++ code.Raise (digits_value 10 digits) ∷ []
  unfolding expression_code
  power_code (WholeBase n) digits = refl
  power_code (QuotientBase n m) digits = refl
  power_code (GroupBase e) digits = refl

  has_value-ending : (x : Ending) → has_value (ending_due x) ≡ true
  has_value-ending (NumberEnds digits) = refl
  has_value-ending (NameEnds name) = refl
  has_value-ending (BaseEnds b) = refl
  has_value-ending (FactorEnds f) = refl

  -- ---- a token more, at these parts

  module _ (place : ℕ) (cs : List Outer) (s : SumSide) (p : ProductSide) where
    abbrev others : List Token
    others = product_before p (sum_before s (outside_before cs))

    takes_number-at : (d : Place) (digits : List ℕ) →
        takes_number (at cs s p d) place (digits_value 10 digits) (place_due p s d) ≡ outcome place (moves_number (partial cs s p) d digits) (number_fault (place_before d others) place (digits_value 10 digits))
    unfolding expression_code
    takes_number-at WantsOperand digits =
        operand_due-both (takes_number (at cs s p WantsOperand) place (digits_value 10 digits)) p s refl refl
        ∙ where_fault place (nat_lt greatest_number (digits_value 10 digits)) (fault.NumberTooWide place) (partial cs s p (Ended (NumberEnds digits)))
        ∙ ap (outcome place (Some (partial cs s p (Ended (NumberEnds digits))))) (sym (operand-number_fault cs s p place (digits_value 10 digits)))
    takes_number-at (WantsDenominator n) digits =
        ap
        (λ is. fault_where (nat_eq (digits_value 10 digits) 0) (fault.ZeroDenominator place) (fault_where (nat_lt greatest_number (digits_value 10 digits)) (fault.NumberTooWide place) (stated due.AfterAtom (level_of s p) (levels cs) is)))
        (made-append cs s p [] (code.Constant (reduce (pos (digits_value 10 n)) (digits_value 10 digits)) ∷ []))
        ∙ where_faults place (nat_eq (digits_value 10 digits) 0) (nat_lt greatest_number (digits_value 10 digits)) (fault.ZeroDenominator place) (fault.NumberTooWide place) (partial cs s p (Ended (BaseEnds (QuotientBase n digits))))
    takes_number-at (WantsExponent x) digits =
        ap
        (λ is. fault_where (nat_lt greatest_exponent (digits_value 10 digits)) (fault.PowerTooLarge place) (stated due.AfterFactor (level_of s p) (levels cs) is))
        (made-append cs s p [] (code.Power (variable_index names x) (digits_value 10 digits) ∷ []))
        ∙ where_fault place (nat_lt greatest_exponent (digits_value 10 digits)) (fault.PowerTooLarge place) (partial cs s p (Ended (FactorEnds (Power (Variable x) digits))))
    takes_number-at (WantsPower b) digits =
        ap
        (λ is. fault_where (nat_lt greatest_power (digits_value 10 digits)) (fault.PowerTooLarge place) (stated due.AfterFactor (level_of s p) (levels cs) is))
        (made-append cs s p (atom_code names (atom_of b)) (code.Raise (digits_value 10 digits) ∷ []) ∙ ap (made cs s p) (sym (power_code b digits)))
        ∙ where_fault place (nat_lt greatest_power (digits_value 10 digits)) (fault.PowerTooLarge place) (partial cs s p (Ended (FactorEnds (Power (atom_of b) digits))))
        ∙ ap (λ n. outcome place (Some (partial cs s p (Ended (FactorEnds (Power (atom_of b) digits))))) (if nat_lt n (digits_value 10 digits) then Some (fault.PowerTooLarge place) else None)) (sym (power_limit-base b others))
    takes_number-at (Ended (NumberEnds n)) digits = refl
    takes_number-at (Ended (NameEnds n)) digits = refl
    takes_number-at (Ended (BaseEnds n)) digits = refl
    takes_number-at (Ended (FactorEnds n)) digits = refl

    takes_name-indexed : (name : List ℕ) (o : Option ℕ) → index_of names name ≡ o →
        takes_name (at cs s p WantsOperand) place o ≡ outcome place (Some (partial cs s p (Ended (NameEnds name)))) (name_fault place o)
    takes_name-indexed name None e = refl
    takes_name-indexed name (Some x) e = ap (λ y. stated (due.AfterName (unwrap_or y 0)) (level_of s p) (levels cs) (made cs s p [])) (sym e)

    takes_name-at : (d : Place) (name : List ℕ) →
        taken_where (wants_atom (place_due p s d)) place (takes_name (at cs s p d) place (index_of names name)) ≡ outcome place (moves_name (partial cs s p) d name) (name_fault place (index_of names name))
    takes_name-at WantsOperand name =
        operand_due-both (λ d. taken_where (wants_atom d) place (takes_name (at cs s p WantsOperand) place (index_of names name))) p s refl refl
        ∙ takes_name-indexed name (index_of names name) refl
    takes_name-at (Ended (NumberEnds n)) name = refl
    takes_name-at (Ended (NameEnds n)) name = refl
    takes_name-at (Ended (BaseEnds n)) name = refl
    takes_name-at (Ended (FactorEnds n)) name = refl
    takes_name-at d name = refl

    takes_sum-at : (x : Ending) → takes_sum (at cs s p (Ended x)) waiting.Add ≡ Ok (state_of (partial cs (SumWith (whole_of s p x)) NoFactor WantsOperand))
    takes_sum-at x =
        ap (stated due.Operand (level_of (SumWith (whole_of s p x)) NoFactor) (levels cs)) (ends_term-state_of cs s p x ∙ ap (λ is. outside_code cs ++ is) (sym (append-nil (expression_code names (whole_of s p x)))))

    takes_difference-at : (x : Ending) → takes_sum (at cs s p (Ended x)) waiting.Subtract ≡ Ok (state_of (partial cs (DifferenceWith (whole_of s p x)) NoFactor WantsOperand))
    takes_difference-at x =
        ap (stated due.Operand (level_of (DifferenceWith (whole_of s p x)) NoFactor) (levels cs)) (ends_term-state_of cs s p x ∙ ap (λ is. outside_code cs ++ is) (sym (append-nil (expression_code names (whole_of s p x)))))

    takes_product-at : (x : Ending) → takes_product (at cs s p (Ended x)) ≡ Ok (state_of (partial cs s (ProductWith (term_of p (factor_of x))) WantsOperand))
    takes_product-at x =
        ap
        (stated due.Operand (level_of s (ProductWith (term_of p (factor_of x)))) (levels cs))
        (ends_product-state_of cs s p x ∙ ap (λ is. outside_code cs ++ (sum_code s ++ is)) (sym (append-nil (term_code names (term_of p (factor_of x))))))

    takes_plus-at : (d : Place) → taken_where (has_value (place_due p s d)) place (takes_sum (at cs s p d) waiting.Add) ≡ outcome place (moves_sum cs SumWith s p d) None
    takes_plus-at WantsOperand = operand_due-both (λ d. taken_where (has_value d) place (takes_sum (at cs s p WantsOperand) waiting.Add)) p s refl refl
    takes_plus-at (Ended x) = ap (λ b. taken_where b place (takes_sum (at cs s p (Ended x)) waiting.Add)) (has_value-ending x) ∙ takes_sum-at x
    takes_plus-at d = refl

    takes_star-at : (d : Place) → taken_where (has_value (place_due p s d)) place (takes_product (at cs s p d)) ≡ outcome place (moves_star cs s p d) None
    takes_star-at WantsOperand = operand_due-both (λ d. taken_where (has_value d) place (takes_product (at cs s p WantsOperand))) p s refl refl
    takes_star-at (Ended x) = ap (λ b. taken_where b place (takes_product (at cs s p (Ended x)))) (has_value-ending x) ∙ takes_product-at x
    takes_star-at d = refl

    takes_slash-at : (d : Place) → takes_slash (at cs s p d) place (place_due p s d) ≡ outcome place (where_ended (slash_after (partial cs s p)) d) None
    takes_slash-at WantsOperand = operand_due-both (takes_slash (at cs s p WantsOperand) place) p s refl refl
    takes_slash-at (Ended (NumberEnds n)) = refl
    takes_slash-at (Ended (NameEnds n)) = refl
    takes_slash-at (Ended (BaseEnds n)) = refl
    takes_slash-at (Ended (FactorEnds n)) = refl
    takes_slash-at d = refl

    takes_caret-at : (d : Place) → takes_caret (at cs s p d) place (place_due p s d) ≡ outcome place (where_ended (caret_after (partial cs s p)) d) None
    unfolding expression_code
    takes_caret-at WantsOperand = operand_due-both (takes_caret (at cs s p WantsOperand) place) p s refl refl
    takes_caret-at (Ended (NumberEnds n)) = ap (stated due.Power (level_of s p) (levels cs)) (made-append cs s p [] (code.Constant (whole (pos (digits_value 10 n))) ∷ []))
    takes_caret-at (Ended (NameEnds n)) = refl
    takes_caret-at (Ended (BaseEnds n)) = refl
    takes_caret-at (Ended (FactorEnds n)) = refl
    takes_caret-at d = refl

    takes_open-at : (d : Place) →
        taken_where (wants_atom (place_due p s d)) place (takes_open (at cs s p d) place) ≡ outcome place (moves_open cs s p d) (if nat_lt (open_count (place_before d others)) greatest_depth then None else Some (fault.TooDeep place))
    takes_open-at WantsOperand =
        operand_due-both (λ d. taken_where (wants_atom d) place (takes_open (at cs s p WantsOperand) place)) p s refl refl
        ∙ ap
        (λ is. fault_where (not (nat_lt (length (levels cs)) greatest_depth)) (fault.TooDeep place) (stated due.Start (level_of NoTerm NoFactor) (level_of s p ∷ levels cs) is))
        (ap (λ is. outside_code cs ++ (sum_code s ++ is)) (append-nil (product_code p)) ∙ sym (append-nil (outside_code cs ++ (sum_code s ++ product_code p))))
        ∙ where_deep place (nat_lt (length (levels cs)) greatest_depth) (fault.TooDeep place) (partial (outer s p ∷ cs) NoTerm NoFactor WantsOperand)
        ∙ ap (λ n. outcome place (Some (partial (outer s p ∷ cs) NoTerm NoFactor WantsOperand)) (if nat_lt n greatest_depth then None else Some (fault.TooDeep place))) (sym (open_count-sides cs s p))
    takes_open-at (Ended (NumberEnds n)) = refl
    takes_open-at (Ended (NameEnds n)) = refl
    takes_open-at (Ended (BaseEnds n)) = refl
    takes_open-at (Ended (FactorEnds n)) = refl
    takes_open-at d = refl

  takes_sign : (place : ℕ) (cs : List Outer) (p : ProductSide) (s : SumSide) → takes_minus (at cs s p WantsOperand) place (operand_due p s) ≡ outcome place (moves_sign cs p s) None
  takes_sign place cs NoFactor NoTerm = ap (stated due.Operand (level_of Negative NoFactor) (levels cs)) (made-append cs NoTerm NoFactor [] (code.Constant (whole (pos 0)) ∷ []))
  takes_sign place cs NoFactor s = refl
  takes_sign place cs (ProductWith t) s = refl

  takes_minus-at : (place : ℕ) (cs : List Outer) (s : SumSide) (p : ProductSide) (d : Place) → takes_minus (at cs s p d) place (place_due p s d) ≡ outcome place (moves_minus cs s p d) None
  takes_minus-at place cs s p WantsOperand = takes_sign place cs p s
  takes_minus-at place cs s p (Ended (NumberEnds n)) = takes_difference-at place cs s p (NumberEnds n)
  takes_minus-at place cs s p (Ended (NameEnds n)) = takes_difference-at place cs s p (NameEnds n)
  takes_minus-at place cs s p (Ended (BaseEnds n)) = takes_difference-at place cs s p (BaseEnds n)
  takes_minus-at place cs s p (Ended (FactorEnds n)) = takes_difference-at place cs s p (FactorEnds n)
  takes_minus-at place cs s p d = refl

  takes_close-ended : (place : ℕ) (cs : List Outer) (s : SumSide) (p : ProductSide) (x : Ending) → takes_close (at cs s p (Ended x)) place (levels cs) ≡ outcome place (close_after cs (whole_of s p x)) None
  unfolding expression_code
  takes_close-ended place [] s p x = refl
  takes_close-ended place (outer u q ∷ cs) s p x =
      ap
      (stated due.AfterAtom (level_of u q) (levels cs))
      (ends_term-state_of (outer u q ∷ cs) s p x
      ∙ append_assoc (outside_code cs) (sum_code u ++ product_code q) (expression_code names (whole_of s p x))
      ∙ ap (λ is. outside_code cs ++ is) (append_assoc (sum_code u) (product_code q) (expression_code names (whole_of s p x))))

  takes_close-at : (place : ℕ) (cs : List Outer) (s : SumSide) (p : ProductSide) (d : Place) →
      taken_where (has_value (place_due p s d)) place (takes_close (at cs s p d) place (levels cs)) ≡ outcome place (where_ended (λ x. close_after cs (whole_of s p x)) d) None
  takes_close-at place cs s p WantsOperand = operand_due-both (λ d. taken_where (has_value d) place (takes_close (at cs s p WantsOperand) place (levels cs))) p s refl refl
  takes_close-at place cs s p (Ended x) = ap (λ b. taken_where b place (takes_close (at cs s p (Ended x)) place (levels cs))) (has_value-ending x) ∙ takes_close-ended place cs s p x
  takes_close-at place cs s p d = refl

  pub takes-state_of : (z : Partial) (place : ℕ) (t : Token) → takes_token names (state_of z) place t ≡ outcome place (moves z t) (own_fault names (before z) place t)
  takes-state_of (partial cs s p d) place (Number digits) = takes_number-at place cs s p d digits
  takes-state_of (partial cs s p d) place (Name name) = takes_name-at place cs s p d name
  takes-state_of (partial cs s p d) place Plus = takes_plus-at place cs s p d
  takes-state_of (partial cs s p d) place Minus = takes_minus-at place cs s p d
  takes-state_of (partial cs s p d) place Star = takes_star-at place cs s p d
  takes-state_of (partial cs s p d) place Slash = takes_slash-at place cs s p d
  takes-state_of (partial cs s p d) place Caret = takes_caret-at place cs s p d
  takes-state_of (partial cs s p d) place Open = takes_open-at place cs s p d
  takes-state_of (partial cs s p d) place Close = takes_close-at place cs s p d
  takes-state_of (partial cs s p d) place (Stray b) = refl

  pub ends-state_of : (place : ℕ) (z : Partial) → ends place (state_of z) ≡ cond (is_whole z) (Ok (expression_code names (ended z))) (Err (fault.Syntax place))
  ends-state_of place (partial [] s p (Ended x)) =
      ap (λ b. cond (b && true) (Ok (ends_term (at [] s p (Ended x)))) (Err (fault.Syntax place))) (has_value-ending x)
      ∙ ap Ok (ends_term-state_of [] s p x)
  ends-state_of place (partial (outer u q ∷ cs) s p (Ended x)) =
      ap (λ b. cond (b && false) (Ok (ends_term (at (outer u q ∷ cs) s p (Ended x)))) (Err (fault.Syntax place))) (has_value-ending x)
  ends-state_of place (partial cs s p WantsOperand) =
      operand_due-both (λ d. cond (has_value d && is_empty (levels cs)) (Ok (ends_term (at cs s p WantsOperand))) (Err (fault.Syntax place))) p s refl refl
  ends-state_of place (partial cs s p d) = refl
