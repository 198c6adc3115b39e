-- The instructions of an expression leave its value on a stack.
--     run              the stack after some instructions
--     Leaves           whatever stands on the stack and whatever follows, the instructions put this value on top, or stop
--     onward           two ways to go on with a value are the same where they are so for each value
--     constant_zero    the number 0 as an operator is zero
--     leaves_one, leaves_both     instructions of one value, of two, and then an operation on them
--     leaves_expression, leaves_term, leaves_factor, leaves_atom     so it is with those of an expression
--     value_of-expression_code    what the instructions of an expression give is its value
use Rattle.std.proofs.Common.{◌≡◌, ℕ, List, [], ◌∷◌, ◌++◌, pos, refl, sym, ap, ◌∙◌, subst, append_assoc, append-nil}
use Rattle.std.specs.declared.result.Result.{Result}
use Rattle.std.specs.declared.result.Result.TheVariants.{Ok, Err}
use Rattle.std.specs.Str.Parse.{digits_value}
use Rattle.ore_algebra.specs.Limits.{Limits, Cause, ◌>>=◌, fold_within}
use Rattle.ore_rational.specs.Fraction.{whole}
use Rattle.ore_rational.specs.Field.{rationals}
use Rattle.ore_monomial.specs.Monomial.{unit}
use Rattle.ore_monomial.specs.Signature.{Signature}
use Rattle.ore_monomial.specs.LetterRule.{Operator, constant}
use Rattle.ore_monomial.proofs.Operators
use Rattle.ore_ring.specs.Within.{plus_within, minus_within, times_within}
use Rattle.ore_expr.specs.declared.instruction.Instruction.{Instruction}
use Rattle.ore_expr.specs.declared.instruction.Instruction.TheVariants as code
use Rattle.ore_expr.specs.Grammar.{Expression, Single, Negated, Sum, Difference, Term, Alone, Product, Factor, Bare, Power, Atom, Whole, Quotient, Variable, Group}
use Rattle.ore_expr.specs.Values.{zero_operator, power_within, expression_value, term_value, factor_value, atom_value}
use Rattle.ore_expr.specs.Evaluation.{expression_code, term_code, factor_code, atom_code, applied, top, value_of}

pub onward : {A B C : Type 0} (v : Result A Cause) (k : A → Result C Cause) (o : A → Result B Cause) (next : B → Result C Cause)
    → ((x : A) → k x ≡ (o x >>= next)) → (v >>= k) ≡ ((v >>= o) >>= next)
onward (Ok x) k o next h = h x
onward (Err e) k o next h = refl

pub constant_zero : constant rationals (whole (pos 0)) ≡ zero_operator
constant_zero = Operators.single_zero rationals unit

module _ (l : Limits) (s : Signature) where
  abbrev pub run : List (Operator rationals) → List Instruction → Result (List (Operator rationals)) Cause
  run fs is = fold_within (applied l s) fs is

  abbrev pub Leaves : List Instruction → Result (Operator rationals) Cause → Type 0
  Leaves is value = (fs : List (Operator rationals)) (rest : List Instruction) → run fs (is ++ rest) ≡ (value >>= λ f. run (f ∷ fs) rest)

  -- an operation on the top
  leaves_one : (is : List Instruction) (v : Result (Operator rationals) Cause) (i : Instruction) (op : Operator rationals → Result (Operator rationals) Cause)
      → ((f : Operator rationals) (fs : List (Operator rationals)) → applied l s (f ∷ fs) i ≡ (op f >>= λ h. Ok (h ∷ fs)))
      → Leaves is v → Leaves (is ++ i ∷ []) (v >>= op)
  leaves_one is v i op does leaves fs rest =
      ap (run fs) (append_assoc is (i ∷ []) rest)
      ∙ leaves fs (i ∷ rest)
      ∙ onward v (λ f. run (f ∷ fs) (i ∷ rest)) op (λ h. run (h ∷ fs) rest)
      (λ f. ap (λ r. r >>= λ gs. run gs rest) (does f fs) ∙ sym (onward (op f) (λ h. run (h ∷ fs) rest) (λ h. Ok (h ∷ fs)) (λ gs. run gs rest) (λ h. refl)))

  -- an operation on the two on top
  leaves_both : (is js : List Instruction) (v w : Result (Operator rationals) Cause) (i : Instruction) (op : Operator rationals → Operator rationals → Result (Operator rationals) Cause)
      → ((f g : Operator rationals) (fs : List (Operator rationals)) → applied l s (g ∷ f ∷ fs) i ≡ (op f g >>= λ h. Ok (h ∷ fs)))
      → Leaves is v → Leaves js w → Leaves (is ++ (js ++ i ∷ [])) (v >>= λ f. w >>= λ g. op f g)
  leaves_both is js v w i op does first second fs rest =
      ap (run fs) (append_assoc is (js ++ i ∷ []) rest ∙ ap (λ t. is ++ t) (append_assoc js (i ∷ []) rest))
      ∙ first fs (js ++ i ∷ rest)
      ∙ onward v (λ f. run (f ∷ fs) (js ++ i ∷ rest)) (λ f. w >>= λ g. op f g) (λ h. run (h ∷ fs) rest)
      (λ f. second (f ∷ fs) (i ∷ rest)
      ∙ onward w (λ g. run (g ∷ f ∷ fs) (i ∷ rest)) (op f) (λ h. run (h ∷ fs) rest)
      (λ g. ap (λ r. r >>= λ gs. run gs rest) (does f g fs) ∙ sym (onward (op f g) (λ h. run (h ∷ fs) rest) (λ h. Ok (h ∷ fs)) (λ gs. run gs rest) (λ h. refl))))

  module _ (names : List (List ℕ)) where
    -- zero less a term
    negated : (is : List Instruction) (w : Result (Operator rationals) Cause) → Leaves is w → Leaves (code.Constant (whole (pos 0)) ∷ (is ++ code.Subtract ∷ [])) (w >>= λ g. minus_within l zero_operator g)
    unfolding applied
    negated is w leaves =
        subst (λ z. Leaves (code.Constant (whole (pos 0)) ∷ (is ++ code.Subtract ∷ [])) (w >>= λ g. minus_within l z g)) constant_zero
        (leaves_both (code.Constant (whole (pos 0)) ∷ []) is (Ok (constant rationals (whole (pos 0)))) w code.Subtract (minus_within l) (λ f g fs. refl) (λ fs rest. refl) leaves)

    -- factors of an atom
    raised : (a : Atom) (digits : List ℕ) → Leaves (atom_code names a) (atom_value l s names a)
        → Leaves (atom_code names a ++ code.Raise (digits_value 10 digits) ∷ []) (atom_value l s names a >>= power_within l s (digits_value 10 digits))
    unfolding applied
    raised a digits = leaves_one (atom_code names a) (atom_value l s names a) (code.Raise (digits_value 10 digits)) (power_within l s (digits_value 10 digits)) (λ f fs. refl)

    mutual
      unfolding applied expression_code term_code factor_code atom_code expression_value term_value factor_value atom_value

      pub leaves_expression : (e : Expression) → Leaves (expression_code names e) (expression_value l s names e)
      leaves_expression (Single t) = leaves_term t
      leaves_expression (Negated t) = negated (term_code names t) (term_value l s names t) (leaves_term t)
      leaves_expression (Sum e t) = leaves_both (expression_code names e) (term_code names t) (expression_value l s names e) (term_value l s names t) code.Add (plus_within l) (λ f g fs. refl) (leaves_expression e) (leaves_term t)
      leaves_expression (Difference e t) = leaves_both (expression_code names e) (term_code names t) (expression_value l s names e) (term_value l s names t) code.Subtract (minus_within l) (λ f g fs. refl) (leaves_expression e) (leaves_term t)

      pub leaves_term : (t : Term) → Leaves (term_code names t) (term_value l s names t)
      leaves_term (Alone f) = leaves_factor f
      leaves_term (Product t f) = leaves_both (term_code names t) (factor_code names f) (term_value l s names t) (factor_value l s names f) code.Multiply (times_within l s) (λ f g fs. refl) (leaves_term t) (leaves_factor f)

      pub leaves_factor : (f : Factor) → Leaves (factor_code names f) (factor_value l s names f)
      leaves_factor (Bare a) = leaves_atom a
      leaves_factor (Power (Variable name) digits) = λ fs rest. refl
      leaves_factor (Power (Whole others) digits) = raised (Whole others) digits (leaves_atom (Whole others))
      leaves_factor (Power (Quotient others more) digits) = raised (Quotient others more) digits (leaves_atom (Quotient others more))
      leaves_factor (Power (Group e) digits) = raised (Group e) digits (leaves_atom (Group e))

      pub leaves_atom : (a : Atom) → Leaves (atom_code names a) (atom_value l s names a)
      leaves_atom (Whole digits) = λ fs rest. refl
      leaves_atom (Quotient digits others) = λ fs rest. refl
      leaves_atom (Variable name) = λ fs rest. refl
      leaves_atom (Group e) = leaves_expression e

only_top : (l : Limits) (s : Signature) (v : Result (Operator rationals) Cause) → ((v >>= λ f. run l s (f ∷ []) []) >>= λ fs. Ok (top l s fs)) ≡ v
only_top l s (Ok f) = refl
only_top l s (Err e) = refl

pub value_of-expression_code : (l : Limits) (s : Signature) (names : List (List ℕ)) (e : Expression) → value_of l s (expression_code names e) ≡ expression_value l s names e
value_of-expression_code l s names e =
    ap (λ is. run l s [] is >>= λ fs. Ok (top l s fs)) (sym (append-nil (expression_code names e)))
    ∙ ap (λ r. r >>= λ fs. Ok (top l s fs)) (leaves_expression l s names e [] [])
    ∙ only_top l s (expression_value l s names e)
