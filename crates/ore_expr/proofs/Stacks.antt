-- The stack of operators as values, and powers.
--     values_of-nil                     an empty stack has no values
--     values_of-push, values_of-two     the values of a stack with one operator more, with two
--     All-two                           what holds of all of a stack with two operators more
--     join_one, join_ok, join_stops     an operation: with too few operators; with two, where it goes on; and where it stops
--     constant_is, power_of_variable_is    one term as a number, as a power of a variable
--     constant_pushed, power_pushed     one of these on top
--     raise_none, raise_ok, raise_stops    the same of factors of the top
--     power_next, power_stops           one factor more, and where it stops
--     unit_of, power_of                 the monomial 1, and a power of a declared variable, are of the signature
--     term_belongs, zero_belongs        one term of such a monomial, and zero, belong to it
--     last_stack, top_value, top_none               the operator on top in the end, where there is one and where there is none
use Rattle.std.proofs.Common.{◌≡◌, ℕ, zero, suc, ◌+◌, ◌<◌, ◌≤◌, List, [], ◌∷◌, ◌++◌, length, drop, map, reverse, pos, refl, sym, ap, ◌∙◌, subst, append_assoc, arith}
use Rattle.std.proofs.lemmas.List.{map-append, reverse-append, drop_all}
use Rattle.std.proofs.lemmas.List.Elements.{All-pop}
use Rattle.std.specs.declared.option.Option.TheVariants.{Some}
use native.Mathlib.Decide.{ℕ_discrete}
use Rattle.std.specs.declared.result.Result.{Result}
use Rattle.std.specs.declared.result.Result.TheVariants.{Ok, Err}
use Rattle.std.specs.List.{All, sum}
use Rattle.ore_algebra.specs.Free.{single}
use Rattle.ore_algebra.specs.Limits.{Limits, Cause, ◌>>=◌, fold_within}
use Rattle.ore_rational.specs.Fraction.{Fraction, whole}
use Rattle.ore_rational.specs.Field.{rationals}
use Rattle.ore_monomial.specs.Monomial.{Monomial, unit, with_exponent, plain_cmp}
use Rattle.ore_monomial.specs.declared.order.Order.{Order}
use Rattle.ore_monomial.specs.Signature.{Signature, MonomialOf}
use Rattle.ore_monomial.specs.LetterRule.{Operator, constant}
use Rattle.ore_monomial.proofs.Monomials.{exponent-unit, exponent-other}
use Rattle.ore_ring.specs.Belongs.{Belongs}
use Rattle.ore_ring.specs.Ordered.{Ordered}
use Rattle.ore_ring.specs.Within.{times_within}
use Rattle.ore_ring.proofs.Belonging.{of_none, of_single}
use Rattle.ore_expr.specs.declared.evaluation.Operation.{Operation}
use Rattle.ore_expr.specs.declared.evaluation.Operation.TheVariants as operation
use Rattle.ore_expr.specs.declared.instruction.Instruction.{Instruction}
use Rattle.ore_expr.specs.declared.instruction.Instruction.TheVariants as code
use Rattle.ore_expr.specs.Values.{zero_operator, power_of_variable, power_within}
use Rattle.ore_expr.specs.Evaluation.{applied, top, value_of}
use Rattle.ore_expr.specs.Stack.{values_of, outcome, instruction_of}

pub values_of-nil : values_of [] ≡ []
unfolding values_of
values_of-nil = refl

pub values_of-push : (fs : List Ordered) (f : Ordered) → values_of (fs ++ f ∷ []) ≡ f.sum ∷ values_of fs
unfolding values_of
values_of-push fs f = ap reverse (map-append (λ (w : Ordered). w.sum) fs (f ∷ [])) ∙ reverse-append (map (λ (w : Ordered). w.sum) fs) (f.sum ∷ [])

pub values_of-two : (fs : List Ordered) (f g : Ordered) → values_of (fs ++ f ∷ g ∷ []) ≡ g.sum ∷ f.sum ∷ values_of fs
unfolding values_of
values_of-two fs f g = ap reverse (map-append (λ (w : Ordered). w.sum) fs (f ∷ g ∷ [])) ∙ reverse-append (map (λ (w : Ordered). w.sum) fs) (f.sum ∷ g.sum ∷ [])

pub All-two : (P : Ordered → Type 0) (all fs : List Ordered) (f g : Ordered) → all ≡ fs ++ f ∷ g ∷ [] → All P all → All P fs × P f × P g
All-two P all fs f g e h =
    let last = All-pop P all (fs ++ f ∷ []) (Some g) (e ∙ sym (append_assoc fs (f ∷ []) (g ∷ []))) h in
    let first = All-pop P (fs ++ f ∷ []) fs (Some f) refl last.0 in
    (first.0, first.1, last.1)

-- a call answered this operator
abbrev IsSame : Operator rationals → Ordered → Type 0
IsSame v f = ◌≡◌ {A = Result (Operator rationals) Cause} (Ok v) (Ok f.sum)

pub constant_is : (o : Order) (m : Monomial) (q : Fraction) (f : Ordered) → f ≡ record { by = o; sum = single rationals plain_cmp m q } → m ≡ unit → IsSame (constant rationals q) f
constant_is o m q f e h = ap Ok (ap (λ n. single rationals plain_cmp n q) (sym h) ∙ ap (λ (w : Ordered). w.sum) (sym e))

pub power_of_variable_is : (o : Order) (m : Monomial) (q : Fraction) (x e : ℕ) (f : Ordered) → f ≡ record { by = o; sum = single rationals plain_cmp m q } → m ≡ with_exponent x e unit → q ≡ whole (pos 1) → IsSame (power_of_variable x e) f
unfolding power_of_variable
power_of_variable_is o m q x e f k h j = ap Ok ((λ i. single rationals plain_cmp (sym h i) (sym j i)) ∙ ap (λ (w : Ordered). w.sum) (sym k))

module _ (l : Limits) (s : Signature) where
  joins : (o : Operation) (f g : Operator rationals) (fs : List (Operator rationals)) → applied l s (g ∷ f ∷ fs) (instruction_of o) ≡ (outcome l s o f g >>= λ h. Ok (h ∷ fs))
  unfolding applied
  joins operation.Sum f g fs = refl
  joins operation.Difference f g fs = refl
  joins operation.Product f g fs = refl

  pub join_one : (o : Operation) (fs : List Ordered) → length fs < 2 → applied l s (values_of fs) (instruction_of o) ≡ Ok (values_of fs)
  unfolding applied values_of
  join_one operation.Sum [] h = refl
  join_one operation.Difference [] h = refl
  join_one operation.Product [] h = refl
  join_one operation.Sum (f ∷ []) h = refl
  join_one operation.Difference (f ∷ []) h = refl
  join_one operation.Product (f ∷ []) h = refl
  join_one o (f ∷ g ∷ fs) h = absurd (omega arith)

  before_join : (o : Operation) (old fs : List Ordered) (f g : Ordered) → old ≡ fs ++ f ∷ g ∷ [] → applied l s (values_of old) (instruction_of o) ≡ (outcome l s o f.sum g.sum >>= λ h. Ok (h ∷ values_of fs))
  before_join o old fs f g e = ap (λ t. applied l s (values_of t) (instruction_of o)) e ∙ ap (λ t. applied l s t (instruction_of o)) (values_of-two fs f g) ∙ joins o f.sum g.sum (values_of fs)

  pub join_ok : (o : Operation) (old fs new : List Ordered) (f g h : Ordered) → old ≡ fs ++ f ∷ g ∷ [] → new ≡ fs ++ h ∷ [] → outcome l s o f.sum g.sum ≡ Ok h.sum → applied l s (values_of old) (instruction_of o) ≡ Ok (values_of new)
  join_ok o old fs new f g h e n k = before_join o old fs f g e ∙ ap (λ r. r >>= λ h. Ok (h ∷ values_of fs)) k ∙ ap Ok (sym (ap values_of n ∙ values_of-push fs h))

  pub join_stops : (o : Operation) (old fs : List Ordered) (f g : Ordered) (c : Cause) → old ≡ fs ++ f ∷ g ∷ [] → outcome l s o f.sum g.sum ≡ Err c → applied l s (values_of old) (instruction_of o) ≡ Err c
  join_stops o old fs f g c e k = before_join o old fs f g e ∙ ap (λ r. r >>= λ h. Ok (h ∷ values_of fs)) k

  pushes : (i : Instruction) (old new : List Ordered) (v : Operator rationals) (f : Ordered) → applied l s (values_of old) i ≡ Ok (v ∷ values_of old) → IsSame v f → new ≡ old ++ f ∷ [] → applied l s (values_of old) i ≡ Ok (values_of new)
  pushes i old new v f a e n = a ∙ ap (λ r. r >>= λ h. Ok (h ∷ values_of old)) e ∙ ap Ok (sym (ap values_of n ∙ values_of-push old f))

  pub constant_pushed : (old new : List Ordered) (q : Fraction) (f : Ordered) → IsSame (constant rationals q) f → new ≡ old ++ f ∷ [] → applied l s (values_of old) (code.Constant q) ≡ Ok (values_of new)
  unfolding applied
  constant_pushed old new q f = pushes (code.Constant q) old new (constant rationals q) f refl

  pub power_pushed : (old new : List Ordered) (x e : ℕ) (f : Ordered) → IsSame (power_of_variable x e) f → new ≡ old ++ f ∷ [] → applied l s (values_of old) (code.Power x e) ≡ Ok (values_of new)
  unfolding applied
  power_pushed old new x e f = pushes (code.Power x e) old new (power_of_variable x e) f refl

  before_raise : (n : ℕ) (old fs : List Ordered) (f : Ordered) → old ≡ fs ++ f ∷ [] → applied l s (values_of old) (code.Raise n) ≡ (power_within l s n f.sum >>= λ h. Ok (h ∷ values_of fs))
  unfolding applied
  before_raise n old fs f e = ap (λ t. applied l s (values_of t) (code.Raise n)) e ∙ ap (λ t. applied l s t (code.Raise n)) (values_of-push fs f)

  pub raise_none : (n : ℕ) (old fs : List Ordered) → length old ≡ 0 → length fs ≡ 0 → applied l s (values_of old) (code.Raise n) ≡ Ok (values_of fs)
  unfolding applied values_of
  raise_none n [] [] e h = refl
  raise_none n [] (f ∷ fs) e h = absurd (omega arith)
  raise_none n (g ∷ gs) fs e h = absurd (omega arith)

  pub raise_ok : (n : ℕ) (old fs new : List Ordered) (f h : Ordered) → old ≡ fs ++ f ∷ [] → new ≡ fs ++ h ∷ [] → power_within l s n f.sum ≡ Ok h.sum → applied l s (values_of old) (code.Raise n) ≡ Ok (values_of new)
  raise_ok n old fs new f h e k p = before_raise n old fs f e ∙ ap (λ r. r >>= λ h. Ok (h ∷ values_of fs)) p ∙ ap Ok (sym (ap values_of k ∙ values_of-push fs h))

  pub raise_stops : (n : ℕ) (old fs : List Ordered) (f : Ordered) (c : Cause) → old ≡ fs ++ f ∷ [] → power_within l s n f.sum ≡ Err c → applied l s (values_of old) (code.Raise n) ≡ Err c
  raise_stops n old fs f c e p = before_raise n old fs f e ∙ ap (λ r. r >>= λ h. Ok (h ∷ values_of fs)) p

  pub power_next : (k : ℕ) (f p : Operator rationals) → 1 ≤ k → power_within l s k f ≡ Ok p → power_within l s (k + 1) f ≡ times_within l s p f
  unfolding power_within
  power_next zero f p h e = absurd (omega arith)
  power_next (suc k) f p h e =
      let one_more : suc k + 1 ≡ suc (suc k) = omega arith in
      subst (λ n. power_within l s n f ≡ times_within l s p f) (sym one_more) (ap (λ r. r >>= λ q. times_within l s q f) e)

  pub power_stops : (n k : ℕ) (f : Operator rationals) (c : Cause) → 1 ≤ k → k ≤ n → power_within l s k f ≡ Err c → power_within l s n f ≡ Err c
  unfolding power_within
  power_stops zero k f c h i e = absurd (omega arith)
  power_stops (suc zero) k f c h i e = let same : k ≡ 1 = omega arith in subst (λ j. power_within l s j f ≡ Err c) same e
  power_stops (suc (suc n)) k f c h i e = by (ℕ_discrete k (suc (suc n))) (λ j. power_stops (suc n) k f c h j e)
    where
      by : Dec (k ≡ suc (suc n)) → (k ≤ suc n → power_within l s (suc n) f ≡ Err c) → power_within l s (suc (suc n)) f ≡ Err c
      by (yes same) below = subst (λ j. power_within l s j f ≡ Err c) same e
      by (no other) below = ap (λ r. r >>= λ q. times_within l s q f) (below (omega arith))

  -- no instruction is left
  pub last_stack : (is : List Instruction) (k : ℕ) (gs : List (Operator rationals)) → length is ≤ k → fold_within (applied l s) gs (drop k is) ≡ fold_within (applied l s) [] is → Ok gs ≡ fold_within (applied l s) [] is
  last_stack is k gs h e = ap (λ t. fold_within (applied l s) gs t) (sym (drop_all k is h)) ∙ e

  -- from the stack after the last instruction the top is taken
  pub top_value : (is : List Instruction) (all fs : List Ordered) (f : Ordered) → all ≡ fs ++ f ∷ [] → Ok (values_of all) ≡ fold_within (applied l s) [] is → value_of l s is ≡ Ok f.sum
  top_value is all fs f e h = ap (λ r. r >>= λ gs. Ok (top l s gs)) (sym h ∙ ap (λ t. Ok (values_of t)) e ∙ ap Ok (values_of-push fs f))

  pub top_none : (is : List Instruction) (all : List Ordered) → length all ≡ 0 → Ok (values_of all) ≡ fold_within (applied l s) [] is → value_of l s is ≡ Ok zero_operator
  unfolding values_of
  top_none is [] e h = ap (λ r. r >>= λ gs. Ok (top l s gs)) (sym h)
  top_none is (f ∷ fs) e h = absurd (omega arith)

pub unit_of : (s : Signature) → MonomialOf s unit
unit_of s y h = exponent-unit y

pub power_of : (s : Signature) (x e : ℕ) → x < length s.kinds → MonomialOf s (with_exponent x e unit)
power_of s x e h y l = exponent-other x y e unit (λ same. absurd (omega arith)) ∙ exponent-unit y

pub term_belongs : (s : Signature) (o : Order) (m : Monomial) (k : Fraction) (f : Ordered) → f ≡ record { by = o; sum = single rationals plain_cmp m k } → o ≡ s.order → MonomialOf s m → Belongs s f
term_belongs s o m k f e h n = subst (Belongs s) (sym e) (record { order = h; variables = of_single rationals s m k n })

pub zero_belongs : (s : Signature) (o : Order) (f : Ordered) → f ≡ record { by = o; sum = zero_operator } → o ≡ s.order → Belongs s f
zero_belongs s o f e h = subst (Belongs s) (sym e) (record { order = h; variables = of_none rationals s })
