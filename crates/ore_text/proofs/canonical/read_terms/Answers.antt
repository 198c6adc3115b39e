use Rattle.std.proofs.Common.{◌≡◌, ◌<◌, ◌≤◌, ◌++◌, inr, ℕ, List, [], length, drop, refl, sym, ap, ◌∙◌, subst, arith}
use Rattle.std.specs.List.{All}
use Rattle.std.proofs.lemmas.List.{length-drop}
use Rattle.std.proofs.lemmas.List.Elements.{All-from_recursion}
use Rattle.ore_rational.specs.Field.{rationals}
use Rattle.ore_monomial.specs.LetterRule.{Operator}
use Rattle.ore_monomial.specs.declared.order.Order.{Order}
use Rattle.ore_ring.specs.Terms.{falling, IsBelowLast}
use Rattle.ore_ring.proofs.AllTerms.{falls-falling}
use Rattle.ore_text.specs.CanonicalParts.{falling_terms, term_unless_zero, IsPrintableTerm}
use Rattle.ore_text.specs.CanonicalText.{term_text, terms_text, operator_text}
use Rattle.ore_text.proofs.PrintableTerms.{printable_falling}
use Rattle.ore_text.proofs.Walking.{IsTaken, first_term, next_term, term_first, no_others, same_operator}
use Rattle.ore_text.proofs.Known.{at_none, at_some, if_some}
use Rattle.ore_text.proofs.canonical.read_terms.Goals as goal

text_is : (names : List (List ℕ)) (o : Order) (f : Operator rationals) (text : List ℕ) → text ≡ operator_text names o f → text ≡ terms_text names (falling o f)
unfolding operator_text
text_is names o f text e = e

abbrev IsWithin : List ℕ → ℕ → ℕ → Type 0
IsWithin text at next = (at ≤ next) × (next ≤ length text)

abbrev IsFurther : List ℕ → ℕ → ℕ → Type 0
IsFurther text at next = (at < next) × (next ≤ length text)

pub returns-in_default-clause-only : goal.returns-in_default-clause-only
returns-in_default-clause-only c f by p e =
    let s = c.args.algebra.now.signature.now in
    let names = c.args.algebra.now.names.now in
    let text = c.args.text.now in
    let all = falling s.order f in
    let first = first_term s s.order names all text (falls-falling s.order f) (printable_falling s names f s.order p) (text_is names s.order f text e) in
    let sign = c.first_sign-is_negative.ensures.only first.term.1.num (term_text names first.term ++ first.tail) (term_first names first.term first.tail c.args.algebra.now.form.form first.good.storable.numerator) first.spelled in
    absurd (at_none (IsTaken text first.tail (falling_terms c.args.op.now) (falling_terms c.take_term.new.op) first.term) c.in_ok-end.field-0 c.in_default.is
    (c.in_ok-end.ensures.only first.term first.tail first.good first.end sign.0 (inr (subst (λ ts. IsBelowLast c.args.op.now.by ts first.term.0) (sym c.requires) tt)) sign.1))

pub loop-at-init : goal.loop-at-init
loop-at-init c = record {
  within = (if_some (IsWithin c.args.text.now c.first_sign-is_negative.result.1) c.in_ok-end.field-0 c.in-Some.end c.in-Some.is c.in_ok-end.ensures.within).1;
  by = c.take_term.ensures.by;
  good = c.take_term.ensures.good (subst (All (IsPrintableTerm c.args.algebra.now.signature.now)) (sym c.requires) (All-from_recursion (IsPrintableTerm c.args.algebra.now.signature.now) [] tt));
  only = λ f by p e.
      let s = c.args.algebra.now.signature.now in
      let names = c.args.algebra.now.names.now in
      let text = c.args.text.now in
      let all = falling s.order f in
      let first = first_term s s.order names all text (falls-falling s.order f) (printable_falling s names f s.order p) (text_is names s.order f text e) in
      let sign = c.first_sign-is_negative.ensures.only first.term.1.num (term_text names first.term ++ first.tail) (term_first names first.term first.tail c.args.algebra.now.form.form first.good.storable.numerator) first.spelled in
      let taken = at_some (IsTaken text first.tail (falling_terms c.args.op.now) (falling_terms c.take_term.new.op) first.term) c.in_ok-end.field-0 c.in-Some.end c.in-Some.is
      (c.in_ok-end.ensures.only first.term first.tail first.good first.end sign.0 (inr (subst (λ ts. IsBelowLast c.args.op.now.by ts first.term.0) (sym c.requires) tt)) sign.1) in
      first.goes_on (falling_terms c.take_term.new.op) (drop c.in-Some.end text) taken.0 (taken.1 ∙ ap (λ ts. ts ++ term_unless_zero first.term) c.requires);
}

filled : (text : List ℕ) (at : ℕ) → at < length text → 0 < length (drop at text)
filled text at l = let e = length-drop at text in omega arith

pub returns-in_default-2-clause-only : goal.returns-in_default-2-clause-only
returns-in_default-2-clause-only c f by p e =
    let s = c.args.algebra.now.signature.now in
    let names = c.args.algebra.now.names.now in
    let text = c.args.text.now in
    let all = falling s.order f in
    let done = falling_terms c.loop-at.op in
    let next = next_term s s.order names all done (drop c.loop-at.at text) (falls-falling s.order f) (printable_falling s names f s.order p) (filled text c.loop-at.at c.loop-at-test.true) (c.loop-at.invariant.only f by p e) in
    absurd (at_none (IsTaken text next.tail done (falling_terms c.take_later.new.op) next.term) c.in_ok-next.field-0 c.in_default-2.is
    (c.in_ok-next.ensures.only next.term next.tail next.good next.end (subst (λ o. IsBelowLast o done next.term.0) (sym (c.loop-at.invariant.by ∙ by)) next.below) next.spelled))

pub loop-at-preserved : goal.loop-at-preserved
loop-at-preserved c = record {
  within = (if_some (IsFurther c.args.text.now c.loop-at.at) c.in_ok-next.field-0 c.in-Some-2.next c.in-Some-2.is c.in_ok-next.ensures.within).1;
  by = c.take_later.ensures.by ∙ c.loop-at.invariant.by;
  good = c.take_later.ensures.good c.loop-at.invariant.good;
  only = λ f by p e.
      let s = c.args.algebra.now.signature.now in
      let names = c.args.algebra.now.names.now in
      let text = c.args.text.now in
      let all = falling s.order f in
      let done = falling_terms c.loop-at.op in
      let next = next_term s s.order names all done (drop c.loop-at.at text) (falls-falling s.order f) (printable_falling s names f s.order p) (filled text c.loop-at.at c.loop-at-test.true) (c.loop-at.invariant.only f by p e) in
      let taken = at_some (IsTaken text next.tail done (falling_terms c.take_later.new.op) next.term) c.in_ok-next.field-0 c.in-Some-2.next c.in-Some-2.is
      (c.in_ok-next.ensures.only next.term next.tail next.good next.end (subst (λ o. IsBelowLast o done next.term.0) (sym (c.loop-at.invariant.by ∙ by)) next.below) next.spelled) in
      next.goes_on (falling_terms c.take_later.new.op) (drop c.in-Some-2.next text) taken.0 taken.1;
}

pub returns-clause-only : goal.returns-clause-only
returns-clause-only c f by p e =
    let s = c.args.algebra.now.signature.now in
    let all = falling s.order f in
    let rest = drop c.loop-at.at c.args.text.now in
    let none : length rest ≡ 0 = (let d = length-drop c.loop-at.at c.args.text.now in let t = c.loop-at-test.false in omega arith) in
    (refl, same_operator s.order f c.loop-at.op (no_others c.args.algebra.now.names.now all (falling_terms c.loop-at.op) rest none (c.loop-at.invariant.only f by p e)))
