use Rattle.std.proofs.Common.{◌≡◌, ◌++◌, List, [], ◌∷◌, ◌+◌, map, length, ◌<◌, ◌≤◌, sym, ap, ◌∙◌, subst, arith}
use Rattle.std.specs.Prelude.{codes}
use Rattle.std.specs.Prelude.{MatchOption, IfSome, None, Some, Option}
use Rattle.std.specs.List.{All, AllByRecursion}
use Rattle.std.proofs.lemmas.List.{length_push}
use Rattle.std.proofs.lemmas.List.Elements.{All-push}
use Rattle.ore_rational.specs.Field.{rationals}
use Rattle.ore_monomial.specs.LetterRule.{Operator}
use Rattle.ore_ring.specs.Belongs.{Belongs}
use Rattle.ore_ring.specs.Ordered.{Ordered}
use Rattle.ore_text.specs.CanonicalText.{operator_text}
use Rattle.ore_text.specs.Printable.{IsPrintable}
use Rattle.ore_text.specs.RowText.{row_text}
use Rattle.ore_text.proofs.RowBytes.{LacksStops-operator}
use Rattle.ore_text.proofs.RowEntries.{is_front, same_bytes, other_bytes, row_text-entries, found_first, only_first, found_next, only_next, no_next, found_last, only_last, all_next}
use Rattle.ore_text.proofs.row_text.read_row.Goals as goal

no_values : (P : Operator rationals → Type 0) (row : List Ordered) → row ≡ [] → AllByRecursion P (map (λ f. f.sum) row)
no_values P row e = subst (λ r. AllByRecursion P (map (λ f. f.sum) r)) (sym e) tt

none_belong : (P : Ordered → Type 0) (row : List Ordered) → row ≡ [] → All P row
none_belong P row e = subst (All P) (sym e) (λ k d h. absurd (let z : ⊥ = omega arith in z))

not_read : (g : Operator rationals) (o : Option Ordered) → o ≡ None → MatchOption o ⊥ (λ (f : Ordered). f.sum ≡ g) → ⊥
not_read g o e m = subst (λ o. MatchOption o ⊥ (λ (f : Ordered). f.sum ≡ g)) e m

is_read : (g : Operator rationals) (f : Ordered) (o : Option Ordered) → o ≡ Some f → MatchOption o ⊥ (λ (f : Ordered). f.sum ≡ g) → f.sum ≡ g
is_read g f o e m = subst (λ o. MatchOption o ⊥ (λ (f : Ordered). f.sum ≡ g)) e m

was_read : (P : Ordered → Type 0) (f : Ordered) (o : Option Ordered) → o ≡ Some f → IfSome o P → P f
was_read P f o e h = subst (λ o. IfSome o P) e h

pub loop-init : goal.loop-init
loop-init c =
    let after = is_front c.args.line.now (codes "row") c.in-Some.rest.now c.in-Some.ensures.cases.0 c.in-Some.ensures.cases.1 in
    record {
      count = ap length c.new-row.ensures.items;
      belongs = none_belong (Belongs c.args.algebra.now.signature.now) c.new-row.result.items c.new-row.ensures.items;
      printable = no_values (IsPrintable c.args.algebra.now.signature.now c.args.algebra.now.names.now) c.new-row.result.items c.new-row.ensures.items;
      found = found_first (λ f. f.sum) (operator_text c.args.algebra.now.names.now c.args.algebra.now.signature.now.order) (IsPrintable c.args.algebra.now.signature.now c.args.algebra.now.names.now) (row_text c.args.algebra.now.names.now c.args.algebra.now.signature.now.order) c.args.line.now c.in-Some.rest.now c.new-row.result.items (row_text-entries c.args.algebra.now.names.now c.args.algebra.now.signature.now.order) after c.new-row.ensures.items;
      only = only_first (λ f. f.sum) (operator_text c.args.algebra.now.names.now c.args.algebra.now.signature.now.order) (IsPrintable c.args.algebra.now.signature.now c.args.algebra.now.names.now) (row_text c.args.algebra.now.names.now c.args.algebra.now.signature.now.order) c.args.line.now c.args.cols c.in-Some.rest.now c.new-row.result.items (row_text-entries c.args.algebra.now.names.now c.args.algebra.now.signature.now.order) after c.new-row.ensures.items;
    }

pub returns-in_default-cut_entry-clause-only : goal.returns-in_default-cut_entry-clause-only
returns-in_default-cut_entry-clause-only c =
    let more : c.loop.counter < c.args.cols = omega arith in
    no_next (λ f. f.sum) (operator_text c.args.algebra.now.names.now c.args.algebra.now.signature.now.order) (IsPrintable c.args.algebra.now.signature.now c.args.algebra.now.names.now) (row_text c.args.algebra.now.names.now c.args.algebra.now.signature.now.order) c.args.line.now c.args.cols c.loop.counter c.loop.separator.now c.loop.rest.now c.loop.row.items c.loop.invariant.count more
    (λ g tail p b e. c.in_default-cut_entry.ensures.only (operator_text c.args.algebra.now.names.now c.args.algebra.now.signature.now.order g) tail (LacksStops-operator c.args.algebra.now.names.now c.args.algebra.now.signature.now.order g p.names_fit) b e)
    c.loop.invariant.only

pub returns-in_default-2-clause-only : goal.returns-in_default-2-clause-only
returns-in_default-2-clause-only c =
    let more : c.loop.counter < c.args.cols = omega arith in
    no_next (λ f. f.sum) (operator_text c.args.algebra.now.names.now c.args.algebra.now.signature.now.order) (IsPrintable c.args.algebra.now.signature.now c.args.algebra.now.names.now) (row_text c.args.algebra.now.names.now c.args.algebra.now.signature.now.order) c.args.line.now c.args.cols c.loop.counter c.loop.separator.now c.loop.rest.now c.loop.row.items c.loop.invariant.count more
    (λ g tail p b e.
    let parts = c.in-Some-cut_entry.ensures.only (operator_text c.args.algebra.now.names.now c.args.algebra.now.signature.now.order g) tail (LacksStops-operator c.args.algebra.now.names.now c.args.algebra.now.signature.now.order g p.names_fit) b e in
    not_read g c.in_ok-op.field-0 c.in_default-2.is (c.in_ok-op.ensures.only g p parts.0))
    c.loop.invariant.only

pub loop-preserved : goal.loop-preserved
loop-preserved c =
    let more : c.loop.counter < c.args.cols = omega arith in
    let was = was_read (λ f. IsPrintable c.args.algebra.now.signature.now c.args.algebra.now.names.now f.sum × (c.in-Some-cut_entry.spelled.now ≡ operator_text c.args.algebra.now.names.now c.args.algebra.now.signature.now.order f.sum)) c.in-Some-2.op c.in_ok-op.field-0 c.in-Some-2.is c.in_ok-op.ensures.found in
    let belongs = was_read (Belongs c.args.algebra.now.signature.now) c.in-Some-2.op c.in_ok-op.field-0 c.in-Some-2.is c.in_ok-op.ensures.of in
    record {
      count = ap length c.in_ok-push.ensures.items ∙ length_push c.loop.row.items c.in-Some-2.op ∙ ap (λ n. n + 1) c.loop.invariant.count;
      belongs = subst (All (Belongs c.args.algebra.now.signature.now)) (sym c.in_ok-push.ensures.items) (All-push (Belongs c.args.algebra.now.signature.now) c.loop.row.items c.in-Some-2.op c.loop.invariant.belongs belongs);
      printable = all_next (λ f. f.sum) (operator_text c.args.algebra.now.names.now c.args.algebra.now.signature.now.order) (IsPrintable c.args.algebra.now.signature.now c.args.algebra.now.names.now) (row_text c.args.algebra.now.names.now c.args.algebra.now.signature.now.order) c.args.line.now c.loop.row.items c.push.new.self.items c.in-Some-2.op c.in_ok-push.ensures.items c.loop.invariant.printable was.0;
      found = found_next (λ f. f.sum) (operator_text c.args.algebra.now.names.now c.args.algebra.now.signature.now.order) (IsPrintable c.args.algebra.now.signature.now c.args.algebra.now.names.now) (row_text c.args.algebra.now.names.now c.args.algebra.now.signature.now.order) c.args.line.now c.loop.separator.now c.loop.rest.now c.in-Some-cut_entry.after.now c.loop.row.items c.push.new.self.items c.in-Some-2.op c.in_ok-push.ensures.items
          (c.in-Some-cut_entry.ensures.found ∙ ap (λ t. c.loop.separator.now ++ (t ++ c.in-Some-cut_entry.after.now)) was.1) c.loop.invariant.found;
      only = only_next (λ f. f.sum) (operator_text c.args.algebra.now.names.now c.args.algebra.now.signature.now.order) (IsPrintable c.args.algebra.now.signature.now c.args.algebra.now.names.now) (row_text c.args.algebra.now.names.now c.args.algebra.now.signature.now.order) c.args.line.now c.args.cols c.loop.counter c.loop.separator.now c.loop.rest.now c.in-Some-cut_entry.after.now c.loop.row.items c.push.new.self.items c.in-Some-2.op c.in_ok-push.ensures.items c.loop.invariant.count more
          (λ g tail p b e.
          let parts = c.in-Some-cut_entry.ensures.only (operator_text c.args.algebra.now.names.now c.args.algebra.now.signature.now.order g) tail (LacksStops-operator c.args.algebra.now.names.now c.args.algebra.now.signature.now.order g p.names_fit) b e in
          (is_read g c.in-Some-2.op c.in_ok-op.field-0 c.in-Some-2.is (c.in_ok-op.ensures.only g p parts.0), parts.1))
          c.loop.invariant.only;
    }

pub returns-then-eq-clause-found : goal.returns-then-eq-clause-found
returns-then-eq-clause-found c =
    let past : c.args.cols ≤ c.loop.counter = omega arith in
    let last : c.loop.rest.now ≡ 10 ∷ [] = same_bytes c.loop.rest.now c.as_slice.result.now c.eq.result c.eq.ensures c.if-eq.true ∙ c.as_slice.ensures in
    let full : length c.loop.row.items ≡ c.args.cols = omega (arith, c.loop.auto.counter-end) in
    (c.loop.invariant.printable, full, found_last (λ f. f.sum) (operator_text c.args.algebra.now.names.now c.args.algebra.now.signature.now.order) (IsPrintable c.args.algebra.now.signature.now c.args.algebra.now.names.now) (row_text c.args.algebra.now.names.now c.args.algebra.now.signature.now.order) c.args.line.now c.loop.separator.now c.loop.rest.now c.loop.row.items last c.loop.invariant.found)

pub returns-then-eq-clause-only : goal.returns-then-eq-clause-only
returns-then-eq-clause-only c fs all len e =
    let past : c.args.cols ≤ c.loop.counter = omega arith in
    (only_last (λ f. f.sum) (operator_text c.args.algebra.now.names.now c.args.algebra.now.signature.now.order) (IsPrintable c.args.algebra.now.signature.now c.args.algebra.now.names.now) (row_text c.args.algebra.now.names.now c.args.algebra.now.signature.now.order) c.args.line.now c.args.cols c.loop.counter c.loop.separator.now c.loop.rest.now c.loop.row.items c.loop.invariant.count past c.loop.invariant.only fs all len e).1

pub returns-else-eq-clause-only : goal.returns-else-eq-clause-only
returns-else-eq-clause-only c fs all len e =
    let past : c.args.cols ≤ c.loop.counter = omega arith in
    let last = (only_last (λ f. f.sum) (operator_text c.args.algebra.now.names.now c.args.algebra.now.signature.now.order) (IsPrintable c.args.algebra.now.signature.now c.args.algebra.now.names.now) (row_text c.args.algebra.now.names.now c.args.algebra.now.signature.now.order) c.args.line.now c.args.cols c.loop.counter c.loop.separator.now c.loop.rest.now c.loop.row.items c.loop.invariant.count past c.loop.invariant.only fs all len e).0 in
    other_bytes c.loop.rest.now c.as_slice.result.now c.eq.result c.eq.ensures c.if-eq.false (last ∙ sym c.as_slice.ensures)
