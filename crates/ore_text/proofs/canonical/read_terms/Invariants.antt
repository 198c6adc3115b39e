use Rattle.std.proofs.Common.{◌≡◌, ◌≤◌, ◌-◌, length, drop}
use Rattle.std.specs.List.{All}
use Rattle.ore_rational.specs.Field.{rationals}
use Rattle.ore_monomial.specs.LetterRule.{Operator}
use Rattle.ore_ring.specs.Terms.{falling}
use Rattle.ore_text.specs.CanonicalParts.{falling_terms, IsPrintableTerm}
use Rattle.ore_text.specs.CanonicalText.{operator_text}
use Rattle.ore_text.specs.Printable.{IsPrintable}
use Rattle.ore_text.proofs.Walking.{Left}
use Rattle.ore_text.proofs.canonical.read_terms.Given as goal

abbrev pub invariant-loop-at : goal.invariant-loop-at
invariant-loop-at l = record {
  within : l.at ≤ length l.text;
  by : l.op.by ≡ l.fn.op.by;
  good : All (IsPrintableTerm l.algebra.signature.now) (falling_terms l.op);
  only : (f : Operator rationals) → l.fn.op.by ≡ l.algebra.signature.now.order → IsPrintable l.algebra.signature.now l.algebra.names.now f → l.text ≡ operator_text l.algebra.names.now l.algebra.signature.now.order f → Left l.algebra.names.now (falling l.algebra.signature.now.order f) (falling_terms l.op) (drop l.at l.text);
}

abbrev pub decreases-loop-at : goal.decreases-loop-at
decreases-loop-at l = length l.text - l.at
