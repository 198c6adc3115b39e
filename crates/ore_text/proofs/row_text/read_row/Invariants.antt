use Rattle.std.proofs.Common.{◌≡◌, map, length}
use Rattle.std.specs.List.{All, AllByRecursion}
use Rattle.ore_ring.specs.Belongs.{Belongs}
use Rattle.ore_text.specs.CanonicalText.{operator_text}
use Rattle.ore_text.specs.Printable.{IsPrintable}
use Rattle.ore_text.specs.RowText.{row_text}
use Rattle.ore_text.proofs.RowEntries.{IsFoundSoFar, IsOnlySoFar}
use Rattle.ore_text.proofs.row_text.read_row.Given as goal

abbrev pub invariant-loop : goal.invariant-loop
invariant-loop l = record {
  count : length l.row.items ≡ l.counter;
  belongs : All (Belongs l.algebra.signature.now) l.row.items;
  printable : AllByRecursion (IsPrintable l.algebra.signature.now l.algebra.names.now) (map (λ f. f.sum) l.row.items);
  found : IsFoundSoFar (λ f. f.sum) (operator_text l.algebra.names.now l.algebra.signature.now.order) (IsPrintable l.algebra.signature.now l.algebra.names.now) (row_text l.algebra.names.now l.algebra.signature.now.order) l.line l.separator l.row.items l.rest;
  only : IsOnlySoFar (λ f. f.sum) (operator_text l.algebra.names.now l.algebra.signature.now.order) (IsPrintable l.algebra.signature.now l.algebra.names.now) (row_text l.algebra.names.now l.algebra.signature.now.order) l.line l.cols l.separator l.row.items l.rest;
}
