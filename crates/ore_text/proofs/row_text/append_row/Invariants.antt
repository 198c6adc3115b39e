use Rattle.std.proofs.Common.{◌≡◌, ◌++◌, map, drop}
use Rattle.ore_text.specs.CanonicalText.{operator_text}
use Rattle.ore_text.specs.RowText.{row_text}
use Rattle.ore_text.proofs.RowEntries.{entries_text}
use Rattle.ore_text.proofs.row_text.append_row.Given as goal

abbrev pub invariant-loop-op : goal.invariant-loop-op
invariant-loop-op l =
    l.out.items ++ entries_text (operator_text l.algebra.names.now l.algebra.signature.now.order) l.separator (map (λ f. f.sum) (drop l.op-index l.row)) ≡ l.fn.out.items ++ row_text l.algebra.names.now l.algebra.signature.now.order (map (λ f. f.sum) l.row)
