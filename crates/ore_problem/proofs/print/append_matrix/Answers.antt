use Rattle.std.proofs.Common.{◌++◌, map, ap, ◌∙◌}
use Rattle.ore_text.specs.RowText.{row_text}
use Rattle.ore_ring.specs.Ordered.{Ordered}
use Rattle.ore_rows.specs.Stored.{sums_of}
use Rattle.ore_problem.proofs.PrintLemmas.{rows_next}
use Rattle.ore_problem.proofs.print.append_matrix.Goals as goal

pub loop-k-preserved : goal.loop-k-preserved
loop-k-preserved c =
    let names = c.args.algebra.now.names.now in
    let o = c.args.algebra.now.signature.now.order in
    let new = c.in_ok-append_row.ensures ∙ ap (λ r. c.loop-k.text.items ++ row_text names o (map (λ (f : Ordered). f.sum) r)) c.entries.ensures in
    rows_next (row_text names o) sums_of c.loop-k.text.items c.append_row.new.out.items c.args.matrix.now.rows c.loop-k.k c.row.result.now c.row.ensures.value new ∙ c.loop-k.invariant
