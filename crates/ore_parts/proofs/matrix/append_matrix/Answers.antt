use Rattle.std.proofs.Common.{◌++◌, length, ap, ◌∙◌}
use Rattle.ore_rows.specs.Stored.{rows_of, sums_of}
use Rattle.ore_text.specs.RowText.{row_text}
use Rattle.ore_parts.proofs.MatrixTexts.{sizes_line}
use Rattle.ore_parts.proofs.Steps.{taken_text}
use Rattle.ore_parts.proofs.matrix.append_matrix.Goals as goal

pub loop-k-preserved : goal.loop-k-preserved
loop-k-preserved c =
    taken_text sums_of (row_text c.args.algebra.now.names.now c.args.algebra.now.signature.now.order) c.args.m.now.rows c.loop-k.k c.row.result.now c.args.out.now.items (sizes_line c.args.name.now (length (rows_of c.args.m.now)) c.args.m.now.cols) c.loop-k.out.items c.append_row.new.out.items
    c.row.ensures.value (c.in_ok-append_row.ensures ∙ ap (λ r. c.loop-k.out.items ++ row_text c.args.algebra.now.names.now c.args.algebra.now.signature.now.order (sums_of r)) c.entries.ensures) c.loop-k.invariant
