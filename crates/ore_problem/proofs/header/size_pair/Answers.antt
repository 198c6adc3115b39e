use Rattle.std.proofs.Common.{◌<◌, ◌≤◌, min, sym, arith}
use Rattle.std.specs.Prelude.{codes}
use Rattle.std.specs.Str.Parse.{digits_value}
use Rattle.ore_problem.proofs.SizeLemmas.{sizes_of_words, sizes_of_rows, sizes_of_cols, sizes_of_counts}
use Rattle.ore_problem.proofs.header.size_pair.Goals as goal

pub returns-then-not-are_counts-clause-reads : goal.returns-then-not-are_counts-clause-reads
returns-then-not-are_counts-clause-reads c = rw c.at.ensures (sizes_of_words c.args.line (codes "matrix") c.args.rows.now c.args.cols.now (sym c.if-not-are_counts.ensures))

pub returns-then-row_count-gt-MOST_SIZE-clause-reads : goal.returns-then-row_count-gt-MOST_SIZE-clause-reads
returns-then-row_count-gt-MOST_SIZE-clause-reads c =
    let great : 64 < min (digits_value 10 c.args.rows.now) 65 = omega (arith, c.value_up_to-row_count.ensures, c.if-row_count-gt-MOST_SIZE.true) in
    rw c.at-then-row_count-gt-MOST_SIZE.ensures (sizes_of_rows c.args.line (codes "matrix") c.args.rows.now c.args.cols.now (sym c.if-not-are_counts.ensures) great)

pub returns-then-col_count-gt-MOST_SIZE-clause-reads : goal.returns-then-col_count-gt-MOST_SIZE-clause-reads
returns-then-col_count-gt-MOST_SIZE-clause-reads c =
    let small : min (digits_value 10 c.args.rows.now) 65 ≤ 64 = omega (arith, c.value_up_to-row_count.ensures, c.if-row_count-gt-MOST_SIZE.false) in
    let great : 64 < min (digits_value 10 c.args.cols.now) 65 = omega (arith, c.value_up_to-col_count.ensures, c.if-col_count-gt-MOST_SIZE.true) in
    rw c.at-then-col_count-gt-MOST_SIZE.ensures (sizes_of_cols c.args.line (codes "matrix") c.args.rows.now c.args.cols.now (sym c.if-not-are_counts.ensures) small great)

pub returns-clause-reads : goal.returns-clause-reads
returns-clause-reads c =
    let rows = c.value_up_to-row_count.ensures in
    let cols = c.value_up_to-col_count.ensures in
    let few_rows : min (digits_value 10 c.args.rows.now) 65 ≤ 64 = omega (arith, rows, c.if-row_count-gt-MOST_SIZE.false) in
    let few_cols : min (digits_value 10 c.args.cols.now) 65 ≤ 64 = omega (arith, cols, c.if-col_count-gt-MOST_SIZE.false) in
    rw (rows, cols) (sizes_of_counts c.args.line (codes "matrix") c.args.rows.now c.args.cols.now (sym c.if-not-are_counts.ensures) few_rows few_cols)
