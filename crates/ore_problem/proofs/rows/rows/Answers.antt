use Rattle.std.proofs.Common.{◌≡◌, suc, ◌-◌, ◌+◌, map, ap, ◌∙◌, rules, arith}
use Rattle.std.proofs.lemmas.List.{map-append}
use Rattle.std.proofs.lemmas.Result.{err_from_is_err_and}
use Rattle.ore_rows.specs.Stored.{sums_of}
use Rattle.ore_problem.specs.Problems.{rows_after}
use Rattle.ore_problem.specs.Reader.{cursor_of}
use Rattle.ore_problem.proofs.ReadLemmas.{fault_reads_like}
use Rattle.ore_problem.proofs.RowLemmas.{rows_before, rows_stop, rows_go_on, rows_end}
use Rattle.ore_problem.proofs.rows.rows.Goals as goal

pub returns-in_err-row-clause-reads : goal.returns-in_err-row-clause-reads
returns-in_err-row-clause-reads c =
    let p = err_from_is_err_and c.from_residual.result c.from_residual.ensures.1 in
    let left : c.args.count - c.loop-k.k ≡ suc (c.args.count - (c.loop-k.k + 1)) = omega (arith, c.loop-k-test.true) in
    let told = rw left at c.loop-k.invariant.reads in
    rw (p.1, p.2) (fault_reads_like _ _ _ _ (rows_stop c.args.frame.now c.args.cols _ (cursor_of c.loop-k.lines) _ _ told) c.in_err-row.ensures.reads)

pub loop-k-preserved : goal.loop-k-preserved
loop-k-preserved c =
    let left : c.args.count - c.loop-k.k ≡ suc (c.args.count - (c.loop-k.k + 1)) = omega (arith, c.loop-k-test.true) in
    let told = rw left at c.loop-k.invariant.reads in
    let rest = rows_after c.args.frame.now c.args.cols (c.args.count - (c.loop-k.k + 1)) (cursor_of c.row.new.lines) in
    record {
      reads =
          ap (λ rs. rows_before (map sums_of rs) rest) c.in_ok-push.ensures.items
          ∙ ap (λ rs. rows_before rs rest) (map-append sums_of c.loop-k.rows.items _)
          ∙ rows_go_on c.args.frame.now c.args.cols _ (cursor_of c.loop-k.lines) _ _ told _ (cursor_of c.row.new.lines) c.in_ok-row.ensures.reads;
      of = search rules;
      wide = search rules;
      same = search rules;
    }

pub returns-clause-reads : goal.returns-clause-reads
returns-clause-reads c =
    let none : c.args.count - c.loop-k.k ≡ 0 = omega (arith, c.loop-k-test.false) in
    let told = rw none at c.loop-k.invariant.reads in
    rows_end c.args.frame.now c.args.cols _ (cursor_of c.loop-k.lines) _ told
