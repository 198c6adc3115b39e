use Rattle.std.proofs.Common.{sym, subst, arith}
use Rattle.ore_parts.specs.Formats.{Finds}
use Rattle.ore_cert.specs.ReportFormats.{next_format, runs_format}
use Rattle.ore_parts.proofs.FormatReads.{finds_more, none_read, reads_err}
use Rattle.ore_cert.proofs.RunsLaws.{run_item, run_is, finds_run, runs_found, runs_fault, shorter}
use Rattle.ore_cert.proofs.report_lines.read_runs.Goals as goal

pub loop-init : goal.loop-init
loop-init c = record {
  found = none_read run_item run_is c.args.lines.now c.new-runs.result.items c.new-runs.ensures.items;
  room = omega arith;
}

pub returns-in_err-choices : goal.returns-in_err-choices
returns-in_err-choices c =
    reads_err runs_format c.args.lines.now c.read_next.new.lines c.from_residual.result c.in_err-choices.field-0.0 c.from_residual.ensures.1
    (runs_fault c.args.lines.now c.loop.lines c.loop.counter c.loop.runs.items c.in_err-choices.field-0.0 c.loop.invariant.found c.in_err-choices.ensures)

pub returns-in-End : goal.returns-in-End
returns-in-End c =
    let next = subst (λ n. Finds next_format c.loop.lines n c.read_next.new.lines) c.in-End.is c.in_ok-choices.ensures in
    subst (λ rs. Finds runs_format c.args.lines.now (rs, c.in-End.stop) c.read_next.new.lines) (sym c.from_vec.ensures) (runs_found c.args.lines.now c.loop.lines c.read_next.new.lines c.loop.counter c.loop.runs.items c.in-End.stop c.loop.invariant.found next)

pub loop-preserved : goal.loop-preserved
loop-preserved c =
    let next = finds_run c.loop.lines c.read_next.new.lines c.in-Run.choices (subst (λ n. Finds next_format c.loop.lines n c.read_next.new.lines) c.in-Run.is c.in_ok-choices.ensures) in
    let less = shorter c.in-Run.choices c.loop.lines.left c.read_next.new.lines.left next.text in
    record {
      found = finds_more run_item run_is c.args.lines.now c.loop.lines c.read_next.new.lines c.loop.runs.items c.push.new.self.items c.in-Run.choices c.loop.counter c.loop.invariant.found next (c.in_ok-push-in-Run.ensures.items);
      room = omega (arith, less, c.loop.invariant.room);
    }
