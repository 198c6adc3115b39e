use Rattle.std.proofs.Common.{◌+◌, ◌≤◌, length}
use Rattle.ore_parts.specs.Formats.{Finds, items}
use Rattle.ore_cert.proofs.RunsLaws.{run_item}
use Rattle.ore_cert.proofs.report_lines.read_runs.Given as goal

abbrev pub invariant-loop : goal.invariant-loop
invariant-loop l = record {
  found : Finds (items run_item l.counter) l.initial.lines l.runs.items l.lines;
  room : l.counter + length l.lines.left ≤ length l.initial.lines.left;
}
