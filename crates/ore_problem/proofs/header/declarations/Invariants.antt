use Rattle.std.proofs.Common.{◌≡◌, ◌-◌, length}
use Rattle.ore_problem.specs.Problems.{declarations_of}
use Rattle.ore_problem.specs.Reader.{cursor_of}
use Rattle.ore_problem.proofs.header.declarations.Given as goal

abbrev pub invariant-loop-line : goal.invariant-loop-line
invariant-loop-line l = record {
  reads : declarations_of l.frame l.lines.line l.lines.used (cursor_of l.lines).left ≡ declarations_of l.initial.frame l.initial.lines.line l.initial.lines.used (cursor_of l.initial.lines).left;
  same : l.lines.text ≡ l.initial.lines.text;
}

abbrev pub decreases-loop-line : goal.decreases-loop-line
decreases-loop-line l = length l.lines.text - l.lines.used
