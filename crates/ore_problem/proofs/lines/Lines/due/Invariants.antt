use Rattle.std.proofs.Common.{◌≡◌, ◌-◌, ◌≤◌, length}
use Rattle.ore_problem.specs.Problems.{line_due}
use Rattle.ore_problem.specs.Reader.{cursor_of}
use Rattle.ore_problem.proofs.lines.Lines.due.Given as goal

abbrev pub invariant-loop-raw : goal.invariant-loop-raw
invariant-loop-raw l = record {
  due : line_due (cursor_of l.self) ≡ line_due (cursor_of l.initial.self);
  same : l.self.text ≡ l.initial.self.text;
  goes_on : l.initial.self.used ≤ l.self.used;
}

abbrev pub decreases-loop-raw : goal.decreases-loop-raw
decreases-loop-raw l = length l.self.text - l.self.used
