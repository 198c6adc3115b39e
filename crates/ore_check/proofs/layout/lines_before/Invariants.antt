use Rattle.std.proofs.Common.{◌≡◌, ◌*◌, ◌^◌, ◌≤◌, length}
use Rattle.ore_check.specs.Layout.{lines_before}
use Rattle.ore_check.proofs.layout.lines_before.Given as goal

abbrev pub invariant-loop-n : goal.invariant-loop-n
invariant-loop-n l = record {
  told : l.lines ≡ lines_before l.pairs l.n;
  few : l.lines ≤ l.n * 2 ^ 64;
  within : l.n ≤ length l.pairs;
}
