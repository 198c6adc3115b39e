use Rattle.std.proofs.Common.{◌≡◌, ◌++◌, drop}
use Rattle.ore_text.proofs.NumberLines.{spaced}
use Rattle.ore_text.proofs.print.append_line.Given as goal

abbrev pub invariant-loop-number : goal.invariant-loop-number
invariant-loop-number l = l.text.items ++ spaced (drop l.number-index l.numbers) ≡ l.fn.text.items ++ (l.word ++ spaced l.numbers)
