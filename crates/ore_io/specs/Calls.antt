-- Calls that are counted, of which some fail.
--     Calls       the numbers of the calls that fail, from 1, and how many calls were made
--     next_call   the number of the next call
--     one_call    after one more call
use Rattle.std.specs.Prelude.{ℕ, ◌+◌, List}
use Rattle.ore_io.specs.Faults.{one_more}

-- the numbers of the failing calls, in any order, and how many calls were made so far
pub record Calls : Type 0 where
  pub failing : List ℕ
  pub made : ℕ

-- one above the number of the last call, where the first has number 1
abbrev pub next_call : Calls → ℕ
next_call calls = calls.made + 1

-- the same numbers fail; the count stays at 2^64 - 1 once it is there
abbrev pub one_call : Calls → Calls
one_call calls = record { failing = calls.failing; made = one_more calls.made }
