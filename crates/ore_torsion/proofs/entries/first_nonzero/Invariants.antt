use Rattle.std.proofs.Common.{◌≡◌, drop}
use Rattle.ore_check.specs.Plans.{first_nonzero}
use Rattle.ore_rows.specs.Stored.{rows_of}
use Rattle.ore_torsion.proofs.entries.first_nonzero.Given as goal

abbrev pub invariant-loop-k : goal.invariant-loop-k
invariant-loop-k g l = first_nonzero l.n (drop l.k (rows_of l.rows)) ≡ first_nonzero l.n (rows_of l.rows)
