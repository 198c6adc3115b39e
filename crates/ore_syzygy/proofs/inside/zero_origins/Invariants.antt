use Rattle.std.proofs.Common.{◌≡◌, map}
use Rattle.std.specs.List.{range_with_len}
use Rattle.ore_rows.specs.declared.choices.Origin.TheVariants.{ZeroRow}
use Rattle.ore_syzygy.proofs.inside.zero_origins.Given as goal

abbrev pub invariant-loop-i : goal.invariant-loop-i
invariant-loop-i l = l.out.items ≡ map (λ i. ZeroRow i) (range_with_len 0 l.i)
