use Rattle.std.proofs.Common.{◌≡◌, map, length}
use Rattle.std.specs.Prelude.{cond, nat_eq}
use Rattle.std.specs.List.{All, range_with_len}
use Rattle.ore_algebra.specs.Free.{empty_sum}
use Rattle.ore_rational.specs.Field.{rationals}
use Rattle.ore_monomial.specs.Monomial.{plain_cmp}
use Rattle.ore_monomial.specs.LetterRule.{constant}
use Rattle.ore_ring.specs.Belongs.{Belongs}
use Rattle.ore_rows.specs.Stored.{sums_of}
use Rattle.ore_groebner.proofs.entries.entry_row.Given as goal

abbrev pub invariant-loop-k : goal.invariant-loop-k
invariant-loop-k l = record {
  made : sums_of l.out.items ≡ map (λ j. cond (nat_eq j l.i) (constant rationals l.coef) (empty_sum rationals plain_cmp)) (range_with_len 0 l.k);
  wide : length l.out.items ≡ l.k;
  belongs : All (Belongs l.sig) l.out.items;
}
