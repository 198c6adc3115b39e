use Rattle.std.proofs.Common.{sym, subst}
use Rattle.ore_algebra.specs.Limits.{program}
use Rattle.ore_monomial.specs.Gives.{Gives}
use Rattle.ore_monomial.specs.Monomial.{Divides}
use Rattle.ore_monomial.proofs.Divisors.{divides-lcm_left, divides-lcm_right}
use Rattle.ore_rows.specs.Arithmetic.{within}
use Rattle.ore_rows.specs.Stored.{sums_of}
use Rattle.ore_pairs.specs.Steps.{lead_at}
use Rattle.ore_pairs.proofs.StoredPairs.{s_row_read}
use Rattle.ore_pairs.proofs.multiples.s_row.Goals as goal

pub multiplier-requires-clause-divides : goal.multiplier-requires-clause-divides
multiplier-requires-clause-divides g c = subst (Divides (lead_at c.args.leads.now c.args.i).monomial) (sym c.requires.common) (divides-lcm_left _ _)

pub multiplier-requires-2-clause-divides : goal.multiplier-requires-2-clause-divides
multiplier-requires-2-clause-divides g c = subst (Divides (lead_at c.args.leads.now c.args.j).monomial) (sym c.requires.common) (divides-lcm_right _ _)

pub returns-clause-gives : goal.returns-clause-gives
returns-clause-gives g c m at_i at_j =
    subst (Gives sums_of c.multiples_less.result)
    (s_row_read (within program (g.R.OreRing.sig c.args.ring.now)) c.args.leads.now m c.args.i c.args.j c.args.multiple.now c.in_ok-first.first.sum c.in_ok-second.second.sum c.args.row.now c.args.other.now
    c.requires.common c.in_ok-first.ensures.value c.in_ok-second.ensures.value at_i at_j)
    c.multiples_less.ensures.gives
