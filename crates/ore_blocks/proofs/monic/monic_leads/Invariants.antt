use Rattle.std.proofs.Common.{◌≡◌, ◌++◌, drop, length}
use Rattle.std.specs.List.{All}
use Rattle.std.specs.declared.result.Result.TheVariants.{Ok}
use Rattle.ore_monomial.specs.Signature.{MonomialOf}
use Rattle.ore_rows.specs.Stored.{rows_of}
use Rattle.ore_blocks.specs.CheckBlock.{monic_leads}
use Rattle.ore_algebra.specs.Results.{◌>>=◌}
use Rattle.ore_blocks.proofs.monic.monic_leads.Given as goal

abbrev pub invariant-loop-k : goal.invariant-loop-k
invariant-loop-k l = record {
  told : (monic_leads l.sig.order l.section l.k (drop l.k (rows_of l.basis)) >>= λ ts. Ok (l.leads ++ ts)) ≡ monic_leads l.sig.order l.section 0 (rows_of l.basis);
  belongs : All (λ t. MonomialOf l.sig t.monomial) l.leads;
  count : length l.leads ≡ l.k;
}
