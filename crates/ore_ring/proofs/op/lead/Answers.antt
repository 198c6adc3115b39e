use Rattle.std.proofs.Common.{◌≡◌, sym, subst}
use Rattle.std.specs.Prelude.{MatchOption}
use Rattle.ore_algebra.specs.Free.{empty_sum}
use Rattle.ore_rational.specs.Field.{rationals}
use Rattle.ore_monomial.specs.Monomial.{plain_cmp}
use Rattle.ore_ring.specs.Lead.{IsLead}
use Rattle.ore_ring.proofs.LeadTerm.{lead_is}
use Rattle.ore_ring.proofs.op.lead.Goals as goal

pub returns : goal.returns
returns c = subst (λ r. MatchOption r (c.args.op.now.sum ≡ empty_sum rationals plain_cmp) (λ t. IsLead rationals c.args.op.now.by c.args.op.now.sum t.0 t.1)) (sym c.get.ensures) (lead_is c.args.op.now.by c.args.op.now.sum)
