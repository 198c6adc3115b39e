use Rattle.std.proofs.Common.{⊎_elim}
use Rattle.ore_algebra.specs.Free.{coefficient}
use Rattle.ore_rational.specs.Field.{rationals}
use Rattle.ore_monomial.specs.Monomial.{plain_cmp}
use Rattle.ore_monomial.proofs.Signatures.{lawful}
use Rattle.ore_ring.proofs.Leads.{times-lead}
use Rattle.ore_ring.proofs.NoZeroDivisor.{lead_of, one_lead}
use Rattle.ore_laws.proofs.law_lead.Goals as goal

pub returns-clause-exists : goal.returns-clause-exists
returns-clause-exists c = λ o f n. ⊎_elim (λ e. absurd (n e)) (λ l. (l.0, coefficient rationals plain_cmp f l.0, l.1)) (lead_of rationals o f)

pub returns-clause-unique : goal.returns-clause-unique
returns-clause-unique c = λ o f m n j k a b. one_lead rationals o a b

pub returns-clause-product : goal.returns-clause-product
returns-clause-product c = λ o f g m n j k a b. times-lead rationals c.args.sig.now (lawful c.args.sig.now) o a b
