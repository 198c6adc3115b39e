use Rattle.std.proofs.Common.{◌≡◌, nat_eq, subst}
use Rattle.ore_leads.specs.FirstDivisor.{divides_term}
use Rattle.ore_leads.proofs.Dividing.{test_same_column, test_other_column}
use Rattle.ore_leads.proofs.leads.Lead.divides.Goals as goal

pub returns-then-self-column : goal.returns-then-self-column
returns-then-self-column c = subst (λ t. c.divides.result ≡ divides_term t (record { monomial = c.args.exps.now; column = c.args.column })) c.self.view_is (test_same_column _ _ c.divides.result c.if-self-column.true c.divides.ensures)

pub returns-else-self-column : goal.returns-else-self-column
returns-else-self-column c = subst (λ t. nat_eq c.self.inside.column c.args.column ≡ divides_term t (record { monomial = c.args.exps.now; column = c.args.column })) c.self.view_is (test_other_column _ _ c.if-self-column.false)
