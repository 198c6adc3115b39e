use Rattle.std.proofs.Common.{◌∙◌}
use Rattle.ore_monomial.specs.Monomial.{lcm}
use Rattle.ore_leads.specs.FirstDivisor.{divides_term}
use Rattle.ore_leads.proofs.Dividing.{test_same_column, test_other_column}
use Rattle.ore_pairs.proofs.StoredPairs.{lead_read}
use Rattle.ore_pairs.proofs.rule.divides_common.Goals as goal

pub returns-then-third-first : goal.returns-then-third-first
returns-then-third-first c =
    let leads = c.args.leads.now in
    let first = lead_read leads c.args.i _ c.get-first.ensures in
    let second = lead_read leads c.args.j _ c.get-second.ensures in
    let third = lead_read leads c.args.via _ c.get-third.ensures in
    test_same_column _ (record { monomial = lcm c.get-first.result.1 c.get-second.result.1; column = c.get-first.result.0 }) c.divides_lcm.result c.if-third-first.true c.divides_lcm.ensures
    ∙ (λ n. divides_term (third n) (record { monomial = lcm (first n).monomial (second n).monomial; column = (first n).column }))

pub returns-else-third-first : goal.returns-else-third-first
returns-else-third-first c =
    let leads = c.args.leads.now in
    let first = lead_read leads c.args.i _ c.get-first.ensures in
    let second = lead_read leads c.args.j _ c.get-second.ensures in
    let third = lead_read leads c.args.via _ c.get-third.ensures in
    test_other_column _ (record { monomial = lcm c.get-first.result.1 c.get-second.result.1; column = c.get-first.result.0 }) c.if-third-first.false
    ∙ (λ n. divides_term (third n) (record { monomial = lcm (first n).monomial (second n).monomial; column = (first n).column }))
