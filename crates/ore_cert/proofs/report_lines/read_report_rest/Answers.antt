use Rattle.ore_parts.proofs.TwoParts.{both_found, first_fails, second_fails}
use Rattle.ore_cert.proofs.RunsLaws.{report_parts}
use Rattle.ore_cert.proofs.report_lines.read_report_rest.Goals as goal

pub returns-in_err-plan : goal.returns-in_err-plan
returns-in_err-plan c = first_fails report_parts c.args.lines.now c.read_plan.new.lines c.from_residual.result c.in_err-plan.field-0.0 c.from_residual.ensures.1 c.in_err-plan.ensures

pub returns-in_err-runs : goal.returns-in_err-runs
returns-in_err-runs c = second_fails report_parts c.args.lines.now c.read_plan.new.lines c.read_runs.new.lines c.in_ok-plan.plan c.from_residual-in_err-runs.result c.in_err-runs.field-0.0 c.from_residual-in_err-runs.ensures.1 c.in_ok-plan.ensures c.in_err-runs.ensures

pub returns : goal.returns
returns c = both_found report_parts c.args.lines.now c.read_plan.new.lines c.read_runs.new.lines c.in_ok-plan.plan c.in_ok-runs.runs c.in_ok-plan.ensures c.in_ok-runs.ensures
