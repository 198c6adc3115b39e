use Rattle.ore_cert.proofs.ReportLaws.{no_plan}
use Rattle.ore_cert.proofs.report_lines.plan_in.Goals as goal

pub returns : goal.returns
returns c = no_plan c.args.words.now c.in_default.ensures c.in_default-length_behind.ensures c.in_default-length_behind-2.ensures
