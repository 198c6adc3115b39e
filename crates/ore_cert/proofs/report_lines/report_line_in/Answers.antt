use Rattle.ore_cert.proofs.ReportLaws.{no_report_line}
use Rattle.ore_cert.proofs.report_lines.report_line_in.Goals as goal

pub returns : goal.returns
returns c = no_report_line c.args.words.now c.in_default.ensures c.in_default-stop_in.ensures
