use Rattle.ore_cert.proofs.ReportLaws.{no_choice}
use Rattle.ore_cert.proofs.report_lines.choice_in.Goals as goal

pub returns : goal.returns
returns c = no_choice c.args.words.now c.in_default.ensures c.in_default-skip_in.ensures
