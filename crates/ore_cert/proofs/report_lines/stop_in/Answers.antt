use Rattle.std.specs.Prelude.{codes}
use Rattle.ore_cert.proofs.KindLaws.{other_words}
use Rattle.ore_cert.proofs.ReportLaws.{no_stop}
use Rattle.ore_cert.proofs.report_lines.stop_in.Goals as goal

pub returns : goal.returns
returns c =
    no_stop c.args.words.now (other_words c.args.words.now (codes "stop forced") c.as_slice.result.now c.eq.result c.eq.ensures c.as_slice.ensures c.if-eq.false)
    (other_words c.args.words.now (codes "stop budget") c.as_slice-2.result.now c.eq-2.result c.eq-2.ensures c.as_slice-2.ensures c.if-eq-2.false) c.in_default.ensures
