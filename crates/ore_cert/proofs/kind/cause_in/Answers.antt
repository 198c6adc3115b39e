use Rattle.std.specs.Prelude.{codes}
use Rattle.ore_cert.proofs.KindLaws.{other_words, no_cause}
use Rattle.ore_cert.proofs.kind.cause_in.Goals as goal

pub returns : goal.returns
returns c =
    no_cause c.args.words.now (other_words c.args.words.now (codes "halted overflow") c.as_slice.result.now c.eq.result c.eq.ensures c.as_slice.ensures c.if-eq.false)
    (other_words c.args.words.now (codes "halted degree") c.as_slice-2.result.now c.eq-2.result c.eq-2.ensures c.as_slice-2.ensures c.if-eq-2.false) c.in_default.ensures
