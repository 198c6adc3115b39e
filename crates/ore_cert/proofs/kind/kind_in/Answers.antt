use Rattle.ore_cert.proofs.KindLaws.{no_kind}
use Rattle.ore_cert.proofs.kind.kind_in.Goals as goal

pub returns-in-None-cause_in : goal.returns-in-None-cause_in
returns-in-None-cause_in c = no_kind c.args.words.now c.in-None.ensures c.in-None-links_kind_in.ensures c.in-None-cause_in.ensures
