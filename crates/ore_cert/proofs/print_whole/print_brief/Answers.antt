use Rattle.std.proofs.Common.{sym}
use Rattle.ore_cert.proofs.print_whole.print_brief.Goals as goal

pub brief-requires : goal.brief-requires
brief-requires c = rw c.new.ensures.signature c.requires.of

pub returns : goal.returns
returns c = rw (sym c.new.ensures.signature, sym c.new.ensures.names) c.brief.ensures
