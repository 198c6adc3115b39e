use Rattle.std.proofs.Common.{sym}
use Rattle.ore_cert.proofs.print_whole.print_certificate.Goals as goal

pub whole_text-requires : goal.whole_text-requires
whole_text-requires c = rw c.new.ensures.signature c.requires.of

pub returns : goal.returns
returns c = rw (sym c.new.ensures.signature, sym c.new.ensures.names) c.whole_text.ensures
