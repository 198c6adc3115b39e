use Rattle.ore_cert.proofs.ReadingLaws.{printed_is_read}
use Rattle.ore_cert.proofs.laws.law_printed_is_read.Goals as goal

pub returns : goal.returns
returns c = printed_is_read
