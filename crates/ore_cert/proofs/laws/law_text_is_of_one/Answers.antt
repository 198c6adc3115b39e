use Rattle.ore_cert.proofs.ReadingLaws.{text_is_of_one}
use Rattle.ore_cert.proofs.laws.law_text_is_of_one.Goals as goal

pub returns : goal.returns
returns c = text_is_of_one
