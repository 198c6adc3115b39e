use Rattle.ore_cert.specs.WholeText.{IsCertificate}
use Rattle.ore_parts.proofs.FaultyLines.{one_faulty_line}
use Rattle.ore_cert.proofs.laws.law_faulty_line_is_one.Goals as goal

pub returns : goal.returns
returns c s names = one_faulty_line (IsCertificate s names)
