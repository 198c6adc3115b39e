use Rattle.ore_expr.proofs.CanonicalReads.{canonical_is_read}
use Rattle.ore_expr.proofs.canonical_laws.law_canonical_is_read.Goals as goal

pub returns : goal.returns
returns c = canonical_is_read
