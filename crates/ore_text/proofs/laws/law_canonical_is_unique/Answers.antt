use Rattle.ore_text.proofs.CanonicalUnique.{canonical_is_unique}
use Rattle.ore_text.proofs.laws.law_canonical_is_unique.Goals as goal

pub returns : goal.returns
returns c = canonical_is_unique
