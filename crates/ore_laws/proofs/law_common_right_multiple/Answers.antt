use Rattle.ore_rational.specs.Field.{rationals, rational_inverses}
use Rattle.ore_laws.proofs.CommonMultiples.{common_right_multiple}
use Rattle.ore_laws.proofs.law_common_right_multiple.Goals as goal

pub returns : goal.returns
returns c = common_right_multiple rationals c.args.sig.now rational_inverses
