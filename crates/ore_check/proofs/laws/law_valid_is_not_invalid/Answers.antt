use Rattle.ore_algebra.specs.Limits.{program}
use Rattle.ore_check.specs.Check.{check}
use Rattle.ore_check.specs.Layout.{line_in}
use Rattle.ore_check.proofs.ValidAnswers.{not_invalid, valid_passes}
use Rattle.ore_check.proofs.laws.law_valid_is_not_invalid.Goals as goal

pub returns : goal.returns
returns c = λ r certificate long of valid claims given answers line why.
    not_invalid (line_in certificate) (check program c.args.sig.now r certificate claims) (valid_passes program c.args.sig.now r certificate long of valid claims) given answers line why
