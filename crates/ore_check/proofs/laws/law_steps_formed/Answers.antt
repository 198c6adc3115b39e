use Rattle.ore_check.proofs.NonZeroSteps.{plans_form_nonzero}
use Rattle.ore_check.proofs.laws.law_steps_formed.Goals as goal

pub returns : goal.returns
returns c = plans_form_nonzero c.args.sig.now
