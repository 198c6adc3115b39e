use Rattle.ore_check.proofs.FormedResolutions.{resolve_right}
use Rattle.ore_check.proofs.laws.law_resolutions_formed.Goals as goal

pub returns : goal.returns
returns c = λ k few r long of runs d h. resolve_right c.args.sig.now k few r long of runs d h
