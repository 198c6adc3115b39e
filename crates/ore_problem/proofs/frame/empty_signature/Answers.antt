use Rattle.std.proofs.Common.{[]}
use Rattle.ore_problem.proofs.FrameLemmas.{signature_from}
use Rattle.ore_problem.proofs.frame.empty_signature.Goals as goal

pub returns : goal.returns
returns c = signature_from c.in-Ok.signature [] c.args.order c.in-Ok.ensures.kinds c.in-Ok.ensures.order
