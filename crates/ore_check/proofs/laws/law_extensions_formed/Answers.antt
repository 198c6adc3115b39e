use Rattle.ore_check.proofs.FormedExtensions.{ext_right}
use Rattle.ore_check.proofs.laws.law_extensions_formed.Goals as goal

pub returns : goal.returns
returns c = λ k few r long of runs d h. ext_right c.args.sig.now k few r long of runs d h
