use Rattle.ore_syzygy.proofs.ValidBlocks.{exact_right, outside_right}
use Rattle.ore_syzygy.proofs.laws.law_blocks_valid.Goals as goal

pub returns-clause-exact : goal.returns-clause-exact
returns-clause-exact c = λ f r m inside b rows fits of made. exact_right c.args.sig.now f r m inside rows fits of b made

pub returns-clause-outside : goal.returns-clause-outside
returns-clause-outside c = λ f r row left b wide of e more made. outside_right c.args.sig.now f r row left wide of e more b made
