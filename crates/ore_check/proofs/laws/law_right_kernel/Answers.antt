use Rattle.ore_check.proofs.RightKernels.{right_kernel_exact}
use Rattle.ore_check.proofs.laws.law_right_kernel.Goals as goal

pub returns : goal.returns
returns c = λ r m block long of means e le oe. right_kernel_exact c.args.sig.now r m block long of means e le oe
