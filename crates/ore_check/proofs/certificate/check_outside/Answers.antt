use Rattle.ore_algebra.specs.Limits.{program}
use Rattle.ore_rows.specs.Stored.{sums_of}
use Rattle.ore_blocks.specs.CheckBlock.{row_matrix_of}
use Rattle.ore_blocks.proofs.CheckedBlocks.{outside_block_checked}
use Rattle.ore_check.proofs.certificate.check_outside.Goals as goal

pub returns-in-Ok-clause-outside : goal.returns-in-Ok-clause-outside
returns-in-Ok-clause-outside g c = λ e. outside_block_checked program (g.R.OreRing.sig c.args.ring.now) (row_matrix_of c.args.a.now) (sums_of c.args.w.now) c.args.block.now c.requires.block_of c.in-Ok.ensures

pub returns-in-Err-clause-outside : goal.returns-in-Err-clause-outside
returns-in-Err-clause-outside g c = λ e. absurd (c.answer.ensures.fails e)
