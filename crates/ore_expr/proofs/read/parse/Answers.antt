use Rattle.std.proofs.Common.{refl}
use Rattle.ore_expr.proofs.StepLaws.{parse-zero}
use Rattle.ore_expr.proofs.read.parse.Goals as goal

pub returns-then-is_zero-clause-reads : goal.returns-then-is_zero-clause-reads
returns-then-is_zero-clause-reads c = rw (parse-zero c.args.names.now c.args.text.now (c.if-is_zero.ensures refl)) c.zero.ensures
