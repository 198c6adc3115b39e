use Rattle.std.proofs.Common.{arith}
use Rattle.ore_report.proofs.Waiting.{waiting_none}
use Rattle.ore_report.proofs.queue.Queue.enter.Goals as goal

pub returns-in-Err-clause-queue : goal.returns-in-Err-clause-queue
returns-in-Err-clause-queue c = record { inside = omega arith; waiting = waiting_none c.args.order c.args.leads.now c.args.listed.now c.clear.new.self c.clear.ensures.empty }
