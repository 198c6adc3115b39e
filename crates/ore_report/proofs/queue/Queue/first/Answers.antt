use Rattle.ore_report.proofs.Nexts.{first_is}
use Rattle.ore_report.proofs.queue.Queue.first.Goals as goal

pub returns : goal.returns
returns c o leads ps q all = first_is o leads ps c.args.self.now.rows c.args.self.now.places q all c.least.result c.least.ensures.some c.least.ensures.member c.least.ensures.least
