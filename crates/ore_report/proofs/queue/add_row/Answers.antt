use Rattle.std.proofs.Common.{arith}
use Rattle.ore_report.proofs.Waiting.{entered, waiting_same}
use Rattle.ore_report.proofs.Rows.{row_more, row_done}
use Rattle.ore_report.proofs.queue.add_row.Goals as goal

pub loop-i-preserved : goal.loop-i-preserved
loop-i-preserved c = entered c.args.order c.args.leads.now c.args.listed.now _ _ c.loop-i.i c.args.j c.loop-i.places c.add_pair.new.places (row_more c.args.j c.loop-i.i) c.loop-i.invariant c.in_ok-add_pair.ensures

pub returns : goal.returns
returns c = waiting_same c.args.order c.args.leads.now c.args.listed.now _ _ c.loop-i.places (row_done c.args.leads.now c.args.listed.now c.args.j c.loop-i.i (omega arith)) c.loop-i.invariant
