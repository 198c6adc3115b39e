use Rattle.ore_cert.specs.WholeText.{run_text}
use Rattle.ore_parts.proofs.PrintedItems.{printed_more}
use Rattle.ore_cert.proofs.print_whole.append_runs.Goals as goal

pub loop-k-preserved : goal.loop-k-preserved
loop-k-preserved c = printed_more run_text c.args.runs.now c.loop-k.k c.get.result.now c.args.out.now.items c.loop-k.out.items c.append_run.new.out.items c.get.ensures (c.in_ok-append_run.ensures {u = tt}) c.loop-k.invariant
