use Rattle.ore_cert.specs.WholeText.{choice_text}
use Rattle.ore_parts.proofs.PrintedItems.{printed_more}
use Rattle.ore_cert.proofs.print_whole.append_choices.Goals as goal

pub loop-k-preserved : goal.loop-k-preserved
loop-k-preserved c = printed_more choice_text c.args.choices.now c.loop-k.k c.get.result.now c.args.out.now.items c.loop-k.out.items c.append_choice.new.out.items c.get.ensures (c.in_ok-append_choice.ensures {u = tt}) c.loop-k.invariant
