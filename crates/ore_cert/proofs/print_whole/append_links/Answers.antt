use Rattle.ore_rows.proofs.Dots.{all_at}
use Rattle.ore_parts.specs.OfSignature.{IsLinkOf}
use Rattle.ore_cert.specs.WholeText.{link_text}
use Rattle.ore_parts.proofs.PrintedItems.{printed_more}
use Rattle.ore_cert.proofs.print_whole.append_links.Goals as goal

pub loop-k-preserved : goal.loop-k-preserved
loop-k-preserved c = printed_more (link_text c.args.algebra.now.names.now c.args.algebra.now.signature.now.order) c.args.links.now c.loop-k.k c.get.result.now c.args.out.now.items c.loop-k.out.items c.append_link.new.out.items c.get.ensures (c.in_ok-append_link.ensures {u = tt}) c.loop-k.invariant

pub append_link-requires : goal.append_link-requires
append_link-requires c = all_at (IsLinkOf c.args.algebra.now.signature.now) c.args.links.now c.loop-k.k c.get.result.now c.get.ensures c.requires.all
