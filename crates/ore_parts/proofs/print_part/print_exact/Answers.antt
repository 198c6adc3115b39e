use Rattle.std.proofs.Common.{◌++◌, sym, ap, ◌∙◌}
use Rattle.ore_parts.specs.BlockText.{exact_text}
use Rattle.ore_parts.proofs.print_part.print_exact.Goals as goal

pub returns : goal.returns
returns c = rw (sym c.new.ensures.signature, sym c.new.ensures.names) (c.in_ok-append_exact.ensures ∙ ap (λ t. t ++ exact_text c.new.result.names.now c.new.result.signature.now.order c.args.block.now) c.new-text.ensures.items)
