use Rattle.std.proofs.Common.{◌++◌, sym, ap, ◌∙◌}
use Rattle.ore_parts.specs.BlockText.{outside_text}
use Rattle.ore_parts.proofs.print_part.print_outside.Goals as goal

pub append_outside-requires : goal.append_outside-requires
append_outside-requires c = rw c.new.ensures.signature c.requires.of

pub returns : goal.returns
returns c = rw (sym c.new.ensures.signature, sym c.new.ensures.names) (c.in_ok-append_outside.ensures ∙ ap (λ t. t ++ outside_text c.new.result.names.now c.new.result.signature.now.order c.args.block.now) c.new-text.ensures.items)
