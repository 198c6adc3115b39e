use Rattle.std.proofs.Common.{◌++◌}
use Rattle.std.specs.Prelude.{codes}
use Rattle.ore_parts.specs.BlockText.{matrix_part, pairs_text, steps_text, row_part}
use Rattle.std.proofs.lemmas.Result.{on_ok_weaker}
use Rattle.ore_parts.proofs.PrintedItems.{joined}
use Rattle.ore_parts.proofs.print_block.append_outside.Goals as goal

pub returns : goal.returns
returns c =
    let b = c.args.block.now in
    let names = c.args.algebra.now.names.now in
    let o = c.args.algebra.now.signature.now.order in
    on_ok_weaker c.append_row_part.result (λ e. joined c.args.out.now.items c.extend_from_slice.new.self.items c.append_row_part.new.out.items (codes "block outside\n") ((matrix_part names o (codes "basis") b.basis) ++ ((matrix_part names o (codes "from") b.from) ++ ((pairs_text names o b.pairs) ++ ((steps_text names o b.quotients) ++ (row_part names o (codes "rest") b.rest))))) c.in_ok-extend_from_slice.ensures.items (joined c.extend_from_slice.new.self.items c.append_matrix.new.out.items c.append_row_part.new.out.items (matrix_part names o (codes "basis") b.basis) ((matrix_part names o (codes "from") b.from) ++ ((pairs_text names o b.pairs) ++ ((steps_text names o b.quotients) ++ (row_part names o (codes "rest") b.rest)))) (c.in_ok-append_matrix.ensures {u = tt}) (joined c.append_matrix.new.out.items c.append_matrix-2.new.out.items c.append_row_part.new.out.items (matrix_part names o (codes "from") b.from) ((pairs_text names o b.pairs) ++ ((steps_text names o b.quotients) ++ (row_part names o (codes "rest") b.rest))) (c.in_ok-append_matrix-2.ensures {u = tt}) (joined c.append_matrix-2.new.out.items c.append_pairs.new.out.items c.append_row_part.new.out.items (pairs_text names o b.pairs) ((steps_text names o b.quotients) ++ (row_part names o (codes "rest") b.rest)) (c.in_ok-append_pairs.ensures {u = tt}) (joined c.append_pairs.new.out.items c.append_counted_steps.new.out.items c.append_row_part.new.out.items (steps_text names o b.quotients) (row_part names o (codes "rest") b.rest) (c.in_ok-append_counted_steps.ensures {u = tt}) (e)))))) c.append_row_part.ensures
