use Rattle.std.proofs.Common.{◌++◌}
use Rattle.std.specs.Prelude.{codes}
use Rattle.ore_parts.specs.BlockText.{matrix_part, pairs_text}
use Rattle.std.proofs.lemmas.Result.{on_ok_weaker}
use Rattle.ore_parts.proofs.PrintedItems.{joined}
use Rattle.ore_parts.proofs.print_block.append_exact.Goals as goal

pub returns : goal.returns
returns c =
    let b = c.args.block.now in
    let names = c.args.algebra.now.names.now in
    let o = c.args.algebra.now.signature.now.order in
    on_ok_weaker c.append_matrix-4.result (λ e. joined c.args.out.now.items c.extend_from_slice.new.self.items c.append_matrix-4.new.out.items (codes "block exact\n") ((matrix_part names o (codes "basis") b.basis) ++ ((matrix_part names o (codes "from") b.from) ++ ((matrix_part names o (codes "to") b.to) ++ ((pairs_text names o b.pairs) ++ (matrix_part names o (codes "inside") b.inside))))) c.in_ok-extend_from_slice.ensures.items (joined c.extend_from_slice.new.self.items c.append_matrix.new.out.items c.append_matrix-4.new.out.items (matrix_part names o (codes "basis") b.basis) ((matrix_part names o (codes "from") b.from) ++ ((matrix_part names o (codes "to") b.to) ++ ((pairs_text names o b.pairs) ++ (matrix_part names o (codes "inside") b.inside)))) (c.in_ok-append_matrix.ensures {u = tt}) (joined c.append_matrix.new.out.items c.append_matrix-2.new.out.items c.append_matrix-4.new.out.items (matrix_part names o (codes "from") b.from) ((matrix_part names o (codes "to") b.to) ++ ((pairs_text names o b.pairs) ++ (matrix_part names o (codes "inside") b.inside))) (c.in_ok-append_matrix-2.ensures {u = tt}) (joined c.append_matrix-2.new.out.items c.append_matrix-3.new.out.items c.append_matrix-4.new.out.items (matrix_part names o (codes "to") b.to) ((pairs_text names o b.pairs) ++ (matrix_part names o (codes "inside") b.inside)) (c.in_ok-append_matrix-3.ensures {u = tt}) (joined c.append_matrix-3.new.out.items c.append_pairs.new.out.items c.append_matrix-4.new.out.items (pairs_text names o b.pairs) (matrix_part names o (codes "inside") b.inside) (c.in_ok-append_pairs.ensures {u = tt}) (e)))))) c.append_matrix-4.ensures
