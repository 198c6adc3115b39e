use Rattle.std.proofs.Common.{◌++◌}
use Rattle.std.specs.Prelude.{codes}
use Rattle.std.proofs.lemmas.Result.{on_ok_weaker}
use Rattle.ore_parts.specs.BlockText.{row_part, outside_text}
use Rattle.ore_cert.specs.WholeText.{operator_line}
use Rattle.ore_parts.proofs.PrintedItems.{joined}
use Rattle.ore_cert.proofs.print_whole.append_autonomous.Goals as goal

pub returns : goal.returns
returns c =
    let names = c.args.algebra.now.names.now in
    let o = c.args.algebra.now.signature.now.order in
    let element = row_part names o (codes "element") c.args.element.now in
    let operator = operator_line names o (codes "operator") c.args.operator.now in
    let cofactor = row_part names o (codes "cofactor") c.args.cofactor.now in
    let block = outside_text names o c.args.block.now in
    let last = c.append_outside.new.out.items in
    on_ok_weaker c.append_outside.result
    (λ e. joined c.args.out.now.items c.append_row_part.new.out.items last element (operator ++ (cofactor ++ block)) (c.in_ok-append_row_part.ensures {u = tt})
    (joined c.append_row_part.new.out.items c.append_operator_line.new.out.items last operator (cofactor ++ block) (c.in_ok-append_operator_line.ensures {u = tt})
    (joined c.append_operator_line.new.out.items c.append_row_part-2.new.out.items last cofactor block (c.in_ok-append_row_part-2.ensures {u = tt}) e)))
    c.append_outside.ensures
