use Rattle.std.proofs.Common.{arith, ◌++◌}
use Rattle.ore_text.specs.RowParts.{is_stop}
use Rattle.ore_text.proofs.RowEntries.{not_front, is_front, position_or_len-le, cut, cut_is}
use Rattle.ore_text.proofs.row_text.cut_entry.Goals as goal

pub returns-in_default-clause-only : goal.returns-in_default-clause-only
returns-in_default-clause-only c front rest h k e = not_front c.args.text.now c.args.separator.now (front ++ rest) c.in_default.ensures.cases e

pub split_at-requires : goal.split_at-requires
split_at-requires c = omega (arith, c.stop_in.ensures, position_or_len-le is_stop c.in-Some.entry.now)

pub returns-clause-found : goal.returns-clause-found
returns-clause-found c =
    let after = is_front c.args.text.now c.args.separator.now c.in-Some.entry.now c.in-Some.ensures.cases.0 c.in-Some.ensures.cases.1 in
    cut c.args.text.now c.args.separator.now c.in-Some.entry.now c.split_at.result.0.now c.split_at.result.1.now c.stop_in.result after c.split_at.ensures.front c.split_at.ensures.back

pub returns-clause-only : goal.returns-clause-only
returns-clause-only c =
    let after = is_front c.args.text.now c.args.separator.now c.in-Some.entry.now c.in-Some.ensures.cases.0 c.in-Some.ensures.cases.1 in
    cut_is c.args.text.now c.args.separator.now c.in-Some.entry.now c.split_at.result.0.now c.split_at.result.1.now c.stop_in.result after c.split_at.ensures.front c.split_at.ensures.back c.stop_in.ensures
