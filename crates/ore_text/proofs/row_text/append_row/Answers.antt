use Rattle.std.proofs.Common.{◌∙◌, map, arith, ◌<◌, ◌≤◌, length}
use Rattle.ore_text.specs.CanonicalText.{operator_text}
use Rattle.ore_text.proofs.RowEntries.{appended_first, appended_next, appended_last}
use Rattle.ore_text.proofs.row_text.append_row.Goals as goal

pub loop-op-init : goal.loop-op-init
loop-op-init c =
    appended_first c.args.algebra.now.names.now c.args.algebra.now.signature.now.order c.args.out.now.items c.extend_from_slice.new.self.items (map (λ f. f.sum) c.args.row.now) c.in_ok-extend_from_slice.ensures.items

pub loop-op-preserved : goal.loop-op-preserved
loop-op-preserved c =
    let within : c.loop-op.op-index < length c.args.row.now = omega arith in
    appended_next (λ f. f.sum) (operator_text c.args.algebra.now.names.now c.args.algebra.now.signature.now.order) c.loop-op.out.items c.append_entry.new.out.items c.loop-op.separator.now c.args.row.now c.loop-op.op-index c.op-item.result within c.op-item.is c.in_ok-append_entry.ensures
    ∙ c.loop-op.invariant

pub returns : goal.returns
returns c =
    let past : length c.args.row.now ≤ c.loop-op.op-index = omega arith in
    appended_last (λ f. f.sum) (operator_text c.args.algebra.now.names.now c.args.algebra.now.signature.now.order) c.loop-op.out.items c.push.new.self.items c.loop-op.separator.now c.args.row.now c.loop-op.op-index past c.in_ok-push.ensures.items
    ∙ c.loop-op.invariant
