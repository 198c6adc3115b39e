use Rattle.std.proofs.Common.{rules, ◌∙◌, ap}
use Rattle.ore_algebra.specs.Free.{empty_sum}
use Rattle.ore_rational.specs.Field.{rationals}
use Rattle.ore_monomial.specs.Monomial.{plain_cmp}
use Rattle.ore_monomial.specs.declared.order.Order.{Order}
use Rattle.ore_ring.specs.Ordered.{Ordered}
use Rattle.ore_syzygy.proofs.RowsFrom.{zeros_none, zeros_more}
use Rattle.ore_syzygy.proofs.inside.zero_row.Goals as goal

ordered_zero : Order → Ordered
ordered_zero o = record { by = o; sum = empty_sum rationals plain_cmp }

pub loop-k-init : goal.loop-k-init
loop-k-init c = record { zeros = c.new-out.ensures.items ∙ zeros_none c.args.sig.now.order; wide = search rules }

pub loop-k-preserved : goal.loop-k-preserved
unfolding ordered_zero
loop-k-preserved c = record {
  zeros = zeros_more c.args.sig.now.order c.loop-k._k c.loop-k.out.items _ c.zero.result c.loop-k.invariant.zeros (c.zero.ensures ∙ ap ordered_zero c.order.ensures) c.in_ok-push.ensures.items;
  wide = search rules;
}
