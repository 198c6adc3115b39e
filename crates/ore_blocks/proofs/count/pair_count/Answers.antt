use Rattle.std.proofs.Common.{◌≡◌, ◌+◌, ◌-◌, ◌<◌, ◌^◌, nat_eq, length, drop, sym, ap, ◌∙◌, subst, Some, arith}
use Rattle.std.specs.BTreeMap.{Updates}
use Rattle.std.specs.List.{count_by, slice_get}
use Rattle.std.specs.Ordering.{nat_cmp}
use Rattle.ore_monomial.specs.Term.{Term}
use Rattle.ore_blocks.proofs.Counting.{counts_next, counts_none, pairs_next, pairs_none, behind_few}
use Rattle.ore_blocks.proofs.count.pair_count.Goals as goal

pub loop-k-init : goal.loop-k-init
loop-k-init c = record { told = sym (pairs_none c.args.leads.now); counted = counts_none c.args.leads.now c.new-counts.result c.new-counts.ensures.empty; few = omega arith }

pub overflow_add-behind : goal.overflow_add-behind
overflow_add-behind c =
    let leads = c.args.leads.now in
    let column = c.get-column.result.0 in
    let few = behind_few leads c.loop-k.k column in
    let behind : c.count_at-behind.result ≡ count_by (λ (u : Term). nat_eq u.column column) (drop (length leads - c.loop-k.k) leads) = c.count_at-behind.ensures ∙ c.loop-k.invariant.counted column in
    let below = c.len.type_inv in
    let h : c.count_at-behind.result + 1 < 2 ^ 64 = omega arith in
    record { fits = h }

pub loop-k-preserved : goal.loop-k-preserved
loop-k-preserved c =
    let leads = c.args.leads.now in
    let k = c.loop-k.k in
    let t : Term = record { monomial = c.get-column.result.1; column = c.get-column.result.0 } in
    let behind : c.count_at-behind.result ≡ count_by (λ (u : Term). nat_eq u.column c.get-column.result.0) (drop (length leads - k) leads) = c.count_at-behind.ensures ∙ c.loop-k.invariant.counted c.get-column.result.0 in
    let before = c.loop-k.invariant.few in
    let small = c.count_at-behind.type_inv in
    let pairs = c.loop-k.invariant.told in
    let inside : k < length leads = omega arith in
    let at : slice_get leads (length leads - 1 - k) ≡ Some t = ap (λ n. slice_get leads (n - 1 - k)) (sym c.len.ensures) ∙ c.get-column.ensures in
    let next = pairs_next leads k t inside at in
    record {
      told = omega arith;
      counted = counts_next leads k t inside at c.loop-k.counts c.insert.new.self (subst (λ n. Updates nat_cmp c.loop-k.counts c.insert.new.self c.get-column.result.0 (Some (n + 1))) behind c.in_ok-insert.ensures.updates) c.loop-k.invariant.counted;
      few = omega arith;
    }
