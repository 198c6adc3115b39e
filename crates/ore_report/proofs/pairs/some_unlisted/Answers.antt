use Rattle.std.proofs.Common.{length, sym, ◌∙◌, arith}
use Rattle.std.specs.List.{list_any, range_with_len}
use Rattle.ore_pairs.specs.PairRule.{some_pair, may_treat}
use Rattle.ore_report.proofs.Replays.{any_none, any_found}
use Rattle.ore_report.proofs.Vias.{one_more}
use Rattle.ore_report.proofs.pairs.some_unlisted.Goals as goal

pub returns-then-some_partner : goal.returns-then-some_partner
unfolding some_pair
returns-then-some_partner c =
    sym (any_found (λ i. list_any (may_treat c.args.leads.now c.args.listed.now i) (range_with_len 0 (length c.args.leads.now))) (length c.args.leads.now) c.loop-i.i (omega (arith, c.len-i-end.ensures, c.loop-i-test.true)) (sym c.some_partner.ensures ∙ c.if-some_partner.true))

pub loop-i-preserved : goal.loop-i-preserved
loop-i-preserved c = one_more (λ i. list_any (may_treat c.args.leads.now c.args.listed.now i) (range_with_len 0 (length c.args.leads.now))) c.loop-i.i c.loop-i.invariant (sym c.some_partner.ensures ∙ c.if-some_partner.false)

pub returns : goal.returns
unfolding some_pair
returns c =
    sym (any_none (λ i. list_any (may_treat c.args.leads.now c.args.listed.now i) (range_with_len 0 (length c.args.leads.now))) (length c.args.leads.now)
    (λ k l. c.loop-i.invariant k (omega (arith, l, c.len-i-end.ensures, c.loop-i-test.false, c.loop-i.auto.i-end))))
