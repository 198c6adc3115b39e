use Rattle.std.proofs.Common.{length, sym, ◌∙◌, arith}
use Rattle.ore_pairs.specs.PairRule.{may_treat}
use Rattle.ore_report.proofs.Replays.{any_none, any_found}
use Rattle.ore_report.proofs.Vias.{one_more}
use Rattle.ore_report.proofs.pairs.some_partner.Goals as goal

pub returns-then-may_treat : goal.returns-then-may_treat
returns-then-may_treat c =
    sym (any_found (may_treat c.args.leads.now c.args.listed.now c.args.i) (length c.args.leads.now) c.loop-j.j (omega (arith, c.len-j-end.ensures, c.loop-j-test.true)) (sym c.may_treat.ensures ∙ c.if-may_treat.true))

pub loop-j-preserved : goal.loop-j-preserved
loop-j-preserved c = one_more (may_treat c.args.leads.now c.args.listed.now c.args.i) c.loop-j.j c.loop-j.invariant (sym c.may_treat.ensures ∙ c.if-may_treat.false)

pub returns : goal.returns
returns c =
    sym (any_none (may_treat c.args.leads.now c.args.listed.now c.args.i) (length c.args.leads.now)
    (λ k l. c.loop-j.invariant k (omega (arith, l, c.len-j-end.ensures, c.loop-j-test.false, c.loop-j.auto.j-end))))
