use Rattle.std.proofs.Common.{sym, ◌∙◌, arith}
use Rattle.ore_pairs.specs.PairRule.{may_skip}
use Rattle.ore_report.proofs.Vias.{via_found, via_none, one_more}
use Rattle.ore_report.proofs.pairs.least_via.Goals as goal

pub returns-then-may_skip : goal.returns-then-may_skip
returns-then-may_skip c =
    via_found c.args.leads.now c.args.listed.now c.args.i c.args.j c.loop-via.via c.loop-via.invariant (omega (arith, c.len-via-end.ensures, c.loop-via-test.true)) (sym c.may_skip.ensures ∙ c.if-may_skip.true)

pub loop-via-preserved : goal.loop-via-preserved
loop-via-preserved c = one_more (may_skip c.args.leads.now c.args.listed.now c.args.i c.args.j) c.loop-via.via c.loop-via.invariant (sym c.may_skip.ensures ∙ c.if-may_skip.false)

pub returns : goal.returns
returns c = via_none c.args.leads.now c.args.listed.now c.args.i c.args.j c.loop-via.via c.loop-via.invariant (omega (arith, c.len-via-end.ensures, c.loop-via-test.false, c.loop-via.auto.via-end))
