use Rattle.std.proofs.Common.{slice_index_or}
use Rattle.ore_monomial.specs.Monomial.{unit}
use Rattle.ore_leads.proofs.Masks.{before_first, before_next, before_past, set_in_both}
use Rattle.ore_leads.proofs.mask.divisor_mask.Goals as goal

pub loop-variable-init : goal.loop-variable-init
loop-variable-init c k l = before_first (slice_index_or c.args.leads.now k unit) c.args.exps.now k l

pub loop-variable-preserved : goal.loop-variable-preserved
loop-variable-preserved c k l =
    let set = set_in_both c.loop-variable.mask c.variable_mask-mask.result k (c.loop-variable.invariant k l) (c.variable_mask-mask.ensures k l) in
    let next = before_next (slice_index_or c.args.leads.now k unit) c.args.exps.now c.loop-variable.variable in
    (λ h. next.0 (set.0 h), λ h. set.1 (next.1 h))

pub returns : goal.returns
returns c k l =
    let set = c.loop-variable.invariant k l in
    let past = before_past (slice_index_or c.args.leads.now k unit) c.args.exps.now c.loop-variable.variable c.loop-variable-test.false in
    (λ h. past.0 (set.0 h), λ h. set.1 (past.1 h))
