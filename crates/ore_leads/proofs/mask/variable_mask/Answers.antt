use Rattle.ore_leads.proofs.Masks.{mask_fits, set_at_most}
use Rattle.ore_leads.proofs.mask.variable_mask.Goals as goal

pub overflow_cast-result : goal.overflow_cast-result
overflow_cast-result c = mask_fits c.args.leads.now c.args.exps.now c.args.variable c.exponents.result c.get.result c.told-leads c.exponents.ensures

pub returns : goal.returns
returns c = set_at_most c.args.leads.now c.args.exps.now c.args.variable c.exponents.result c.get.result c.told-leads c.exponents.ensures c.get.ensures
