use Rattle.ore_resolution.proofs.TorsionByExtension.{zero_free, nonzero_torsion, valid_tells}
use Rattle.ore_resolution.proofs.laws.law_torsion_by_extension.Goals as goal

pub returns-clause-zero : goal.returns-clause-zero
returns-clause-zero c = λ r k block long of of_k fits. zero_free c.args.sig.now r k long of of_k fits block

pub returns-clause-nonzero : goal.returns-clause-nonzero
returns-clause-nonzero c = λ r k element block long of of_k fits of_element. nonzero_torsion c.args.sig.now r k long of of_k fits element block of_element

pub returns-clause-valid : goal.returns-clause-valid
returns-clause-valid c = λ r x long of of_x one v. valid_tells c.args.sig.now r x long of of_x one v
