use Rattle.ore_problem.proofs.frame.Frame.new.Goals as goal

pub returns : goal.returns
returns c = λ i. record { names = c.new.ensures i; signature = c.empty_signature.ensures i }
