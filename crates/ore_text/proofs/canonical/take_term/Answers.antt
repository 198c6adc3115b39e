use Rattle.ore_text.specs.CanonicalParts.{falling_terms, IsPrintableTerm}
use Rattle.ore_text.proofs.Appending.{good_kept}
use Rattle.ore_text.proofs.canonical.take_term.Goals as goal

pub returns-in_err-add_below-clause-good : goal.returns-in_err-add_below-clause-good
returns-in_err-add_below-clause-good c h = good_kept (IsPrintableTerm c.args.algebra.now.signature.now) (falling_terms c.args.op.now) (falling_terms c.add_below.new.op) c.in-Some.term c.add_below.ensures.added c.in-Some.ensures.good h

pub returns-then-branch-clause-good : goal.returns-then-branch-clause-good
returns-then-branch-clause-good c h = good_kept (IsPrintableTerm c.args.algebra.now.signature.now) (falling_terms c.args.op.now) (falling_terms c.add_below.new.op) c.in-Some.term c.add_below.ensures.added c.in-Some.ensures.good h

pub returns-else-branch-clause-good : goal.returns-else-branch-clause-good
returns-else-branch-clause-good c h = good_kept (IsPrintableTerm c.args.algebra.now.signature.now) (falling_terms c.args.op.now) (falling_terms c.add_below.new.op) c.in-Some.term c.add_below.ensures.added c.in-Some.ensures.good h
