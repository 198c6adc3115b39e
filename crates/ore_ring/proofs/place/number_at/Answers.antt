use Rattle.std.proofs.Common.{sym, ◌∙◌, arith}
use Rattle.ore_ring.proofs.TermSums.{term_there, term_absent, term_past}
use Rattle.ore_ring.proofs.place.number_at.Goals as goal

pub returns-in-Equal : goal.returns-in-Equal
returns-in-Equal c =
    sym (term_there c.args.order c.args.exps.now c.args.terms.now c.args.k c.requires.falls.falls c.requires.over c.index-terms-k.result (omega (arith, c.if-k-terms.true)) c.index-terms-k.is (sym c.in-Equal.is ∙ c.compare.ensures))

pub returns-in-Greater : goal.returns-in-Greater
returns-in-Greater c =
    c.zero-in-Greater.ensures
    ∙ sym (term_absent c.args.order c.args.exps.now c.args.terms.now c.args.k c.requires.falls.falls c.requires.over c.index-terms-k.result c.index-terms-k.is (sym c.in-Greater.is ∙ c.compare.ensures))

pub returns-else-k-terms : goal.returns-else-k-terms
returns-else-k-terms c =
    c.zero-else-k-terms.ensures
    ∙ sym (term_past c.args.order c.args.exps.now c.args.terms.now c.args.k c.requires.falls.falls c.requires.over (omega (arith, c.if-k-terms.false)))
