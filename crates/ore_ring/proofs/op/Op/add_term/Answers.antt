use Rattle.std.proofs.Common.{true≢false, sym, ap, ◌∙◌}
use Rattle.ore_ring.proofs.AddTerm.{added, nothing_added}
use Rattle.ore_ring.proofs.op.Op.add_term.Goals as goal

pub returns-then-is_zero-clause-turns : goal.returns-then-is_zero-clause-turns
returns-then-is_zero-clause-turns c = nothing_added c.args.self.now.sum c.args.exps c.args.coef (c.is_zero.ensures.0 c.if-is_zero.true)

pub invariant_of-self : goal.invariant_of-self
invariant_of-self c =
    (added c.self.inside.order c.args.self.now.sum c.self.inside.terms.items c.splice.new.terms.items c.args.exps c.args.coef (ap (λ v. v.sum) c.self.view_is) c.self.invariant (λ e. true≢false (sym (c.is_zero.ensures.1 e) ∙ c.if-is_zero.false)) c.splice.result c.splice.ensures.turns c.splice.ensures.err).0

pub returns-clause-turns : goal.returns-clause-turns
returns-clause-turns c =
    (added c.self.inside.order c.args.self.now.sum c.self.inside.terms.items c.splice.new.terms.items c.args.exps c.args.coef (ap (λ v. v.sum) c.self.view_is) c.self.invariant (λ e. true≢false (sym (c.is_zero.ensures.1 e) ∙ c.if-is_zero.false)) c.splice.result c.splice.ensures.turns c.splice.ensures.err).1
