use Rattle.std.proofs.Common.{inr, refl, sym, ◌∙◌, true≢false}
use Rattle.ore_text.specs.CanonicalParts.{falling_terms}
use Rattle.ore_text.proofs.Appending.{falling_terms-pushed, nothing_kept}
use Rattle.ore_text.proofs.canonical.add_below.Goals as goal

pub returns-then-is_zero-clause-only : goal.returns-then-is_zero-clause-only
returns-then-is_zero-clause-only c h = (refl, nothing_kept (falling_terms c.args.op.now) c.args.term.now (c.is_zero.ensures.0 c.if-is_zero.true))

pub returns-clause-added : goal.returns-clause-added
returns-clause-added c =
    inr (falling_terms-pushed c.args.op.now c.push.new.self c.args.term.now (λ e. true≢false (sym (c.is_zero.ensures.1 e) ∙ c.if-is_zero.false)) (c.if-not-is_below_last.ensures.0 refl) c.in_ok-push.ensures.ok)

pub returns-clause-only : goal.returns-clause-only
returns-clause-only c h =
    (refl, falling_terms-pushed c.args.op.now c.push.new.self c.args.term.now (λ e. true≢false (sym (c.is_zero.ensures.1 e) ∙ c.if-is_zero.false)) (c.if-not-is_below_last.ensures.0 refl) c.in_ok-push.ensures.ok)
