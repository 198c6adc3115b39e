use Rattle.std.proofs.Common.{◌≡◌, ℕ, Bool, true, false, List, refl, sym, ap, ◌∙◌, arith}
use Rattle.std.specs.Prelude.{◌&&◌}
use Rattle.ore_monomial.specs.Term.{Term}
use Rattle.ore_rows.specs.declared.choices.Choice.TheVariants.{Treat, Skip}
use Rattle.ore_pairs.specs.PairRule as rule
use Rattle.ore_pairs.specs.PairRule.{may_treat, may_skip}
use Rattle.ore_pairs.proofs.PairRuleLaws.{treat_from}
use Rattle.ore_report.proofs.pairs.is_lawful.Goals as goal

by_treat : (leads : List Term) (ps : List (ℕ × ℕ)) (i j : ℕ) → rule.is_lawful leads ps (Treat i j) ≡ may_treat leads ps i j
unfolding rule.is_lawful
by_treat leads ps i j = refl

by_skip : (leads : List Term) (ps : List (ℕ × ℕ)) (i j via : ℕ) (b : Bool) → may_treat leads ps i j ≡ b → rule.is_lawful leads ps (Skip i j via) ≡ (b && may_skip leads ps i j via)
unfolding rule.is_lawful
by_skip leads ps i j via b e = ap (λ t. t && may_skip leads ps i j via) e

pub may_skip-requires-clause-first : goal.may_skip-requires-clause-first
may_skip-requires-clause-first c =
    let pair = treat_from c.args.leads.now c.args.listed.now c.in-Skip.i c.in-Skip.j (sym c.may_treat-in-Skip.ensures ∙ c.if-may_treat.true) in
    let first = pair.ordered in
    let second = pair.within in
    omega (arith, first, second)

pub may_skip-requires-clause-second : goal.may_skip-requires-clause-second
may_skip-requires-clause-second c = (treat_from c.args.leads.now c.args.listed.now c.in-Skip.i c.in-Skip.j (sym c.may_treat-in-Skip.ensures ∙ c.if-may_treat.true)).within

pub returns-in-Treat : goal.returns-in-Treat
returns-in-Treat c =
    c.may_treat.ensures ∙ sym (by_treat c.args.leads.now c.args.listed.now c.in-Treat.i c.in-Treat.j)
    ∙ sym (ap (rule.is_lawful c.args.leads.now c.args.listed.now) c.in-Treat.is)

pub returns-then-may_treat : goal.returns-then-may_treat
returns-then-may_treat c =
    c.may_skip.ensures ∙ sym (by_skip c.args.leads.now c.args.listed.now c.in-Skip.i c.in-Skip.j c.in-Skip.via true (sym c.may_treat-in-Skip.ensures ∙ c.if-may_treat.true))
    ∙ sym (ap (rule.is_lawful c.args.leads.now c.args.listed.now) c.in-Skip.is)

pub returns-else-may_treat : goal.returns-else-may_treat
returns-else-may_treat c =
    c.if-may_treat.false ∙ sym (by_skip c.args.leads.now c.args.listed.now c.in-Skip.i c.in-Skip.j c.in-Skip.via false (sym c.may_treat-in-Skip.ensures ∙ c.if-may_treat.false))
    ∙ sym (ap (rule.is_lawful c.args.leads.now c.args.listed.now) c.in-Skip.is)
