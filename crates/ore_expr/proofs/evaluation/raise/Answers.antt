use Rattle.std.proofs.Common.{◌≡◌, ◌++◌, [], ◌∷◌, length, Some, rules}
use Rattle.std.proofs.lemmas.List.Elements.{All-same, All-push, All-pop}
use Rattle.std.proofs.lemmas.Result.{err_from_is_err_and}
use Rattle.ore_algebra.specs.Limits.{program}
use Rattle.ore_monomial.proofs.Stops.{fails_like}
use Rattle.ore_ring.specs.Belongs.{Belongs}
use Rattle.ore_expr.proofs.Stacks.{raise_none, raise_ok, raise_stops}
use Rattle.ore_expr.proofs.evaluation.raise.Goals as goal

pub returns-in_default-clause-turns : goal.returns-in_default-clause-turns
returns-in_default-clause-turns g c =
    let before : length c.args.stack.now.items ≡ 0 = search rules in
    let after : length c.pop.new.self.items ≡ 0 = search rules in
    raise_none program (g.R.OreRing.sig c.args.ring.now) c.args.count c.args.stack.now.items c.pop.new.self.items before after

pub returns-in_err-operand_power-clause-turns : goal.returns-in_err-operand_power-clause-turns
returns-in_err-operand_power-clause-turns g c =
    let p = err_from_is_err_and c.from_residual.result c.from_residual.ensures.1 in
    rw (p.1, p.2) (fails_like _ _ _
    (λ e h. raise_stops program (g.R.OreRing.sig c.args.ring.now) c.args.count c.args.stack.now.items c.pop.new.self.items c.in-Some.f e c.in-Some.ensures.items h)
    c.in_err-operand_power.ensures.gives)

pub returns-clause-turns : goal.returns-clause-turns
returns-clause-turns g c =
    raise_ok program (g.R.OreRing.sig c.args.ring.now) c.args.count c.args.stack.now.items c.pop.new.self.items c.push.new.self.items c.in-Some.f c.in_ok-operand_power.field-0 c.in-Some.ensures.items c.in_ok-push.ensures.items c.in_ok-operand_power.ensures.gives

pub returns-clause-of : goal.returns-clause-of
returns-clause-of g c =
    let P = Belongs (g.R.OreRing.sig c.args.ring.now) in
    let parts = All-pop P c.args.stack.now.items c.pop.new.self.items (Some c.in-Some.f) c.in-Some.ensures.items c.requires in
    All-same P c.push.new.self.items (c.pop.new.self.items ++ c.in_ok-operand_power.field-0 ∷ []) c.in_ok-push.ensures.items (All-push P c.pop.new.self.items c.in_ok-operand_power.field-0 parts.0 c.in_ok-operand_power.ensures.of)
