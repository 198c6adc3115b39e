use Rattle.std.proofs.Common.{◌++◌, [], ◌∷◌, sym, ap, ◌∙◌}
use Rattle.std.proofs.lemmas.List.Elements.{All-same, All-push}
use Rattle.std.proofs.lemmas.Result.{err_from_is_err_and}
use Rattle.std.specs.declared.result.Result.TheVariants.{Ok}
use Rattle.ore_algebra.specs.Limits.{program}
use Rattle.ore_monomial.proofs.Stops.{fails_like}
use Rattle.ore_ring.specs.Belongs.{Belongs}
use Rattle.ore_expr.specs.Stack.{values_of}
use Rattle.ore_expr.proofs.Stacks.{All-two, join_one, join_ok, join_stops}
use Rattle.ore_expr.proofs.evaluation.join.Goals as goal

pub returns-in_default-clause-turns : goal.returns-in_default-clause-turns
returns-in_default-clause-turns g c =
    let same = c.in_default.ensures {u = tt} in
    join_one program (g.R.OreRing.sig c.args.ring.now) c.args.operation c.args.stack.now.items same.0 ∙ ap (λ t. Ok (values_of t)) (sym same.1)

pub outcome-requires-clause-f_of : goal.outcome-requires-clause-f_of
outcome-requires-clause-f_of g c = (All-two (Belongs (g.R.OreRing.sig c.args.ring.now)) c.args.stack.now.items c.pop_two.new.stack.items c.in-Some.f c.in-Some.g c.in-Some.ensures c.requires).1

pub outcome-requires-clause-g_of : goal.outcome-requires-clause-g_of
outcome-requires-clause-g_of g c = (All-two (Belongs (g.R.OreRing.sig c.args.ring.now)) c.args.stack.now.items c.pop_two.new.stack.items c.in-Some.f c.in-Some.g c.in-Some.ensures c.requires).2

pub returns-in_err-outcome-clause-turns : goal.returns-in_err-outcome-clause-turns
returns-in_err-outcome-clause-turns g c =
    let p = err_from_is_err_and c.from_residual.result c.from_residual.ensures.1 in
    rw (p.1, p.2) (fails_like _ _ _
    (λ e h. join_stops program (g.R.OreRing.sig c.args.ring.now) c.args.operation c.args.stack.now.items c.pop_two.new.stack.items c.in-Some.f c.in-Some.g e c.in-Some.ensures h)
    c.in_err-outcome.ensures.gives)

pub returns-clause-turns : goal.returns-clause-turns
returns-clause-turns g c =
    join_ok program (g.R.OreRing.sig c.args.ring.now) c.args.operation c.args.stack.now.items c.pop_two.new.stack.items c.push.new.self.items c.in-Some.f c.in-Some.g c.in_ok-outcome.field-0 c.in-Some.ensures c.in_ok-push.ensures.items c.in_ok-outcome.ensures.gives

pub returns-clause-of : goal.returns-clause-of
returns-clause-of g c =
    let P = Belongs (g.R.OreRing.sig c.args.ring.now) in
    let parts = All-two P c.args.stack.now.items c.pop_two.new.stack.items c.in-Some.f c.in-Some.g c.in-Some.ensures c.requires in
    All-same P c.push.new.self.items (c.pop_two.new.stack.items ++ c.in_ok-outcome.field-0 ∷ []) c.in_ok-push.ensures.items (All-push P c.pop_two.new.stack.items c.in_ok-outcome.field-0 parts.0 c.in_ok-outcome.ensures.of)
