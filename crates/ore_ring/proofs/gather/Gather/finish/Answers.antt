use Rattle.std.proofs.Common.{sym, ap, ◌∙◌, ◌++◌}
use Rattle.ore_ring.specs.Gathered.{drained}
use Rattle.ore_ring.specs.IsGathered.{keyed_terms}
use Rattle.ore_ring.proofs.GatherSteps.{drain_next, drained_out, drained_is, empty_of}
use Rattle.ore_ring.proofs.gather.Gather.finish.Goals as goal

pub loop-t-preserved : goal.loop-t-preserved
loop-t-preserved c =
    ap (λ us. us ++ drained (keyed_terms c.pop_last.new.self.entries)) c.in_ok-keep.ensures
    ∙ sym (drain_next c.loop-t.out.items c.loop-t.map.entries c.pop_last.new.self.entries (c.in-Some.field-0-0, c.in-Some.t) c.in-Some.ensures.removal)
    ∙ c.loop-t.invariant

pub from_terms-requires : goal.from_terms-requires
from_terms-requires c = drained_out c.self.inside.order c.self.inside.map.entries c.loop-t.out.items c.loop-t.map.entries c.args.self c.self.view_is c.self.invariant c.loop-t.invariant (empty_of c.loop-t.map.entries c.in_default.ensures.variant.1)

pub returns : goal.returns
returns c = c.from_terms.ensures ∙ drained_is c.self.inside.order c.self.inside.map.entries c.loop-t.out.items c.loop-t.map.entries c.args.self c.self.view_is c.self.invariant c.loop-t.invariant (empty_of c.loop-t.map.entries c.in_default.ensures.variant.1)
