-- What was read and what is left are what was left before.
use Rattle.std.proofs.Common.{◌≡◌, ◌≤◌, ◌-◌, vec_len}
use Rattle.std.specs.Io.KnownBytes.{prepend_known}
use Rattle.ore_reply.proofs.input.read_input.Given as goal

abbrev pub invariant-loop-count : goal.invariant-loop-count
invariant-loop-count g l = record {
  within : vec_len l.bytes ≤ l.limit;
  so_far : g.S.Source.left l.initial.source ≡ prepend_known l.bytes.items (g.S.Source.left l.source);
  stands : g.S.Source.faults l.source ≡ g.S.Source.faults l.initial.source;
}

abbrev pub decreases-loop-count : goal.decreases-loop-count
decreases-loop-count g l = l.limit - vec_len l.bytes
