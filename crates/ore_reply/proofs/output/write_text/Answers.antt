-- What was written grows by the piece that the sink took.
use Rattle.std.proofs.Common.{◌∙◌, ap, length, ◌-◌, take, drop, arith}
use Rattle.std.proofs.lemmas.List.{length-drop, length-take}
use Rattle.std.specs.Io.KnownBytes.{append_known}
use Rattle.ore_reply.proofs.Pieces.{append_known-take}
use Rattle.ore_reply.proofs.output.write_text.Goals as goal

pub loop-done-preserved : goal.loop-done-preserved
loop-done-preserved g c =
    let ensured = c.in_ok-done.ensures in
    let done = c.loop-done.done in
    let count = c.in_ok-done.field-0 in
    let text = c.args.text.now in
    record {
      within = omega (arith, ensured.bound, length-take (length text - done) (drop done text), length-drop done text);
      so_far = ensured.bytes ∙ ap (λ known. append_known known (take count (take (length text - done) (drop done text)))) c.loop-done.invariant.so_far
          ∙ append_known-take (g.K.Sink.written c.args.sink.now) text done count;
      stands = ensured.no_fault ∙ c.loop-done.invariant.stands;
    }
