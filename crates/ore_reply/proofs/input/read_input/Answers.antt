-- The byte past the limit stands in the last piece.
use Rattle.std.proofs.Common.{◌≡◌, ℕ, ◌+◌, length, arith}
use Rattle.std.proofs.lemmas.List.{length-take}
use Rattle.ore_reply.proofs.Reading.{Takes-read}
use Rattle.ore_reply.proofs.input.read_input.Goals as goal

pub returns-then-count-room-clause-too_long : goal.returns-then-count-room-clause-too_long
returns-then-count-room-clause-too_long g c _ =
    let ensured = c.in-Ok.ensures in
    let bytes = c.loop-count.bytes in
    let count = c.in-Ok.count in
    let total : length bytes.items + count ≡ c.args.limit + 1 = omega (arith, ensured.bound, bytes.ok.0, c.len.ensures, c.min-asked.ensures, c.read.auto.into, length-take {A = ℕ}) in
    Takes-read _ _ _ bytes.items c.read.new.into count (c.args.limit + 1) c.loop-count.invariant.so_far ensured.bytes ensured.bound total
