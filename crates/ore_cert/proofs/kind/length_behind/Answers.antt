use Rattle.std.proofs.Common.{◌≡◌, arith}
use Rattle.ore_cert.proofs.KindLaws.{counted_same}
use Rattle.ore_cert.proofs.kind.length_behind.Goals as goal

pub returns-in_default-number : goal.returns-in_default-number
returns-in_default-number c n h e =
    let same : c.in-Some.number ≡ n = counted_same c.args.word.now c.args.words.now c.in-Some.number n c.in-Some.ensures.0 (omega (arith, h.1)) c.in-Some.ensures.1 e in
    let z : ⊥ = omega (arith, same, h.0, h.1) in
    z

pub returns-in_default-number-2 : goal.returns-in_default-number-2
returns-in_default-number-2 c n h e =
    let same : c.in-Some.number ≡ n = counted_same c.args.word.now c.args.words.now c.in-Some.number n c.in-Some.ensures.0 (omega (arith, h.1)) c.in-Some.ensures.1 e in
    let z : ⊥ = omega (arith, same, h.0, h.1) in
    z
