use Rattle.std.proofs.Common.{◌∷◌, ◌++◌}
use Rattle.ore_parts.specs.BlockText.{place}
use Rattle.ore_parts.proofs.Bytes.{lacks_none}
use Rattle.ore_parts.proofs.Numbers.{place_cut}
use Rattle.ore_parts.proofs.sizes.places_in.Goals as goal

pub returns-in_default : goal.returns-in_default
returns-in_default c i j rest h k e = lacks_none 32 (place i) (place j ++ 32 ∷ rest) c.args.text.now c.in_default.ensures e

pub returns-in_default-place_in : goal.returns-in_default-place_in
returns-in_default-place_in c i j rest h k e =
    let first = place_cut c.in-Some.first.now c.in-Some.rest.now c.args.text.now i (place j ++ 32 ∷ rest) c.in-Some.ensures e in
    c.in_default-place_in.ensures i h first.0

pub returns-in_default-cut_at : goal.returns-in_default-cut_at
returns-in_default-cut_at c i j rest h k e =
    let first = place_cut c.in-Some.first.now c.in-Some.rest.now c.args.text.now i (place j ++ 32 ∷ rest) c.in-Some.ensures e in
    lacks_none 32 (place j) rest c.in-Some.rest.now c.in_default-cut_at.ensures first.1

pub returns-in_default-place_in-2 : goal.returns-in_default-place_in-2
returns-in_default-place_in-2 c i j rest h k e =
    let first = place_cut c.in-Some.first.now c.in-Some.rest.now c.args.text.now i (place j ++ 32 ∷ rest) c.in-Some.ensures e in
    let second = place_cut c.in-Some-cut_at.second.now c.in-Some-cut_at.more.now c.in-Some.rest.now j rest c.in-Some-cut_at.ensures first.1 in
    c.in_default-place_in-2.ensures j k second.0
