use Rattle.std.proofs.Common.{arith, map, ◌≢◌, length}
use Rattle.std.proofs.lemmas.Bool.Decides.{nat_tests}
use Rattle.std.proofs.lemmas.List.{length-map}
use Rattle.ore_problem.proofs.SizeLemmas.{sizes_of_other}
use Rattle.ore_problem.proofs.header.sizes.Goals as goal
use Rattle.ore_problem.proofs.header.sizes.Goals.{in_default-via-then-words-lt3, in_default-via-else-words-lt3+else-words-lt4}

pub returns-in_default-clause-reads : goal.returns-in_default-clause-reads
returns-in_default-clause-reads c =
    let l = length-map c.args.words.now (λ w. w.now) in
    let other : length c.args.words.now ≢ 3 = λ e. elim c.in_default.branch [ in_default-via-then-words-lt3 w ↦ grind (arith, nat_tests, e) | in_default-via-else-words-lt3+else-words-lt4 w ↦ grind (arith, nat_tests, e) ] in
    rw c.at.ensures (sizes_of_other c.args.line (map (λ w. w.now) c.args.words.now) (λ e. other (omega (arith, e, l))))
