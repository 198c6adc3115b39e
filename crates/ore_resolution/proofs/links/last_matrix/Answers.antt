use Rattle.std.proofs.Common.{◌≡◌, ◌+◌, ◌-◌, ◌<◌, length, sym, ap, ◌∙◌, arith}
use Rattle.std.proofs.lemmas.Option.{slice_get_read}
use Rattle.ore_check.specs.InnerContracts.{matrix_before}
use Rattle.ore_check.proofs.LinkConditions.{before_next}
use Rattle.ore_resolution.proofs.links.last_matrix.Goals as goal

pub returns-then-len-eq0 : goal.returns-then-len-eq0
unfolding matrix_before
returns-then-len-eq0 c =
    let none : 0 ≡ length c.args.links.now.items = omega (arith, c.len.ensures, c.if-len-eq0.true) in
    ap (matrix_before c.args.r.now c.args.links.now.items) none

pub returns-else-len-eq0 : goal.returns-else-len-eq0
returns-else-len-eq0 c =
    let ks = c.args.links.now.items in
    let many = c.len-else-len-eq0.result in
    let count : many ≡ length ks = omega (arith, c.len-else-len-eq0.ensures) in
    let some : many - 1 < many = omega (arith, count, c.len.ensures, c.if-len-eq0.false) in
    let all : many - 1 + 1 ≡ length ks = omega (arith, count, some) in
    sym (before_next c.args.r.now ks (many - 1) c.index.result.now (slice_get_read ks many (many - 1) c.index.result.now count some c.index.ensures)) ∙ ap (matrix_before c.args.r.now ks) all
