use Rattle.std.proofs.Common.{◌≡◌, ◌≤◌, ◌*◌, take}
use Rattle.std.specs.List.{sum}
use Rattle.ore_monomial.proofs.exps.Exps.from_list.Given as goal

abbrev pub invariant-loop-v : goal.invariant-loop-v
invariant-loop-v l = record {
  told : l.total ≡ sum (take l.v-index l.values);
  small : l.total ≤ 65535 * l.v-index;
}
