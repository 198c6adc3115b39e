use Rattle.std.proofs.Common.{◌≡◌, take, drop}
use Rattle.ore_monomial.specs.Signature.{first_fault, fault_after}
use Rattle.ore_monomial.proofs.signature.Signature.new.Given as goal

abbrev pub invariant-loop-kind : goal.invariant-loop-kind
invariant-loop-kind l = record {
  passed : l.kinds.items ≡ take l.kind-index l.vars;
  left : fault_after l.kinds.items (drop l.kind-index l.vars) ≡ first_fault l.vars;
}
