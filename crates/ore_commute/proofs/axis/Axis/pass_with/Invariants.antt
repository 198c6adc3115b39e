use Rattle.std.proofs.Common.{◌≡◌, unwrap_or}
use Rattle.ore_commute.specs.Product.{checked}
use Rattle.ore_commute.proofs.Shifted.{shifted_from}
use Rattle.ore_commute.proofs.axis.Axis.pass_with.Given as goal

abbrev pub invariant-loop-j : goal.invariant-loop-j
invariant-loop-j l = checked l.out.items (shifted_from l.self.steps l.self.coordinate (unwrap_or l.self.operator 12) l.self.left l.self.right l.terms l.fn.k l.j) ≡ checked l.initial.out.items (shifted_from l.self.steps l.self.coordinate (unwrap_or l.self.operator 12) l.self.left l.self.right l.terms l.fn.k 0)
