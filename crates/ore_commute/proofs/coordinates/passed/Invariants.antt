use Rattle.std.proofs.Common.{◌≡◌, true}
use Rattle.ore_algebra.specs.Limits.{program}
use Rattle.ore_algebra.proofs.Integers.{integers}
use Rattle.ore_commute.specs.ClosedForm.{axes_below, passed as passed_of}
use Rattle.ore_monomial.specs.Numbers.{are_within}
use Rattle.ore_commute.proofs.coordinates.passed.Given as goal

abbrev pub invariant-loop-variable : goal.invariant-loop-variable
invariant-loop-variable g l = (l.terms.items ≡ passed_of integers l.signature (axes_below l.signature l.variable) l.left l.right) × (are_within program l.terms.items ≡ true)
