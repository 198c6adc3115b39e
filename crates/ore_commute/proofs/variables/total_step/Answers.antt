use Rattle.std.proofs.Common.{◌≡◌, ◌*ℤ◌, drop, ◌∙◌, arith}
use Rattle.std.proofs.lemmas.Int.{ints}
use Rattle.ore_algebra.proofs.Integers.{integers}
use Rattle.ore_algebra.specs.Ring.{of_nat}
use Rattle.ore_monomial.specs.Monomial.{exponent}
use Rattle.ore_monomial.specs.Signature.{kind_at}
use Rattle.ore_monomial.proofs.Signatures.{count_at_most_12}
use Rattle.ore_commute.specs.ClosedForm.{step_on, total_step as total_step_of}
use Rattle.ore_commute.proofs.Steps.{step_sum-next, step_sum-past}
use Rattle.ore_commute.proofs.variables.total_step.Goals as goal

pub get-requires : goal.get-requires
get-requires c = let few = count_at_most_12 c.args.signature.now in omega arith

pub loop-x-preserved : goal.loop-x-preserved
unfolding exponent
loop-x-preserved c =
    let few = count_at_most_12 c.args.signature.now in
    let twelve = c.args.monomial.now.twelve in
    let next = step_sum-next c.args.signature.now c.args.coordinate c.loop-x.x c.args.monomial.now.exponents (omega arith) in
    let value : c.added-sum.result ≡ of_nat integers.ring (exponent c.args.monomial.now c.loop-x.x) *ℤ step_on integers c.args.coordinate (kind_at c.args.signature.now c.loop-x.x) =
    c.added-sum.ensures.value ∙ (λ i. of_nat integers.ring (c.get.ensures i) *ℤ step_on integers c.args.coordinate (c.kind.ensures i)) in
    let small = c.added-sum.ensures.small in
    let told = c.loop-x.invariant.0 in
    let bound = c.loop-x.invariant.1 in
    (omega (arith, ints), omega (arith, ints))

pub returns : goal.returns
unfolding total_step_of
returns c =
    let past = step_sum-past c.args.signature.now c.args.coordinate c.loop-x.x (drop c.loop-x.x c.args.monomial.now.exponents) (omega arith) in
    let told = c.loop-x.invariant.0 in
    omega (arith, ints)
