use Rattle.std.proofs.Common.{sym, ◌∙◌, subst}
use Rattle.ore_text.proofs.Coefficients.{Rest, IsNumerator, IsDenominator, numerator_read, denominator_read}
use Rattle.ore_text.proofs.CanonicalReading.{rest_at, rest_at-drop, drop_rest}
use Rattle.ore_text.proofs.Known.{at_none, at_some, not_none, same_some}
use Rattle.ore_text.proofs.canonical.read_coefficient.Goals as goal

pub returns-in_default-clause-only : goal.returns-in_default-clause-only
returns-in_default-clause-only c names t tail h n d s end e =
    at_none (IsNumerator names t tail c.args.text.now) c.read_numerator.result c.in_default.is (numerator_read names t tail c.args.text.now c.read_numerator.result h n end e c.read_numerator.ensures.only c.read_numerator.ensures.none)

pub returns-in_default-read_denominator-clause-only : goal.returns-in_default-read_denominator-clause-only
returns-in_default-read_denominator-clause-only c names t tail h n d s end e =
    let text = c.args.text.now in
    let first = at_some (IsNumerator names t tail text) c.read_numerator.result _ c.in-Some.is (numerator_read names t tail text c.read_numerator.result h n end e c.read_numerator.ensures.only c.read_numerator.ensures.none) in
    let rest = subst (Rest names t tail) (sym (rest_at-drop c.in-Some.length text)) first.1 in
    at_none (IsDenominator names t tail (rest_at c.in-Some.length text)) c.read_denominator.result c.in_default-read_denominator.is
    (denominator_read names t tail (rest_at c.in-Some.length text) c.read_denominator.result d end rest c.read_denominator.ensures.only c.read_denominator.ensures.none)

pub returns-in_default-fraction-clause-only : goal.returns-in_default-fraction-clause-only
returns-in_default-fraction-clause-only c names t tail h n d s end e =
    let text = c.args.text.now in
    let first = at_some (IsNumerator names t tail text) c.read_numerator.result _ c.in-Some.is (numerator_read names t tail text c.read_numerator.result h n end e c.read_numerator.ensures.only c.read_numerator.ensures.none) in
    let rest = subst (Rest names t tail) (sym (rest_at-drop c.in-Some.length text)) first.1 in
    let second = at_some (IsDenominator names t tail (rest_at c.in-Some.length text)) c.read_denominator.result _ c.in-Some-read_denominator.is
    (denominator_read names t tail (rest_at c.in-Some.length text) c.read_denominator.result d end rest c.read_denominator.ensures.only c.read_denominator.ensures.none) in
    not_none (c.fraction.ensures.only t.1 n d s first.0 second.0) c.in_default-fraction.is

pub returns-clause-only : goal.returns-clause-only
returns-clause-only c names t tail h n d s end e =
    let text = c.args.text.now in
    let first = at_some (IsNumerator names t tail text) c.read_numerator.result _ c.in-Some.is (numerator_read names t tail text c.read_numerator.result h n end e c.read_numerator.ensures.only c.read_numerator.ensures.none) in
    let rest = subst (Rest names t tail) (sym (rest_at-drop c.in-Some.length text)) first.1 in
    let second = at_some (IsDenominator names t tail (rest_at c.in-Some.length text)) c.read_denominator.result _ c.in-Some-read_denominator.is
    (denominator_read names t tail (rest_at c.in-Some.length text) c.read_denominator.result d end rest c.read_denominator.ensures.only c.read_denominator.ensures.none) in
    (same_some c.in-Some-fraction.is (c.fraction.ensures.only t.1 n d s first.0 second.0), (second.1.0, drop_rest c.in-Some.length c.in-Some-read_denominator.more text ∙ second.1.1))
