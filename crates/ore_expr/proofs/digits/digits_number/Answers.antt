use Rattle.std.proofs.Common.{◌-◌, ◌^◌, arith, get_or, take}
use Rattle.std.specs.Str.Parse.{digits_value}
use Rattle.std.proofs.lemmas.Int.Digits.{digits_value_more}
use Rattle.ore_expr.proofs.DigitLemmas.{saturated_more}
use Rattle.ore_expr.proofs.digits.digits_number.Goals as goal

pub loop-digit-preserved : goal.loop-digit-preserved
loop-digit-preserved c =
    let digits = c.args.digits.now in
    let i = c.loop-digit.digit-index in
    let more = digits_value_more 10 digits i (omega arith) in
    let step = saturated_more (2 ^ 128 - 1) (digits_value 10 (take i digits)) c.loop-digit.n (get_or digits i 0) c.loop-digit.invariant (c.requires i 0 (omega arith)) in
    cc
