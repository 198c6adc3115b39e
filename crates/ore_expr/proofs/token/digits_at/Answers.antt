use Rattle.std.proofs.Common.{take, ap, ◌∙◌}
use Rattle.std.specs.Char.{is_ascii_digit}
use Rattle.ore_expr.proofs.TokenLemmas.{take-length-take_while}
use Rattle.ore_expr.proofs.token.digits_at.Goals as goal

pub returns : goal.returns
returns c = ap (λ n. take n c.args.text.now) c.digit_count.ensures ∙ take-length-take_while is_ascii_digit c.args.text.now
