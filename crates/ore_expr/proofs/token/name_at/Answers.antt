use Rattle.std.proofs.Common.{take, ap, ◌∙◌}
use Rattle.ore_expr.specs.Tokens.{is_name_byte}
use Rattle.ore_expr.proofs.TokenLemmas.{take-length-take_while}
use Rattle.ore_expr.proofs.token.name_at.Goals as goal

pub returns : goal.returns
returns c = ap (λ n. take n c.args.text.now) c.name_byte_count.ensures ∙ take-length-take_while is_name_byte c.args.text.now
