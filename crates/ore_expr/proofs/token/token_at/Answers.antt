use Rattle.std.proofs.Common.{sym, subst}
use Rattle.std.specs.List.{AllPass}
use Rattle.std.specs.Char.{is_ascii_digit}
use Rattle.ore_expr.proofs.TokenLemmas.{AllPass-take_while}
use Rattle.ore_expr.proofs.token.token_at.Goals as goal

pub returns-then-is_ascii_digit-clause-numeric : goal.returns-then-is_ascii_digit-clause-numeric
returns-then-is_ascii_digit-clause-numeric c = subst (AllPass is_ascii_digit) (sym c.digits_at.ensures) (AllPass-take_while is_ascii_digit c.args.text.now)
