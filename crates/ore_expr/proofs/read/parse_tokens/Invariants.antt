use Rattle.std.proofs.Common.{◌≡◌}
use Rattle.ore_expr.specs.Tokens.{lexemes}
use Rattle.ore_expr.specs.Parsing.{start, takes_all}
use Rattle.ore_expr.specs.ParserState.{parser_state}
use Rattle.ore_expr.specs.ReadStep.{rest_read}
use Rattle.ore_expr.proofs.read.parse_tokens.Given as goal

abbrev pub invariant-loop-place : goal.invariant-loop-place
invariant-loop-place l = rest_read l.names l.text (parser_state l.parser) l.skipped l.place ≡ takes_all l.names start (lexemes l.text)
