use Rattle.std.proofs.Common.{length, arith}
use Rattle.std.specs.List.{All}
use Rattle.ore_expr.specs.Evaluation.{IsOf}
use Rattle.ore_expr.specs.Parsing.{parse}
use Rattle.ore_expr.specs.ParserState.{parser_state}
use Rattle.ore_expr.proofs.StepLaws.{parse-ends}
use Rattle.ore_expr.proofs.MadeOf.{parse-of, Reads-ok}
use Rattle.ore_expr.proofs.read.parse_tokens.Goals as goal

pub returns-clause-reads : goal.returns-clause-reads
returns-clause-reads c = rw (parse-ends c.args.names.now c.args.text.now (parser_state c.loop-place.parser) c.loop-place.skipped c.loop-place.place (omega arith) c.loop-place.invariant) c.finish.ensures

pub returns-clause-of : goal.returns-clause-of
returns-clause-of c =
    Reads-ok (All (IsOf (length c.args.names.now))) (λ p. p.items) c.finish.result (parse c.args.names.now c.args.text.now)
    (rw (parse-ends c.args.names.now c.args.text.now (parser_state c.loop-place.parser) c.loop-place.skipped c.loop-place.place (omega arith) c.loop-place.invariant) c.finish.ensures)
    (parse-of c.args.names.now c.args.text.now)
