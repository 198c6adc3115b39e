use Rattle.std.proofs.Common.{suc, drop, get_or}
use Rattle.std.proofs.lemmas.Result.{err_from_is_err_and}
use Rattle.ore_expr.specs.ParserState.{parser_state}
use Rattle.ore_expr.specs.TokenView.{token_of}
use Rattle.ore_expr.proofs.StepLaws.{front-slice, rest-skipped, rest-space, rest-taken, rest-faulty}
use Rattle.ore_expr.proofs.read.step.Goals as goal

pub returns-then-skipped-gt0 : goal.returns-then-skipped-gt0
returns-then-skipped-gt0 c = rest-skipped c.args.names.now c.args.text.now c.args.place c.requires (parser_state c.args.parser.now) c.args.skipped c.if-skipped-gt0.true

pub returns-then-text-place-eq32 : goal.returns-then-text-place-eq32
returns-then-text-place-eq32 c = rest-space c.args.names.now c.args.text.now c.args.place c.requires (parser_state c.args.parser.now) c.args.skipped c.if-skipped-gt0.false c.if-text-place-eq32.true

pub returns-in_err-take : goal.returns-in_err-take
returns-in_err-take c =
    let p = err_from_is_err_and c.from_residual.result c.from_residual.ensures.1 in
    let is = c.token_at-token.ensures.value (get_or c.args.text.now c.args.place 0) (drop (suc c.args.place) c.args.text.now) (front-slice c.args.names.now c.args.text.now c.args.place c.requires) in
    rw (p.1, p.2)
    (rest-faulty c.args.names.now c.args.text.now c.args.place c.requires (parser_state c.args.parser.now) (token_of c.token_at-token.result) c.args.skipped c.if-skipped-gt0.false c.if-text-place-eq32.false is c.in_err-take.field-0.0 c.in_err-take.ensures)

pub returns : goal.returns
returns c =
    let is = c.token_at-token.ensures.value (get_or c.args.text.now c.args.place 0) (drop (suc c.args.place) c.args.text.now) (front-slice c.args.names.now c.args.text.now c.args.place c.requires) in
    rest-taken c.args.names.now c.args.text.now c.args.place c.requires (parser_state c.args.parser.now) (token_of c.token_at-token.result) c.args.skipped c.if-skipped-gt0.false c.if-text-place-eq32.false is (parser_state c.take.new.self) c.more_bytes.result c.in_ok-take.ensures c.more_bytes.ensures
