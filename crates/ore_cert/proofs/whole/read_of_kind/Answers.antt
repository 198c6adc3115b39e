use Rattle.std.proofs.Common.{refl}
use Rattle.ore_parts.proofs.TwoParts.{first_fails, last_found}
use Rattle.ore_cert.proofs.WholeLaws.{kinds_parts}
use Rattle.ore_cert.proofs.whole.read_of_kind.Goals as goal

pub returns-in_err-kind : goal.returns-in_err-kind
returns-in_err-kind c = first_fails (kinds_parts c.args.algebra.now.signature.now c.args.algebra.now.names.now c.args.algebra.now.form c.args.algebra.now.count) c.args.lines.now c.read_kind.new.lines c.from_residual.result c.in_err-kind.field-0.0 c.from_residual.ensures.1 c.in_err-kind.ensures

pub returns : goal.returns
returns c = last_found (kinds_parts c.args.algebra.now.signature.now c.args.algebra.now.names.now c.args.algebra.now.form c.args.algebra.now.count) (λ k d. refl) c.args.lines.now c.read_kind.new.lines c.read_closed.new.lines c.in_ok-kind.kind c.read_closed.result c.in_ok-kind.ensures c.read_closed.ensures
