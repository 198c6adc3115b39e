use Rattle.std.proofs.Common.{refl}
use Rattle.std.specs.Prelude.{codes}
use Rattle.ore_parts.proofs.FormatReads.{finds_fixed, fixed_fault}
use Rattle.ore_parts.proofs.TwoParts.{both_found, first_fails, second_fails}
use Rattle.ore_cert.proofs.WholeLaws.{closed_parts}
use Rattle.ore_cert.proofs.whole.read_closed.Goals as goal

pub expect-requires : goal.expect-requires
expect-requires c = (codes "end", refl, refl)

pub returns-in_err-cert : goal.returns-in_err-cert
returns-in_err-cert c = first_fails (closed_parts c.args.algebra.now.signature.now c.args.algebra.now.names.now c.args.algebra.now.form c.args.algebra.now.count c.args.kind) c.args.lines.now c.read_body.new.lines c.from_residual.result c.in_err-cert.field-0.0 c.from_residual.ensures.1 c.in_err-cert.ensures

pub returns-in_err-expect : goal.returns-in_err-expect
returns-in_err-expect c =
    let fault = fixed_fault (codes "end\n") (codes "end", refl, refl) c.read_body.new.lines c.in_err-expect.field-0.0 c.in_err-expect.ensures.err in
    second_fails (closed_parts c.args.algebra.now.signature.now c.args.algebra.now.names.now c.args.algebra.now.form c.args.algebra.now.count c.args.kind) c.args.lines.now c.read_body.new.lines c.expect.new.self c.in_ok-cert.cert c.from_residual-in_err-expect.result c.in_err-expect.field-0.0 c.from_residual-in_err-expect.ensures.1 c.in_ok-cert.ensures fault

pub returns : goal.returns
returns c =
    let last = finds_fixed (codes "end\n") (codes "end", refl, refl) c.read_body.new.lines c.expect.new.self c.in_ok-expect.ensures.ok.0 c.in_ok-expect.ensures.ok.1 in
    both_found (closed_parts c.args.algebra.now.signature.now c.args.algebra.now.names.now c.args.algebra.now.form c.args.algebra.now.count c.args.kind) c.args.lines.now c.read_body.new.lines c.expect.new.self c.in_ok-cert.cert tt c.in_ok-cert.ensures last
