use Rattle.std.proofs.Common.{refl}
use Rattle.std.specs.Prelude.{codes}
use Rattle.ore_parts.proofs.FormatReads.{finds_fixed, fixed_fault}
use Rattle.ore_parts.proofs.TwoParts.{first_fails, last_found}
use Rattle.ore_cert.proofs.WholeLaws.{certificate_parts}
use Rattle.ore_cert.proofs.whole.read_headed.Goals as goal

pub expect-requires : goal.expect-requires
expect-requires c = (codes "certificate 1", refl, refl)

pub returns-in_err-expect : goal.returns-in_err-expect
returns-in_err-expect c =
    let fault = fixed_fault (codes "certificate 1\n") (codes "certificate 1", refl, refl) c.args.lines.now c.in_err-expect.field-0.0 c.in_err-expect.ensures.err in
    first_fails (certificate_parts c.args.algebra.now.signature.now c.args.algebra.now.names.now c.args.algebra.now.form c.args.algebra.now.count) c.args.lines.now c.expect.new.self c.from_residual.result c.in_err-expect.field-0.0 c.from_residual.ensures.1 fault

pub returns : goal.returns
returns c =
    let head = finds_fixed (codes "certificate 1\n") (codes "certificate 1", refl, refl) c.args.lines.now c.expect.new.self c.in_ok-expect.ensures.ok.0 c.in_ok-expect.ensures.ok.1 in
    last_found (certificate_parts c.args.algebra.now.signature.now c.args.algebra.now.names.now c.args.algebra.now.form c.args.algebra.now.count) (λ h d. refl) c.args.lines.now c.expect.new.self c.read_of_kind.new.lines tt c.read_of_kind.result head c.read_of_kind.ensures
