use Rattle.std.proofs.Common.{sym, subst}
use Rattle.ore_parts.specs.Formats.{IsTextOf, Finds}
use Rattle.ore_parts.specs.PartFormats.{exact_format}
use Rattle.ore_parts.specs.Reading.{IsStartFault}
use Rattle.ore_parts.proofs.FormatReads.{reads_err}
use Rattle.ore_parts.proofs.WrittenOf.{exact_of}
use Rattle.ore_parts.proofs.parts.read_exact.Goals as goal

pub returns-in_err-block-clause-reads : goal.returns-in_err-block-clause-reads
returns-in_err-block-clause-reads c =
    let F = exact_format c.new.result.signature.now c.new.result.names.now in
    rw (sym c.new.ensures.signature, sym c.new.ensures.names) (reads_err F c.args.lines.now c.args.lines.now c.from_residual.result c.in_err-block.field-0.0 c.from_residual.ensures.1 (subst (λ u. IsStartFault (IsTextOf F) u c.in_err-block.field-0.0) c.again-ahead.ensures c.in_err-block.ensures))

pub returns-clause-reads : goal.returns-clause-reads
returns-clause-reads c = rw (sym c.new.ensures.signature, sym c.new.ensures.names) (subst (λ u. Finds (exact_format c.new.result.signature.now c.new.result.names.now) u c.in_ok-block.block c.read_exact_part.new.lines) c.again-ahead.ensures c.in_ok-block.ensures)

pub returns-clause-of : goal.returns-clause-of
returns-clause-of c = rw (sym c.new.ensures.signature) (exact_of c.new.result.signature.now c.new.result.names.now c.in_ok-block.block c.in_ok-block.ensures.may)
