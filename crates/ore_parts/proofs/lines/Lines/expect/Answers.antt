use Rattle.std.proofs.Common.{ap, sym, ◌∙◌}
use Rattle.ore_text.proofs.RowEntries.{other_bytes}
use Rattle.ore_parts.specs.declared.fault.CertFault.TheVariants.{Malformed}
use Rattle.ore_parts.specs.Lines.{Unread}
use Rattle.ore_parts.proofs.Bytes.{line_cancel}
use Rattle.ore_parts.proofs.lines.Lines.expect.Goals as goal

pub returns-else-eq-clause-err : goal.returns-else-eq-clause-err
returns-else-eq-clause-err c = (
  ap (λ (u : Unread). Malformed u.at) c.self.view_is,
  λ rest e. other_bytes c.in-Some.due.now c.args.wanted.now c.eq.result c.eq.ensures c.if-eq.false (line_cancel c.in-Some.due.now c.args.wanted.now c.take_with_end.new.self.left rest c.in-Some.ensures.0 c.requires (sym c.in-Some.ensures.1 ∙ e)).0,
)
