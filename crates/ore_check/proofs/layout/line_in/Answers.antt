use Rattle.std.proofs.Common.{◌≡◌, sym, subst}
use Rattle.ore_cert.specs.declared.certificate.Certificate.{Certificate}
use Rattle.ore_check.specs.Check.{capped}
use Rattle.ore_check.specs.Layout.{line_in}
use Rattle.ore_check.proofs.layout.line_in.Goals as goal

pub returns-in-ExtNonzero : goal.returns-in-ExtNonzero
returns-in-ExtNonzero c = subst (λ (cert : Certificate). capped c.nonzero_line.result ≡ capped (line_in cert c.args.place)) (sym c.in-ExtNonzero.is) (c.nonzero_line.ensures c.in-ExtNonzero.element)
