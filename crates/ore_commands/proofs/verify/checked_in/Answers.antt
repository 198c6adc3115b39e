use Rattle.std.proofs.Common.{sym, subst}
use Rattle.ore_cert.specs.CertificateOf.{IsCertificateOf}
use Rattle.ore_commands.proofs.verify.checked_in.Goals as goal

pub check-requires-clause-cert_of : goal.check-requires-clause-cert_of
check-requires-clause-cert_of g c = subst (λ s. IsCertificateOf s c.args.cert.now) (sym c.requires.same) c.requires.of
