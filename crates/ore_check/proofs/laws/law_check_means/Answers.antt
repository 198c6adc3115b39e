use Rattle.ore_check.proofs.CertificateKinds.{check_means}
use Rattle.ore_check.proofs.laws.law_check_means.Goals as goal

pub returns : goal.returns
returns c = λ l r d long of certificate claims h. check_means l c.args.sig.now r long d certificate claims h
