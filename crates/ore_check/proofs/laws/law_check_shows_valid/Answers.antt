use Rattle.ore_check.proofs.CertificateKinds.{check_shows_valid}
use Rattle.ore_check.proofs.laws.law_check_shows_valid.Goals as goal

pub returns : goal.returns
returns c = λ l r certificate long of claims h. check_shows_valid l c.args.sig.now r long certificate of claims h
