use Rattle.ore_check.proofs.CertificateKinds.{one_verdict}
use Rattle.ore_check.proofs.laws.law_one_verdict.Goals as goal

pub returns : goal.returns
returns c = λ r given other long of given_of other_of given_kind other_kind given_means other_means.
    one_verdict c.args.sig.now r long given other given_of other_of given_kind other_kind given_means other_means
