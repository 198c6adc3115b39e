use Rattle.std.proofs.Common.{◌≡◌, ◌∙◌, arith}
use Rattle.std.proofs.lemmas.Grind.{common_steps}
use Rattle.ore_monomial.specs.SignatureCode.{signature_of}
use Rattle.ore_monomial.proofs.signature.Signature.copy.Goals as goal

pub returns : goal.returns
returns c =
    let all : c.loop-kind.kinds.items ≡ c.self.inside.kinds.items = grind (arith, common_steps) in
    (λ i. signature_of (all i) c.self.inside.order) ∙ c.self.view_is
