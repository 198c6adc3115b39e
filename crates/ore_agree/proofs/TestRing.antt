-- Operators over twelve variables, as the tests have them.
--     all_belong      every operator with the order of such a signature belongs to it
use Rattle.std.proofs.Common.{◌≡◌, ◌≤◌, length, subst}
use Rattle.ore_monomial.specs.Signature.{Signature}
use Rattle.ore_monomial.proofs.Monomials.{exponent_past}
use Rattle.ore_ring.specs.Belongs.{Belongs}
use Rattle.ore_ring.specs.Ordered.{Ordered}

pub all_belong : (s : Signature) (f : Ordered) → length s.kinds ≡ 12 → f.by ≡ s.order → Belongs s f
all_belong s f h e = record { order = e; variables = λ m n x l. exponent_past x m (subst (λ k. k ≤ x) h l) }
