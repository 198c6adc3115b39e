-- The words of faults of signatures, as a reply names them.
--     signature_word     the word of a fault of a declared variable
use Rattle.std.specs.Prelude.{ℕ, List, codes}
use Rattle.ore_monomial.specs.declared.signature.SignatureFault.{SignatureFault}
use Rattle.ore_monomial.specs.declared.signature.SignatureFault.TheVariants.{TooMany, BadCoordinate, TwoDifferentials, BadStep, GroupOrder}

-- whichever variable has it
abbrev pub signature_word : SignatureFault → List ℕ
signature_word TooMany = codes "too-many-variables"
signature_word (BadCoordinate k) = codes "bad-coordinate"
signature_word (TwoDifferentials k) = codes "two-differentials"
signature_word (BadStep k) = codes "bad-step"
signature_word (GroupOrder k) = codes "group-order"
