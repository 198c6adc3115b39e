-- Which certificates may be written.
--     RightMayBeWritten     a right certificate may be, where its stored parts are in range and no step multiplies by zero
use Rattle.std.specs.Prelude.{◌≡◌, ℕ, List, length}
use Rattle.ore_monomial.specs.Signature.{Signature}
use Rattle.ore_text.specs.Names.{AreNames}
use Rattle.ore_cert.specs.declared.certificate.Certificate.{Certificate}
use Rattle.ore_cert.specs.Storable.{IsStorableCertificate}
use Rattle.ore_cert.specs.WholeText.{IsWrittenCertificate}
use Rattle.ore_blocks.specs.CheckBlock.{RowMatrix}
use Rattle.ore_check.specs.NonZeroSteps.{HasNonZeroSteps}
use Rattle.ore_check.specs.PlanLaws.{IsCorrect}

-- there is one name for each variable; the certificate may be written with these names
abbrev pub RightMayBeWritten : Signature → Type 0
RightMayBeWritten s = (names : List (List ℕ)) → AreNames names → length names ≡ length s.kinds → (r : RowMatrix) (c : Certificate) → IsCorrect s r c → HasNonZeroSteps c → IsStorableCertificate c → IsWrittenCertificate s names c
