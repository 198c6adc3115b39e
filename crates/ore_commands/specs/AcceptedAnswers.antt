-- What a search prints, `check` accepts.
--     closed                       some bytes, whose last line has its line end
--     PassesCheck                  `check` finds a whole certificate valid, behind the problem that it is of
--     RightCertificateIsValid      it does so where the certificate is right and may be written
use Rattle.std.specs.Prelude.{ℕ, Bool, true, false, nat_eq, if◌then◌else◌, List, [], ◌∷◌, ◌++◌}
use Rattle.ore_problem.specs.Accepted.{Accepted}
use Rattle.ore_problem.specs.Problems.{System}
use Rattle.ore_cert.specs.declared.certificate.Certificate.{Certificate}
use Rattle.ore_cert.specs.declared.report.Plan.{Plan}
use Rattle.ore_cert.specs.declared.report.Plan.TheVariants as plan
use Rattle.ore_cert.specs.KindWords.{kind_word}
use Rattle.ore_cert.specs.WholeText.{certificate_text, IsWrittenCertificate}
use Rattle.ore_check.specs.PlanLaws.{IsCorrect}
use Rattle.ore_reply.specs.Replies.{valid}
use Rattle.ore_commands.specs.ReplyOfCheck.{matrix_of, IsReplyOfCheck}

-- with a line end behind, where the last line lacks it; no bytes stay none
unfoldable pub closed : List ℕ → List ℕ
closed [] = []
closed (b ∷ []) = b ∷ (if nat_eq b 10 then [] else 10 ∷ [])
closed (b ∷ c ∷ bs) = b ∷ closed (c ∷ bs)

-- Of what a plan says of these bytes. The text of a whole certificate stands behind the closed bytes: `check` replies that it
-- is valid, and names its kind. Of what a verdict claims, and of a transposed adjoint, nothing is said.
abbrev pub PassesCheck : Bool → Plan → List ℕ → List ℕ → Type 0
PassesCheck true named bytes said = Unit {0}
PassesCheck false plan.Adjoint bytes said = Unit {0}
PassesCheck false named bytes said = (c : Certificate) × IsReplyOfCheck (closed bytes ++ said) (valid (kind_word c))

-- Some bytes are accepted as the text of a problem. A certificate that is right of its matrix, and may be written with its
-- names, is written behind them: `check` replies that it is valid.
abbrev pub RightCertificateIsValid : Type 0
RightCertificateIsValid = (bytes : List ℕ) (p : System) (c : Certificate) → Accepted bytes p → IsWrittenCertificate p.signature p.names c → IsCorrect p.signature (matrix_of p) c
    → IsReplyOfCheck (closed bytes ++ certificate_text p.names p.signature.order c) (valid (kind_word c))
