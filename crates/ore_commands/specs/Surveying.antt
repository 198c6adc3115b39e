-- The reply of `survey`: the verdict on a generated problem, and the size of its certificate.
--     survey_text            the lines of a survey
--     surveyed_text          those for a certificate of a generated problem
--     SaysSurveyed           a text is that for a verdict that is found
--     IsSurveyReply          the reply with such a text, or with that of an honest report
--     HasUnreportedNumber    no report of the generated problem is honest
use Rattle.std.specs.Prelude.{◌≡◌, ◌⊎◌, ℕ, List, ◌++◌, length, codes, decimal}
use Rattle.ore_generate.specs.Chain.{generated}
use Rattle.ore_cert.specs.KindWords.{kind_word}
use Rattle.ore_cert.specs.declared.certificate.Certificate.{Certificate}
use Rattle.ore_cert.specs.declared.report.Plan.TheVariants.{Analyse}
use Rattle.ore_check.specs.Reports.{HasNoReportOf}
use Rattle.ore_reply.specs.declared.status.Status.TheVariants.{Done}
use Rattle.ore_reply.specs.Replies.{Reply}
use Rattle.ore_commands.specs.Finding.{default_budget, search_by, live_rule, text_of, IsFound, IsStoppedReply}
use Rattle.ore_commands.specs.ReplyOfCheck.{matrix_of}

-- the sizes of the matrix, the word of a verdict, which has its line end, and a number of bytes
abbrev pub survey_text : List ℕ → ℕ → List ℕ
survey_text verdict size = codes "rows 40\ncolumns 41\nverdict " ++ (verdict ++ (codes "certificate " ++ (decimal size ++ codes "\n")))

-- the bytes are those that `analyse` writes for the certificate
abbrev pub surveyed_text : ℕ → Certificate → List ℕ
surveyed_text n c = survey_text (kind_word c ++ codes "\n") (length (text_of (generated n) c))

-- the certificate is one of the two verdicts, and true; `analyse` may find it for the generated problem
pub record SaysSurveyed (n : ℕ) (said : List ℕ) : Type 0 where
  pub certificate : Certificate
  pub found : IsFound (generated n) (search_by Analyse) certificate
  pub text : said ≡ surveyed_text n certificate

-- the report is one that `analyse` may write for the generated problem
abbrev pub IsSurveyReply : ℕ → Reply → Type 0
IsSurveyReply n reply = ((reply.status ≡ Done) × SaysSurveyed n reply.text) ⊎ IsStoppedReply (generated n) (search_by Analyse) reply

-- by the rule and within the budget of `analyse`; so this comes to its verdict
abbrev pub HasUnreportedNumber : ℕ → Type 0
HasUnreportedNumber n = HasNoReportOf (generated n).signature (live_rule (generated n).signature) default_budget Analyse (matrix_of (generated n))
