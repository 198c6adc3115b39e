-- The answer of the program, for all commands.
--     IsReplyOf        the own reply of a command to the bytes that it is given
--     IsTrueOf         what a command says of these bytes is true
--     IsDueTo          the reply that a command is to give
--     IsDue            the reply that words are to get
--     TellsTruth       what was said is true of the input, where the source tells it
--     IsUnhaltedSearch, IsUnhalted     the input of a search is a problem of which no report is honest; a command has an answer
use Rattle.std.specs.Prelude.{◌≡◌, ◌⊎◌, ℕ, ◌≤◌, List, length, IfSome}
use Rattle.std.specs.declared.option.Option.{Option}
use Rattle.std.specs.declared.option.Option.TheVariants.{Some}
use Rattle.ore_reply.specs.Replies.{Reply, unknown_words}
use Rattle.ore_reply.specs.Answered.{IsDueFrom, given_input}
use Rattle.ore_commands.specs.declared.command.Command.{Command}
use Rattle.ore_commands.specs.declared.command.Command.TheVariants.{Check, Search, AnalyseInBrief, AnalyseWithin, Generate, Survey}
use Rattle.ore_commands.specs.Commands.{AreWordsOfCommand, IsKnown, input_limit}
use Rattle.ore_commands.specs.ReplyOfCheck.{IsReplyOfCheck, HoldsCertificate}
use Rattle.ore_commands.specs.Finding.{search_by, search_in_brief, search_within, IsReplyOfSearch, HoldsAnswer, IsUnreported}
use Rattle.ore_commands.specs.Generating.{generated_text, generated_reply}
use Rattle.ore_commands.specs.Surveying.{SaysSurveyed, IsSurveyReply, HasUnreportedNumber}
use Rattle.ore_commands.specs.declared.search.Search.{Search as SearchOf}

-- Of `check`, the verdict; of a search, the answer that its plan forms, or an honest report; of `generate`, the problem; of
-- `survey`, the verdict on this problem, or an honest report.
abbrev pub IsReplyOf : Command → List ℕ → Reply → Type 0
IsReplyOf Check bytes reply = IsReplyOfCheck bytes reply
IsReplyOf (Search plan) bytes reply = IsReplyOfSearch (search_by plan) bytes reply
IsReplyOf AnalyseInBrief bytes reply = IsReplyOfSearch search_in_brief bytes reply
IsReplyOf (AnalyseWithin budget) bytes reply = IsReplyOfSearch (search_within budget) bytes reply
IsReplyOf (Generate n) bytes reply = reply ≡ generated_reply n
IsReplyOf (Survey n) bytes reply = IsSurveyReply n reply

-- Of `check`, the bytes are a problem and a certificate of the kind that is named. What this says of the matrix is true,
-- over numbers of any size. Of a search, the bytes are a problem, and what is said is the text of an answer that its plan
-- forms: a certificate that is true and that the check accepts, or what it claims, or the problem with its transposed adjoint.
-- `check` then replies to the problem with a whole certificate behind it that this is valid. Of `generate`, what is said is the text of the generated problem; of `survey`, it names a verdict that is true of its matrix,
-- and the size of the certificate.
abbrev pub IsTrueOf : Command → List ℕ → List ℕ → Type 0
IsTrueOf Check said bytes = HoldsCertificate said bytes
IsTrueOf (Search plan) said bytes = HoldsAnswer (search_by plan) said bytes
IsTrueOf AnalyseInBrief said bytes = HoldsAnswer search_in_brief said bytes
IsTrueOf (AnalyseWithin budget) said bytes = HoldsAnswer (search_within budget) said bytes
IsTrueOf (Generate n) said bytes = said ≡ generated_text n
IsTrueOf (Survey n) said bytes = SaysSurveyed n said

-- by what a source has left before and after
abbrev pub IsDueTo : Command → Option (List ℕ) → Option (List ℕ) → Reply → Type 0
IsDueTo c before after reply = IsDueFrom (IsReplyOf c) (input_limit c) before after reply

-- words that are no command are answered whatever the input
abbrev pub IsDue : List (List ℕ) → Option (List ℕ) → Option (List ℕ) → Reply → Type 0
IsDue words before after reply =
    ((¬ IsKnown words) × (reply ≡ unknown_words)) ⊎ ((c : Command) × AreWordsOfCommand words c × IsDueTo c before after reply)

-- of the bytes that the command is given
abbrev pub TellsTruth : Command → List ℕ → Option (List ℕ) → Type 0
TellsTruth c said before = IfSome (given_input (input_limit c) before) (IsTrueOf c said)

-- the source tells it, it is within the limit of the command, and accepted
abbrev pub IsUnhaltedSearch : Option ℕ → SearchOf → Option (List ℕ) → Type 0
IsUnhaltedSearch limit search before = (bytes : List ℕ) × (before ≡ Some bytes) × IfSome limit (λ most. length bytes ≤ most) × IsUnreported search bytes

-- the command is a search of such an input, `generate`, which always has an answer, or `survey` of such a problem
abbrev pub IsUnhalted : Command → Option (List ℕ) → Type 0
IsUnhalted Check before = ⊥
IsUnhalted (Search plan) before = IsUnhaltedSearch (input_limit (Search plan)) (search_by plan) before
IsUnhalted AnalyseInBrief before = IsUnhaltedSearch (input_limit AnalyseInBrief) search_in_brief before
IsUnhalted (AnalyseWithin budget) before = IsUnhaltedSearch (input_limit (AnalyseWithin budget)) (search_within budget) before
IsUnhalted (Generate n) before = Unit {0}
IsUnhalted (Survey n) before = HasUnreportedNumber n
