-- The reply to what a check answers.
--     IsAnswerReply     the reply to the answer of a check; want of memory has none
use Rattle.std.specs.Prelude.{◌≡◌, ℕ, ◌+◌, List}
use Rattle.ore_blocks.specs.ReasonWords.{reason_word}
use Rattle.ore_check.specs.declared.answer.Checked.{Checked as Answer}
use Rattle.ore_check.specs.declared.answer.Checked.TheVariants as answer
use Rattle.ore_reply.specs.Replies.{Reply, valid, invalid_at, overflow_at, degree_at}

-- the lines of a certificate count on from those of its problem
abbrev pub IsAnswerReply : ℕ → List ℕ → Answer → Reply → Type 0
IsAnswerReply lines word answer.Valid reply = reply ≡ valid word
IsAnswerReply lines word (answer.Invalid line why) reply = reply ≡ invalid_at (lines + line) (reason_word why)
IsAnswerReply lines word (answer.Overflow line) reply = reply ≡ overflow_at (lines + line)
IsAnswerReply lines word (answer.Degree line) reply = reply ≡ degree_at (lines + line)
IsAnswerReply lines word answer.Memory reply = ⊥
