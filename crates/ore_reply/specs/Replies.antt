-- Replies of the program, and their texts.
--     Reply                            a status, and what is written with it
--     at_line, word_at_line            texts with the number of a line
--     valid, invalid_at, malformed_at  a valid certificate; a condition that fails on a line; a fault of a line
--     overflow_at, degree_at, stopped_at     an operation that a line calls for stops, by its cause
--     unknown_words, too_long, without_text  words that are no command; too long an input; no text at all
use Rattle.std.specs.Prelude.{ℕ, List, [], ◌++◌, codes, decimal}
use Rattle.ore_algebra.specs.Limits.{Cause}
use Rattle.ore_algebra.specs.Limits as cause
use Rattle.ore_reply.specs.declared.status.Status.{Status}
use Rattle.ore_reply.specs.declared.status.Status.TheVariants.{Done, Invalid, Words, Malformed, Overflow, Degree, TooLong}

-- the status with which the program ends, and the bytes that it writes
pub record Reply : Type 0 where
  pub status : Status
  pub text : List ℕ

-- a word and the number of a line
abbrev pub at_line : List ℕ → ℕ → List ℕ
at_line word line = word ++ (codes " " ++ decimal line)

-- these, a word behind them, and a line end
abbrev pub word_at_line : List ℕ → ℕ → List ℕ → List ℕ
word_at_line word line more = at_line word line ++ (codes " " ++ (more ++ codes "\n"))

-- the certificate is valid, and its kind has this word
abbrev pub valid : List ℕ → Reply
valid word = record { status = Done; text = codes "valid " ++ (word ++ codes "\n") }

-- the condition with this word fails on this line of the input
abbrev pub invalid_at : ℕ → List ℕ → Reply
invalid_at line word = record { status = Invalid; text = word_at_line (codes "invalid") line word }

-- the input has the fault with this word on this line
abbrev pub malformed_at : ℕ → List ℕ → Reply
malformed_at line word = record { status = Malformed; text = word_at_line (codes "malformed") line word }

-- a number leaves the range of fractions on this line
abbrev pub overflow_at : ℕ → Reply
overflow_at line = record { status = Overflow; text = at_line (codes "overflow") line ++ codes "\n" }

-- a degree is above 32,767 on this line
abbrev pub degree_at : ℕ → Reply
degree_at line = record { status = Degree; text = at_line (codes "degree") line ++ codes "\n" }

-- an operation that this line calls for stops for this cause
abbrev pub stopped_at : ℕ → Cause → Reply
stopped_at line cause.Overflow = overflow_at line
stopped_at line cause.Degree = degree_at line

-- the words of the command line are no command
abbrev pub unknown_words : Reply
unknown_words = record { status = Words; text = codes "unknown words\n" }

-- the input has more bytes than the limit
abbrev pub too_long : Reply
too_long = record { status = TooLong; text = codes "too long\n" }

-- where the source fails, or memory runs out, nothing is written
abbrev pub without_text : Status → Reply
without_text status = record { status = status; text = [] }
