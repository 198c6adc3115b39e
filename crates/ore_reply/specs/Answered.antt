-- What is due and what is answered, whichever command was called. A command has a limit of what it reads, where it reads
-- at all, and its own reply to the bytes of an input.
--     given_input      the bytes that a command is given
--     WasRead          an input was read to its end, and was these bytes
--     IsDueOnInput     the reply of a command that reads
--     IsDueFrom        the reply of a command
--     IsReplyToRead    the reply to what a reader gives
--     IsDelivered      what a call answers and writes where a reply is due
use Rattle.std.specs.Prelude.{◌≡◌, ◌≢◌, ◌⊎◌, ℕ, ◌+◌, ◌≤◌, List, [], length, IfSome}
use Rattle.std.specs.declared.option.Option.{Option}
use Rattle.std.specs.declared.option.Option.TheVariants.{None, Some}
use Rattle.std.specs.declared.result.Result.TheVariants.{Ok, Err}
use Rattle.std.specs.Io.KnownBytes.{append_known, IsAtEnd}
use Rattle.ore_problem.specs.Problems.{Read}
use Rattle.ore_reply.specs.declared.status.Status.{Status}
use Rattle.ore_reply.specs.declared.status.Status.TheVariants.{ReadFault, WriteFault, Memory}
use Rattle.ore_reply.specs.Replies.{Reply, too_long, without_text}
use Rattle.ore_reply.specs.FaultReply.{fault_reply}
use Rattle.ore_reply.specs.InputEnd.{Takes}
use Rattle.ore_reply.specs.Prefix.{AppendsPrefix}

-- none where it reads nothing, else those that the source has left, where it tells them
abbrev pub given_input : Option ℕ → Option (List ℕ) → Option (List ℕ)
given_input None left = Some []
given_input (Some limit) left = left

-- where the source tells its content, that was these bytes
abbrev pub WasRead : Option (List ℕ) → Option (List ℕ) → List ℕ → Type 0
WasRead before after bytes = IfSome before (λ left. bytes ≡ left) × IsAtEnd after

module _ (own : List ℕ → Reply → Type 0) where
  -- by what a source has left before and after; the command's own reply is due where all was read, within the limit
  abbrev pub IsDueOnInput : ℕ → Option (List ℕ) → Option (List ℕ) → Reply → Type 0
  IsDueOnInput limit before after reply =
      (reply ≡ without_text ReadFault) ⊎ ((reply ≡ without_text Memory) ⊎ (((reply ≡ too_long) × Takes before after (limit + 1))
      ⊎ ((bytes : List ℕ) × (length bytes ≤ limit) × WasRead before after bytes × own bytes reply)))

  -- one that reads nothing replies as to no bytes, whatever the source has
  abbrev pub IsDueFrom : Option ℕ → Option (List ℕ) → Option (List ℕ) → Reply → Type 0
  IsDueFrom None before after reply = (reply ≡ without_text Memory) ⊎ own [] reply
  IsDueFrom (Some limit) before after reply = IsDueOnInput limit before after reply

-- the command's own reply to the value, or that to the first faulty line
abbrev pub IsReplyToRead : {A : Type 0} → (A → Reply → Type 0) → Read A → Reply → Type 0
IsReplyToRead own (Ok x) reply = own x reply
IsReplyToRead own (Err f) reply = reply ≡ fault_reply f.line f.reason

-- The reply that is due was answered and its text written, or the sink failed after a front of a text that isn't empty.
abbrev pub IsDelivered : Reply → Status → Option (List ℕ) → Option (List ℕ) → Type 0
IsDelivered due status old new =
    ((status ≡ due.status) × (new ≡ append_known old due.text))
    ⊎ ((status ≡ WriteFault) × (due.text ≢ []) × AppendsPrefix old new due.text)
