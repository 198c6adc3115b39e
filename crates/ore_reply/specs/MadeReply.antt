-- What contracts see of a reply that was made.
--     reply_of          its status, and the bytes of its text
--     end_reply         the reply to an input that wasn't read to its end
--     given_reply       the one or the other
--     IsOfBytes         a status that the bytes of an input can call for
use Rattle.std.specs.declared.result.Result.{Result}
use Rattle.std.specs.declared.result.Result.TheVariants.{Ok, Err}
use Rattle.ore_reply.specs.declared.input.InputEnd.{InputEnd}
use Rattle.ore_reply.specs.declared.input.InputEnd.TheVariants as end
use Rattle.ore_reply.specs.declared.status.Status.{Status}
use Rattle.ore_reply.specs.declared.status.Status.TheVariants.{Done, Invalid, Words, Malformed, Overflow, Degree, Budget, ReadFault, WriteFault, TooLong, Memory}
use Rattle.ore_reply.specs.declared.reply.Reply.{Reply as MadeReply}
use Rattle.ore_reply.specs.Replies.{Reply, without_text, too_long}

-- the status of a reply that was made, and the bytes of its text
abbrev pub reply_of : MadeReply → Reply
reply_of r = record { status = r.status; text = r.text.items }

-- the reply where the source failed, there are more bytes than the limit, or memory ran out
abbrev pub end_reply : InputEnd → Reply
end_reply end.Fault = without_text ReadFault
end_reply end.TooLong = too_long
end_reply end.Memory = without_text Memory

-- the reply that was made, or that to the reason why there is none
abbrev pub given_reply : Result MadeReply InputEnd → Reply
given_reply (Ok r) = reply_of r
given_reply (Err e) = end_reply e

-- none of those for words, for a source or a sink that fails, for too long an input, and for want of memory
abbrev pub IsOfBytes : Status → Type 0
IsOfBytes Done = Unit {0}
IsOfBytes Invalid = Unit {0}
IsOfBytes Malformed = Unit {0}
IsOfBytes Overflow = Unit {0}
IsOfBytes Degree = Unit {0}
IsOfBytes Budget = Unit {0}
IsOfBytes Words = ⊥
IsOfBytes ReadFault = ⊥
IsOfBytes WriteFault = ⊥
IsOfBytes TooLong = ⊥
IsOfBytes Memory = ⊥
