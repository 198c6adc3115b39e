-- The reply to a problem with a fault.
--     fault_reply      the reply to the first faulty line
use Rattle.std.specs.Prelude.{ℕ}
use Rattle.ore_monomial.specs.declared.stop.RingStop.TheVariants as stop
use Rattle.ore_expr.specs.declared.fault.TextFault.TheVariants as text
use Rattle.ore_problem.specs.declared.fault.ProblemReason.{ProblemReason}
use Rattle.ore_problem.specs.declared.fault.ProblemReason.TheVariants as reason
use Rattle.ore_problem.specs.FaultWords.{fault_word}
use Rattle.ore_reply.specs.Replies.{Reply, malformed_at, overflow_at, degree_at}

-- where an operation of an entry stops, its cause is answered
abbrev pub fault_reply : ℕ → ProblemReason → Reply
fault_reply line (reason.Text (text.Stop stop.Overflow)) = overflow_at line
fault_reply line (reason.Text (text.Stop stop.Degree)) = degree_at line
fault_reply line r = malformed_at line (fault_word r)
