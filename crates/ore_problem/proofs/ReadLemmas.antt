-- The exit of a `?` that hands a fault on.
--     fault_reads_like      where one definition has the fault of another, a call that fails like the one fails like the other
--     fault_reads_on        a fault of the first part is a fault of the whole
use Rattle.std.proofs.Common.{◌≡◌, ℕ, refl}
use Rattle.std.specs.declared.result.Result.TheVariants.{Err}
use Rattle.ore_problem.specs.declared.fault.ProblemFault.{ProblemFault}
use Rattle.ore_problem.specs.declared.fault.ProblemReason.{ProblemReason}
use Rattle.ore_algebra.proofs.ResultLaws.{refused_like, refused_on}
use Rattle.ore_problem.specs.Problems.{Read}
use Rattle.ore_algebra.specs.Results.{◌>>=◌}
use Rattle.ore_problem.specs.Stored.{fault_in_problem, ProblemFaultReads}

pub fault_reads_like : {X Y : Type 0} (line : ℕ) (r : ProblemReason) (g : Read X) (h : Read Y) → ((e : ProblemFault) → g ≡ Err e → h ≡ Err e) → ProblemFaultReads line r g → ProblemFaultReads line r h
fault_reads_like line r = refused_like (line ≡ 0) (fault_in_problem line r)

pub fault_reads_on : {X Y : Type 0} (line : ℕ) (r : ProblemReason) (g : Read X) (k : X → Read Y) → ProblemFaultReads line r g → ProblemFaultReads line r (g >>= k)
fault_reads_on line r = refused_on (line ≡ 0) (fault_in_problem line r)
