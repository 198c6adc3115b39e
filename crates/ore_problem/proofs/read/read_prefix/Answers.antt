use Rattle.std.proofs.Common.{ℕ, sym, ap, ◌∙◌}
use Rattle.std.specs.declared.result.Result.TheVariants.{Ok}
use Rattle.std.proofs.lemmas.Result.{err_from_is_err_and}
use Rattle.ore_problem.specs.Problems.{System, Read}
use Rattle.ore_problem.specs.Reader.{cursor_of, problem_after}
use Rattle.ore_problem.specs.Stored.{system_of}
use Rattle.ore_problem.proofs.ReadLemmas.{fault_reads_like}
use Rattle.ore_problem.proofs.ProblemLemmas.{prefix_stops, prefix_is}
use Rattle.ore_problem.proofs.read.read_prefix.Goals as goal

pub returns-in_err-problem-clause-reads : goal.returns-in_err-problem-clause-reads
returns-in_err-problem-clause-reads c =
    let p = err_from_is_err_and c.from_residual.result c.from_residual.ensures.1 in
    let from = ap (λ p. problem_after (cursor_of p)) c.new-lines.ensures in
    rw (p.1, p.2) (fault_reads_like _ _ _ _ (λ e h. prefix_stops c.args.text.now e (sym from ∙ h)) c.in_err-problem.ensures.reads)

pub returns-clause-reads : goal.returns-clause-reads
returns-clause-reads c =
    let from = ap (λ p. problem_after (cursor_of p)) c.new-lines.ensures in
    let read : ℕ → ℕ → Read (System × (ℕ × ℕ)) = λ used line. Ok (system_of c.in_ok-problem.problem, (used, line)) in
    prefix_is c.args.text.now (system_of c.in_ok-problem.problem) (cursor_of c.problem_in.new.lines) (sym from ∙ c.in_ok-problem.ensures.reads)
    ∙ (λ i. read (sym c.used.ensures.value i) (sym c.line.ensures i))
