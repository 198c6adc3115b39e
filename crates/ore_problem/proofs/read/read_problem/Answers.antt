use Rattle.std.proofs.Common.{ℕ, sym, ap, ◌∙◌}
use Rattle.std.specs.declared.result.Result.TheVariants.{Err}
use Rattle.std.proofs.lemmas.Result.{err_from_is_err_and}
use Rattle.ore_problem.specs.declared.fault.ProblemReason.TheVariants.{AfterEnd}
use Rattle.ore_problem.specs.Problems.{System, Read, ends_there}
use Rattle.ore_problem.specs.Reader.{cursor_of, problem_after}
use Rattle.ore_problem.specs.Stored.{system_of}
use Rattle.ore_problem.proofs.ReadLemmas.{fault_reads_like}
use Rattle.ore_problem.proofs.ProblemLemmas.{problem_stops, problem_ends}
use Rattle.ore_problem.proofs.read.read_problem.Goals as goal

pub returns-in_err-problem-clause-reads : goal.returns-in_err-problem-clause-reads
returns-in_err-problem-clause-reads c =
    let p = err_from_is_err_and c.from_residual.result c.from_residual.ensures.1 in
    let from = ap (λ p. problem_after (cursor_of p)) c.new-lines.ensures in
    rw (p.1, p.2) (fault_reads_like _ _ _ _ (λ e h. problem_stops c.args.text.now e (sym from ∙ h)) c.in_err-problem.ensures.reads)

pub returns-in-None-clause-reads : goal.returns-in-None-clause-reads
returns-in-None-clause-reads c =
    let from = ap (λ p. problem_after (cursor_of p)) c.new-lines.ensures in
    let p = system_of c.in_ok-problem.problem in
    let end = cursor_of c.problem_in.new.lines in
    problem_ends c.args.text.now p end (sym from ∙ c.in_ok-problem.ensures.reads) ∙ ap (ends_there p end) c.in-None.ensures.lines

pub returns-in-Some-clause-reads : goal.returns-in-Some-clause-reads
returns-in-Some-clause-reads c =
    let from = ap (λ p. problem_after (cursor_of p)) c.new-lines.ensures in
    let p = system_of c.in_ok-problem.problem in
    let end = cursor_of c.problem_in.new.lines in
    let fault : ℕ → Read System = λ line. Err (record { line = line; reason = AfterEnd }) in
    rw c.at.ensures
    (problem_ends c.args.text.now p end (sym from ∙ c.in_ok-problem.ensures.reads)
    ∙ ap (ends_there p end) c.in-Some.ensures.lines
    ∙ ap fault (sym (c.line.ensures ∙ c.in-Some.ensures.line)))
