use Rattle.std.proofs.Common.{map, drop, sym, ap, ◌∙◌, ◌+◌, rules}
use Rattle.std.proofs.lemmas.List.{map-append}
use Rattle.std.proofs.lemmas.Result.{err_from_is_err_and}
use Rattle.ore_algebra.specs.Limits.{program}
use Rattle.ore_ring.specs.Ordered.{Ordered}
use Rattle.ore_expr.specs.Evaluation.{value_of}
use Rattle.ore_problem.specs.Problems.{evaluated, value_read}
use Rattle.ore_problem.proofs.ReadLemmas.{fault_reads_like}
use Rattle.ore_problem.proofs.RowLemmas.{before, each_stops, each_goes_on, each_ends, reads_evaluated}
use Rattle.ore_problem.proofs.rows.evaluate_programs.Goals as goal

pub returns-in_err-evaluate_program-clause-reads : goal.returns-in_err-evaluate_program-clause-reads
returns-in_err-evaluate_program-clause-reads c =
    let p = err_from_is_err_and c.from_residual-in_err-evaluate_program.result c.from_residual-in_err-evaluate_program.ensures.1 in
    let same = ap (λ is. value_read c.args.line (value_of program c.new-ring.result is)) (c.deref.ensures.value ∙ ap (λ v. v.items) c.instructions-item.is) in
    rw (p.1, p.2) (fault_reads_like _ _ _ _
    (λ e h. sym (ap (λ s. evaluated s c.args.line (map (λ p. p.items) c.args.programs.now)) (c.new-ring.ensures ∙ c.copy.ensures))
    ∙ each_stops _ _ (reads_evaluated c.new-ring.result c.args.line) _ _ (λ p. p.items) c.args.programs.now c.loop-instructions.instructions-index c.loop-instructions.invariant.reads _ c.loop-instructions-test.true e (sym same ∙ h))
    c.in_err-evaluate_program.ensures.reads)

pub loop-instructions-preserved : goal.loop-instructions-preserved
loop-instructions-preserved c =
    let i = c.loop-instructions.instructions-index in
    let rest = evaluated c.new-ring.result c.args.line (map (λ p. p.items) (drop (i + 1) c.args.programs.now)) in
    let same = ap (λ is. value_read c.args.line (value_of program c.new-ring.result is)) (c.deref.ensures.value ∙ ap (λ v. v.items) c.instructions-item.is) in
    record {
      reads =
          ap (λ fs. before (map (λ (f : Ordered). f.sum) fs) rest) c.in_ok-push.ensures.items
          ∙ ap (λ fs. before fs rest) (map-append (λ (f : Ordered). f.sum) c.loop-instructions.entries.items _)
          ∙ each_goes_on _ _ (reads_evaluated c.new-ring.result c.args.line) _ _ (λ p. p.items) c.args.programs.now i c.loop-instructions.invariant.reads _ c.loop-instructions-test.true _ (sym same ∙ c.in_ok-evaluate_program.ensures.reads);
      of = search rules;
      wide = search rules;
    }

pub returns-clause-reads : goal.returns-clause-reads
returns-clause-reads c =
    sym (ap (λ s. evaluated s c.args.line (map (λ p. p.items) c.args.programs.now)) (c.new-ring.ensures ∙ c.copy.ensures))
    ∙ each_ends _ _ (reads_evaluated c.new-ring.result c.args.line) _ _ (λ p. p.items) c.args.programs.now c.loop-instructions.instructions-index c.loop-instructions.invariant.reads c.loop-instructions-test.false
