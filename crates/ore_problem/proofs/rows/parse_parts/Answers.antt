use Rattle.std.proofs.Common.{map, drop, ap, ◌∙◌, ◌+◌, rules}
use Rattle.std.proofs.lemmas.List.{map-append}
use Rattle.std.proofs.lemmas.Result.{err_from_is_err_and}
use Rattle.ore_problem.specs.Problems.{parsed}
use Rattle.ore_problem.proofs.ReadLemmas.{fault_reads_like}
use Rattle.ore_problem.proofs.RowLemmas.{before, each_stops, each_goes_on, each_ends, reads_parsed}
use Rattle.ore_problem.proofs.rows.parse_parts.Goals as goal

pub returns-in_err-parse_part-clause-reads : goal.returns-in_err-parse_part-clause-reads
returns-in_err-parse_part-clause-reads c =
    let p = err_from_is_err_and c.from_residual-in_err-parse_part.result c.from_residual-in_err-parse_part.ensures.1 in
    rw (p.1, p.2) (fault_reads_like _ _ _ _
    (each_stops _ _ (reads_parsed c.args.names.now c.args.line) _ _ (λ w. w.now) c.args.parts.now c.loop-part.part-index c.loop-part.invariant.reads _ c.loop-part-test.true)
    c.in_err-parse_part.ensures.reads)

pub loop-part-preserved : goal.loop-part-preserved
loop-part-preserved c =
    let i = c.loop-part.part-index in
    let rest = parsed c.args.names.now c.args.line (map (λ w. w.now) (drop (i + 1) c.args.parts.now)) in
    record {
      reads =
          ap (λ ps. before (map (λ p. p.items) ps) rest) c.in_ok-push.ensures.items
          ∙ ap (λ ps. before ps rest) (map-append (λ p. p.items) c.loop-part.programs.items _)
          ∙ each_goes_on _ _ (reads_parsed c.args.names.now c.args.line) _ _ (λ w. w.now) c.args.parts.now i c.loop-part.invariant.reads _ c.loop-part-test.true _ c.in_ok-parse_part.ensures.reads;
      of = search rules;
      wide = search rules;
    }

pub returns-clause-reads : goal.returns-clause-reads
returns-clause-reads c =
    each_ends _ _ (reads_parsed c.args.names.now c.args.line) _ _ (λ w. w.now) c.args.parts.now c.loop-part.part-index c.loop-part.invariant.reads c.loop-part-test.false
