use Rattle.std.proofs.Common.{map, sym, ap, ◌∙◌, rules}
use Rattle.std.proofs.lemmas.Result.{err_from_is_err_and}
use Rattle.ore_problem.specs.Problems.{is_matrix, declared_frame}
use Rattle.ore_problem.specs.Reader.{cursor_of}
use Rattle.ore_problem.proofs.DeclarationLemmas.{declarations_stop, declarations_end, declarations_fail, declarations_more}
use Rattle.ore_problem.proofs.ReadLemmas.{fault_reads_like}
use Rattle.ore_problem.proofs.header.declarations.Goals as goal

pub returns-in_err-line-clause-reads : goal.returns-in_err-line-clause-reads
returns-in_err-line-clause-reads c =
    let p = err_from_is_err_and c.from_residual.result c.from_residual.ensures.1 in
    rw (p.1, p.2) (fault_reads_like _ _ _ _ (declarations_stop c.loop-line.frame (cursor_of c.loop-line.lines) _ c.loop-line.invariant.reads) c.in_err-line.ensures.reads)

pub returns-then-is_matrix-clause-reads : goal.returns-then-is_matrix-clause-reads
returns-then-is_matrix-clause-reads c =
    let tested = ap (λ ws. is_matrix (map (λ w. w.now) ws)) (sym c.deref.ensures.value) ∙ sym c.if-is_matrix.ensures in
    declarations_end c.loop-line.frame (cursor_of c.loop-line.lines) _ c.loop-line.invariant.reads _ (cursor_of c.due.new.self) _ c.in_ok-line.ensures.reads c.in_ok-words.ensures tested

pub returns-in_err-declare-clause-reads : goal.returns-in_err-declare-clause-reads
returns-in_err-declare-clause-reads c =
    let p = err_from_is_err_and c.from_residual-in_err-declare.result c.from_residual-in_err-declare.ensures.1 in
    let tested = ap (λ ws. is_matrix (map (λ w. w.now) ws)) (sym c.deref.ensures.value) ∙ sym c.if-is_matrix.ensures in
    let same =
    ap (λ n. declared_frame c.loop-line.frame n (map (λ w. w.now) c.deref-in-loop-line.result.now)) c.line.ensures
    ∙ ap (λ ws. declared_frame c.loop-line.frame c.due.new.self.line (map (λ w. w.now) ws)) c.deref-in-loop-line.ensures.value
    in
    rw (p.1, p.2) (fault_reads_like _ _ _ _
    (λ e h. declarations_fail c.loop-line.frame (cursor_of c.loop-line.lines) _ c.loop-line.invariant.reads _ (cursor_of c.due.new.self) _ c.in_ok-line.ensures.reads c.in_ok-words.ensures tested e (sym same ∙ h))
    c.in_err-declare.ensures)

pub loop-line-preserved : goal.loop-line-preserved
loop-line-preserved c =
    let tested = ap (λ ws. is_matrix (map (λ w. w.now) ws)) (sym c.deref.ensures.value) ∙ sym c.if-is_matrix.ensures in
    let same =
    ap (λ n. declared_frame c.loop-line.frame n (map (λ w. w.now) c.deref-in-loop-line.result.now)) c.line.ensures
    ∙ ap (λ ws. declared_frame c.loop-line.frame c.due.new.self.line (map (λ w. w.now) ws)) c.deref-in-loop-line.ensures.value
    in
    record {
      reads = declarations_more c.loop-line.frame (cursor_of c.loop-line.lines) _ c.loop-line.invariant.reads _ (cursor_of c.due.new.self) _ c.in_ok-line.ensures.reads c.in_ok-words.ensures tested c.declare.new.self (sym same ∙ c.in_ok-declare.ensures);
      same = search rules;
    }
