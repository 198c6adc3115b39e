use Rattle.std.proofs.Common.{map, sym, ap, ◌∙◌}
use Rattle.std.specs.declared.result.Result.TheVariants.{Ok}
use Rattle.std.proofs.lemmas.Result.{err_from_is_err_and}
use Rattle.ore_rows.specs.Stored.{OperatorMatrix, rows_of}
use Rattle.ore_problem.specs.Lines.{Cursor}
use Rattle.ore_problem.specs.Problems.{System, Read, Frame, declarations_of, sizes_of}
use Rattle.ore_problem.specs.Reader.{cursor_of}
use Rattle.ore_problem.specs.Stored.{system_of}
use Rattle.ore_problem.proofs.ReadLemmas.{fault_reads_like}
use Rattle.ore_problem.proofs.ProblemLemmas.{stops_at_declarations, stops_at_sizes, stops_at_rows, stops_at_end, problem_is}
use Rattle.ore_problem.proofs.read.problem_in.Goals as goal

pub returns-in_err-words-clause-reads : goal.returns-in_err-words-clause-reads
returns-in_err-words-clause-reads c =
    let p = err_from_is_err_and c.from_residual-in_err-words.result c.from_residual-in_err-words.ensures.1 in
    let from = cursor_of c.order.new.lines in
    let made = ap (λ (f : Frame). declarations_of f from.line from.used from.left) c.new-frame.ensures in
    rw (p.1, p.2) (fault_reads_like _ _ _ _
    (λ e h. stops_at_declarations (cursor_of c.args.lines.now) (cursor_of c.header.new.lines) from c.in_ok-order.order c.in_ok-header.ensures.reads c.in_ok-order.ensures.reads e (sym made ∙ h))
    c.in_err-words.ensures.reads)

pub returns-in_err-row_count-clause-reads : goal.returns-in_err-row_count-clause-reads
returns-in_err-row_count-clause-reads c =
    let p = err_from_is_err_and c.from_residual-in_err-row_count.result c.from_residual-in_err-row_count.ensures.1 in
    let from = cursor_of c.order.new.lines in
    let made = ap (λ (f : Frame). declarations_of f from.line from.used from.left) c.new-frame.ensures in
    let same =
    ap (λ n. sizes_of n (map (λ w. w.now) c.deref.result.now)) c.line.ensures
    ∙ ap (λ ws. sizes_of c.declarations.new.lines.line (map (λ w. w.now) ws)) c.deref.ensures.value
    in
    rw (p.1, p.2) (fault_reads_like _ _ _ _
    (λ e h. stops_at_sizes (cursor_of c.args.lines.now) (cursor_of c.header.new.lines) from c.in_ok-order.order c.in_ok-header.ensures.reads c.in_ok-order.ensures.reads
    _ (sym made ∙ c.in_ok-words.ensures.reads) e (sym same ∙ h))
    c.in_err-row_count.ensures.reads)

pub returns-in_err-rows-clause-reads : goal.returns-in_err-rows-clause-reads
returns-in_err-rows-clause-reads c =
    let p = err_from_is_err_and c.from_residual-in_err-rows.result c.from_residual-in_err-rows.ensures.1 in
    let from = cursor_of c.order.new.lines in
    let made = ap (λ (f : Frame). declarations_of f from.line from.used from.left) c.new-frame.ensures in
    let same =
    ap (λ n. sizes_of n (map (λ w. w.now) c.deref.result.now)) c.line.ensures
    ∙ ap (λ ws. sizes_of c.declarations.new.lines.line (map (λ w. w.now) ws)) c.deref.ensures.value
    in
    rw (p.1, p.2) (fault_reads_like _ _ _ _
    (stops_at_rows (cursor_of c.args.lines.now) (cursor_of c.header.new.lines) from c.in_ok-order.order c.in_ok-header.ensures.reads c.in_ok-order.ensures.reads
    _ (sym made ∙ c.in_ok-words.ensures.reads) _ _ (sym same ∙ c.in_ok-row_count.ensures.reads))
    c.in_err-rows.ensures.reads)

pub returns-in_err-end-clause-reads : goal.returns-in_err-end-clause-reads
returns-in_err-end-clause-reads c =
    let p = err_from_is_err_and c.from_residual-in_err-end.result c.from_residual-in_err-end.ensures.1 in
    let from = cursor_of c.order.new.lines in
    let made = ap (λ (f : Frame). declarations_of f from.line from.used from.left) c.new-frame.ensures in
    let same =
    ap (λ n. sizes_of n (map (λ w. w.now) c.deref.result.now)) c.line.ensures
    ∙ ap (λ ws. sizes_of c.declarations.new.lines.line (map (λ w. w.now) ws)) c.deref.ensures.value
    in
    rw (p.1, p.2) (fault_reads_like _ _ _ _
    (stops_at_end (cursor_of c.args.lines.now) (cursor_of c.header.new.lines) from c.in_ok-order.order c.in_ok-header.ensures.reads c.in_ok-order.ensures.reads
    _ (sym made ∙ c.in_ok-words.ensures.reads) _ _ (sym same ∙ c.in_ok-row_count.ensures.reads) _ (cursor_of c.rows.new.lines) c.in_ok-rows.ensures.reads)
    c.in_err-end.ensures.reads)

pub returns-clause-reads : goal.returns-clause-reads
returns-clause-reads c =
    let from = cursor_of c.order.new.lines in
    let made = ap (λ (f : Frame). declarations_of f from.line from.used from.left) c.new-frame.ensures in
    let same =
    ap (λ n. sizes_of n (map (λ w. w.now) c.deref.result.now)) c.line.ensures
    ∙ ap (λ ws. sizes_of c.declarations.new.lines.line (map (λ w. w.now) ws)) c.deref.ensures.value
    in
    let done : System → Read (System × Cursor) = λ p. Ok (p, cursor_of c.end.new.lines) in
    let frame = c.declarations.new.frame in
    let filled : OperatorMatrix → System = λ m. record { names = frame.names; signature = frame.signature; cols = m.cols; rows = rows_of m } in
    problem_is (cursor_of c.args.lines.now) (cursor_of c.header.new.lines) from c.in_ok-order.order c.in_ok-header.ensures.reads c.in_ok-order.ensures.reads
    _ (sym made ∙ c.in_ok-words.ensures.reads) _ _ (sym same ∙ c.in_ok-row_count.ensures.reads) _ (cursor_of c.rows.new.lines) c.in_ok-rows.ensures.reads
    (cursor_of c.end.new.lines) c.in_ok-end.ensures.reads
    ∙ sym (ap done (ap system_of c.into_problem.ensures.value ∙ ap filled c.from_rows.ensures))
