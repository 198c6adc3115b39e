use Rattle.std.proofs.Common.{ℕ, List, suc, ◌+◌, ◌≡◌, sym, ap, ◌∙◌, rules, arith}
use Rattle.std.specs.declared.result.Result.TheVariants.{Ok, Err}
use Rattle.ore_problem.specs.declared.fault.ProblemReason.TheVariants.{NoEnd}
use Rattle.ore_problem.specs.Lines.{Cursor}
use Rattle.ore_problem.specs.Problems.{Read}
use Rattle.ore_problem.specs.Reader.{cursor_of}
use Rattle.ore_problem.proofs.LineLemmas.{line_due_at_comment, line_due_at_line, line_due_at_end}
use Rattle.ore_problem.proofs.lines.Lines.due.Goals as goal

pub returns-then-not-is_comment-clause-reads : goal.returns-then-not-is_comment-clause-reads
returns-then-not-is_comment-clause-reads c =
    let found : List ℕ → Read (List ℕ × Cursor) = λ line. Ok (line, cursor_of c.next.new.self) in
    let raw = c.in-Some.ensures in
    sym c.loop-raw.invariant.due
    ∙ line_due_at_line c.loop-raw.self c.next.new.self c.in-Some.raw.now raw.lines raw.line raw.used (sym c.if-not-is_comment.ensures)
    ∙ ap found (sym c.content.ensures)

pub loop-raw-preserved : goal.loop-raw-preserved
loop-raw-preserved c =
    let raw = c.in-Some.ensures in
    record {
      due = sym (line_due_at_comment c.loop-raw.self c.next.new.self c.in-Some.raw.now raw.lines raw.line raw.used (sym c.if-not-is_comment.ensures)) ∙ c.loop-raw.invariant.due;
      same = search rules;
      goes_on = omega (arith, raw.bytes, c.loop-raw.invariant.goes_on);
    }

pub returns-clause-reads : goal.returns-clause-reads
returns-clause-reads c =
    let fault : ℕ → Read (List ℕ × Cursor) = λ line. Err (record { line = line; reason = NoEnd }) in
    let same : suc c.loop-raw.self.line ≡ c.self.inside.line + 1 = omega (arith, c.in_default.ensures.line, ap (λ p. p.line) c.self.view_is) in
    sym c.loop-raw.invariant.due ∙ line_due_at_end c.loop-raw.self c.in_default.ensures.lines ∙ ap fault same
