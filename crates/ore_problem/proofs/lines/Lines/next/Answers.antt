use Rattle.std.proofs.Common.{sym, ap, ◌∙◌, drop, take, ◌-◌, length, ◌∷◌, ◌+◌}
use Rattle.ore_problem.specs.Lines.{raw_lines}
use Rattle.ore_problem.proofs.LineLemmas.{raw_lines-drop, raw_lines_end, nothing_left, something_left}
use Rattle.ore_problem.proofs.lines.Lines.next.Goals as goal

pub returns-then-is_empty-clause-lines : goal.returns-then-is_empty-clause-lines
returns-then-is_empty-clause-lines c =
    ap (λ p. raw_lines (drop p.used p.text)) (sym c.self.view_is)
    ∙ raw_lines_end c.self.inside.text.now c.self.inside.used (nothing_left c.self.inside.text.now c.self.inside.used (sym c.is_empty.ensures ∙ c.if-is_empty.true))

pub returns-clause-lines : goal.returns-clause-lines
returns-clause-lines c =
    let some = something_left c.self.inside.text.now c.self.inside.used (sym c.is_empty.ensures ∙ c.if-is_empty.false) in
    let rest = take (length c.self.inside.text.now - c.self.inside.used) (drop c.self.inside.used c.self.inside.text.now) in
    ap (λ p. raw_lines (drop p.used p.text)) (sym c.self.view_is)
    ∙ raw_lines-drop c.self.inside.text.now c.self.inside.used some
    ∙ ap (λ n. take n rest ∷ raw_lines (drop (c.self.inside.used + n) c.self.inside.text.now)) (sym c.line_length-len.ensures.value)
