use Rattle.std.proofs.Common.{◌++◌, inr, ◌∙◌, append_assoc}
use Rattle.std.specs.Prelude.{codes}
use Rattle.std.proofs.lemmas.Result.{IfOk-weaker}
use Rattle.ore_text.specs.CanonicalText.{sign_text, term_text}
use Rattle.ore_text.proofs.CanonicalReading.{rest_at-drop, drop_rest}
use Rattle.ore_text.proofs.Known.{same_some}
use Rattle.ore_text.proofs.canonical.take_later.Goals as goal

pub returns-clause-only : goal.returns-clause-only
returns-clause-only c =
    IfOk-weaker c.take_term.result _ _
    (λ o h t tail good end below e.
    let s = c.later_sign.ensures.only t.1.num (term_text c.args.algebra.now.names.now t ++ tail) (rest_at-drop c.args.at c.args.text.now ∙ e ∙ append_assoc (sign_text t.1.num (codes " + ") (codes " - ")) (term_text c.args.algebra.now.names.now t) tail) in
    h t tail good end (same_some c.in-Some.is s.0) (inr below) (drop_rest c.args.at 3 c.args.text.now ∙ s.1))
    c.take_term.ensures.only
