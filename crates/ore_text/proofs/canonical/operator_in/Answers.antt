use Rattle.std.proofs.Common.{refl, sym, ap, ◌∙◌, subst}
use Rattle.ore_ring.proofs.Belonging.{of_none}
use Rattle.ore_rational.specs.Field.{rationals}
use Rattle.ore_text.specs.CanonicalText.{operator_text}
use Rattle.ore_text.specs.Printable.{IsPrintable}
use Rattle.ore_text.proofs.ZeroText.{zero_printable, zero_spelled, zero_alone}
use Rattle.ore_ring.specs.Belongs.{OperatorOf}
use Rattle.ore_text.proofs.canonical.operator_in.Goals as goal

pub returns-then-is_zero-clause-found : goal.returns-then-is_zero-clause-found
returns-then-is_zero-clause-found c =
    let a = c.args.algebra.now in
    let s = a.signature.now in
    let names = a.names.now in
    let same = ap (λ g. g.sum) (sym c.zero.ensures) in
    (subst (IsPrintable s names) same (zero_printable s names a.form a.count), c.if-is_zero.ensures refl ∙ sym (zero_spelled s names s.order) ∙ ap (operator_text names s.order) same)

pub returns-then-is_zero-clause-of : goal.returns-then-is_zero-clause-of
returns-then-is_zero-clause-of c =
    let s = c.args.algebra.now.signature.now in
    record { order = ap (λ g. g.by) c.zero.ensures ∙ c.order.ensures; variables = subst (OperatorOf rationals s) (ap (λ g. g.sum) (sym c.zero.ensures)) (of_none rationals s) }

pub returns-then-is_zero-clause-only : goal.returns-then-is_zero-clause-only
returns-then-is_zero-clause-only c f p e =
    let a = c.args.algebra.now in
    ap (λ g. g.sum) c.zero.ensures ∙ zero_alone a.signature.now a.names.now a.form a.count c.args.text.now (c.if-is_zero.ensures refl) f p e
