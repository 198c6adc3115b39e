use Rattle.std.proofs.Common.{◌≡◌, rules, ap, sym, ◌∙◌, true≢false}
use denote.Enum.Bare.{same_true, same_false}
use Rattle.ore_algebra.specs.Free.{collect}
use Rattle.ore_rational.specs.Field.{rationals}
use Rattle.ore_monomial.specs.contracts.order.Order.{the_type}
use Rattle.ore_monomial.specs.Monomial.{plain_cmp}
use Rattle.ore_ring.specs.Terms.{falling}
use Rattle.ore_ring.proofs.StoredOp.{stored_terms, Decides-terms}
use Rattle.ore_ring.proofs.op.Op.equal.Goals as goal

pub returns-then-eq : goal.returns-then-eq
returns-then-eq c =
    let ts = c.self.inside.terms.items in
    let us = c.other.inside.terms.items in
    let d = Decides-terms ts us in
    let o : c.args.self.now.by ≡ c.args.other.now.by = ap (λ v. v.by) (sym c.self.view_is) ∙ same_true the_type (search rules) _ _ (sym c.if-eq.ensures) ∙ ap (λ v. v.by) c.other.view_is in (
      λ e. let s = ap (λ v. v.sum) (sym c.self.view_is) ∙ ap (collect rationals plain_cmp) (d.0 (sym c.eq-then-eq.ensures ∙ e)) ∙ ap (λ v. v.sum) c.other.view_is in
          λ i. record { by = o i; sum = s i },
      λ e. c.eq-then-eq.ensures ∙ d.1 (sym (stored_terms c.self.inside.order ts c.args.self.now c.self.view_is c.self.invariant) ∙ ap (λ v. falling v.by v.sum) e ∙ stored_terms c.other.inside.order us c.args.other.now c.other.view_is c.other.invariant),
    )

pub returns-else-eq : goal.returns-else-eq
returns-else-eq c = (
  λ e. absurd (true≢false (sym e ∙ c.if-eq.false)),
  λ e. absurd (same_false the_type _ _ (sym c.if-eq.ensures) (ap (λ v. v.by) (c.self.view_is ∙ e ∙ sym c.other.view_is))),
)
