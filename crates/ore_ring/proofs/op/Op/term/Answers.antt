use Rattle.std.proofs.Common.{◌≡◌, sym, ap, ◌∙◌, subst}
use Rattle.ore_algebra.specs.Free.{single, plus}
use Rattle.ore_monomial.specs.Monomial.{plain_cmp}
use Rattle.ore_monomial.specs.LetterRule.{Operator}
use Rattle.ore_monomial.proofs.Operators
use Rattle.ore_rational.specs.Field.{rationals}
use Rattle.ore_ring.specs.Terms.{IsBelowLast, falling}
use Rattle.ore_ring.proofs.Falls.{falling-none}
use Rattle.ore_ring.specs.Ordered.{Ordered}
use Rattle.ore_ring.proofs.op.Op.term.Goals as goal

more : Operator rationals → Ordered → Ordered
more f v = record { by = v.by; sum = plus rationals plain_cmp v.sum f }

pub push-requires-clause-below : goal.push-requires-clause-below
push-requires-clause-below c =
    let o = c.args.order in
    subst (λ v. IsBelowLast v.by (falling v.by v.sum) c.args.exps) (sym c.in_ok-made.ensures) (subst (λ ts. IsBelowLast o ts c.args.exps) (sym (falling-none o)) tt)

pub returns-then-is_zero : goal.returns-then-is_zero
returns-then-is_zero c =
    let e = sym (ap (single rationals plain_cmp c.args.exps) (c.is_zero.ensures.0 c.if-is_zero.true) ∙ Operators.single_zero rationals c.args.exps) in
    c.zero.ensures ∙ (λ i. record { by = c.args.order; sum = e i })

pub returns : goal.returns
unfolding more
returns c =
    let one = single rationals plain_cmp c.args.exps c.args.coef in
    let h : c.push.new.self ≡ record { by = c.in_ok-made.made.by; sum = plus rationals plain_cmp c.in_ok-made.made.sum one } = c.in_ok-push.ensures.ok in
    let e = Operators.zero-plus rationals one in
    h ∙ ap (more one) c.in_ok-made.ensures ∙ (λ i. record { by = c.args.order; sum = e i })
