use Rattle.std.proofs.Common.{◌≡◌, ◌-◌, suc, length, sym, ap, ◌∙◌, is_lt, arith}
use Rattle.std.specs.declared.cmp.Ordering.{Ordering}
use Rattle.std.specs.declared.cmp.Ordering.TheVariants.{Less, Equal, Greater}
use Rattle.std.specs.Prelude.{true}
use Rattle.ore_monomial.specs.Monomial.{order_cmp}
use Rattle.ore_text.specs.CanonicalParts.{falling_terms}
use Rattle.ore_text.proofs.Appending.{below_last, not_past}
use Rattle.ore_text.proofs.canonical.is_below_last.Goals as goal

is_less : (r : Ordering) → is_lt r ≡ true → r ≡ Less
is_less Less e = Rattle.std.proofs.Common.refl
is_less Equal e = absurd (Rattle.std.proofs.Common.true≢false (sym e))
is_less Greater e = absurd (Rattle.std.proofs.Common.true≢false (sym e))

pub returns-in-Some : goal.returns-in-Some
returns-in-Some c =
    let ts = falling_terms c.args.op.now in
    let place : suc (c.len-count.result - 1) ≡ length ts = (let a = c.len-count.ensures in let b = c.if-count-eq0.false in omega arith) in
    let below = below_last c.args.op.now.by (c.len-count.result - 1) ts c.in-Some.last c.args.exps.now place (sym c.get.ensures ∙ c.in-Some.is) in
    let r : c.compare.result ≡ order_cmp c.args.op.now.by c.args.exps.now c.in-Some.last.0 = c.compare.ensures ∙ ap (λ o. order_cmp o c.args.exps.now c.in-Some.last.0) c.order.ensures in (
      λ e. below.0 (sym r ∙ is_less _ (sym c.is_lt.ensures ∙ e)),
      λ h. c.is_lt.ensures ∙ ap is_lt (r ∙ below.1 h),
    )

pub returns-in-None : goal.returns-in-None
returns-in-None c =
    let ts = falling_terms c.args.op.now in
    let place : suc (c.len-count.result - 1) ≡ length ts = (let a = c.len-count.ensures in let b = c.if-count-eq0.false in omega arith) in
    absurd (not_past (c.len-count.result - 1) ts place (sym c.get.ensures ∙ c.in-None.is))
