use Rattle.std.proofs.Common.{◌≡◌, ◌+◌, ◌<◌, ℕ, List, length, slice_get, [], ◌∷◌, ◌++◌, take, sym, ap, ◌∙◌, subst, refl, None, Some}
use Rattle.std.specs.Prelude.{MatchOption}
use Rattle.std.proofs.lemmas.List.{take_more}
use Rattle.std.proofs.lemmas.Option.{get_or_from_slice_get}
use Rattle.ore_algebra.specs.Free.{empty_sum}
use Rattle.ore_rational.specs.Field.{rationals}
use Rattle.ore_monomial.specs.Monomial.{plain_cmp}
use Rattle.ore_monomial.specs.declared.order.Order.{Order}
use Rattle.ore_ring.specs.Belongs.{Belongs}
use Rattle.ore_ring.specs.Lead.{IsLead}
use Rattle.ore_ring.specs.Ordered.{Ordered}
use Rattle.ore_rows.specs.LeadFound.{IsLeadFound, greater_found}
use Rattle.ore_rows.proofs.Dots.{all_at}
use Rattle.ore_rows.proofs.LeadSteps.{found_next}
use Rattle.ore_rows.proofs.lead.found_with.Goals as goal

one_more : (r : List Ordered) (k : ℕ) (e : Ordered) → k < length r → slice_get r k ≡ Some e → take (k + 1) r ≡ take k r ++ e ∷ []
one_more r k e h f = take_more r k e h ∙ ap (λ x. take k r ++ x ∷ []) (get_or_from_slice_get r k e e f)

pub returns-then-is_zero : goal.returns-then-is_zero
returns-then-is_zero c =
    let e = c.entry-entry.result.now in
    found_next c.args.sig.now.order c.args.row.now e c.args.before c.args.k None c.requires.within (one_more c.args.row.now c.args.k e c.requires.within c.entry-entry.ensures) c.requires.before (c.if-is_zero.ensures.0 refl)

pub returns : goal.returns
returns c =
    let s = c.args.sig.now in
    let r = c.args.row.now in
    let k = c.args.k in
    let e = c.entry-entry.result.now in
    let of = all_at (Belongs s) r k e c.entry-entry.ensures c.requires.row_of in
    subst (IsLeadFound s.order (take (k + 1) r)) (ap (λ (o : Order). greater_found o c.args.before k c.lead.result) (sym c.order.ensures) ∙ sym c.greater.ensures)
    (found_next s.order r e c.args.before k c.lead.result c.requires.within (one_more r k e c.requires.within c.entry-entry.ensures) c.requires.before
    (subst (λ (o : Order). MatchOption c.lead.result (e.sum ≡ empty_sum rationals plain_cmp) (λ t. IsLead rationals o e.sum t.0 t.1)) of.order c.lead.ensures))
