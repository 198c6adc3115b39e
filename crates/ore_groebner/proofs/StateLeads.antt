-- What a chooser is shown of the progress.
--     order_in-kept      the order of basis rows that belong to a signature
--     grown_shown        a longer basis begins with what was shown
--     order_of_state     the order that is shown of a state
--     state_leads-state     what is shown of the state is what is shown of the basis
use Rattle.std.proofs.Common.{◌≡◌, ◌≢◌, List, [], ◌∷◌, ◌++◌, map, refl, sym, ap, ◌∙◌, subst}
use Rattle.std.specs.declared.option.Option.{Option}
use Rattle.std.specs.declared.option.Option.TheVariants.{None, Some}
use Rattle.std.specs.List.{All}
use Rattle.std.proofs.lemmas.List.{map-append}
use Rattle.std.proofs.lemmas.List.Elements.{All-nil, All-head}
use Rattle.ore_algebra.specs.Free.{empty_sum}
use Rattle.ore_rational.specs.Field.{rationals}
use Rattle.ore_monomial.specs.Monomial.{plain_cmp}
use Rattle.ore_monomial.specs.Signature.{Signature}
use Rattle.ore_monomial.specs.declared.order.Order.{Order}
use Rattle.ore_ring.specs.Belongs.{Belongs}
use Rattle.ore_ring.specs.Ordered.{Ordered}
use Rattle.ore_rows.specs.Reduction.{BasisRow, IsMonic, AreMonic, leads_of}
use Rattle.ore_rows.specs.RowLead.{IsRowLead}
use Rattle.ore_rows.specs.Rows.{Row}
use Rattle.ore_rows.specs.Stored.{OperatorMatrix, sums_of}
use Rattle.ore_rows.specs.StoredBasis.{BasisBelongs, HaveLeads, monic_of, monics}
use Rattle.ore_rows.proofs.BasisParts.{leads_monics}
use Rattle.ore_rows.proofs.StoredBases.{are_monic, no_lead_of_zeros}
use Rattle.ore_groebner.specs.Honest.{state_leads}
use Rattle.ore_groebner.specs.RunProgress.{run_state, IsProgressOf}
use Rattle.ore_groebner.specs.BasisLeads.{order_in, basis_leads, BeginsWithLeads}
use Rattle.ore_groebner.specs.declared.progress.Progress.{Progress}

module _ (s : Signature) where
  order_in-kept : (items : List (BasisRow (List Ordered))) → BasisBelongs s items → AreMonic rationals s.order (map monic_of items) → leads_of items ≢ [] → order_in items ≡ Some s.order
  order_in-kept [] belongs monic h = absurd (h refl)
  order_in-kept (b ∷ items) belongs monic h = by b.row refl
    where
      by : (row : List Ordered) → b.row ≡ row → ◌≡◌ {A = Option Order} (elim row [ [] ↦ None | f ∷ fs ↦ Some f.by ]) (Some s.order)
      by [] e = absurd (no_lead_of_zeros s.order [] b.lead rationals.one (All-nil (λ (f : Ordered). f.sum ≡ empty_sum rationals plain_cmp)) (subst (λ (r : List Ordered). IsRowLead rationals s.order (sums_of r) b.lead rationals.one) e (All-head (IsMonic rationals s.order) (monic_of b) (map monic_of items) monic)))
      by (f ∷ fs) e = ap Some (All-head (Belongs s) f fs (subst (All (Belongs s)) e (All-head (λ (b : BasisRow (List Ordered)). All (Belongs s) b.row × All (Belongs s) b.cofactor) b items belongs).0)).order

  nil_front : {X : Type 0} (xs ys : List X) → xs ++ ys ≡ [] → xs ≡ []
  nil_front [] ys e = refl
  nil_front (x ∷ xs) ys e = absurd (cons_nil e)
    where
      cons_nil : {X : Type 0} {x : X} {xs : List X} → x ∷ xs ≡ [] → ⊥
      cons_nil e = cc

  pub grown_shown : (p q : Progress) (rest : List (BasisRow (Row rationals))) → IsProgressOf s p → IsProgressOf s q → HaveLeads p.basis.items → HaveLeads q.basis.items → monics q.basis ≡ monics p.basis ++ rest → BeginsWithLeads (basis_leads p.basis) q.basis
  grown_shown p q rest before after leads_before leads_after e = ((leads_of rest, leads), λ n. order_in-kept q.basis.items after.belongs (are_monic s q.basis after.belongs leads_after) (λ z. n (nil_front _ _ (sym leads ∙ z))) ∙ sym (order_in-kept p.basis.items before.belongs (are_monic s p.basis before.belongs leads_before) n))
    where
      leads : leads_of q.basis.items ≡ leads_of p.basis.items ++ leads_of rest
      leads =
          sym (leads_monics q.basis.items)
          ∙ ap (λ (bs : List (BasisRow (Row rationals))). leads_of bs) e
          ∙ map-append (λ (b : BasisRow (Row rationals)). b.lead) (monics p.basis) rest
          ∙ ap (λ ts. ts ++ leads_of rest) (leads_monics p.basis.items)

  order_of_state : (items : List (BasisRow (List Ordered))) → BasisBelongs s items → AreMonic rationals s.order (map monic_of items) → ◌≡◌ {A = Option Order} (elim (map monic_of items) [ [] ↦ None | b ∷ bs ↦ Some s.order ]) (order_in items)
  order_of_state [] belongs monic = refl
  order_of_state (b ∷ items) belongs monic = sym (order_in-kept (b ∷ items) belongs monic cons_nil)
    where
      cons_nil : {X : Type 0} {x : X} {xs : List X} → x ∷ xs ≡ [] → ⊥
      cons_nil e = cc

  pub state_leads-state : (a : OperatorMatrix) (p : Progress) → IsProgressOf s p → HaveLeads p.basis.items → state_leads s (run_state p) ≡ basis_leads p.basis
  state_leads-state a p fits have = λ n. record { order = order_of_state p.basis.items fits.belongs (are_monic s p.basis fits.belongs have) n; leads = leads_monics p.basis.items n }
