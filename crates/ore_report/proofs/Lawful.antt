-- What the chooser answers against what the rule allows and what a run may do.
--     treat_allowed, skip_allowed, spent_allowed     what the rule allows
--     treat_answer                the next pair is treated, or the budget is spent
--     skip_answer                 the next pair is skipped
--     next_pair_answer              one of both, as a third row lets it
use Rattle.std.proofs.Common.{◌≡◌, ℕ, true, List, length, refl, sym, ap, ◌∙◌, subst, arith}
use Rattle.std.specs.Prelude.{◌&&◌, nat_eq, is_none}
use Rattle.std.specs.Option.{option_eq}
use Rattle.std.specs.declared.option.Option.{Option}
use Rattle.std.specs.declared.option.Option.TheVariants.{None, Some}
use Rattle.std.proofs.lemmas.Bool.Decides.{nat_tests}
use Rattle.std.proofs.lemmas.Bool.{and_from}
use Rattle.ore_monomial.specs.Term.{Term}
use Rattle.ore_rows.specs.Reduction.{leads_of}
use Rattle.ore_rows.specs.StoredBasis.{StoredBasis}
use Rattle.ore_rows.specs.declared.choices.Choice.{Choice}
use Rattle.ore_rows.specs.declared.choices.Choice.TheVariants.{Treat, Skip}
use Rattle.ore_pairs.specs.PairRule.{may_treat, is_lawful}
use Rattle.ore_pairs.proofs.SomePair.{pair_some}
use Rattle.ore_groebner.specs.Choosing.{IsWithinBudget, IsChooserAnswer}
use Rattle.ore_groebner.specs.Rules.{IsAllowed}
use Rattle.ore_groebner.specs.BasisLeads.{BasisLeads, basis_leads}
use Rattle.ore_groebner.specs.declared.chooser.Next.{Next}
use Rattle.ore_groebner.specs.declared.chooser.Next.TheVariants.{Choose, Complete, Spent, NoLawful}
use Rattle.ore_report.specs.ChainRule.{order_shown, is_next, least_via, chain_allows, chain_allows_spent}
use Rattle.ore_report.specs.Live.{IsTreatmentAnswer, IsNextPairAnswer, live_settings}
use Rattle.ore_report.proofs.Nexts.{next_from, next_within}
use Rattle.ore_report.proofs.Vias.{via_is}

-- ---- what the rule allows

itself : (n : ℕ) → nat_eq n n ≡ true
itself n = grind (arith, nat_tests)

module _ (shown : BasisLeads) (ps : List (ℕ × ℕ)) (i j : ℕ) (next : is_next (order_shown shown) shown.leads ps i j ≡ true) where
  pub treat_allowed : None ≡ least_via shown.leads ps i j → chain_allows shown ps (Treat i j) ≡ true
  treat_allowed e = and_from (is_next (order_shown shown) shown.leads ps i j) (is_none (least_via shown.leads ps i j)) next (ap is_none (sym e))

  pub skip_allowed : (via : ℕ) → Some via ≡ least_via shown.leads ps i j → chain_allows shown ps (Skip i j via) ≡ true
  skip_allowed via e = and_from (is_next (order_shown shown) shown.leads ps i j) (option_eq nat_eq (least_via shown.leads ps i j) (Some via)) next (ap (λ o. option_eq nat_eq o (Some via)) (sym e) ∙ itself via)

  pub spent_allowed : chain_allows shown ps (Treat i j) ≡ true → chain_allows_spent shown ps ≡ true
  spent_allowed h =
      let inside = next_within (order_shown shown) shown.leads ps i j next in
      pair_some (length shown.leads) (λ x y. chain_allows shown ps (Treat x y)) i j inside.0 inside.1 h

-- ---- what a run may do

module _ (basis : StoredBasis) (ps : List (ℕ × ℕ)) where
  abbrev leads : List Term
  leads = leads_of basis.items

  abbrev shown : BasisLeads
  shown = basis_leads basis

  module _ (given : List (List Choice)) (budget i j : ℕ) (next : is_next (order_shown shown) leads ps i j ≡ true) where
    may_choose : may_treat leads ps i j ≡ true
    may_choose = (next_from (order_shown shown) leads ps i j next).may

    treat_answer : None ≡ least_via leads ps i j → (x : Next) → IsTreatmentAnswer given budget i j x → IsChooserAnswer leads ps given (live_settings budget) x × IsAllowed chain_allows chain_allows_spent shown ps x
    unfolding is_lawful
    treat_answer e (Choose c) h = subst (λ d. ((is_lawful leads ps d ≡ true) × IsWithinBudget given budget d) × (chain_allows shown ps d ≡ true)) (sym h.0) ((may_choose, h.1), treat_allowed shown ps i j next e)
    treat_answer e Complete h = absurd h
    treat_answer e Spent h = (((i, j, may_choose), refl, h), spent_allowed shown ps i j next (treat_allowed shown ps i j next e))
    treat_answer e NoLawful h = absurd h

    skip_answer : (via : ℕ) → Some via ≡ least_via leads ps i j → (x : Next) → x ≡ Choose (Skip i j via) → IsChooserAnswer leads ps given (live_settings budget) x × IsAllowed chain_allows chain_allows_spent shown ps x
    unfolding is_lawful
    skip_answer via e x h = subst (λ y. IsChooserAnswer leads ps given (live_settings budget) y × IsAllowed chain_allows chain_allows_spent shown ps y) (sym h) (((λ n. may_choose n && (via_is leads ps i j via (sym e)).1 n, tt)), skip_allowed shown ps i j next via e)

    pub next_pair_answer : (via : Option ℕ) → via ≡ least_via leads ps i j → (x : Next) → IsNextPairAnswer given budget i j via x → IsChooserAnswer leads ps given (live_settings budget) x × IsAllowed chain_allows chain_allows_spent shown ps x
    next_pair_answer None e x h = treat_answer e x h
    next_pair_answer (Some via) e x h = skip_answer via e x h
