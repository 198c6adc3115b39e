-- What a chooser may answer depends on which pairs are listed, not on their order.
--     answer_same     what is known of an answer
use Rattle.std.proofs.Common.{◌≡◌, ℕ, false, List, sym, ◌∙◌}
use Rattle.std.specs.Prelude.{IfSome}
use Rattle.std.specs.declared.option.Option.{Option}
use Rattle.std.specs.declared.option.Option.TheVariants.{None, Some}
use Rattle.ore_monomial.specs.Term.{Term}
use Rattle.ore_rows.specs.declared.choices.Choice.{Choice}
use Rattle.ore_pairs.specs.PairRule.{HaveSamePairs, HasUnlisted, is_lawful}
use Rattle.ore_pairs.proofs.PairRuleLaws.{treat_same, lawful_same}
use Rattle.ore_groebner.specs.Choosing.{next_kept, Settings, IsChooserAnswer}
use Rattle.ore_groebner.specs.declared.chooser.Next.{Next}
use Rattle.ore_groebner.specs.declared.chooser.Next.TheVariants.{Choose, Complete, Spent, NoLawful}

module _ (leads : List Term) (ps qs : List (ℕ × ℕ)) (same : HaveSamePairs ps qs) where
  unlisted_same : HasUnlisted leads ps → HasUnlisted leads qs
  unlisted_same (i, j, h) = (i, j, sym (treat_same leads ps i j qs (same i j)) ∙ h)

  pub answer_same : (given : List (List Choice)) (settings : Settings) (x : Next) → IsChooserAnswer leads ps given settings x → IsChooserAnswer leads qs given settings x
  answer_same given settings (Choose c) h = (sym (lawful_same leads ps qs same c) ∙ h.0, h.1)
  answer_same given settings Complete h = λ i j pair. sym (same i j) ∙ h i j pair
  answer_same given settings Spent h = (unlisted_same h.0, h.1, h.2)
  answer_same given settings NoLawful h = (unlisted_same h.0, h.1, by (next_kept settings.kept given) h.2)
    where
      by : (o : Option Choice) → IfSome o (λ c. is_lawful leads ps c ≡ false) → IfSome o (λ c. is_lawful leads qs c ≡ false)
      by None k = k
      by (Some c) k = sym (lawful_same leads ps qs same c) ∙ k
