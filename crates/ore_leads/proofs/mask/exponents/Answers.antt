use Rattle.std.proofs.Common.{[], ◌∷◌, ◌∙◌}
use Rattle.ore_monomial.specs.Monomial.{exponent}
use Rattle.ore_leads.proofs.Masks.{reads_all}
use Rattle.ore_leads.proofs.mask.exponents.Goals as goal

pub returns : goal.returns
returns c =
    (λ i. c.get.ensures i ∷ c.get-2.ensures i ∷ c.get-3.ensures i ∷ c.get-4.ensures i ∷ c.get-5.ensures i ∷ c.get-6.ensures i ∷ c.get-7.ensures i ∷ c.get-8.ensures i ∷ [])
    ∙ reads_all (λ lead. exponent lead c.args.variable) c.args.leads.now 0 (_ ∷ _ ∷ _ ∷ _ ∷ _ ∷ _ ∷ _ ∷ _ ∷ []) c.type_inv.leads
