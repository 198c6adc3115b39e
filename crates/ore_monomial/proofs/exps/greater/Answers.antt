use Rattle.std.proofs.Common.{max, [], ◌∷◌, ◌∙◌}
use Rattle.ore_monomial.specs.Monomial.{zip_with}
use Rattle.ore_monomial.proofs.Seen.{zip_with_literally}
use Rattle.ore_monomial.proofs.exps.greater.Goals as goal

pub returns : goal.returns
unfolding zip_with
returns c =
    (λ i. c.max.ensures i ∷ c.max-2.ensures i ∷ c.max-3.ensures i ∷ c.max-4.ensures i ∷ c.max-5.ensures i ∷ c.max-6.ensures i ∷ c.max-7.ensures i ∷ c.max-8.ensures i ∷ c.max-9.ensures i ∷ c.max-10.ensures i ∷ c.max-11.ensures i ∷ c.max-12.ensures i ∷ [])
    ∙ zip_with_literally max c.args.a.now c.args.b.now c.told-a c.told-b
