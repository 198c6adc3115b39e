use Rattle.std.proofs.Common.{[], ◌∷◌, ◌++◌, pos, sym, ap, ◌∙◌, subst}
use Rattle.std.specs.declared.result.Result.TheVariants.{Ok}
use Rattle.ore_commutative.specs.Commutes.{Commutes}
use Rattle.ore_commutative.proofs.Passes.{sole_number}
use Rattle.ore_commutative.proofs.CommutativeRingMonomialProduct.pass.Goals as goal

pub returns : goal.returns
returns c =
    sole_number c.args.self.now (subst Commutes c.self.view_is c.self.invariant) c.args.left.now c.args.right.now
    ∙ ap (λ m. Ok ((m, pos 1) ∷ [])) (sym c.in-Ok.ensures.1)
    ∙ ap Ok (sym (c.in_ok-push.ensures.items ∙ ap (λ ks. ks ++ (c.in-Ok.product, pos 1) ∷ []) c.in_ok-terms.ensures.items))
