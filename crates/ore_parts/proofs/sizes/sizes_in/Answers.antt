use Rattle.std.proofs.Common.{[], ◌∷◌, ◌++◌, sym, ap, ◌∙◌}
use Rattle.std.specs.Prelude.{codes, decimal}
use Rattle.std.proofs.lemmas.List.{append_cancel_left}
use Rattle.ore_parts.proofs.Numbers.{match_weaker}
use Rattle.ore_parts.proofs.sizes.sizes_in.Goals as goal

pub returns-in_default : goal.returns-in_default
returns-in_default c s h e = c.in_default.ensures (decimal s.0 ++ 32 ∷ decimal s.1) e

pub returns : goal.returns
returns c =
    let name = c.args.name.now in
    let sizes = c.in-Some.sizes.now in
    match_weaker c.pair_in.result _ _ _ _ c.pair_in.ensures
    (λ no s h e. no s h (append_cancel_left (32 ∷ []) sizes (decimal s.0 ++ 32 ∷ decimal s.1) (append_cancel_left name (32 ∷ sizes) (32 ∷ (decimal s.0 ++ 32 ∷ decimal s.1)) (append_cancel_left (codes "matrix ") (name ++ 32 ∷ sizes) (name ++ 32 ∷ (decimal s.0 ++ 32 ∷ decimal s.1)) (sym c.in-Some.ensures ∙ e)))))
    (λ s m. (m.0, c.in-Some.ensures ∙ ap (λ t. codes "matrix " ++ (name ++ 32 ∷ t)) m.1))
