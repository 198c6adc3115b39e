use Rattle.std.proofs.Common.{◌∷◌, ◌++◌, [], sym, ap, ◌∙◌}
use Rattle.std.specs.Prelude.{codes}
use Rattle.std.proofs.lemmas.List.{append_cancel_left}
use Rattle.ore_text.proofs.RowEntries.{is_front, not_front}
use Rattle.ore_parts.proofs.Numbers.{match_weaker}
use Rattle.ore_parts.proofs.sizes.after_name.Goals as goal

pub returns-in_default : goal.returns-in_default
returns-in_default c sizes e = not_front c.args.line.now (codes "matrix ") (c.args.name.now ++ 32 ∷ sizes) c.in_default.ensures.cases e

pub returns-in_default-strip_prefix : goal.returns-in_default-strip_prefix
returns-in_default-strip_prefix c sizes e =
    let named = is_front c.args.line.now (codes "matrix ") c.in-Some.named.now c.in-Some.ensures.cases.0 c.in-Some.ensures.cases.1 in
    not_front c.in-Some.named.now c.args.name.now (32 ∷ sizes) c.in_default-strip_prefix.ensures.cases (append_cancel_left (codes "matrix ") c.in-Some.named.now (c.args.name.now ++ 32 ∷ sizes) (sym named ∙ e))

pub returns : goal.returns
returns c =
    let name = c.args.name.now in
    let spaced = c.in-Some-strip_prefix.spaced.now in
    let named = is_front c.args.line.now (codes "matrix ") c.in-Some.named.now c.in-Some.ensures.cases.0 c.in-Some.ensures.cases.1 in
    let behind = is_front c.in-Some.named.now name spaced c.in-Some-strip_prefix.ensures.cases.0 c.in-Some-strip_prefix.ensures.cases.1 in
    let line = named ∙ ap (λ t. codes "matrix " ++ t) behind in
    match_weaker c.strip_prefix-3.result _ _ _ _ c.strip_prefix-3.ensures.cases
    (λ no sizes e. not_front spaced (32 ∷ []) sizes no (append_cancel_left name spaced (32 ∷ sizes) (append_cancel_left (codes "matrix ") (name ++ spaced) (name ++ 32 ∷ sizes) (sym line ∙ e))))
    (λ rest m. line ∙ ap (λ t. codes "matrix " ++ (name ++ t)) (is_front spaced (32 ∷ []) rest.now m.0 m.1))
