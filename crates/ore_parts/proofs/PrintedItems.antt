-- Texts that are printed piece by piece.
--     joined               a piece and then another
--     printed_more         the text with the item at a place of a list
use Rattle.std.proofs.Common.{◌≡◌, ℕ, ◌+◌, List, [], ◌∷◌, ◌++◌, take, Some, sym, ap, ◌∙◌, append_assoc}
use Rattle.std.specs.Prelude.{slice_get}
use Rattle.std.specs.List.{flat_map}
use Rattle.std.proofs.lemmas.List.{flat_map_more, take_more}
use Rattle.std.proofs.lemmas.Option.{slice_get_within, get_or_from_slice_get}

pub printed_more : {X : Type 0} (f : X → List ℕ) (xs : List X) (k : ℕ) (x : X) (base out more : List ℕ) → slice_get xs k ≡ Some x → more ≡ out ++ f x
    → out ≡ base ++ flat_map f (take k xs) → more ≡ base ++ flat_map f (take (k + 1) xs)
printed_more f xs k x base out more at m o =
    let within = slice_get_within xs k x at in
    let next : take (k + 1) xs ≡ take k xs ++ x ∷ [] = take_more xs k x within ∙ ap (λ y. take k xs ++ y ∷ []) (get_or_from_slice_get xs k x x at) in
    m ∙ ap (λ u. u ++ f x) o ∙ append_assoc base (flat_map f (take k xs)) (f x)
    ∙ ap (λ u. base ++ u) (flat_map_more f [] (take k xs) x ∙ ap (flat_map f) (sym next))

pub joined : (base more out a b : List ℕ) → more ≡ base ++ a → out ≡ more ++ b → out ≡ base ++ (a ++ b)
joined base more out a b e f = f ∙ ap (λ t. t ++ b) e ∙ append_assoc base a b
