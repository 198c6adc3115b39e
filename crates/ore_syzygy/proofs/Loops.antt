-- Lists that loops make item by item.
--     copied_more, copied_all       of copies of the items so far
--     mapped_more                   of what a function makes of them
use Rattle.std.proofs.Common.{◌≡◌, ◌≤◌, ℕ, ◌+◌, List, [], ◌∷◌, ◌++◌, length, map, take, Some, sym, ap, ◌∙◌}
use Rattle.std.specs.List.{slice_get}
use Rattle.std.proofs.lemmas.List.{take_all, map-append}
use Rattle.ore_algebra.proofs.ListLaws.{take_read}

pub copied_more : {A : Type 0} (xs out more : List A) (k : ℕ) (x y : A) → out ≡ take k xs → slice_get xs k ≡ Some x → y ≡ x → more ≡ out ++ y ∷ [] → more ≡ take (k + 1) xs
copied_more xs out more k x y so_far e same pushed = pushed ∙ (λ i. so_far i ++ same i ∷ []) ∙ sym (take_read xs k x e)

pub copied_all : {A : Type 0} (xs out : List A) (k : ℕ) → out ≡ take k xs → length xs ≤ k → out ≡ xs
copied_all xs out k e h = e ∙ take_all k xs h

pub mapped_more : {A B : Type 0} (f : A → B) (xs : List A) (out more : List B) (k : ℕ) (x : A) (y : B) → out ≡ map f (take k xs) → slice_get xs k ≡ Some x → y ≡ f x → more ≡ out ++ y ∷ [] → more ≡ map f (take (k + 1) xs)
mapped_more f xs out more k x y so_far e same pushed = pushed ∙ (λ i. so_far i ++ same i ∷ []) ∙ sym (map-append f (take k xs) (x ∷ [])) ∙ ap (map f) (sym (take_read xs k x e))
