-- Two lists with one more element in their common front.
--     same_take_more    lists with the same first k elements and the same element at place k have the same first k + 1
use Rattle.std.proofs.Common.{◌≡◌, ℕ, ◌+◌, List, take, Some, sym, ◌∙◌, slice_get}
use Rattle.std.proofs.lemmas.List.{take_more_same}
use Rattle.std.proofs.lemmas.Option.{get_or_from_slice_get, slice_get_within}

pub same_take_more : {A : Type 0} (xs ys : List A) (k : ℕ) (x y : A) → slice_get xs k ≡ Some x → slice_get ys k ≡ Some y → x ≡ y → take k xs ≡ take k ys → take (k + 1) xs ≡ take (k + 1) ys
same_take_more xs ys k x y e f s h =
    take_more_same xs ys k x (slice_get_within xs k x e) (slice_get_within ys k y f) h (get_or_from_slice_get xs k x x e ∙ s ∙ sym (get_or_from_slice_get ys k y x f))
