-- Texts that are printed piece by piece.
--     declarations_next      one declaration more
--     rows_next              one row more
use Rattle.std.proofs.Common.{◌≡◌, ℕ, ◌+◌, ◌<◌, List, ◌++◌, length, map, drop, get_or, append_assoc}
use Rattle.std.specs.List.{flat_map, zip, slice_get}
use Rattle.std.specs.declared.option.Option.TheVariants.{Some}
use Rattle.std.proofs.lemmas.List.{drop_more}
use Rattle.ore_algebra.proofs.ListLaws.{drop_read}

module _ {A B : Type 0} (f : A × B → List ℕ) (text new : List ℕ) (xs : List A) (ys : List B) (k : ℕ) (x : A) (y d : B) where
  pub declarations_next : slice_get xs k ≡ Some x → k < length ys → y ≡ get_or ys k d → new ≡ text ++ f (x, y) → new ++ flat_map f (zip (drop (k + 1) xs) (drop (k + 1) ys)) ≡ text ++ flat_map f (zip (drop k xs) (drop k ys))
  declarations_next e h same n = rw (drop_read xs k x e, drop_more ys k d h, ← same, n) (append_assoc text (f (x, y)) _)

module _ {A B : Type 0} (f : B → List ℕ) (g : A → B) (text new : List ℕ) (xs : List A) (k : ℕ) (x : A) where
  pub rows_next : slice_get xs k ≡ Some x → new ≡ text ++ f (g x) → new ++ flat_map f (map g (drop (k + 1) xs)) ≡ text ++ flat_map f (map g (drop k xs))
  rows_next e n = rw (drop_read xs k x e, n) (append_assoc text (f (g x)) _)
