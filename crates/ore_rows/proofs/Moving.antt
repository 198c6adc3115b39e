-- A loop that moves the items of one list out, beside those of another that is lent.
--     moved_more     one turn takes the first item of each
--     moved_end      the loop ends where one of the lists has no item left
use Rattle.std.proofs.Common.{◌≡◌, ◌+◌, ◌⊎◌, inl, inr, [], ◌∷◌, length, subst, ◌∙◌, Bor}
use Rattle.std.specs.declared.option.Option.{Option}
use Rattle.std.specs.declared.option.Option.TheVariants.{None, Some}
use Rattle.std.specs.declared.iter.Zip.{Zip}
use Rattle.std.specs.declared.slice.Iter.{Iter}
use Rattle.std.specs.declared.vec.IntoIter.{IntoIter}
use Rattle.std.specs.Iterator.Adapters.{zip_first, zip_second}
use Rattle.std.specs.Slice.Iter.{iter_rest}
use Rattle.std.specs.Vec.Iter.{into_iter_items, into_iter_len, into_iter_steps}
use Rattle.std.proofs.lemmas.Fn.{fronts}
use Rattle.std.proofs.lemmas.Iterator.{zips}
use Rattle.std.proofs.lemmas.List.{nil_from_length}

module _ {A B Z : Type 0} where
  pub moved_more : (s t : Zip (IntoIter A Z) (Iter B)) (r : Option (A × Bor B)) (p : A × Bor B) → r ≡ Some p → zips into_iter_steps fronts s r t
      → (into_iter_items (zip_first s) ≡ p.0 ∷ into_iter_items (zip_first t)) × (into_iter_len (zip_first t) + 1 ≡ into_iter_len (zip_first s)) × (iter_rest (zip_second s) ≡ p.1.now ∷ iter_rest (zip_second t))
  moved_more s t r p e h = let k = subst (λ o. zips into_iter_steps fronts s o t) e h in (k.0.0, k.0.1, k.1)

  pub moved_end : (s t : Zip (IntoIter A Z) (Iter B)) (r : Option (A × Bor B)) → length (into_iter_items (zip_first s)) ≡ into_iter_len (zip_first s) → r ≡ None → zips into_iter_steps fronts s r t
      → (into_iter_items (zip_first s) ≡ []) ⊎ (iter_rest (zip_second s) ≡ [])
  moved_end s t r l e h = by (subst (λ o. zips into_iter_steps fronts s o t) e h)
    where
      by : ((u : IntoIter A Z) × into_iter_steps (zip_first s) None u) ⊎ ((u : Iter B) × fronts (zip_second s) None u) → (into_iter_items (zip_first s) ≡ []) ⊎ (iter_rest (zip_second s) ≡ [])
      by (inl a) = inl (nil_from_length _ (l ∙ a.1.0))
      by (inr b) = inr (nil_from_length _ b.1.0)
