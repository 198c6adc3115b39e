-- One step of a loop over rows, and the exit of `?`.
--     if_err                  what holds of an error that is passed on
--     taken_text              one row more
--     widths                  rows as wide as they are to be
use Rattle.std.proofs.Common.{◌≡◌, ℕ, zero, suc, ◌+◌, ◌<◌, List, [], ◌∷◌, ◌++◌, length, map, take, Some, Result, sym, ap, subst, ◌∙◌, append_assoc, arith}
use Rattle.std.specs.Prelude.{IfErr, IsErrAnd, slice_get}
use Rattle.std.specs.List.{AllByRecursion, flat_map}
use Rattle.std.proofs.lemmas.List.{flat_map_more, length-map, take_more}
use Rattle.std.proofs.lemmas.Option.{slice_get-map, slice_get_within, get_or_from_slice_get}
use Rattle.std.proofs.lemmas.Result.{err_from_is_err_and}
use Rattle.std.specs.Option.{option_map}
use Rattle.ore_monomial.specs.Signature.{Signature}
use Rattle.ore_ring.specs.Ordered.{Ordered}
use Rattle.ore_rows.specs.Stored.{HasColumns, sums_of}
use Rattle.ore_parts.specs.CertificateText.{IsRowOf}

pub if_err : {T E : Type 0} (r : Result T E) (x : E) (P : E → Type 0) → IsErrAnd r (λ y. y ≡ x) → P x → IfErr r P
if_err r x P h p = let e = err_from_is_err_and r h in subst (λ r. IfErr r P) (sym e.1) (subst P (sym e.2) p)

module _ {X Y : Type 0} (value : X → Y) where
  pub taken_text : (f : Y → List ℕ) (xs : List X) (k : ℕ) (x : X) (base front out more : List ℕ) → slice_get xs k ≡ Some x → more ≡ out ++ f (value x)
      → out ≡ base ++ (front ++ flat_map f (take k (map value xs))) → more ≡ base ++ (front ++ flat_map f (take (k + 1) (map value xs)))
  taken_text f xs k x base front out more at m o =
      let here : slice_get (map value xs) k ≡ Some (value x) = slice_get-map value xs k ∙ ap (option_map value) at in
      let within = slice_get_within (map value xs) k (value x) here in
      let next : take (k + 1) (map value xs) ≡ take k (map value xs) ++ value x ∷ [] =
      take_more (map value xs) k (value x) within ∙ ap (λ y. take k (map value xs) ++ y ∷ []) (get_or_from_slice_get (map value xs) k (value x) (value x) here) in
      m ∙ ap (λ u. u ++ f (value x)) o
      ∙ append_assoc base (front ++ flat_map f (take k (map value xs))) (f (value x))
      ∙ ap (λ u. base ++ u) (append_assoc front (flat_map f (take k (map value xs))) (f (value x)) ∙ ap (λ u. front ++ u) (flat_map_more f [] (take k (map value xs)) (value x) ∙ ap (flat_map f) (sym next)))

pub widths : (s : Signature) (names : List (List ℕ)) (cols : ℕ) (rows : List (List Ordered)) → AllByRecursion (IsRowOf s names cols) (map sums_of rows) → HasColumns cols rows
widths s names cols [] h k d l = absurd (let z : ⊥ = omega arith in z)
widths s names cols (r ∷ rows) h zero d l = sym (length-map r (λ (f : Ordered). f.sum)) ∙ h.0.width
widths s names cols (r ∷ rows) h (suc k) d l = widths s names cols rows h.1 k d (let m : k < length rows = omega arith in m)
