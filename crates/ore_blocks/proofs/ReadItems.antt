-- Rows and other items that are read at a place.
--     row_read         a row of a matrix, without the orders
--     drop_mapped      the same where each item is mapped
--     step_read        a row less a multiple of the row that a step names
--     remainder_has         what is left has what each row that may be left has
--     pushed_has       one more item
use Rattle.std.proofs.Common.{◌≡◌, ℕ, ◌+◌, List, [], ◌∷◌, ◌++◌, map, drop, Some, sym, ap, ◌∙◌}
use Rattle.std.specs.List.{All, slice_get, drop-map}
use Rattle.std.specs.Prelude.{IfSome}
use Rattle.std.specs.declared.option.Option.{Option}
use Rattle.std.specs.declared.option.Option.TheVariants.{None}
use Rattle.ore_blocks.specs.InnerContracts.{remainder_of}
use Rattle.std.proofs.lemmas.List.{get_or-map}
use Rattle.std.proofs.lemmas.List.Elements.{All-append, All-cons, All-nil}
use Rattle.std.proofs.lemmas.Option.{slice_get_within, get_or_from_slice_get}
use Rattle.ore_algebra.specs.Limits.{Limits}
use Rattle.ore_algebra.proofs.ListLaws.{drop_read}
use Rattle.ore_rational.specs.Field.{rationals}
use Rattle.ore_monomial.specs.LetterRule.{Operator}
use Rattle.ore_monomial.specs.Signature.{Signature}
use Rattle.ore_ring.specs.Ordered.{Ordered}
use Rattle.ore_rows.specs.Arithmetic.{within}
use Rattle.ore_rows.specs.Reduction.{Step, less_multiple, row_at, step_operator}
use Rattle.ore_rows.specs.Stored.{OperatorMatrix, rows_of, sums_of}
use Rattle.ore_blocks.specs.PlaceConditions.{less_step}

pub row_read : (m : OperatorMatrix) (k : ℕ) (r : List Ordered) → slice_get m.rows k ≡ Some r → row_at (rows_of m) k ≡ sums_of r
row_read m k r e = get_or-map sums_of m.rows k r [] (slice_get_within m.rows k r e) ∙ ap sums_of (get_or_from_slice_get m.rows k r r e)

pub drop_mapped : {A B : Type 0} (f : A → B) (xs : List A) (k : ℕ) (x : A) → slice_get xs k ≡ Some x → drop k (map f xs) ≡ f x ∷ drop (k + 1) (map f xs)
drop_mapped f xs k x e = drop-map f k xs ∙ ap (map f) (drop_read xs k x e) ∙ ap (λ ys. f x ∷ ys) (sym (drop-map f (k + 1) xs))

pub step_read : (l : Limits) (s : Signature) (m : OperatorMatrix) (t : Step rationals) (f : Operator rationals) (r b : List Ordered)
    → f ≡ step_operator rationals t → slice_get m.rows t.index ≡ Some b → less_multiple rationals (within l s) f (sums_of b) (sums_of r) ≡ less_step l s (rows_of m) t (sums_of r)
step_read l s m t f r b e at = λ n. less_multiple rationals (within l s) (e n) (sym (row_read m t.index b at) n) (sums_of r)

pub remainder_has : (P : List Ordered → Type 0) (left : Option (List Ordered)) (w : List Ordered) → IfSome left P → P w → P (remainder_of left w)
remainder_has P None w h p = p
remainder_has P (Some r) w h p = h

pub pushed_has : {A : Type 0} (P : A → Type 0) (xs : List A) (x : A) → All P xs → P x → All P (xs ++ x ∷ [])
pushed_has P xs x a p = All-append P xs (x ∷ []) a (All-cons P x [] p (All-nil P))
