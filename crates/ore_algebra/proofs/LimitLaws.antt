-- An operation under limits gives what it gives without them, or stops.
--     most_test, most_bind     this holds of a test, and of two steps after each other
--     most_fold, most_map      and of a list of steps, and of the items of a list
--     most_value               so a value under limits is the value without
--     value_from               the same where the value without limits is known by an equation
use Rattle.std.proofs.Common.{◌≡◌, Bool, true, false, List, [], ◌∷◌, refl, sym, subst}
use Rattle.std.specs.declared.result.Result.{Result}
use Rattle.std.specs.declared.result.Result.TheVariants.{Ok, Err}
use Rattle.ore_algebra.specs.Limits.{Cause, ◌>>=◌, guard, fold_within, map_within, IsAtMost}
use Rattle.ore_algebra.proofs.ResultLaws.{same_ok}

pub most_test : {A : Type 0} (b : Bool) (x : A) (e : Cause) → IsAtMost (guard b x e) (Ok x)
most_test true x e = refl
most_test false x e = tt

pub most_bind : {A B : Type 0} (r s : Result A Cause) (f g : A → Result B Cause) → IsAtMost r s → ((x : A) → IsAtMost (f x) (g x)) → IsAtMost (r >>= f) (s >>= g)
most_bind (Ok x) s f g h k = subst (λ t. IsAtMost (f x) (t >>= g)) (sym h) (k x)
most_bind (Err e) s f g h k = tt

pub most_fold : {A S : Type 0} (f g : S → A → Result S Cause) → ((s : S) (x : A) → IsAtMost (f s x) (g s x)) → (s : S) (xs : List A) → IsAtMost (fold_within f s xs) (fold_within g s xs)
most_fold f g h s [] = refl
most_fold f g h s (x ∷ xs) = most_bind (f s x) (g s x) _ _ (h s x) (λ t. most_fold f g h t xs)

pub most_map : {A B : Type 0} (f g : A → Result B Cause) → ((x : A) → IsAtMost (f x) (g x)) → (xs : List A) → IsAtMost (map_within f xs) (map_within g xs)
most_map f g h [] = refl
most_map f g h (x ∷ xs) = most_bind (f x) (g x) _ _ (h x) (λ y. most_bind (map_within f xs) (map_within g xs) _ _ (most_map f g h xs) (λ ys. refl))

pub most_value : {A : Type 0} (r : Result A Cause) (x y : A) → IsAtMost r (Ok y) → r ≡ Ok x → x ≡ y
most_value r x y h e = same_ok x y (sym (subst (λ t. IsAtMost t (Ok y)) e h))

pub value_from : {A : Type 0} (r t : Result A Cause) (x y : A) → IsAtMost r t → t ≡ Ok y → r ≡ Ok x → x ≡ y
value_from r t x y h e = most_value r x y (subst (IsAtMost r) e h)
