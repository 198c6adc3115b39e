-- Steps one after another within limits.
--     folded_on        the first step gives a value, from which the others go on
--     folded_stops     the first step stops
use Rattle.std.proofs.Common.{◌≡◌, List, ◌∷◌, ap, ◌∙◌}
use Rattle.std.specs.declared.result.Result.{Result}
use Rattle.std.specs.declared.result.Result.TheVariants.{Ok, Err}
use Rattle.ore_algebra.specs.Limits.{Cause, ◌>>=◌, fold_within}

pub folded_on : {A S : Type 0} (f : S → A → Result S Cause) (s t : S) (xs : List A) (x : A) (us : List A) → xs ≡ x ∷ us → f s x ≡ Ok t → fold_within f s xs ≡ fold_within f t us
folded_on f s t xs x us e h = ap (fold_within f s) e ∙ ap (λ r. r >>= λ v. fold_within f v us) h

pub folded_stops : {A S : Type 0} (f : S → A → Result S Cause) (s : S) (xs : List A) (x : A) (us : List A) (c : Cause) → xs ≡ x ∷ us → f s x ≡ Err c → fold_within f s xs ≡ Err c
folded_stops f s xs x us c e h = ap (fold_within f s) e ∙ ap (λ r. r >>= λ v. fold_within f v us) h
