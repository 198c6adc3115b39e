-- Going on with a value, or keeping a refusal.
--     bind_assoc        two steps in turn are one step that goes on by itself
--     bind_like         steps that go on alike
--     bind_ok           going on with the value itself changes nothing
--     bound             where a value comes behind a step, the step gave a value
--     same_ok, same_err, no_ok    what is in equal results is equal; a refusal is no value
--     front_more        what stands before the items to come: one item more
--     refused_like      where one definition has the refusal of another, a call that refuses like the one refuses like the other
--     refused_on        a refusal of the first step is a refusal of the whole
use Rattle.std.proofs.Common.{◌≡◌, List, [], ◌∷◌, ◌++◌, refl, sym, ap, append_assoc}
use Rattle.std.specs.declared.option.Option.{Option}
use Rattle.std.specs.declared.option.Option.TheVariants.{None, Some}
use Rattle.std.specs.declared.result.Result.{Result}
use Rattle.std.specs.declared.result.Result.TheVariants.{Ok, Err}
use Rattle.ore_algebra.specs.Results.{◌>>=◌, fronted, IsRefusal}

pub bind_assoc : {E A B D : Type 0} (r : Result A E) (f : A → Result B E) (g : B → Result D E) → ((r >>= f) >>= g) ≡ (r >>= λ x. f x >>= g)
bind_assoc (Ok x) f g = refl
bind_assoc (Err e) f g = refl

pub bind_like : {E A B : Type 0} (r : Result A E) (f g : A → Result B E) → ((x : A) → f x ≡ g x) → (r >>= f) ≡ (r >>= g)
bind_like (Ok x) f g h = h x
bind_like (Err e) f g h = refl

pub bind_ok : {E A : Type 0} (r : Result A E) → (r >>= λ x. Ok x) ≡ r
bind_ok (Ok x) = refl
bind_ok (Err e) = refl

pub bound : {E A B : Type 0} (r : Result A E) (f : A → Result B E) (y : B) → (r >>= f) ≡ Ok y → (x : A) × (r ≡ Ok x) × (f x ≡ Ok y)
bound (Ok x) f y e = (x, refl, e)
bound (Err c) f y e = cc

pub same_ok : {E A : Type 0} (x y : A) → ◌≡◌ {A = Result A E} (Ok x) (Ok y) → x ≡ y
same_ok x y h = cc

pub same_err : {E A : Type 0} (c d : E) → ◌≡◌ {A = Result A E} (Err c) (Err d) → c ≡ d
same_err c d h = cc

pub no_ok : {E A : Type 0} {c : E} {x : A} → ◌≡◌ {A = Result A E} (Err c) (Ok x) → ⊥
no_ok h = cc

pub front_more : {E B : Type 0} (front : List B) (y : B) (r : Result (List B) E) → fronted front (r >>= λ ys. Ok (y ∷ ys)) ≡ fronted (front ++ y ∷ []) r
front_more front y (Ok ys) = ap Ok (sym (append_assoc front (y ∷ []) ys))
front_more front y (Err e) = refl

pub refused_like : {E X Y : Type 0} (otherwise : Type 0) (meaning : Option E) (r : Result X E) (s : Result Y E) → ((e : E) → r ≡ Err e → s ≡ Err e) → IsRefusal otherwise meaning r → IsRefusal otherwise meaning s
refused_like otherwise (Some e) r s h f = h e f
refused_like otherwise None r s h f = f

pub refused_on : {E X Y : Type 0} (otherwise : Type 0) (meaning : Option E) (r : Result X E) (k : X → Result Y E) → IsRefusal otherwise meaning r → IsRefusal otherwise meaning (r >>= k)
refused_on otherwise (Some e) r k f = ap (λ t. t >>= k) f
refused_on otherwise None r k f = f
